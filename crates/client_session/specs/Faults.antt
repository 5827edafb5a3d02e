-- What the faults of a client's session tell of its stream.
use Rattle.rawsocket.specs.Steps.{Told, Fine, Failed, NoTurn}
use Rattle.rawsocket.specs.declared.devices.no_octets.NoOctets.{NoOctets}
use Rattle.rawsocket.specs.declared.devices.no_octets.NoOctets.TheVariants as no_octets
use Rattle.client_session.specs.declared.fault.Fault.{Fault}
use Rattle.client_session.specs.declared.fault.Fault.TheVariants.{Ended, ReadFault, WriteFault, TooManyReads, TooManyWrites}

abbrev pub piece_fault : NoOctets → Fault
piece_fault no_octets.Ended = Ended
piece_fault no_octets.Failed = ReadFault
piece_fault no_octets.TooManyTurns = TooManyReads

-- what a fault tells of the stream that is read
abbrev pub read_told : Fault → Told
read_told ReadFault = Failed
read_told TooManyReads = NoTurn
read_told _ = Fine

-- what it tells of the stream that is written
abbrev pub write_told : Fault → Told
write_told WriteFault = Failed
write_told TooManyWrites = NoTurn
write_told _ = Fine
