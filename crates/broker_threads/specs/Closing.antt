-- Why a connection was closed, by all that ended it.
use Rattle.std.specs.Prelude.{ℕ, Option, Some, None, not, if◌then◌else◌}
use Rattle.connection.specs.declared.reader.ReadEnd.TheVariants as read
use Rattle.connection.specs.declared.reader.ReadEnd.{ReadEnd}
use Rattle.connection.specs.declared.writer.WriteEnd.TheVariants as write
use Rattle.connection.specs.declared.writer.WriteEnd.{WriteEnd}
use Rattle.log_lines.specs.declared.reason.CloseReason.{CloseReason}
use Rattle.log_lines.specs.declared.reason.CloseReason.TheVariants.{Goodbye, Abort, Ended, Violation, NotAdmitted, OutboxFull, TooLong, Unspelt, ReadFailed, WriteFailed, TooManyTurns, NoMemory, Stop}
use Rattle.session.specs.declared.fault.Fault.TheVariants.{Shape}
use Rattle.broker_threads.specs.declared.closing.Closing.{Closing}

-- where its client said what ends a session: a session that wasn't admitted comes first, and before that a stop
abbrev pub if_admitted : Closing → CloseReason → CloseReason
if_admitted c itself = if c.is_admitted then itself else if c.is_stopping then Stop else NotAdmitted

-- where the stream has ended or failed, which says this for itself: a second HELLO, a stop, a session that wasn't admitted, and a write that failed before come first
abbrev pub reason_by_stream : Closing → CloseReason → CloseReason
reason_by_stream c itself = if c.has_greeted then if_admitted c (Violation Shape) else if c.is_stopping then Stop else if not c.is_admitted then NotAdmitted else if c.is_unwritable then WriteFailed else itself

-- where the client has left: by which word it did
abbrev pub reason_by_farewell : Closing → CloseReason
reason_by_farewell c = if c.has_aborted then Abort else Goodbye

-- where the client can't take an item: how many octets that has, if they are known
abbrev pub by_octets : Closing → Option ℕ → CloseReason
by_octets c None = Unspelt
by_octets c (Some octets) = TooLong octets c.limit

abbrev pub reason_by_octets : Closing → CloseReason
reason_by_octets c = by_octets c c.octets

-- where the writer has no reason of its own: what the reader ended by
abbrev pub by_reader : Closing → ReadEnd → CloseReason
by_reader c read.Left = if_admitted c (reason_by_farewell c)
by_reader c (read.Violation fault) = if_admitted c (Violation fault)
by_reader c read.NoMemory = NoMemory
by_reader c read.TooManyTurns = TooManyTurns
by_reader c read.ActorGone = Stop
by_reader c read.Ended = reason_by_stream c Ended
by_reader c read.Device = reason_by_stream c ReadFailed

abbrev pub reason_by_reader : Closing → CloseReason
reason_by_reader c = by_reader c c.read

-- what the writer ended by, and behind it the reader's
abbrev pub by_writer : Closing → WriteEnd → CloseReason
by_writer c write.TooLong = reason_by_octets c
by_writer c write.NoMemory = NoMemory
by_writer c write.TooManyTurns = TooManyTurns
by_writer c write.Full = OutboxFull c.outbox
by_writer c write.Lost = NoMemory
by_writer c write.Stopped = reason_by_reader c
by_writer c write.Dropped = reason_by_reader c
by_writer c write.Device = reason_by_reader c

-- what the realm cut the session for comes first
abbrev pub reason_of : Closing → CloseReason
reason_of c = if c.is_full then OutboxFull c.outbox else if c.is_lost then NoMemory else by_writer c c.write
