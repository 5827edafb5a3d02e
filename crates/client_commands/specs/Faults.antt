-- What the faults of a command tell of each device.
use Rattle.std.specs.Prelude.{◌≡◌, ◌==◌, ◌≤◌, ◌+◌, ⊤, Bool, true, false}
use Rattle.rawsocket.specs.Devices.{Reading, Writing}
use Rattle.rawsocket.specs.Steps.{Told, Fine, Failed, NoTurn, failures_told}
use Rattle.client_session.specs.Faults.{read_told, write_told}
use Rattle.client_session.specs.declared.fault.Fault as link_faults
use Rattle.client_session.specs.declared.fault.Fault.TheVariants as link
use Rattle.client_session.specs.declared.welcomed.NoSession.{NoSession}
use Rattle.client_session.specs.declared.welcomed.NoSession.TheVariants as no_session
use Rattle.client_session.specs.declared.welcomed.Unheard.{Unheard}
use Rattle.client_session.specs.declared.welcomed.Unheard.TheVariants as unheard
use Rattle.client_messages.specs.declared.heard.Heard.{Heard}
use Rattle.client_messages.specs.declared.heard.Heard.TheVariants.{Abort, Goodbye, Error}
use Rattle.client_commands.specs.declared.fault.Fault.{Fault}
use Rattle.client_commands.specs.declared.fault.Fault.TheVariants.{NoMemory, ReadFault, WriteFault, Usage, BadLine, TooManyTurns, Refused, Connection, Unexpected, ForeignEvent, Closed, Unreachable}

-- a fault of the link to the broker
abbrev pub of_link : link_faults.Fault → Fault
of_link link.NoMemory = NoMemory
of_link fault = Connection fault

-- why no session is open
abbrev pub of_opening : NoSession → Fault
of_opening (no_session.Aborted reason) = Refused reason
of_opening no_session.Unexpected = Unexpected
of_opening (no_session.Failed fault) = of_link fault

-- why nothing is heard in a session
abbrev pub of_hearing : Unheard → Fault
of_hearing unheard.ForeignEvent = ForeignEvent
of_hearing (unheard.Failed fault) = of_link fault

-- why a message that nothing waits for ends a command
abbrev pub of_message : Heard → Fault
of_message (Abort reason) = Refused reason
of_message (Error kind request reason) = Refused reason
of_message (Goodbye reason) = Closed reason
of_message _ = Unexpected

-- a fault that only a message of the broker gives
abbrev pub is_of_message : Fault → Bool
is_of_message (Refused reason) = true
is_of_message (Closed reason) = true
is_of_message Unexpected = true
is_of_message _ = false

-- a fault that none gives
abbrev pub IsOfNoMessage : Fault → Type 0
IsOfNoMessage fault = is_of_message fault ≡ false

-- a fault that the broker gives, or what is to be published: it is none of memory, and none that the standard input gives
abbrev pub is_blamed : Fault → Bool
is_blamed NoMemory = false
is_blamed ReadFault = false
is_blamed TooManyTurns = false
is_blamed _ = true

-- a fault of the connection to the broker
abbrev pub is_connection : Fault → Bool
is_connection (Connection fault) = true
is_connection _ = false

-- the broker ended the connection
abbrev pub is_end : Fault → Bool
is_end (Connection link.Ended) = true
is_end _ = false

-- the fault tells nothing of that
abbrev pub IsNoEnd : Fault → Type 0
IsNoEnd fault = is_end fault ≡ false

-- where it tells it, the stream told its end
abbrev pub TellsEnd : Bool → Fault → Type 0
TellsEnd ended fault = is_end fault ≡ true → ended ≡ true

-- where it tells that a call had no turn left, the stream was read, or written, 2 ^ 32 times
abbrev pub RunsOut : Reading → Writing → Fault → Type 0
RunsOut source sink (Connection link.TooManyReads) = 4294967296 ≤ source.calls
RunsOut source sink (Connection link.TooManyWrites) = 4294967296 ≤ sink.calls
RunsOut source sink _ = ⊤

-- a link broke, or the broker had no seat left: another connection may do better
abbrev pub is_lost : link_faults.Fault → Bool
is_lost link.Ended = true
is_lost link.ReadFault = true
is_lost link.WriteFault = true
is_lost (link.Refused code) = code == 4
is_lost _ = false

-- the same of a command: there was no connection, it broke, or the broker closed the session
abbrev pub is_passing : Fault → Bool
is_passing Unreachable = true
is_passing (Connection fault) = is_lost fault
is_passing (Closed reason) = true
is_passing _ = false

-- what a fault tells of what is read from the broker
abbrev pub source_told : Fault → Told
source_told (Connection fault) = read_told fault
source_told _ = Fine

-- of what is written to it
abbrev pub sink_told : Fault → Told
sink_told (Connection fault) = write_told fault
sink_told _ = Fine

-- of the standard input
abbrev pub input_told : Fault → Told
input_told ReadFault = Failed
input_told TooManyTurns = NoTurn
input_told _ = Fine

-- of the standard output
abbrev pub output_told : Fault → Told
output_told WriteFault = Failed
output_told TooManyTurns = NoTurn
output_told _ = Fine

-- no failure of the device that is read was passed over, and none was tried again
abbrev pub ReadFailuresTold : Reading → Reading → Told → Type 0
ReadFailuresTold before now told = now.failures ≡ before.failures + failures_told told

-- nor of the device that is written
abbrev pub WriteFailuresTold : Writing → Writing → Told → Type 0
WriteFailuresTold before now told = now.failures ≡ before.failures + failures_told told

-- a fault that tells nothing of the standard input and output
pub record IsOfBroker (fault : Fault) : Type 0 where
  pub input : input_told fault ≡ Fine
  pub output : output_told fault ≡ Fine

-- a fault that is none of the connection to the broker, and tells nothing of it
pub record IsOfHere (fault : Fault) : Type 0 where
  pub other : is_connection fault ≡ false
  pub source : source_told fault ≡ Fine
  pub sink : sink_told fault ≡ Fine
  pub end : IsNoEnd fault
