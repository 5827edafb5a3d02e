-- What a command line asks for, and what a fault means to the program.
use Rattle.std.specs.Prelude.{◌≡◌, ◌⊎◌, ℕ, Bool, true, false, not, ◌&&◌, ◌||◌, MatchOption, None, Some, List, [], ◌∷◌, ◌++◌, ◌<◌, ◌≤◌, codes, decimal, length, ⊤, String, string_bytes, if◌then◌else◌}
use Rattle.std.specs.declared.alloc.Global.{Global}
use Rattle.std.specs.declared.option.Option.{Option}
use Rattle.std.specs.List.{list_any}
use Rattle.std.specs.Str.{bytes_eq}
use Rattle.session.specs.Opened.{AreUsedUp}
use Rattle.broker_config.specs.declared.config.Config.{Config}
use Rattle.command_line.specs.declared.command.Command.{Command}
use Rattle.command_line.specs.declared.serving.Purpose.{Purpose}
use Rattle.command_line.specs.declared.serving.Purpose.TheVariants as purpose
use Rattle.command_line.specs.declared.command.Command.TheVariants.{Help, Version, Replay, Serve, Subscribe, Publish, PublishFile}
use Rattle.command_line.specs.declared.refusal.CommandRefusal.{CommandRefusal}
use Rattle.command_line.specs.declared.refusal.CommandRefusal.TheVariants.{NoMemory as WordsNoMemory, Usage as WordsRefused}
use Rattle.broker_config.specs.declared.fault.Fault.{Fault as ServingFault}
use Rattle.broker_config.specs.declared.fault.Fault.TheVariants.{NoMemory as OutOfMemory, ListenFault as NotListening}
use Rattle.command_line.specs.declared.fault.Fault.{Fault}
use Rattle.command_line.specs.declared.fault.Fault.TheVariants.{NoMemory, ReadFault, WriteFault, Usage, BadLine, TooManyTurns, ListenFault, ConnectFault, Refused, ConnectionFault, LateAnswer, FileFault}
use Rattle.rawsocket.specs.Steps.{Told, Fine, Failed}
use Rattle.replay.specs.declared.fault.Fault.{Fault as ReplayFault}
use Rattle.replay.specs.declared.fault.Fault.TheVariants as of_replay
use Rattle.client_commands.specs.declared.command.Contact.{Contact}
use Rattle.client_commands.specs.declared.fault.Fault.{Fault as ClientFault}
use Rattle.client_commands.specs.declared.fault.Fault.TheVariants as client
use Rattle.client_commands.specs.declared.file_input.InputFault.{InputFault}
use Rattle.client_commands.specs.declared.file_input.InputFault.TheVariants as input

abbrev pub is_among : List ℕ → List (List ℕ) → Bool
is_among name names = list_any (λ other. bytes_eq other name) names

-- no name stands twice
abbrev pub are_distinct : List (List ℕ) → Bool
are_distinct [] = true
are_distinct (name ∷ names) = not (is_among name names) && are_distinct names

-- a broker has from 1 to 16 realms, no two of the same name, and room for 1 to 65,536 items in an outbox
pub record IsServable (config : Config) : Type 0 where
  pub some : 1 ≤ length config.realms.items
  pub most : length config.realms.items ≤ 16
  pub distinct : are_distinct config.realms.items ≡ true
  pub room : 1 ≤ config.outbox
  pub fits : config.outbox ≤ 65536

-- a client has a port to connect to, and waits for answers
pub record IsReachable (contact : Contact) : Type 0 where
  pub port : 1 ≤ contact.port
  pub patient : 1 ≤ contact.timeout

-- a replay has a realm; a broker can be served, at a port; a client can connect, has topics, and events to wait for
abbrev pub IsRunnable : Command → Type 0
IsRunnable (Help text) = ⊤
IsRunnable (Version text) = ⊤
IsRunnable (Replay config) = 0 < length config.realms.items
IsRunnable (Serve host port config log stats bound purpose) = (1 ≤ port) × IsServable config
IsRunnable (Subscribe command) = IsReachable command.contact × (1 ≤ length command.topics.items) × MatchOption command.count ⊤ (λ count. 1 ≤ count)
IsRunnable (Publish command) = IsReachable command.contact
IsRunnable (PublishFile path command) = IsReachable command.contact

-- the first of these words asks for the version
abbrev pub asks_for_version : List (String Global) → Bool
asks_for_version [] = false
asks_for_version (word ∷ words) = bytes_eq (codes "--version") (string_bytes word) || bytes_eq (codes "-V") (string_bytes word)

-- the line that says which version this is
abbrev pub version_line : List ℕ
version_line = codes "wampd 0.9.0 (rattle-kit-13)" ++ 10 ∷ []

-- the version is to be printed
abbrev pub IsVersion : Command → Type 0
IsVersion (Version text) = ⊤
IsVersion (Help text) = ⊥
IsVersion (Replay config) = ⊥
IsVersion (Serve host port config log stats bound purpose) = ⊥
IsVersion (Subscribe command) = ⊥
IsVersion (Publish command) = ⊥
IsVersion (PublishFile path command) = ⊥

-- where the version is to be printed, that line is
abbrev pub SaysVersion : Command → Type 0
SaysVersion (Version text) = string_bytes text ≡ version_line
SaysVersion (Help text) = ⊤
SaysVersion (Replay config) = ⊤
SaysVersion (Serve host port config log stats bound purpose) = ⊤
SaysVersion (Subscribe command) = ⊤
SaysVersion (Publish command) = ⊤
SaysVersion (PublishFile path command) = ⊤

-- one of these words is this option: what stands behind `--` is none
abbrev pub has_option : List ℕ → List (String Global) → Bool
has_option option [] = false
has_option option (word ∷ words) = if bytes_eq (string_bytes word) (codes "--") then false else bytes_eq (string_bytes word) option || has_option option words

-- what the words of `serve` ask for
abbrev pub purpose_of : List (String Global) → Purpose
purpose_of words = if has_option (codes "--check") words then (if has_option (codes "--no-bind") words then purpose.CheckUnbound else purpose.Check) else purpose.Serve

-- where the words of `serve` are read, this is what they ask for
abbrev pub SuitsPurpose : Purpose → Command → Type 0
SuitsPurpose wanted (Serve host port config log stats bound purpose) = purpose ≡ wanted
SuitsPurpose wanted (Version text) = ⊤
SuitsPurpose wanted (Help text) = ⊤
SuitsPurpose wanted (Replay config) = ⊤
SuitsPurpose wanted (Subscribe command) = ⊤
SuitsPurpose wanted (Publish command) = ⊤
SuitsPurpose wanted (PublishFile path command) = ⊤

-- how often a log tells of each realm, in seconds, where it does: from 1 to a day, and there is a log
abbrev pub IsInterval : Bool → Option ℕ → Type 0
IsInterval log None = ⊤
IsInterval log (Some seconds) = (1 ≤ seconds) × (seconds ≤ 86400) × (log ≡ true)

-- where a log is to tell of each realm, there is one, and it tells every 1 to 86,400 seconds
abbrev pub SuitsLog : Command → Type 0
SuitsLog (Serve host port config log stats bound purpose) = IsInterval log stats
SuitsLog (Version text) = ⊤
SuitsLog (Help text) = ⊤
SuitsLog (Replay config) = ⊤
SuitsLog (Subscribe command) = ⊤
SuitsLog (Publish command) = ⊤
SuitsLog (PublishFile path command) = ⊤

-- the fault of words that are refused
abbrev pub fault_of_refusal : CommandRefusal → Fault
fault_of_refusal WordsNoMemory = NoMemory
fault_of_refusal (WordsRefused text) = Usage

-- the fault of a program whose broker ended by this one
abbrev pub fault_of : ServingFault → Fault
fault_of OutOfMemory = NoMemory
fault_of NotListening = ListenFault

-- the fault of a program whose replay ended by this one
abbrev pub fault_of_replay : ReplayFault → Fault
fault_of_replay of_replay.NoMemory = NoMemory
fault_of_replay of_replay.ReadFault = ReadFault
fault_of_replay of_replay.WriteFault = WriteFault
fault_of_replay (of_replay.BadLine line) = BadLine line
fault_of_replay of_replay.TooManyTurns = TooManyTurns

-- what a fault tells of the output
abbrev pub write_told : Fault → Told
write_told WriteFault = Failed
write_told _ = Fine

-- the fault of a program whose client ended by this one
abbrev pub fault_of_client : ClientFault → Fault
fault_of_client client.NoMemory = NoMemory
fault_of_client client.ReadFault = ReadFault
fault_of_client client.WriteFault = WriteFault
fault_of_client client.Usage = Usage
fault_of_client (client.BadLine line) = BadLine line
fault_of_client client.TooManyTurns = TooManyTurns
fault_of_client (client.Refused uri) = Refused
fault_of_client (client.Connection fault) = ConnectionFault
fault_of_client client.Unexpected = ConnectionFault
fault_of_client client.ForeignEvent = ConnectionFault
fault_of_client (client.Closed uri) = ConnectionFault
fault_of_client client.Unreachable = ConnectFault

-- the fault of a program whose input couldn't be published as one argument
abbrev pub fault_of_input : InputFault → Fault
fault_of_input input.NoMemory = NoMemory
fault_of_input input.ReadFault = FileFault
fault_of_input input.TooLong = FileFault
fault_of_input input.TooManyTurns = TooManyTurns

-- what a fault is called
abbrev pub name_of : Fault → List ℕ
name_of NoMemory = codes "E1 no memory"
name_of ReadFault = codes "E16 read fault"
name_of WriteFault = codes "E17 write fault"
name_of Usage = codes "E19 usage"
name_of (BadLine k) = codes "E20 bad line "
name_of TooManyTurns = codes "E25 too many turns"
name_of ListenFault = codes "E26 listen fault"
name_of ConnectFault = codes "E27 connect fault"
name_of Refused = codes "E28 refused by the broker"
name_of ConnectionFault = codes "E29 connection fault"
name_of LateAnswer = codes "E30 no answer in time"
name_of FileFault = codes "E31 file fault"

-- the number of the line that is at fault, if one is
abbrev pub line_number : Fault → List ℕ
line_number (BadLine k) = decimal k
line_number NoMemory = []
line_number ReadFault = []
line_number WriteFault = []
line_number Usage = []
line_number TooManyTurns = []
line_number ListenFault = []
line_number ConnectFault = []
line_number Refused = []
line_number ConnectionFault = []
line_number LateAnswer = []
line_number FileFault = []

-- the line by which the program tells of a fault
abbrev pub fault_line : Fault → List ℕ
fault_line fault = codes "wampd: " ++ (name_of fault ++ (line_number fault ++ 10 ∷ []))

-- what is told where a broker listens at every address of the machine
abbrev pub exposure_warning : List ℕ
exposure_warning = codes "wampd: warning: this --host is every address of the machine: whoever reaches the port can publish and subscribe without a password; a firewall keeps others out, or --host 127.0.0.1 behind a proxy" ++ 10 ∷ []

-- these octets were written, unless all turns were used up
abbrev pub IsWritten : List ℕ → List ℕ → List ℕ → ℕ → ℕ → Type 0
IsWritten octets before after calls_before calls_after = (after ≡ before ++ octets) ⊎ AreUsedUp calls_before calls_after

-- the exit status of a fault
abbrev pub status_of : Fault → ℕ
status_of NoMemory = 1
status_of ReadFault = 1
status_of WriteFault = 1
status_of Usage = 2
status_of (BadLine k) = 2
status_of TooManyTurns = 1
status_of ListenFault = 1
status_of ConnectFault = 1
status_of Refused = 1
status_of ConnectionFault = 1
status_of LateAnswer = 1
status_of FileFault = 1
