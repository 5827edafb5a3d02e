-- The faults that each half may answer.
use Rattle.std.specs.Prelude.{◌≡◌, ◌⊎◌}
use Rattle.arguments.specs.declared.fault.Fault as arguments
use Rattle.arguments.specs.declared.fault.Fault.TheVariants as argument
use Rattle.client_messages.specs.declared.fault.Fault.{Fault}
use Rattle.client_messages.specs.declared.fault.Fault.TheVariants.{NoMemory, TooDeep, NoBrokerMessage}

-- the faults of saying
abbrev pub IsSayingFault : Fault → Type 0
IsSayingFault f = (f ≡ NoMemory) ⊎ (f ≡ TooDeep)

-- the faults of hearing
abbrev pub IsHearingFault : Fault → Type 0
IsHearingFault f = (f ≡ NoMemory) ⊎ (f ≡ NoBrokerMessage)

-- what a fault of reading arguments is told as
abbrev pub arguments_fault : arguments.Fault → Fault
arguments_fault argument.NoMemory = NoMemory
arguments_fault _ = NoBrokerMessage
