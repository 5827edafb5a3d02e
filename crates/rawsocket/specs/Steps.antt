-- The steps of a call on a device: how often it was read or written, and that each failure is told.
use Rattle.std.specs.Prelude.{◌≡◌, ◌+◌, ⊤, ℕ, Result, Ok, Err}
use Rattle.rawsocket.specs.declared.fault.Fault.{Fault}
use Rattle.rawsocket.specs.declared.fault.Fault.TheVariants as fault
use Rattle.rawsocket.specs.declared.devices.no_octets.NoOctets.{NoOctets}
use Rattle.rawsocket.specs.declared.devices.no_octets.NoOctets.TheVariants as no_octets
use Rattle.rawsocket.specs.Devices.{Reading, Writing}

-- which stream it is, what its device has counted, and how many turns a call has left on it
pub record Meter : Type 0 where
  pub name : ℕ
  pub calls : ℕ
  pub failures : ℕ
  pub turns : ℕ

abbrev pub meter : ℕ → ℕ → ℕ → ℕ → Meter
meter name calls failures turns = record { name = name; calls = calls; failures = failures; turns = turns }

abbrev pub read_meter : Reading → ℕ → Meter
read_meter r turns = meter r.name r.calls r.failures turns

abbrev pub write_meter : Writing → ℕ → Meter
write_meter w turns = meter w.name w.calls w.failures turns

-- what a call tells of a device: that it failed, that no turn was left for it, or neither
pub data Told : Type 0 where
  Fine : Told
  Failed : Told
  NoTurn : Told

-- how many failures there were: none is passed over, and after one nothing is tried again
abbrev pub failures_told : Told → ℕ
failures_told Failed = 1
failures_told _ = 0

-- that no turn was left is told only where none is
abbrev pub AreTurnsTold : Told → ℕ → Type 0
AreTurnsTold NoTurn left = left ≡ 0
AreTurnsTold _ left = ⊤

-- what a call did to a stream that tells so: it is the same stream, and each read and each write took a turn
pub record Steps (before after : Meter) (told : Told) : Type 0 where
  pub name : after.name ≡ before.name
  pub calls : after.calls + after.turns ≡ before.calls + before.turns
  pub failures : after.failures ≡ before.failures + failures_told told
  pub turns : AreTurnsTold told after.turns

-- the same of a whole call, which has 2^32 turns on each device
pub record WholeSteps (before after : ℕ → Meter) (told : Told) : Type 0 where
  pub left : ℕ
  pub steps : Steps (before 4294967296) (after left) told

-- what a call did to a stream that it reads
abbrev pub ReadSteps : Reading → Reading → Told → Type 0
ReadSteps before after told = WholeSteps (read_meter before) (read_meter after) told

-- what a call did to a stream that it writes
abbrev pub WriteSteps : Writing → Writing → Told → Type 0
WriteSteps before after told = WholeSteps (write_meter before) (write_meter after) told

-- by an answer whose faults tell so
abbrev pub told_by : {X E : Type 0} → (E → Told) → Result X E → Told
told_by tells (Ok x) = Fine
told_by tells (Err e) = tells e

abbrev pub device_told : Fault → Told
device_told fault.ReadFault = Failed
device_told fault.WriteFault = Failed
device_told fault.TooManyTurns = NoTurn
device_told _ = Fine

abbrev pub piece_told : NoOctets → Told
piece_told no_octets.Ended = Fine
piece_told no_octets.Failed = Failed
piece_told no_octets.TooManyTurns = NoTurn
