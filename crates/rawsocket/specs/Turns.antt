-- What is read and written in turns: so many a call had on the stream before, and so many it has after.
use Rattle.std.specs.Prelude.{◌≡◌, ◌≢◌, ◌≤◌, ◌<◌, ◌+◌, ◌||◌, ℕ, List, length, take, true, Result, Err, IfOk, IfErr, OnOk, OnErr}
use Rattle.std.specs.Io.KnownBytes.{ReadConsumes}
use Rattle.rawsocket.specs.Devices.{Gives, Reading, Takes, TakesBeginning, Writing, tells_end}
use Rattle.rawsocket.specs.Steps.{Steps, device_told, piece_told, read_meter, told_by, write_meter}
use Rattle.rawsocket.specs.declared.devices.no_octets.NoOctets.{NoOctets}
use Rattle.rawsocket.specs.declared.devices.no_octets.NoOctets.TheVariants.{Ended}
use Rattle.rawsocket.specs.declared.fault.Fault.{Fault}
use Rattle.rawsocket.specs.declared.fault.Fault.TheVariants.{ReadFault, TooManyTurns, WriteFault}

-- one read in one turn, which left the buffer so
pub record ReadsInTurn (before after : Reading) (had has : ℕ) (buffer : List ℕ) (result : Result ℕ Fault) : Type 0 where
  pub within : IfOk result (λ n. n ≤ length buffer)
  pub given : IfOk result (λ n. Gives before after (take n buffer))
  pub left : ReadConsumes before.left after.left result buffer
  pub end : IfOk result (λ n. after.is_ended ≡ (before.is_ended || tells_end n buffer))
  pub kept : OnErr result (after.given ≡ before.given)
  pub goes_on : OnErr result (after.is_ended ≡ before.is_ended)
  pub turn : OnOk result (had ≡ has + 1)
  pub steps : Steps (read_meter before had) (read_meter after has) (told_by device_told result)
  pub which : IfErr result (λ e. e ≢ ReadFault → e ≡ TooManyTurns)

-- the next octets were read in one turn, at least one
pub record ReadsPiece (before after : Reading) (had has : ℕ) (buffer : List ℕ) (result : Result ℕ NoOctets) : Type 0 where
  pub within : IfOk result (λ n. n ≤ length buffer)
  pub some : IfOk result (λ n. 0 < n)
  pub given : IfOk result (λ n. Gives before after (take n buffer))
  pub kept : OnErr result (after.given ≡ before.given)
  pub ended : result ≡ Err Ended → after.is_ended ≡ true
  pub turn : OnOk result (had ≡ has + 1)
  pub steps : Steps (read_meter before had) (read_meter after has) (told_by piece_told result)

-- all octets were written in turns, or a beginning of them
pub record WritesInTurns (before after : Writing) (had has : ℕ) (octets : List ℕ) (result : Result Unit Fault) : Type 0 where
  pub written : OnOk result (Takes before after octets)
  pub begun : TakesBeginning before after octets
  pub steps : Steps (write_meter before had) (write_meter after has) (told_by device_told result)
  pub which : IfErr result (λ e. e ≢ WriteFault → e ≡ TooManyTurns)
