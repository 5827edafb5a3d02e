-- Steps that follow on one another.
use Rattle.std.proofs.Common.{◌≡◌, ◌≤◌, ◌+◌, ◌∙◌, ℕ, Result, Ok, Err, refl, sym, ap, subst, arith}
use Rattle.std.specs.Prelude.{List}
use Rattle.rawsocket.specs.Devices.{Flushes, GrowsByBeginning, Reading, ReadsSome, Writing, WritesSome}
use Rattle.rawsocket.specs.Steps.{Meter, meter, Told, Fine, Failed, NoTurn, Steps, WholeSteps, device_told, read_meter, told_by, write_meter}
use Rattle.rawsocket.specs.Turns.{ReadsInTurn, WritesInTurns}
use Rattle.rawsocket.specs.declared.fault.Fault.{Fault}

-- none so far
pub no_steps : (m : Meter) → Steps m m Fine
no_steps m = record { name = refl; calls = refl; failures = omega arith; turns = tt }

-- and then these
pub then_steps : {a b c : Meter} {told : Told} → Steps a b Fine → Steps b c told → Steps a c told
then_steps p q = record { name = q.name ∙ p.name; calls = q.calls ∙ p.calls; failures = omega (arith, p.failures, q.failures); turns = q.turns }

-- no failure is taken back
pub failures_grow : {a b : Meter} {told : Told} → Steps a b told → a.failures ≤ b.failures
failures_grow s = omega (arith, s.failures)

-- the same, told in another way
pub at_told : {a b : Meter} {told other : Told} → told ≡ other → Steps a b told → Steps a b other
at_told {a} {b} is s = subst (λ t. Steps a b t) is s

-- that no turn was left need not be told
pub untold : {a b : Meter} → Steps a b NoTurn → Steps a b Fine
untold s = record { name = s.name; calls = s.calls; failures = s.failures; turns = tt }

-- what is told is nothing of the device
pub told_fine : {a b : Meter} {told : Told} → told ≡ Fine → Steps a b Fine → Steps a b told
told_fine {a} {b} {told} is s = subst (λ t. Steps a b t) (sym is) s

-- none yet, of all the turns of a call
pub all_turns : {name calls failures all turns : ℕ} → turns ≡ all → Steps (meter name calls failures all) (meter name calls failures turns) Fine
all_turns {calls = calls} e = record { name = refl; calls = ap (λ n. calls + n) e; failures = omega arith; turns = tt }

-- seen from the same number of turns
pub from_turns : {name calls failures turns all : ℕ} {after : Meter} {told : Told} → turns ≡ all → Steps (meter name calls failures turns) after told → Steps (meter name calls failures all) after told
from_turns {calls = calls} e s = record { name = s.name; calls = s.calls ∙ ap (λ n. calls + n) e; failures = s.failures; turns = s.turns }

-- a whole call, which has all its turns at first
pub whole : {name calls failures turns : ℕ} {after : ℕ → Meter} {told : Told} (left : ℕ) → turns ≡ 4294967296 → Steps (meter name calls failures turns) (after left) told → WholeSteps (meter name calls failures) after told
whole left e s = record { left = left; steps = from_turns e s }

pub whole_fine : {before after : ℕ → Meter} {told : Told} → told ≡ Fine → WholeSteps before after Fine → WholeSteps before after told
whole_fine {before} {after} {told} is s = subst (λ t. WholeSteps before after t) (sym is) s

-- a whole call that does nothing
pub no_whole_steps : (device : ℕ → Meter) → WholeSteps device device Fine
no_whole_steps device = record { left = 4294967296; steps = no_steps (device 4294967296) }

-- no turn was left, and none is taken
pub no_turn : (name calls failures turns left : ℕ) → turns ≡ 0 → left ≡ 0 → Steps (meter name calls failures turns) (meter name calls failures left) NoTurn
no_turn name calls failures turns left none still = record { name = refl; calls = omega (arith, none, still); failures = omega arith; turns = still }

-- one read, and its turn
pub read_step : (before after : Reading) (buffer : List ℕ) (had has : ℕ) (r : Result ℕ Fault) → ReadsSome before after buffer r → had ≡ has + 1 → Steps (read_meter before had) (read_meter after has) (told_by device_told r)
read_step before after buffer had has (Ok n) s turn = record { name = s.name; calls = omega (arith, s.calls, turn); failures = omega (arith, s.fine); turns = tt }
read_step before after buffer had has (Err f) s turn =
    subst (λ t. Steps (read_meter before had) (read_meter after has) t) (sym (ap device_told s.fault))
    (record { name = s.name; calls = omega (arith, s.calls, turn); failures = omega (arith, s.failed); turns = tt })

-- what it read
pub read_in_turn : (before after : Reading) (buffer : List ℕ) (had has : ℕ) (r : Result ℕ Fault) → ReadsSome before after buffer r → had ≡ has + 1 → ReadsInTurn before after had has buffer r
read_in_turn before after buffer had has (Ok n) s turn = record {
  within = s.within;
  given = s.given;
  left = s.left;
  end = s.end;
  kept = s.kept;
  goes_on = s.goes_on;
  turn = turn;
  steps = read_step before after buffer had has (Ok n) s turn;
  which = tt;
}
read_in_turn before after buffer had has (Err f) s turn = record {
  within = s.within;
  given = s.given;
  left = s.left;
  end = s.end;
  kept = s.kept;
  goes_on = s.goes_on;
  turn = tt;
  steps = read_step before after buffer had has (Err f) s turn;
  which = λ other. absurd (other s.fault);
}

-- one write that failed, and its turn
pub failed_write : (before after : Writing) (octets : List ℕ) (had has : ℕ) (f : Fault) → WritesSome before after octets (Err f) → had ≡ has + 1 → Steps (write_meter before had) (write_meter after has) Failed
failed_write before after octets had has f s turn = record { name = s.name; calls = omega (arith, s.calls, turn); failures = omega (arith, s.failed); turns = tt }

-- one write, and its turn
pub fine_write : (before after : Writing) (octets : List ℕ) (had has n : ℕ) → WritesSome before after octets (Ok n) → had ≡ has + 1 → Steps (write_meter before had) (write_meter after has) Fine
fine_write before after octets had has n s turn = record { name = s.name; calls = omega (arith, s.calls, turn); failures = omega (arith, s.fine); turns = tt }

-- one flush, which takes no turn
pub flush_step : (before after : Writing) (had : ℕ) (r : Result Unit Fault) → Flushes before after r → Steps (write_meter before had) (write_meter after had) (told_by device_told r)
flush_step before after had (Ok x) s = record { name = s.name; calls = omega (arith, s.calls); failures = omega (arith, s.fine); turns = tt }
flush_step before after had (Err f) s =
    subst (λ t. Steps (write_meter before had) (write_meter after had) t) (sym (ap device_told s.fault))
    (record { name = s.name; calls = omega (arith, s.calls); failures = omega (arith, s.failed); turns = tt })

-- all octets were written, and then passed on
pub sent : (before now after : Writing) (had has : ℕ) (octets : List ℕ) (r : Result Unit Fault) → WritesInTurns before now had has octets (Ok tt) → Flushes now after r → WritesInTurns before after had has octets r
sent before now after had has octets (Ok tt) w s = record {
  written = s.taken ∙ w.written;
  begun = subst (λ (t : List ℕ). GrowsByBeginning before.taken t octets) (sym s.taken) w.begun;
  steps = then_steps w.steps (flush_step now after has (Ok tt) s);
  which = tt;
}
sent before now after had has octets (Err f) w s = record {
  written = tt;
  begun = subst (λ (t : List ℕ). GrowsByBeginning before.taken t octets) (sym s.taken) w.begun;
  steps = then_steps w.steps (flush_step now after has (Err f) s);
  which = λ other. absurd (other s.fault);
}
