-- How serving goes from answer to answer.
use Rattle.std.proofs.Common.{◌≡◌, ◌+◌, ◌<◌, ◌≤◌, ℕ, List, [], ◌∷◌, ◌++◌, Ok, Err, refl, sym, ap, ◌∙◌, append_assoc, append-nil, subst, arith}
use Rattle.threaded_server.specs.Answers.{in_a_row, GoesOn, Serves}
use Rattle.threaded_server.specs.declared.answer.Answer.{Answer}
use Rattle.threaded_server.specs.declared.answer.Answer.TheVariants.{Came, Stopped, Failed}
use Rattle.broker_config.specs.declared.fault.Fault.TheVariants.{NoMemory, ListenFault}

pub row_came : (n : ℕ) (all : List Answer) → in_a_row n (all ++ Came ∷ []) ≡ 0
row_came n [] = refl
row_came n (Came ∷ all) = row_came 0 all
row_came n (Stopped ∷ all) = row_came 0 all
row_came n (Failed ∷ all) = row_came (n + 1) all

pub row_failed : (n : ℕ) (all : List Answer) → in_a_row n (all ++ Failed ∷ []) ≡ in_a_row n all + 1
row_failed n [] = refl
row_failed n (Came ∷ all) = row_failed 0 all
row_failed n (Stopped ∷ all) = row_failed 0 all
row_failed n (Failed ∷ all) = row_failed (n + 1) all

pub on_came : (n : ℕ) (all : List Answer) → GoesOn n all → GoesOn n (all ++ Came ∷ [])
on_came n [] h = tt
on_came n (Came ∷ all) h = on_came 0 all h
on_came n (Stopped ∷ all) h = absurd h
on_came n (Failed ∷ all) h = (h.0, on_came (n + 1) all h.1)

pub on_failed : (n : ℕ) (all : List Answer) → GoesOn n all → in_a_row n all + 1 < 100 → GoesOn n (all ++ Failed ∷ [])
on_failed n [] h few = (few, tt)
on_failed n (Came ∷ all) h few = on_failed 0 all h few
on_failed n (Stopped ∷ all) h few = absurd h
on_failed n (Failed ∷ all) h few = (h.0, on_failed (n + 1) all h.1 few)

-- what was answered since ends nothing, and so many failures in a row stand at its end
pub record GoneOn (before now : List Answer) (failures : ℕ) : Type 0 where
  pub given : List Answer
  pub answered : now ≡ before ++ given
  pub goes_on : GoesOn 0 given
  pub in_row : failures ≡ in_a_row 0 given
  pub few : failures < 100

pub more : (before given : List Answer) (now new : List Answer) (a : Answer) → now ≡ before ++ given → new ≡ now ++ a ∷ [] → new ≡ before ++ (given ++ a ∷ [])
more before given now new a e f = f ∙ ap (λ l. l ++ a ∷ []) e ∙ append_assoc before given (a ∷ [])

abbrev pub none_yet : (before : List Answer) → GoneOn before before 0
none_yet before = record { given = []; answered = sym (append-nil before); goes_on = tt; in_row = refl; few = omega arith }

abbrev pub came_on : (before now new : List Answer) (failures : ℕ) → GoneOn before now failures → new ≡ now ++ Came ∷ [] → GoneOn before new 0
came_on before now new failures h e = record {
  given = h.given ++ Came ∷ [];
  answered = more before h.given now new Came h.answered e;
  goes_on = on_came 0 h.given h.goes_on;
  in_row = sym (row_came 0 h.given);
  few = omega arith;
}

abbrev pub failed_on : (before now new : List Answer) (failures : ℕ) → GoneOn before now failures → new ≡ now ++ Failed ∷ [] → failures + 1 < 100 → GoneOn before new (failures + 1)
failed_on before now new failures h e few = record {
  given = h.given ++ Failed ∷ [];
  answered = more before h.given now new Failed h.answered e;
  goes_on = on_failed 0 h.given h.goes_on (subst (λ (n : ℕ). n + 1 < 100) h.in_row few);
  in_row = ap (λ n. n + 1) h.in_row ∙ sym (row_failed 0 h.given);
  few = few;
}

abbrev pub ends_stopped : (before now new : List Answer) (failures : ℕ) → GoneOn before now failures → new ≡ now ++ Stopped ∷ [] → Serves before new (Ok tt)
ends_stopped before now new failures h e = record {
  given = h.given ++ Stopped ∷ [];
  answered = more before h.given now new Stopped h.answered e;
  ends = record { until = h.given; given_are = refl; goes_on = h.goes_on };
}

abbrev pub ends_failed : (before now new : List Answer) (failures : ℕ) → GoneOn before now failures → new ≡ now ++ Failed ∷ [] → 100 ≤ failures + 1 → Serves before new (Err ListenFault)
ends_failed before now new failures h e many = record {
  given = h.given ++ Failed ∷ [];
  answered = more before h.given now new Failed h.answered e;
  ends = (record { until = h.given; given_are = refl; goes_on = h.goes_on }, row_failed 0 h.given ∙ sym (ap (λ n. n + 1) h.in_row) ∙ omega (arith, many, h.few));
}

abbrev pub nothing_answered : (before now : List Answer) → now ≡ before → Serves before now (Err NoMemory)
nothing_answered before now e = record { given = []; answered = e ∙ sym (append-nil before); ends = refl }
