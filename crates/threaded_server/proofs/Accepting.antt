-- How serving goes from answer to answer, with the streams that come.
use Rattle.std.proofs.Common.{◌≡◌, ◌+◌, ◌<◌, ◌≤◌, ℕ, List, [], ◌∷◌, ◌++◌, Ok, Err, refl, sym, ap, subst, arith}
use Rattle.threaded_server.proofs.AcceptLoop.{GoneOn, came_on, ends_failed, ends_stopped, failed_on, none_yet, nothing_answered}
use Rattle.threaded_server.proofs.Moving.{moves_none, moves_on}
use Rattle.threaded_server.specs.Lending.{Lending}
use Rattle.threaded_server.specs.Overs.{Books, Moves}
use Rattle.threaded_server.specs.Answers.{came_in}
use Rattle.threaded_server.specs.body.Served.{LentUntil}
use Rattle.threaded_server.specs.declared.answer.Answer.{Answer}
use Rattle.threaded_server.specs.declared.answer.Answer.TheVariants.{Came, Stopped, Failed}
use Rattle.broker_config.specs.declared.fault.Fault.TheVariants.{NoMemory, ListenFault}

-- how many came, with one answer more
came_more : (given : List Answer) → came_in (given ++ Came ∷ []) ≡ came_in given + 1
came_more [] = refl
came_more (Came ∷ given) = ap (λ n. n + 1) (came_more given)
came_more (Stopped ∷ given) = came_more given
came_more (Failed ∷ given) = came_more given

none_more : (given : List Answer) → came_in (given ++ Failed ∷ []) ≡ came_in given
none_more [] = refl
none_more (Came ∷ given) = ap (λ n. n + 1) (none_more given)
none_more (Stopped ∷ given) = none_more given
none_more (Failed ∷ given) = none_more given

none_at_stop : (given : List Answer) → came_in (given ++ Stopped ∷ []) ≡ came_in given
none_at_stop [] = refl
none_at_stop (Came ∷ given) = ap (λ n. n + 1) (none_at_stop given)
none_at_stop (Stopped ∷ given) = none_at_stop given
none_at_stop (Failed ∷ given) = none_at_stop given

module _ {I O S : Type 0} where
  -- what was answered since ends nothing, and the streams that came were lent, or couldn't be taken apart
  pub record Accepting (before now : List Answer) (failures : ℕ) (was lending : Lending I O) (had has : Books I O S) : Type 0 where
    pub gone_on : GoneOn before now failures
    pub moves : Moves (came_in gone_on.given) was lending had has

  -- the same count by another name
  counted_as : (m n : ℕ) (was lending : Lending I O) (had has : Books I O S) → m ≡ n → Moves m was lending had has → Moves n was lending had has
  counted_as m n was lending had has e h = subst (λ (k : ℕ). Moves k was lending had has) e h

  pub none_so_far : (before : List Answer) (was : Lending I O) (had : Books I O S) → Accepting before before 0 was was had had
  none_so_far before was had = record { gone_on = none_yet before; moves = moves_none was had }

  pub one_came : (before now new : List Answer) (failures : ℕ) (was lending next : Lending I O) (had has left : Books I O S) → Accepting before now failures was lending had has → new ≡ now ++ Came ∷ [] → Moves 1 lending next has left
      → Accepting before new 0 was next had left
  one_came before now new failures was lending next had has left h e m = record {
    gone_on = came_on before now new failures h.gone_on e;
    moves = counted_as (came_in h.gone_on.given + 1) (came_in (h.gone_on.given ++ Came ∷ [])) was next had left (sym (came_more h.gone_on.given)) (moves_on (came_in h.gone_on.given) 1 was lending next had has left h.moves m);
  }

  pub one_failed : (before now new : List Answer) (failures : ℕ) (was lending next : Lending I O) (had has left : Books I O S) → Accepting before now failures was lending had has → new ≡ now ++ Failed ∷ [] → failures + 1 < 100
      → Moves 0 lending next has left → Accepting before new (failures + 1) was next had left
  one_failed before now new failures was lending next had has left h e few m = record {
    gone_on = failed_on before now new failures h.gone_on e few;
    moves = counted_as (came_in h.gone_on.given + 0) (came_in (h.gone_on.given ++ Failed ∷ [])) was next had left (omega (arith, none_more h.gone_on.given)) (moves_on (came_in h.gone_on.given) 0 was lending next had has left h.moves m);
  }

  pub stopped : (before now new : List Answer) (failures : ℕ) (was lending next : Lending I O) (had has : Books I O S) → Accepting before now failures was lending had has → new ≡ now ++ Stopped ∷ [] → next ≡ lending
      → LentUntil before new was next had has (Ok tt)
  stopped before now new failures was lending next had has h e same = record {
    serves = ends_stopped before now new failures h.gone_on e;
    moves = counted_as (came_in h.gone_on.given) (came_in (h.gone_on.given ++ Stopped ∷ [])) was next had has (sym (none_at_stop h.gone_on.given)) (subst (λ (l : Lending I O). Moves (came_in h.gone_on.given) was l had has) (sym same) h.moves);
  }

  pub failed : (before now new : List Answer) (failures : ℕ) (was lending next : Lending I O) (had has : Books I O S) → Accepting before now failures was lending had has → new ≡ now ++ Failed ∷ [] → 100 ≤ failures + 1 → next ≡ lending
      → LentUntil before new was next had has (Err ListenFault)
  failed before now new failures was lending next had has h e many same = record {
    serves = ends_failed before now new failures h.gone_on e many;
    moves = counted_as (came_in h.gone_on.given) (came_in (h.gone_on.given ++ Failed ∷ [])) was next had has (sym (none_more h.gone_on.given)) (subst (λ (l : Lending I O). Moves (came_in h.gone_on.given) was l had has) (sym same) h.moves);
  }

  pub none_came : (before now : List Answer) (was lending : Lending I O) (had has : Books I O S) → now ≡ before → lending ≡ was → has ≡ had → LentUntil before now was lending had has (Err NoMemory)
  none_came before now was lending had has e f g = record {
    serves = nothing_answered before now e;
    moves = subst (λ (l : Lending I O). Moves 0 was l had has) (sym f) (subst (λ (b : Books I O S). Moves 0 was was had b) (sym g) (moves_none was had));
  }
