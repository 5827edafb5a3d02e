-- Who was told that no seat is free.
use Rattle.std.proofs.Common.{◌≡◌, ◌≤◌, ◌+◌, ℕ, List, [], ◌∷◌, ◌++◌, Some, length, slice_get, sym, ap, ◌∙◌, subst}
use mathlib.Core.Logic.{◌⊎◌, inl, inr}
use Rattle.std.proofs.lemmas.Option.{none-some}
use Rattle.std.specs.declared.snapshot.Snapshot.{Snapshot}
use Rattle.threaded_server.proofs.Places.{get_last, get_more, get_push_cases}
use Rattle.threaded_server.specs.SeatRules.{FoundNoSeat}
use Rattle.threaded_server.specs.Overs.{AllFound, Found}
use Rattle.threaded_server.specs.declared.over.Over.{Over}
use Rattle.threaded_server.specs.declared.over.Over.TheVariants.{Seated, TurnedAway, Untouched}
use Rattle.broker_threads.specs.declared.reader_thread.Ended.{Ended}
use Rattle.broker_threads.specs.declared.reader_thread.Reader.{Reader}

module _ {I O S : Type 0} where
  more_found : (lent : List (I × O)) (halves : I × O) (i : ℕ) (over : Over I O S) → Found lent i over → Found (lent ++ halves ∷ []) i over
  more_found lent halves i (Seated reader ended) h = tt
  more_found lent halves i (TurnedAway shown source sink) h = record { before = h.before; here = get_more lent (halves ∷ []) h.before shown.value h.here; taken = h.taken }
  more_found lent halves i (Untouched shown) h = tt

  -- none is over yet
  pub none_found : (lent : List (I × O)) (overs : List (Over I O S)) → overs ≡ [] → AllFound lent overs
  none_found lent overs e i over at = absurd (none-some over (ap (λ l. slice_get l i) (sym e) ∙ at))

  -- one more is lent
  pub lent_found : (lent new : List (I × O)) (halves : I × O) (overs : List (Over I O S)) → new ≡ lent ++ halves ∷ [] → AllFound lent overs → AllFound new overs
  lent_found lent new halves overs e h = subst (λ (l : List (I × O)). AllFound l overs) (sym e) (λ i over at. more_found lent halves i over (h i over at))

  -- one more is over
  pub over_found : (lent : List (I × O)) (overs now : List (Over I O S)) (over : Over I O S) → now ≡ overs ++ over ∷ [] → Found lent (length overs) over → AllFound lent overs → AllFound lent now
  over_found lent overs now over e new h i other at = by_place (get_push_cases overs over other i (ap (λ l. slice_get l i) (sym e) ∙ at))
    where
      by_place : ((i ≡ length overs) × (over ≡ other)) ⊎ (slice_get overs i ≡ Some other) → Found lent i other
      by_place (inl w) = subst (λ (o : Over I O S). Found lent i o) w.1 (subst (λ (k : ℕ). Found lent k over) (sym w.0) new)
      by_place (inr w) = h i other w

  -- one that had a seat is
  pub seated_found : (lent : List (I × O)) (overs now : List (Over I O S)) (over : Over I O S) (began : Snapshot (Reader I O S)) (ended : Snapshot (Ended I O S)) → now ≡ overs ++ over ∷ [] → over ≡ Seated began ended → AllFound lent overs → AllFound lent now
  seated_found lent overs now over began ended e is h = over_found lent overs now over e (subst (λ (o : Over I O S). Found lent (length overs) o) (sym is) tt) h

  -- one is lent and over at once
  pub passed_found : (lent new : List (I × O)) (halves : I × O) (overs now : List (Over I O S)) (over : Over I O S) → new ≡ lent ++ halves ∷ [] → now ≡ overs ++ over ∷ [] → Found (lent ++ halves ∷ []) (length overs) over → AllFound lent overs → AllFound new now
  passed_found lent new halves overs now over e f found h = over_found new overs now over f (subst (λ (l : List (I × O)). Found l (length overs) over) (sym e) found) (lent_found lent new halves overs e h)

  -- one finds no seat
  pub turned_found : (lent : List (I × O)) (halves : I × O) (count : ℕ) (over : Over I O S) (shown : Snapshot (I × O)) (from : Snapshot I) (to : Snapshot O) → over ≡ TurnedAway shown from to → shown.value ≡ halves → (count + 256 ≤ length lent) ⊎ (72057594037927935 ≤ length lent)
      → Found (lent ++ halves ∷ []) count over
  turned_found lent halves count over shown from to e is taken =
      let here : slice_get (lent ++ halves ∷ []) (length lent) ≡ Some shown.value = get_last lent halves ∙ ap Some (sym is) in
      let found : FoundNoSeat (lent ++ halves ∷ []) count shown.value = record { before = length lent; here = here; taken = taken } in
      subst (λ (o : Over I O S). Found (lent ++ halves ∷ []) count o) (sym e) found
