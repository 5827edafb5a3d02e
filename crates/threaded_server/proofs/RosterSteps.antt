-- How the roster stays in step with what came and what went.
use Rattle.std.proofs.Common.{◌≡◌, ℕ, List, [], ◌∷◌, ◌++◌, Option, None, Some, All, IsPermutation, map, set, slice_get, slice_index_or, sym, ap, ◌∙◌, subst}
use Rattle.std.proofs.lemmas.List.{map-append}
use Rattle.std.proofs.lemmas.List.Elements.{All-set}
use Rattle.std.specs.Option.{ForSome}
use Rattle.std.specs.declared.snapshot.Snapshot.{Snapshot}
use Rattle.broker_threads.proofs.Lemmas.{put_back}
use Rattle.threaded_server.proofs.Balance.{all_none_came_, all_none_in_slots, all_went_, gone_, passed_, seated_}
use Rattle.broker_threads.specs.Courses.{fate_of, sink_of}
use Rattle.threaded_server.specs.Lending.{returned}
use Rattle.threaded_server.specs.Overs.{after_of, before_of}
use Rattle.threaded_server.specs.Roster.{IsOfPlan, halves_of}
use Rattle.threaded_server.specs.Slots.{Balances, in_slots}
use Rattle.threaded_server.specs.declared.entry.Connection.{Connection}
use Rattle.threaded_server.specs.declared.over.Over.{Over}
use Rattle.threaded_server.specs.declared.over.Over.TheVariants.{Seated}
use Rattle.broker_threads.specs.declared.plan.Plan.{Plan}
use Rattle.broker_threads.specs.declared.reader_thread.Ended.{Ended}
use Rattle.broker_threads.specs.declared.reader_thread.Reader.{Reader}

module _ {I O S : Type 0} where
  -- all that are served are served by this plan
  abbrev pub AreOfPlan : Snapshot Plan → List (Option (Connection I O S)) → Type 0
  AreOfPlan plan slots = All (λ slot. ForSome slot (λ entry. IsOfPlan plan.value entry)) slots

  pub still_of_plan : (plan new : Snapshot Plan) (slots : List (Option (Connection I O S))) → new ≡ plan → AreOfPlan plan slots → AreOfPlan new slots
  still_of_plan plan new slots e h = subst (λ (p : Snapshot Plan). AreOfPlan p slots) (sym e) h

  pub seated_of_plan : (plan : Snapshot Plan) (slots : List (Option (Connection I O S))) (place : ℕ) (entry : Connection I O S) → IsOfPlan plan.value entry → AreOfPlan plan slots → AreOfPlan plan (set slots place (Some entry))
  seated_of_plan plan slots place entry of h =
      All-set (λ slot. ForSome slot (λ e. IsOfPlan plan.value e)) slots place (Some entry) (λ x e. let same : entry ≡ x = cc in subst (λ (y : Connection I O S). IsOfPlan plan.value y) same of) h

  pub left_of_plan : (plan new : Snapshot Plan) (slots : List (Option (Connection I O S))) (place : ℕ) (left : Option (Connection I O S)) → new ≡ plan → left ≡ None → AreOfPlan plan slots → AreOfPlan new (set slots place left)
  left_of_plan plan new slots place left e free h = All-set (λ slot. ForSome slot (λ x. IsOfPlan new.value x)) slots place left (λ x held. absurd (cc)) (still_of_plan plan new slots e h)

  -- what went, with one stream more
  one_more : (overs now : List (Over I O S)) (over : Over I O S) → now ≡ overs ++ over ∷ [] → map before_of now ≡ map before_of overs ++ before_of over ∷ []
  one_more overs now over e = ap (map before_of) e ∙ map-append before_of overs (over ∷ [])

  -- a stream comes and takes a place
  pub seat_balances : (lent new : List (I × O)) (overs : List (Over I O S)) (slots : List (Option (Connection I O S))) (place : ℕ) (entry : Connection I O S) (halves : I × O) → new ≡ lent ++ halves ∷ [] → halves ≡ halves_of entry
      → slice_get slots place ≡ Some None → ∥ Balances lent (map before_of overs) (map halves_of (in_slots slots)) ∥₁ → ∥ Balances new (map before_of overs) (map halves_of (in_slots (set slots place (Some entry)))) ∥₁
  seat_balances lent new overs slots place entry halves e same free h =
      subst (λ (l : List (I × O)). ∥ Balances l (map before_of overs) (map halves_of (in_slots (set slots place (Some entry)))) ∥₁) (sym (e ∙ ap (λ (x : I × O). lent ++ x ∷ []) same)) (seated_ halves_of lent (map before_of overs) slots place entry free h)

  -- a stream comes and goes at once
  pub pass_balances : (lent new : List (I × O)) (overs now : List (Over I O S)) (there : List (I × O)) (halves : I × O) (over : Over I O S) → new ≡ lent ++ halves ∷ [] → now ≡ overs ++ over ∷ [] → halves ≡ before_of over
      → ∥ Balances lent (map before_of overs) there ∥₁ → ∥ Balances new (map before_of now) there ∥₁
  pass_balances lent new overs now there halves over e f same h =
      subst (λ (l : List (I × O)). ∥ Balances l (map before_of now) there ∥₁) (sym e)
      (subst (λ (w : List (I × O)). ∥ Balances (lent ++ halves ∷ []) w there ∥₁) (sym (one_more overs now over f ∙ ap (λ (x : I × O). map before_of overs ++ x ∷ []) (sym same))) (passed_ lent (map before_of overs) there halves h))

  -- a stream leaves its place
  pub leave_balances : (lent : List (I × O)) (overs now : List (Over I O S)) (slots : List (Option (Connection I O S))) (place : ℕ) (entry : Connection I O S) (left : Option (Connection I O S)) (over : Over I O S) → slice_get slots place ≡ Some (Some entry)
      → left ≡ None → now ≡ overs ++ over ∷ [] → before_of over ≡ halves_of entry → ∥ Balances lent (map before_of overs) (map halves_of (in_slots slots)) ∥₁ → ∥ Balances lent (map before_of now) (map halves_of (in_slots (set slots place left))) ∥₁
  leave_balances lent overs now slots place entry left over held free f same h =
      subst (λ (o : Option (Connection I O S)). ∥ Balances lent (map before_of now) (map halves_of (in_slots (set slots place o))) ∥₁) (sym free)
      (subst (λ (w : List (I × O)). ∥ Balances lent w (map halves_of (in_slots (set slots place None))) ∥₁) (sym (one_more overs now over f ∙ ap (λ (x : I × O). map before_of overs ++ x ∷ []) same))
      (gone_ halves_of lent (map before_of overs) slots place entry held h))

  -- nobody leaves a place where nobody is
  pub still_balances : (lent : List (I × O)) (overs : List (Over I O S)) (slots : List (Option (Connection I O S))) (place : ℕ) (left : Option (Connection I O S)) → slice_get slots place ≡ Some None → left ≡ None
      → ∥ Balances lent (map before_of overs) (map halves_of (in_slots slots)) ∥₁ → ∥ Balances lent (map before_of overs) (map halves_of (in_slots (set slots place left))) ∥₁
  still_balances lent overs slots place left free e h =
      let same : set slots place left ≡ slots = ap (set slots place) e ∙ put_back slots place None free in
      subst (λ (xs : List (Option (Connection I O S))). ∥ Balances lent (map before_of overs) (map halves_of (in_slots xs)) ∥₁) (sym same) h

  -- a stream that had a seat: what it was, and what is left of it
  pub seated_before : (began : Snapshot (Reader I O S)) (ended : Snapshot (Ended I O S)) (over : Over I O S) → over ≡ Seated began ended → before_of over ≡ (began.value.source, began.value.sink)
  seated_before began ended over e = ap before_of e

  pub seated_after : (began : Snapshot (Reader I O S)) (shown : Snapshot (Ended I O S)) (ended : Ended I O S) (over : Over I O S) → over ≡ Seated began shown → shown.value ≡ ended
      → after_of over ≡ returned ended.source.last.value (sink_of ended.course).last.value (fate_of ended.course)
  seated_after began shown ended over e f = ap after_of e ∙ ap (λ (x : Ended I O S). returned x.source.last.value (sink_of x.course).last.value (fate_of x.course)) f

  -- nobody came yet
  pub none_yet : (lent : List (I × O)) (overs : List (Over I O S)) (slots : List (Option (Connection I O S))) → lent ≡ [] → overs ≡ [] → All (λ slot. slot ≡ None) slots → ∥ Balances lent (map before_of overs) (map halves_of (in_slots slots)) ∥₁
  none_yet lent overs slots e f free =
      subst (λ (l : List (I × O)). ∥ Balances l (map before_of overs) (map halves_of (in_slots slots)) ∥₁) (sym e)
      (subst (λ (w : List (Over I O S)). ∥ Balances [] (map before_of w) (map halves_of (in_slots slots)) ∥₁) (sym f) (all_none_came_ halves_of slots free))

  pub none_of_plan : (plan : Snapshot Plan) (slots : List (Option (Connection I O S))) → All (λ slot. slot ≡ None) slots → AreOfPlan plan slots
  none_of_plan plan slots free = λ k d within x held. absurd (let none : slice_index_or slots k d ≡ None = free k d within in cc)

  -- nobody is there any more
  pub all_over : (lent : List (I × O)) (overs : List (Over I O S)) (slots : List (Option (Connection I O S))) → All (λ slot. slot ≡ None) slots → ∥ Balances lent (map before_of overs) (map halves_of (in_slots slots)) ∥₁ → ∥ IsPermutation lent (map before_of overs) ∥₁
  all_over lent overs slots free h =
      all_went_ lent (map before_of overs) (subst (λ (there : List (Connection I O S)). ∥ Balances lent (map before_of overs) (map halves_of there) ∥₁) (all_none_in_slots slots free) h)
