-- The end that adds comes over to the end that takes.
use Rattle.std.proofs.Common.{◌≡◌, ◌≤◌, ◌<◌, ℕ, ◌+◌, List, [], ◌∷◌, ◌++◌, length, sym, refl, ap, ◌∙◌, subst, append-nil, Bool, true, false, arith}
use Rattle.std.specs.Prelude.{Option, Some, None, IfSome, is_some}
use mathlib.Core.List.{IsPrefix}
use Rattle.atomic_table.specs.Seated.{TableId}
use Rattle.outbox_queue.specs.declared.ends.Came.{Came}
use Rattle.outbox_queue.specs.declared.owed.Note.{Note}
use Rattle.outbox_queue.specs.declared.rule.OutboxView.{OutboxView}
use Rattle.outbox_queue.specs.Ends.{Last, Taking, TookAll, TookFull, TookLost, TookOwed, TookUnvouched, TookWhole, IsVouched, Owes, IsOf, came_with, or_else}
use Rattle.outbox_queue.specs.Outbox.{EndsIn, MatchDrained}
use Rattle.outbox_queue.specs.declared.drain.Drained.{Drained}
use Rattle.outbox_queue.specs.declared.drain.Drained.TheVariants as drained
use Rattle.outbox_queue.specs.Rule.{Settled, Waiting, adding, both, with_taken, items_of}
use Rattle.outbox_queue.specs.body.EndInvariants.{CameOver, MayHaveCome, last_of}
use Rattle.outbox_queue.proofs.OwedBeginnings.{prefix-on}

module _ {T H : Type 0} (owed : H → ℕ → List T) (is_over : H → ℕ → Type 0) (was_cut : H → ℕ → Bool) (belongs : H → TableId → Type 0) where
  pub came_adds : (capacity : ℕ) (v : OutboxView T H) (came : Option (Came H)) → MayHaveCome owed is_over was_cut belongs capacity v came → is_some (last_of came v.added) ≡ true → v.adds ≡ true
  came_adds capacity v None may is = absurd (cc is)
  came_adds capacity v (Some came) may is = may.adds

  pub apart : (capacity : ℕ) (v : OutboxView T H) (added : List T) (came : Option (Came H)) → last_of came added ≡ None → MayHaveCome owed is_over was_cut belongs capacity v came
  apart capacity v added None none = tt
  apart capacity v added (Some came) none = absurd (cc none)

  none_left : (waiting : List (Note T H)) → length waiting ≡ 0 → items_of waiting ≡ []
  none_left [] none = refl
  none_left (x ∷ waiting) none = absurd (cc none)

  -- where nothing waits, all that was added was taken
  pub took_all : (begins : H → H → Type 0) (capacity : ℕ) (v : OutboxView T H) (came : Option (Came H)) (waiting : List (Note T H)) (d : Taking T H) → MayHaveCome owed is_over was_cut belongs capacity v came → length waiting ≡ 0 → Waiting begins v waiting
      → d.last ≡ last_of came v.added → d.capacity ≡ capacity → d.conn ≡ v.conn → d.taken ≡ v.taken → IfSome d.last (λ _. TookAll owed is_over was_cut d)
  took_all begins capacity v None waiting d may none is here holds own taken = subst (λ (l : Option (Last T H)). IfSome l (λ _. TookAll owed is_over was_cut d)) (sym here) tt
  took_all begins capacity v (Some came) waiting d may none is here holds own taken =
      let all : v.added ≡ v.taken = is.0 ∙ ap (λ xs. v.taken ++ xs) (none_left waiting none) ∙ append-nil v.taken in
      let vouched : IsVouched owed is_over was_cut came.history d.conn v.added came.finds.count came.is_lost = subst (λ n. IsVouched owed is_over was_cut came.history n v.added came.finds.count came.is_lost) (sym own) may.vouches.vouched in
      let took : TookAll owed is_over was_cut d = record { last = record { history = came.history; added = v.added; full_finds = came.finds.count; is_lost = came.is_lost }; came = here; all = taken ∙ sym all; vouched = vouched; room = subst (λ n. 0 < came.finds.count → n ≤ length v.added) (sym holds) may.room } in
      subst (λ (l : Option (Last T H)). IfSome l (λ _. TookAll owed is_over was_cut d)) (sym here) took

  -- an item was taken
  pub goes_on : (begins : H → H → Type 0) (capacity : ℕ) (v w : OutboxView T H) (x : Note T H) (came : Option (Came H)) → MayHaveCome owed is_over was_cut belongs capacity v came → Settled begins belongs v x w
      → MayHaveCome owed is_over was_cut belongs capacity w came
  goes_on begins capacity v w x None may is = tt
  goes_on begins capacity v w x (Some came) may is =
      let eq = is.0.0 in
      let begun : IsPrefix (with_taken v x).taken v.added = subst (λ (u : OutboxView T H). IsPrefix u.taken v.added) eq is.2 in
      let then : CameOver owed is_over was_cut belongs capacity (with_taken v x) came = record { adds = may.adds; begins = begun; vouches = may.vouches; room = may.room; full = may.full; never = may.never } in
      subst (λ (u : OutboxView T H). CameOver owed is_over was_cut belongs capacity u came) (sym eq) then

  by_history : (capacity : ℕ) (v : OutboxView T H) (came : Came H) (history : Option H) → came.history ≡ history → CameOver owed is_over was_cut belongs capacity v came → Owes owed v.seen v.conn v.taken → Owes owed (or_else history v.seen) v.conn v.taken
  by_history capacity v came None is may owes = owes
  by_history capacity v came (Some h) is may owes =
      let vouched : IsVouched owed is_over was_cut (Some h) v.conn v.added came.finds.count came.is_lost = subst (λ (o : Option H). IsVouched owed is_over was_cut o v.conn v.added came.finds.count came.is_lost) is may.vouches.vouched in
      prefix-on v.taken v.added (owed h v.conn) may.begins vouched.begins

  pub newest_owes : (capacity : ℕ) (v : OutboxView T H) (came : Option (Came H)) → MayHaveCome owed is_over was_cut belongs capacity v came → Owes owed v.seen v.conn v.taken → Owes owed (or_else (came_with (last_of came v.added)) v.seen) v.conn v.taken
  newest_owes capacity v None may owes = owes
  newest_owes capacity v (Some came) may owes = by_history capacity v came came.history refl may owes

  of_history : (capacity : ℕ) (v : OutboxView T H) (came : Came H) (history : Option H) → came.history ≡ history → CameOver owed is_over was_cut belongs capacity v came → IsOf belongs v.seen v.chronicle → IsOf belongs (or_else history v.seen) v.chronicle
  of_history capacity v came None is may of = of
  of_history capacity v came (Some h) is may of = subst (λ (o : Option H). IsOf belongs o v.chronicle) is may.vouches.is_of

  pub newest_belongs : (capacity : ℕ) (v : OutboxView T H) (came : Option (Came H)) → MayHaveCome owed is_over was_cut belongs capacity v came → IsOf belongs v.seen v.chronicle → IsOf belongs (or_else (came_with (last_of came v.added)) v.seen) v.chronicle
  newest_belongs capacity v None may of = of
  newest_belongs capacity v (Some came) may of = of_history capacity v came came.history refl may of

  -- what the end that takes knows, once the other has come over
  abbrev pub joined : OutboxView T H → Option H → List T → OutboxView T H
  joined t history added = record { adds = true; takes = true; conn = t.conn; chronicle = t.chronicle; history = history; added = added; seen = t.seen; taken = t.taken }

  pub joins : (t a : OutboxView T H) (conn : ℕ) (chronicle : Option TableId) (history : Option H) (added : List T) → a ≡ adding conn chronicle history added → conn ≡ t.conn → chronicle ≡ t.chronicle → both a t ≡ joined t history added
  joins t a conn chronicle history added is own home =
      let first : both a t ≡ both (adding conn chronicle history added) t = ap (λ (u : OutboxView T H). both u t) is in
      let Made : ℕ × Option TableId → OutboxView T H = λ y. record { adds = true; takes = true; conn = y.0; chronicle = y.1; history = history; added = added; seen = t.seen; taken = t.taken } in
      let pair : (conn, chronicle) ≡ (t.conn, t.chronicle) = λ i. (own i, home i) in
      first ∙ ap Made pair

  pub comes : (begins : H → H → Type 0) (capacity : ℕ) (t : OutboxView T H) (conn : ℕ) (chronicle : Option TableId) (history : Option H) (added : List T) (came : Came H) (waiting : List (Note T H))
      → conn ≡ t.conn → chronicle ≡ t.chronicle → IsVouched owed is_over was_cut came.history conn added came.finds.count came.is_lost → IsOf belongs came.history chronicle → Waiting begins (joined t history added) waiting
      → (0 < came.finds.count → capacity ≤ length added) → (came.was_full ≡ true → 0 < came.finds.count) → (came.was_full ≡ false → came.finds.count ≡ 0) → CameOver owed is_over was_cut belongs capacity (joined t history added) came
  comes begins capacity t conn chronicle history added came waiting own home vouched is_of waits room full never =
      let here : IsVouched owed is_over was_cut came.history t.conn added came.finds.count came.is_lost = subst (λ n. IsVouched owed is_over was_cut came.history n added came.finds.count came.is_lost) own vouched in
      let of : IsOf belongs came.history t.chronicle = subst (λ k. IsOf belongs came.history k) home is_of in
      record { adds = refl; begins = (items_of waiting, sym waits.0); vouches = record { vouched = here; is_of = of }; room = room; full = full; never = never }

  was_all : (d : Taking T H) (last : Option (Last T H)) → is_some last ≡ true → IfSome last (λ _. TookAll owed is_over was_cut d) → TookAll owed is_over was_cut d
  was_all d None came all = absurd (cc came)
  was_all d (Some l) came all = all

  -- the queue was found empty once more, after the other end had come over
  pub stops : (d e : Taking T H) → e ≡ record d { empty_finds = d.empty_finds + 1 } → IfSome d.last (λ _. TookAll owed is_over was_cut d) → is_some e.last ≡ true → TookAll owed is_over was_cut e
  stops d e is all came =
      let was = was_all d d.last (sym (ap (λ (t : Taking T H). is_some t.last) is) ∙ came) all in
      let same : TookAll owed is_over was_cut (record d { empty_finds = d.empty_finds + 1 }) = record { last = was.last; came = was.came; all = was.all; vouched = was.vouched; room = was.room } in
      subst (λ (t : Taking T H). TookAll owed is_over was_cut t) (sym is) same

  some_of : (history : Option H) → is_some history ≡ true → (h : H) × (history ≡ Some h)
  some_of None some = absurd (cc some)
  some_of (Some h) some = (h, refl)

  -- the history that came
  brought_by : (d : Taking T H) (all : TookAll owed is_over was_cut d) → is_some (came_with d.last) ≡ true → (h : H) × (all.last.history ≡ Some h)
  brought_by d all some = some_of all.last.history (sym (ap (λ l. is_some (came_with l)) all.came) ∙ some)

  of_last : (d : Taking T H) (all : TookAll owed is_over was_cut d) (P : Last T H → Type 0) → IfSome d.last P → P all.last
  of_last d all P is = subst (λ (l : Option (Last T H)). IfSome l P) all.came is

  no_history : (o : Option H) → is_some o ≡ false → o ≡ None
  no_history None is = refl
  no_history (Some h) is = absurd (cc is)

  -- a history came with the other end, which had found the queue full or not, or none did
  pub owed_for : (d : Taking T H) (is_lost : Bool) → TookAll owed is_over was_cut d → is_some (came_with d.last) ≡ true → IfSome d.last (λ l. l.full_finds ≡ 0) → IfSome d.last (λ l. l.is_lost ≡ is_lost) → TookOwed owed is_over was_cut is_lost d
  owed_for d is_lost all some never lost =
      let b = brought_by d all some in
      record { all = all; history = b.0; brought = b.1; never = of_last d all (λ l. l.full_finds ≡ 0) never; lost = of_last d all (λ l. l.is_lost ≡ is_lost) lost }

  -- where it says so of itself, and what it says is this
  pub said_so : (o : Option (Last T H)) (b c : Bool) → IfSome o (λ l. l.is_lost ≡ b) → b ≡ c → IfSome o (λ l. l.is_lost ≡ c)
  said_so None b c is same = tt
  said_so (Some l) b c is same = is ∙ same

  pub full_for : (d : Taking T H) → TookAll owed is_over was_cut d → is_some (came_with d.last) ≡ true → IfSome d.last (λ l. 0 < l.full_finds) → TookFull owed is_over was_cut d
  full_for d all some full = let b = brought_by d all some in record { all = all; history = b.0; brought = b.1; full = of_last d all (λ l. 0 < l.full_finds) full }

  -- where it is so whatever the end says, and it says so
  pub told_of : (o : Option (Last T H)) (b c : Bool) (P : Last T H → Type 0) → IfSome o (λ l. b ≡ c → P l) → b ≡ c → IfSome o P
  told_of None b c P is said = tt
  told_of (Some l) b c P is said = is said

  pub unvouched_for : (d : Taking T H) → TookAll owed is_over was_cut d → is_some (came_with d.last) ≡ false → TookUnvouched owed is_over was_cut d
  unvouched_for d all none = (all, no_history (came_with d.last) none)

  -- how it ended, and that it was found empty
  pub ends_as : (a d : Taking T H) (r : Drained T) (Took : T → Type 0) → EndsIn a d → MatchDrained r (λ _. ⊥) (TookWhole owed is_over was_cut d) (TookFull owed is_over was_cut d) (TookLost owed is_over was_cut d) (TookUnvouched owed is_over was_cut d)
      → MatchDrained r Took (EndsIn a d × TookWhole owed is_over was_cut d) (EndsIn a d × TookFull owed is_over was_cut d) (EndsIn a d × TookLost owed is_over was_cut d) (EndsIn a d × TookUnvouched owed is_over was_cut d)
  ends_as a d (drained.Item x) Took ends m = absurd m
  ends_as a d drained.Stopped Took ends m = (ends, m)
  ends_as a d drained.Full Took ends m = (ends, m)
  ends_as a d drained.Lost Took ends m = (ends, m)
  ends_as a d drained.Dropped Took ends m = (ends, m)

module _ {T H : Type 0} where
  pub ends_in : (a d e : Taking T H) → d ≡ record a { empty_finds = d.empty_finds; last = d.last } → a.empty_finds ≤ d.empty_finds → e ≡ record d { empty_finds = d.empty_finds + 1 } → EndsIn a e
  ends_in a d e at grows is =
      let n : e.empty_finds ≡ d.empty_finds + 1 = ap (λ (t : Taking T H). t.empty_finds) is in
      let l : e.last ≡ d.last = ap (λ (t : Taking T H). t.last) is in
      let next : Taking T H → Taking T H = λ t. record t { empty_finds = d.empty_finds + 1 } in
      let Made : ℕ × Option (Last T H) → Taking T H = λ y. record a { empty_finds = y.0; last = y.1 } in
      let back : (d.empty_finds + 1, d.last) ≡ (e.empty_finds, e.last) = λ i. (sym n i, sym l i) in
      record { same = is ∙ ap next at ∙ ap Made back; found = omega (arith, grows, n) }
