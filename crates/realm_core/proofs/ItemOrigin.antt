-- Of which entry an item came.
use Rattle.std.proofs.Common.{◌≡◌, ℕ, Bool, true, List, [], ◌∷◌, ◌++◌, drop, get_or, refl, sym, ap, subst, ◌∙◌, append_assoc, inl, inr}
use Rattle.std.specs.Prelude.{◌⊎◌}
use Rattle.wamp_messages.specs.declared.item.Item.{Item}
use Rattle.wamp_messages.specs.declared.item.Item.TheVariants.{Event}
use Rattle.wamp_messages.specs.declared.item.Publication.{Publication}
use Rattle.realm.specs.History.{History, begun, ◌▷◌, Begins, same, longer}
use Rattle.realm.specs.Sessions.{who, IsHistory}
use Rattle.realm.specs.Yield.{owed, yield, admits_who}
use Rattle.realm.specs.Laws.{EachEvent, BeginsList, IsAmong, OwedOnlyGrows, EventsAreAdmitted, EventsWhileSubscribed}
use Rattle.realm.specs.DueEvents.{EventsAreDue, DueEventsAreGiven}
use Rattle.realm.specs.Given.{items_for}
use Rattle.realm_core.specs.Worlds.{Course}
use Rattle.realm_core.specs.Delivery.{CameOf, AreDue, TakesWhatIsDue, TakenBeginsOwed, AddedBeginsOwed, AllWasAdded, DeliversExactly}

nothing-there : (before after : List Item) (x : Item) → [] ≡ before ++ x ∷ after → ⊥
nothing-there [] after x e = cc
nothing-there (b ∷ before) after x e = cc

-- x stands in the first list or in the second
parted : (front back before after : List Item) (x : Item) → front ++ back ≡ before ++ x ∷ after
    → ((rest : List Item) × (front ≡ before ++ x ∷ rest)) ⊎ ((mine : List Item) × (before ≡ front ++ mine) × (back ≡ mine ++ x ∷ after))
parted [] back before after x e = inr (before, refl, e)
parted (f ∷ front) back [] after x e = inl (front, ap (λ z. z ∷ front) (ap (λ l. get_or l 0 f) e))
parted (f ∷ front) back (b ∷ before) after x e = elim (parted front back before after x (ap (drop 1) e)) [
  | inl there ↦ inl (there.0, ap (λ z. z ∷ front) (ap (λ l. get_or l 0 f) e) ∙ ap (λ l. b ∷ l) there.1)
  | inr here ↦ inr (here.0, ap (λ l. b ∷ l) here.1 ∙ ap (λ z. z ∷ (front ++ here.0)) (sym (ap (λ l. get_or l 0 f) e)), here.2)
]

pub came-of : (h : History) (c : ℕ) (before after : List Item) (x : Item) → owed h c ≡ before ++ x ∷ after → CameOf h c before x
came-of (begun grants) c before after x e = absurd (nothing-there before after x e)
came-of (h ▷ entry) c before after x e = elim (parted (owed h c) (yield h entry c) before after x e) [
  | inl there ↦
      (let old = came-of h c before there.0 x there.1 in
      record { earlier = old.earlier; entry = old.entry; begins = longer old.begins; same_entry = old.same_entry; later = old.later; yields = old.yields; place = old.place })
  | inr here ↦ record { earlier = h; entry = entry; begins = same; same_entry = here.0; later = after; yields = here.2; place = here.1 }
]

-- what holds of each EVENT holds of this one
of-each : (P : Publication → Type 0) (before after : List Item) (n : ℕ) (p : Publication) (with_topic retained : Bool) → EachEvent P (before ++ Event n p with_topic retained ∷ after) → P p
of-each P [] after n p with_topic retained each = each.0
of-each P (x ∷ before) after n p with_topic retained each = of-each P before after n p with_topic retained each.1

history-before : (h k : History) → Begins h k → IsHistory k → IsHistory h
history-before h k same is_history = is_history
history-before h (k ▷ e) (longer begins) is_history = history-before h k begins is_history.0

pub takes-what-is-due : EventsAreAdmitted → EventsWhileSubscribed → (w : Course) → IsHistory w.history → TakenBeginsOwed w → TakesWhatIsDue w
takes-what-is-due admitted subscribed w is_history begins c n p with_topic retained before after taken =
    let b = begins c in
    let x = Event n p with_topic retained in
    let came = came-of w.history c before (after ++ b.0) x (b.1 ∙ ap (λ l. l ++ b.0) taken ∙ append_assoc before (x ∷ after) b.0) in
    let was = history-before (came.earlier ▷ came.entry) w.history came.begins is_history in
    record {
      came = came;
      admitted = of-each (λ q. admits_who q (who came.earlier c) ≡ true) came.same_entry came.later n p with_topic retained
          (subst (EachEvent (λ q. admits_who q (who came.earlier c) ≡ true)) came.yields (admitted came.earlier came.entry c));
      subscribed = subscribed came.earlier came.entry c n p with_topic retained came.same_entry came.later was.0 came.yields;
    }

-- the EVENTs of what is owed, and of each beginning of it, are due
among-middle : (x : Item) (xs ys : List Item) → IsAmong x (xs ++ x ∷ ys)
among-middle x [] ys = inl refl
among-middle x (y ∷ xs) ys = inr (among-middle x xs ys)

are-due : EventsAreDue → (h : History) (c : ℕ) (items : List Item) → BeginsList items (owed h c) → AreDue h c items
are-due law h c items b n p with_topic marked before after is =
    let x = Event n p with_topic marked in
    let came = came-of h c before (after ++ b.0) x (b.1 ∙ ap (λ l. l ++ b.0) is ∙ append_assoc before (x ∷ after) b.0) in
    record {
      came = came;
      due =
          law came.earlier came.entry c n p with_topic marked
          (subst (λ l. IsAmong x l) (sym came.yields) (among-middle x came.same_entry came.later));
    }

pub delivers-exactly : EventsAreDue → DueEventsAreGiven → OwedOnlyGrows → (w : Course) → TakenBeginsOwed w → AddedBeginsOwed w
    → AllWasAdded w → DeliversExactly w
delivers-exactly law given grows w taken added all = record {
  taken = λ c. are-due law w.history c (items_for c w.taken) (taken c);
  added = λ c. are-due law w.history c (items_for c w.added) (added c);
  all = λ h e c x begins free owes.
      let more = grows (h ▷ e) w.history c begins in
      record {
        later = more.0;
        is = all c free ∙ more.1 ∙ append_assoc (owed h c) (yield h e c) more.0;
        once = given h e c x owes;
      };
}
