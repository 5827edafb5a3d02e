-- What holds of every world that a schedule makes.
use Rattle.std.specs.Prelude.{ℕ, Bool, true, false, ◌==◌, ◌||◌, ◌≡◌, ◌≤◌, ◌⊎◌, List, [], ◌∷◌, ◌++◌, length}
use Rattle.std.specs.List.{list_any}
use Rattle.wamp_messages.specs.declared.item.Publication.{Publication}
use Rattle.wamp_messages.specs.declared.item.Item.{Item}
use Rattle.wamp_messages.specs.declared.item.Item.TheVariants.{Event}
use Rattle.realm.specs.declared.entry.Entry.{Entry}
use Rattle.realm.specs.declared.entry.Entry.TheVariants.{Cut}
use Rattle.realm_core.specs.declared.step.Step.{Step}
use Rattle.realm_core.specs.declared.step.Stepped.{Stepped}
use Rattle.realm.specs.Grants.{Grants}
use Rattle.realm.specs.History.{History, begun, ◌▷◌, Begins}
use Rattle.realm.specs.Sessions.{conn_of, who, IsHistory}
use Rattle.realm.specs.Yield.{owed, yield, admits_who}
use Rattle.realm.specs.Given.{items_for}
use Rattle.realm.specs.Laws.{BeginsList, is_subscribed, IsSubscribed}
use Rattle.realm.specs.DueEvents.{IsOwedEvent, StandsOnce}
use Rattle.realm.specs.PublisherOrder.{events_by, publications_of, IsInOrderOf}
use Rattle.realm_core.specs.Worlds.{Course, new_world, waiting, was_full, Moves, Reaches, IsReached}
use Rattle.realm_core.specs.PostedOrder.{KeepsPostedOrder}

abbrev pub taken_by : Course → ℕ → List Item
taken_by w c = items_for c w.taken

abbrev pub added_for : Course → ℕ → List Item
added_for w c = items_for c w.added

abbrev pub is_cut_of : ℕ → Entry → Bool
is_cut_of c (Cut d word) = d == c
is_cut_of c e = false

-- a Cut of c stands in the history
abbrev pub has_cut : History → ℕ → Bool
has_cut (begun grants) c = false
has_cut (h ▷ e) c = is_cut_of c e || has_cut h c

-- what each session's writer took is a beginning of what was added to its queue
abbrev pub TakenBeginsAdded : Course → Type 0
TakenBeginsAdded w = (c : ℕ) → BeginsList (taken_by w c) (added_for w c)

-- at most its capacity waits in a queue
abbrev pub QueuesKeepCapacity : Course → Type 0
QueuesKeepCapacity w = (c : ℕ) → length (waiting w c) ≤ w.outbox_cap

-- what was added to a session's queue is a beginning of what the realm's history owes it
abbrev pub AddedBeginsOwed : Course → Type 0
AddedBeginsOwed w = (c : ℕ) → BeginsList (added_for w c) (owed w.history c)

-- to a session that was not found full all that it is owed was added, but for what waits to be pushed
abbrev pub AllWasAdded : Course → Type 0
AllWasAdded w = (c : ℕ) → was_full w c ≡ false → added_for w c ++ items_for c w.pushing ≡ owed w.history c

-- a Cut stands in the history only for a session that was found full, of which a post was lost, or for which a Cut was posted
abbrev pub CutsHaveCauses : Course → Type 0
CutsHaveCauses w =
    (c : ℕ) → has_cut w.history c ≡ true
    → was_full w c || list_any (λ e. conn_of e == c) w.lost || list_any (is_cut_of c) w.posted ≡ true

-- what each session's writer took is a beginning of what the realm's history owes that session: every item once, in the history's order
abbrev pub TakenBeginsOwed : Course → Type 0
TakenBeginsOwed w = (c : ℕ) → BeginsList (taken_by w c) (owed w.history c)

-- all that is owed was added, unless the session was found full, once nothing waits to be pushed
abbrev pub AllIsThere : Course → Type 0
AllIsThere w = (c : ℕ) → was_full w c ≡ false → w.pushing ≡ [] → added_for w c ≡ owed w.history c

-- no EVENT was taken before the SUBSCRIBED of its subscription
abbrev pub TakesSubscribedFirst : Course → Type 0
TakesSubscribedFirst w =
    (c n : ℕ) (p : Publication) (with_topic retained : Bool) (before after : List Item)
    → taken_by w c ≡ before ++ Event n p with_topic retained ∷ after → list_any (is_subscribed n) before ≡ true

-- An entry of h gave c the item x: what c is owed before it is what the entries before owe it, and then what the same entry gave it before x.
pub record CameOf (h : History) (c : ℕ) (before : List Item) (x : Item) : Type 0 where
  pub earlier : History
  pub entry : Entry
  pub begins : Begins (earlier ▷ entry) h
  pub same_entry : List Item
  pub later : List Item
  pub yields : yield earlier entry c ≡ same_entry ++ x ∷ later
  pub place : before ≡ owed earlier c ++ same_entry

-- when the entry came, c was live, the publication admitted it, and it was subscribed: the same entry gave it SUBSCRIBED n before, or an earlier one did, and since then it neither unsubscribed nor ended
pub record WasDue (h : History) (c n : ℕ) (p : Publication) (before : List Item) (x : Item) : Type 0 where
  pub came : CameOf h c before x
  pub admitted : admits_who p (who came.earlier c) ≡ true
  pub subscribed : (list_any (is_subscribed n) came.same_entry ≡ true) ⊎ IsSubscribed came.earlier c n

-- each EVENT that was taken was due
abbrev pub TakesWhatIsDue : Course → Type 0
TakesWhatIsDue w =
    (c n : ℕ) (p : Publication) (with_topic retained : Bool) (before after : List Item)
    → taken_by w c ≡ before ++ Event n p with_topic retained ∷ after → WasDue w.history c n p before (Event n p with_topic retained)

-- an entry of h owed c the EVENT x, and gave it behind what c was owed before
pub record CameAsDue (h : History) (c : ℕ) (before : List Item) (x : Item) : Type 0 where
  pub came : CameOf h c before x
  pub due : IsOwedEvent came.earlier came.entry c x

-- each EVENT of these items, the first that c is owed, came of an entry that owed it
abbrev pub AreDue : History → ℕ → List Item → Type 0
AreDue h c items =
    (n : ℕ) (p : Publication) (with_topic marked : Bool) (before after : List Item)
    → items ≡ before ++ Event n p with_topic marked ∷ after → CameAsDue h c before (Event n p with_topic marked)

-- of these items x stands, once, among those that the entry e gave c, behind what h owes c
pub record HasInPlace (items : List Item) (h : History) (e : Entry) (c : ℕ) (x : Item) : Type 0 where
  pub later : List Item
  pub is : items ≡ owed h c ++ (yield h e c ++ later)
  pub once : StandsOnce x (yield h e c)

-- The EVENTs of each session are exactly those that are due: it is given no other, and, unless it was found full, each that an entry of the
-- history owes it was added, or waits to be pushed, once for that entry.
pub record DeliversExactly (w : Course) : Type 0 where
  pub taken : (c : ℕ) → AreDue w.history c (taken_by w c)
  pub added : (c : ℕ) → AreDue w.history c (added_for w c)
  pub all : (h : History) (e : Entry) (c : ℕ) (x : Item) → Begins (h ▷ e) w.history → was_full w c ≡ false → IsOwedEvent h e c x
      → HasInPlace (added_for w c ++ items_for c w.pushing) h e c x

-- the EVENTs that each session's writer took of what c published stand in the order in which c published, over all topics
abbrev pub TakesInPublishersOrder : Course → Type 0
TakesInPublishersOrder w = (c d : ℕ) → IsInOrderOf (events_by c (taken_by w d)) (publications_of c w.history)

-- What each session's writer took is a beginning of what the realm's history owes that session, and its EVENTs are exactly those that are
-- due, each publisher's in its order; all that is owed was added or waits to be pushed, unless the session was found full.
pub record Delivers (w : Course) : Type 0 where
  pub is_history : IsHistory w.history
  pub taken : TakenBeginsOwed w
  pub taken_of_added : TakenBeginsAdded w
  pub added_of_owed : AddedBeginsOwed w
  pub due : TakesWhatIsDue w
  pub exactly : DeliversExactly w
  pub publishers : TakesInPublishersOrder w
  pub subscribed_first : TakesSubscribedFirst w
  pub all_added : AllWasAdded w
  pub all_there : AllIsThere w
  pub cuts : CutsHaveCauses w
  pub order : KeepsPostedOrder w

-- P holds of every world that a schedule makes
abbrev pub Always : (Course → Type 0) → Type 0
Always P = (w : Course) → IsReached w → P w

-- a world and a step have one outcome
abbrev pub OneOutcome : Type 0
OneOutcome = (w u v : Course) (step : Step) (s t : Stepped) → Moves w step s u → Moves w step t v → (s ≡ t) × (u ≡ v)

-- over every schedule
abbrev pub DeliversOverEverySchedule : Type 0
DeliversOverEverySchedule =
    (grants : Grants) (inbox_cap outbox_cap : ℕ) (steps : List Step) (w : Course)
    → Reaches (new_world grants inbox_cap outbox_cap) steps w → Delivers w
