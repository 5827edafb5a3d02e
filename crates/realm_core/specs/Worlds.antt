-- A realm, what waits round it, and what each step does.
use Rattle.std.specs.Prelude.{ℕ, Bool, true, false, ◌==◌, ◌≡◌, ◌≤◌, ◌<◌, ◌⊎◌, List, [], ◌∷◌, ◌++◌, length, drop}
use Rattle.std.specs.declared.option.Option.{Option}
use Rattle.std.specs.List.{list_any, filter}
use Rattle.wamp_messages.specs.declared.item.Item.{Item}
use Rattle.realm.specs.declared.entry.Entry.{Entry}
use Rattle.realm.specs.declared.entry.Entry.TheVariants as entries
use Rattle.realm_core.specs.declared.step.Step.{Step}
use Rattle.realm_core.specs.declared.step.Step.TheVariants.{Post, Accept, Lose, Push, Take, Leave}
use Rattle.realm_core.specs.declared.step.Stepped.{Stepped}
use Rattle.realm_core.specs.declared.step.Stepped.TheVariants.{Posted, Accepted, Dropped, Lost, Pushed, FoundFull, Took, Left, Idle}
use Rattle.realm.specs.Grants.{Grants}
use Rattle.realm.specs.History.{History, begun, ◌▷◌}
use Rattle.realm.specs.Sessions.{conn_of, live, may_come}
use Rattle.realm.specs.Given.{items_for, GivesExactly}

-- what is seen of a World
pub record Course : Type 0 where
  -- what happened to the realm
  pub history : History
  -- how many posts, and how many items of one session, may wait
  pub inbox_cap : ℕ
  pub outbox_cap : ℕ
  -- the posts that came, the oldest first; of them those that wait, and those that were lost
  pub posted : List Entry
  pub inbox : List Entry
  pub lost : List Entry
  -- the items that wait to be pushed
  pub pushing : List (ℕ × Item)
  -- the sessions that were found full
  pub full : List ℕ
  -- the items that were added to a session's queue, the oldest first, and those that were taken from one
  pub added : List (ℕ × Item)
  pub taken : List (ℕ × Item)

-- the world at the beginning
abbrev pub new_world : Grants → ℕ → ℕ → Course
new_world grants inbox_cap outbox_cap = record {
  history = begun grants;
  inbox_cap = inbox_cap;
  outbox_cap = outbox_cap;
  posted = [];
  inbox = [];
  lost = [];
  pushing = [];
  full = [];
  added = [];
  taken = [];
}

-- the queue of c: what was added for it and not taken yet
abbrev pub waiting : Course → ℕ → List Item
waiting w c = drop (length (items_for c w.taken)) (items_for c w.added)

abbrev pub is_in : ℕ → List ℕ → Bool
is_in c cs = list_any (λ d. d == c) cs

-- c was found full
abbrev pub was_full : Course → ℕ → Bool
was_full w c = is_in c w.full

-- the sessions that were found full and are still live
abbrev pub marked : Course → List ℕ
marked w = filter (λ c. live w.history c) w.full

pub record IsLeast (c : ℕ) (cs : List ℕ) : Type 0 where
  pub among : is_in c cs ≡ true
  pub least : (d : ℕ) → is_in d cs ≡ true → c ≤ d

-- these, unless there are any of those
abbrev pub unless_any : {X Y : Type 0} → List X → List Y → List Y
unless_any [] ys = ys
unless_any (x ∷ xs) ys = []

-- the sessions that are to be cut, unless any item waits to be pushed
abbrev pub may_leave : Course → List ℕ
may_leave w = unless_any w.pushing (marked w)

-- the posts that wait, unless any item waits to be pushed or any session is to be cut
abbrev pub may_enter : Course → List Entry
may_enter w = unless_any w.pushing (unless_any (marked w) w.inbox)

-- the entry e enters the history, and what it gives waits to be pushed
pub record Enters (w : Course) (e : Entry) (v : Course) : Type 0 where
  pub given : List (ℕ × Item)
  pub exactly : GivesExactly w.history e given
  pub after : v ≡ record w { history = w.history ▷ e; pushing = given }

-- a Cut of c enters, where c is live
abbrev pub EntersIfLive : Bool → Course → Entry → Course → Type 0
EntersIfLive true w e v = Enters w e v
EntersIfLive false w e v = v ≡ w

-- Post: the entry goes to the back of the inbox, unless that is full
abbrev pub Posts : Course → Entry → Stepped → Course → Type 0
Posts w e Posted v = (length w.inbox < w.inbox_cap) × (v ≡ record w { posted = w.posted ++ e ∷ []; inbox = w.inbox ++ e ∷ [] })
Posts w e Idle v = (w.inbox_cap ≤ length w.inbox) × (v ≡ w)
Posts w e _ v = ⊥

-- Accept: the front entry of the inbox enters, where it may come
abbrev pub Accepts : Course → Stepped → Course → Type 0
Accepts w Accepted v = (e : Entry) × (rest : List Entry) × (may_enter w ≡ e ∷ rest) × (may_come w.history e ≡ true) × Enters (record w { inbox = rest }) e v
Accepts w Dropped v = (e : Entry) × (rest : List Entry) × (may_enter w ≡ e ∷ rest) × (may_come w.history e ≡ false) × (v ≡ record w { inbox = rest })
Accepts w Idle v = (may_enter w ≡ []) × (v ≡ w)
Accepts w _ v = ⊥

-- Lose: the front entry of the inbox is lost, and its session is cut, if live
abbrev pub Loses : Course → Option ℕ → Stepped → Course → Type 0
Loses w word Lost v =
    (e : Entry) × (rest : List Entry) × (may_enter w ≡ e ∷ rest)
    × EntersIfLive (live w.history (conn_of e)) (record w { inbox = rest; lost = w.lost ++ e ∷ [] }) (entries.Cut (conn_of e) word) v
Loses w word Idle v = (may_enter w ≡ []) × (v ≡ w)
Loses w word _ v = ⊥

-- Push: the first item that waits to be pushed goes to the back of its session's queue; where that is full, the session is marked, and from then on none of its items is added
abbrev pub Pushes : Course → Stepped → Course → Type 0
Pushes w Pushed v =
    (c : ℕ) × (item : Item) × (rest : List (ℕ × Item)) × (w.pushing ≡ (c, item) ∷ rest)
    × (was_full w c ≡ false) × (length (waiting w c) < w.outbox_cap) × (v ≡ record w { pushing = rest; added = w.added ++ (c, item) ∷ [] })
Pushes w FoundFull v =
    (c : ℕ) × (item : Item) × (rest : List (ℕ × Item)) × (w.pushing ≡ (c, item) ∷ rest)
    × (((was_full w c ≡ true) × (v ≡ record w { pushing = rest }))
    ⊎ ((was_full w c ≡ false) × (w.outbox_cap ≤ length (waiting w c)) × (v ≡ record w { pushing = rest; full = w.full ++ c ∷ [] })))
Pushes w Idle v = (w.pushing ≡ []) × (v ≡ w)
Pushes w _ v = ⊥

-- Take: the front of c's queue is taken
abbrev pub Takes : Course → ℕ → Stepped → Course → Type 0
Takes w c (Took item) v = (rest : List Item) × (waiting w c ≡ item ∷ rest) × (v ≡ record w { taken = w.taken ++ (c, item) ∷ [] })
Takes w c Idle v = (waiting w c ≡ []) × (v ≡ w)
Takes w c _ v = ⊥

-- Leave: the least of the marked sessions is cut
abbrev pub Leaves : Course → Option ℕ → Stepped → Course → Type 0
Leaves w word Left v = (c : ℕ) × IsLeast c (may_leave w) × Enters w (entries.Cut c word) v
Leaves w word Idle v = (may_leave w ≡ []) × (v ≡ w)
Leaves w word _ v = ⊥

-- the step, whose case is named by `stepped`, makes v of w
abbrev pub Moves : Course → Step → Stepped → Course → Type 0
Moves w (Post e) stepped v = Posts w e stepped v
Moves w Accept stepped v = Accepts w stepped v
Moves w (Lose word) stepped v = Loses w word stepped v
Moves w Push stepped v = Pushes w stepped v
Moves w (Take c) stepped v = Takes w c stepped v
Moves w (Leave word) stepped v = Leaves w word stepped v

-- the steps, one after another, make v of w
abbrev pub Reaches : Course → List Step → Course → Type 0
Reaches w [] v = v ≡ w
Reaches w (step ∷ steps) v = (stepped : Stepped) × (u : Course) × Moves w step stepped u × Reaches u steps v

-- a schedule makes w of a new world
pub record IsReached (w : Course) : Type 0 where
  pub grants : Grants
  pub inbox_cap : ℕ
  pub outbox_cap : ℕ
  pub steps : List Step
  pub reaches : Reaches (new_world grants inbox_cap outbox_cap) steps w

-- e did not enter: all is as it was, or e waits in the inbox
abbrev pub StaysOut : Course → Entry → Course → Type 0
StaysOut w e v = (v ≡ w) ⊎ Posts w e Posted v

-- nothing but e entered: e did not either, or it did, and nothing else
abbrev pub EntersAtMost : Course → Entry → Course → Type 0
EntersAtMost w e v = StaysOut w e v ⊎ (v.history ≡ w.history ▷ e)
