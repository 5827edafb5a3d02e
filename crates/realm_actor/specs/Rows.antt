-- The rows of the actor's table, one for each session that is live or held.
use Rattle.std.specs.Prelude.{◌≡◌, ◌⊎◌, ℕ, ◌<◌, ◌≤◌, length, true, ⊤, List, Option, Some, None, MatchOption, option_map, slice_get}
use Rattle.wamp_messages.specs.declared.item.Item.{Item}
use Rattle.realm.specs.History.{History}
use Rattle.realm.specs.Given.{items_for}
use Rattle.realm_actor.specs.declared.row.Row.{Row}
use Rattle.realm_actor.specs.OutboxHistory.{Box, Follows, Goes, IsHome}
use Rattle.atomic_table.specs.Seated.{TableId}

-- what becomes of a row's outbox, if it is held, where items are offered
abbrev pub BoxGoes : Option Box → Option Box → Type 0
BoxGoes None None = ⊤
BoxGoes None (Some p) = ⊥
BoxGoes (Some o) None = ⊥
BoxGoes (Some o) (Some p) = Goes o p

-- the outbox was found full between the two
abbrev pub Rose : Option Box → Option Box → Type 0
Rose (Some o) (Some p) = o.full_finds < p.full_finds
Rose o p = ⊥

module _ {S : Type 0} where
  abbrev pub box_in : Row S → Option Box
  box_in r = option_map (λ e. e.outbox) r.held

  -- the items `due` are still to be added to the row's outbox, if it is held
  abbrev pub RowDue : History → List Item → Row S → Type 0
  RowDue h due r = MatchOption r.held ⊤ (λ e. Follows h due e.outbox)

  -- p is the row o after items were offered; it is marked as cut where it was, and where its outbox was found full
  pub record RowGoes (o p : Row S) : Type 0 where
    pub conn : p.conn ≡ o.conn
    pub box : BoxGoes (box_in o) (box_in p)
    pub still : o.is_cut ≡ true → p.is_cut ≡ true
    pub rose : Rose (box_in o) (box_in p) → p.is_cut ≡ true
    pub only : p.is_cut ≡ true → (o.is_cut ≡ true) ⊎ Rose (box_in o) (box_in p)
    pub is_lost : p.is_lost ≡ o.is_lost
    pub was_lost : p.was_lost ≡ o.was_lost

  -- P of each row
  abbrev pub Each : (Row S → Type 0) → List (Row S) → Type 0
  Each P rows = (k : ℕ) (r : Row S) → slice_get rows k ≡ Some r → P r

  -- where a chronicle is picked for the row's outbox, it is this one
  abbrev pub RowHome : TableId → Row S → Type 0
  RowHome own r = (o : Box) → box_in r ≡ Some o → IsHome own o

  -- the same of each row
  abbrev pub EachHome : TableId → List (Row S) → Type 0
  EachHome own rows = Each (RowHome own) rows

  -- ascending by connection, so that each connection stands once
  abbrev pub Ascending : List (Row S) → Type 0
  Ascending rows = (i j : ℕ) (r s : Row S) → i < j → slice_get rows i ≡ Some r → slice_get rows j ≡ Some s → r.conn < s.conn

  -- the rows before the place i are of lower connections than c, and no others
  abbrev pub PartsAt : List (Row S) → ℕ → ℕ → Type 0
  PartsAt rows c i =
      (i ≤ length rows)
      × ((k : ℕ) (r : Row S) → k < i → slice_get rows k ≡ Some r → r.conn < c)
      × ((k : ℕ) (r : Row S) → i ≤ k → slice_get rows k ≡ Some r → c ≤ r.conn)

  -- the row at the place i is that of c
  abbrev pub StandsAt : List (Row S) → ℕ → ℕ → Type 0
  StandsAt rows c i = (i < length rows) × (r : Row S) × (slice_get rows i ≡ Some r) × (r.conn ≡ c)

  -- each row has still to get what `given` has for it
  abbrev pub EachDue : History → List (ℕ × Item) → List (Row S) → Type 0
  EachDue h given rows = Each (λ r. RowDue h (items_for r.conn given) r) rows

  -- no row's outbox was found full between the two
  abbrev pub NoneRose : List (Row S) → List (Row S) → Type 0
  NoneRose olds news = (k : ℕ) (o p : Row S) → slice_get olds k ≡ Some o → slice_get news k ≡ Some p → Rose (box_in o) (box_in p) → ⊥

  -- each row went on
  abbrev pub EachGoes : List (Row S) → List (Row S) → Type 0
  EachGoes olds news =
      (length news ≡ length olds)
      × ((k : ℕ) (o p : Row S) → slice_get olds k ≡ Some o → slice_get news k ≡ Some p → RowGoes o p)
