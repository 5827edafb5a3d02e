-- A realm's history and the rows of its sessions.
use Rattle.std.specs.Prelude.{◌≡◌, ◌⊎◌, ℕ, Bool, true, false, cond, not, ◌==◌, ◌&&◌, ◌||◌, ◌<◌, ◌≤◌, length, ⊤, List, [], Option, Some, None, slice_get}
use Rattle.std.specs.List.{list_any}
use mathlib.Core.List.{IsPrefix}
use Rattle.realm.specs.declared.entry.Entry.{Entry}
use Rattle.realm.specs.History.{History, ◌▷◌}
use Rattle.realm.specs.Sessions.{live, joined, conn_of, IsHistory}
use Rattle.realm_inbox.specs.Over.{was_cut}
use Rattle.realm_actor.specs.declared.row.Row.{Row}
use Rattle.realm_actor.specs.declared.table.Table.{Table}
use Rattle.realm_actor.specs.OutboxHistory.{Box}
use Rattle.realm_actor.specs.Rows.{Rose, box_in, RowDue, Each, Ascending, StandsAt}

-- how a realm stands: its history, and the rows of its sessions
pub record Standing (S : Type 0) : Type 0 where
  pub history : History
  pub rows : List (Row S)

-- the same of a table's fields
abbrev pub standing : {S : Type 0} → Table S → Standing S
standing t = record { history = t.realm; rows = t.rows.items }

abbrev pub has_joined : History → ℕ → Bool
has_joined h c = list_any (λ x. x == c) (joined h)

-- the outbox, if it is held, is open where this is true, and closed elsewhere
abbrev pub IsOpen : Bool → Option Box → Type 0
IsOpen b None = ⊤
IsOpen b (Some o) = o.is_closed ≡ not b

-- p is o after an entry: the same queue; what was added only grows, not at all where o was found full before; it is found
-- full only where at least its capacity was added; and a closed one stays closed
pub record Went (o p : Box) : Type 0 where
  pub queue : p.queue ≡ o.queue
  pub capacity : p.capacity ≡ o.capacity
  pub conn : p.conn ≡ o.conn
  pub chronicle : p.chronicle ≡ o.chronicle
  pub added : IsPrefix o.added p.added
  pub finds : o.full_finds ≤ p.full_finds
  pub marked : 0 < o.full_finds → (p.added ≡ o.added) × (p.full_finds ≡ o.full_finds)
  pub room : o.full_finds < p.full_finds → o.capacity ≤ length p.added
  pub shut : o.is_closed ≡ true → p.is_closed ≡ true

abbrev pub BoxWent : Option Box → Option Box → Type 0
BoxWent None None = ⊤
BoxWent None (Some p) = ⊥
BoxWent (Some o) None = ⊥
BoxWent (Some o) (Some p) = Went o p

-- p is o, closed where `shut`
abbrev pub BoxEnds : Bool → Option Box → Option Box → Type 0
BoxEnds shut None None = ⊤
BoxEnds shut None (Some p) = ⊥
BoxEnds shut (Some o) None = ⊥
BoxEnds shut (Some o) (Some p) = p ≡ record o { is_closed = cond shut true o.is_closed }

-- e cuts nobody
abbrev pub CutsNobody : History → Entry → Type 0
CutsNobody h e = (c : ℕ) → was_cut (h ▷ e) c ≡ was_cut h c

-- a session with this outbox, if it is held, may be cut: the outbox was found full, or the session was lost
abbrev pub HasCause : Bool → Option Box → Type 0
HasCause was_lost None = ⊤
HasCause was_lost (Some o) = (0 < o.full_finds) ⊎ (was_lost ≡ true)

module _ {S : Type 0} where
  abbrev pub HasRow : List (Row S) → ℕ → Type 0
  HasRow rows c = (k : ℕ) × StandsAt rows c k

  -- p is the row o after an entry, marked as cut where it was, and where its outbox was found full
  pub record RowWent (o p : Row S) : Type 0 where
    pub conn : p.conn ≡ o.conn
    pub box : BoxWent (box_in o) (box_in p)
    pub still : o.is_cut ≡ true → p.is_cut ≡ true
    pub rose : Rose (box_in o) (box_in p) → p.is_cut ≡ true
    pub only : p.is_cut ≡ true → (o.is_cut ≡ true) ⊎ Rose (box_in o) (box_in p)
    pub is_lost : p.is_lost ≡ o.is_lost
    pub was_lost : p.was_lost ≡ o.was_lost

  abbrev pub EachWent : List (Row S) → List (Row S) → Type 0
  EachWent olds news =
      (length news ≡ length olds)
      × ((k : ℕ) (o p : Row S) → slice_get olds k ≡ Some o → slice_get news k ≡ Some p → RowWent o p)

  -- p is the row o, whose outbox is closed where it is that of c and c isn't live
  pub record RowEnds (c : ℕ) (is_live : Bool) (o p : Row S) : Type 0 where
    pub conn : p.conn ≡ o.conn
    pub is_cut : p.is_cut ≡ o.is_cut
    pub is_lost : p.is_lost ≡ o.is_lost
    pub was_lost : p.was_lost ≡ o.was_lost
    pub box : BoxEnds (not is_live && (c == o.conn)) (box_in o) (box_in p)

  abbrev pub EachEnds : ℕ → Bool → List (Row S) → List (Row S) → Type 0
  EachEnds c is_live olds news =
      (length news ≡ length olds)
      × ((k : ℕ) (o p : Row S) → slice_get olds k ≡ Some o → slice_get news k ≡ Some p → RowEnds c is_live o p)

  -- p is the row o, marked as lost where it is that of c
  pub record RowMarked (c : ℕ) (o p : Row S) : Type 0 where
    pub conn : p.conn ≡ o.conn
    pub held : p.held ≡ o.held
    pub is_cut : p.is_cut ≡ o.is_cut
    pub is_lost : p.is_lost ≡ o.is_lost || (c == o.conn)
    pub was_lost : p.was_lost ≡ o.was_lost || (c == o.conn)

  abbrev pub EachMarked : ℕ → List (Row S) → List (Row S) → Type 0
  EachMarked c olds news =
      (length news ≡ length olds)
      × ((k : ℕ) (o p : Row S) → slice_get olds k ≡ Some o → slice_get news k ≡ Some p → RowMarked c o p)

  -- nobody was cut for nothing: where the history cut the row's session, its outbox, if it is held, was found full, or it was
  -- lost; and one that was lost was cut
  pub record Accounts (h : History) (r : Row S) : Type 0 where
    pub cut : was_cut h r.conn ≡ true → HasCause r.was_lost (box_in r)
    pub lost : r.was_lost ≡ true → was_cut h r.conn ≡ true

  -- the rows are in step with the history: what was added to each held outbox begins what h owes its connection, and is all of
  -- that where it was never found full; it is open exactly where its session is live; each live session has a row; and nobody
  -- was cut for nothing
  pub record Sound (h : History) (rows : List (Row S)) : Type 0 where
    pub ascending : Ascending rows
    pub in_step : Each (λ r. RowDue h [] r) rows
    pub is_open : Each (λ r. IsOpen (live h r.conn) (box_in r)) rows
    pub joined : Each (λ r. has_joined h r.conn ≡ true) rows
    pub accounted : Each (λ r. Accounts h r) rows
    pub has_rows : (c : ℕ) → live h c ≡ true → HasRow rows c
    pub legal : IsHistory h

  -- the same before the entry e, whose connection may be one that joins by it; whom e cuts has its cause
  pub record Ready (e : Entry) (h : History) (rows : List (Row S)) : Type 0 where
    pub ascending : Ascending rows
    pub in_step : Each (λ r. RowDue h [] r) rows
    pub is_open : Each (λ r. IsOpen (live h r.conn || (conn_of e == r.conn)) (box_in r)) rows
    pub joined : Each (λ r. has_joined h r.conn || (conn_of e == r.conn) ≡ true) rows
    pub accounted : Each (λ r. Accounts (h ▷ e) r) rows
    pub has_rows : (c : ℕ) → live h c ≡ true → HasRow rows c
    pub own : HasRow rows (conn_of e)
    pub legal : IsHistory h

  -- the row of a connection that joins, with a new outbox of it
  pub record IsNewRow (c : ℕ) (r : Row S) : Type 0 where
    pub conn : r.conn ≡ c
    pub outbox : Box
    pub box : box_in r ≡ Some outbox
    pub of_conn : outbox.conn ≡ c
    pub empty : outbox.added ≡ []
    pub unseen : outbox.history ≡ None
    pub fresh : outbox.is_closed ≡ false
    pub never : outbox.full_finds ≡ 0
    pub is_cut : r.is_cut ≡ false
    pub is_lost : r.is_lost ≡ false
    pub was_lost : r.was_lost ≡ false
