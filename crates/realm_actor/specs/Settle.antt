-- The end of a session's outbox.
use Rattle.std.specs.Prelude.{◌≡◌, ◌≢◌, ◌<◌, ℕ, true, false, List, ◌++◌, length, filter, Option, Some, None, slice_get, set}
use mathlib.Core.List.{IsPrefix}
use Rattle.outbox_queue.specs.Ends.{Taking}
use Rattle.outbox_queue.specs.Tied.{Kept, history_of}
use Rattle.outbox_queue.specs.Rule.{Grows}
use Rattle.wamp_messages.specs.declared.item.Item.{Item}
use Rattle.realm.specs.History.{History, Begins}
use Rattle.realm.specs.Sessions.{live}
use Rattle.realm.specs.Yield.{owed}
use Rattle.realm_actor.specs.declared.row.Row.{Row}
use Rattle.realm_actor.specs.OutboxHistory.{Box}
use Rattle.realm_actor.specs.Rows.{box_in}
use Rattle.realm_actor.specs.LastCut.{outbox_of}
use Rattle.realm_actor.specs.ActorView.{Acting}

-- the drain is the other end of this outbox, which is held
abbrev pub IsOther : Taking Item (Kept History) → Option Box → Type 0
IsOther drain None = ⊥
IsOther drain (Some o) = o.queue ≡ drain.queue

-- what was taken, followed by the rest, is what was added, and the drain saw no history but one that begins the outbox's
pub record Joins (drain : Taking Item (Kept History)) (rest : List Item) (o : Box) : Type 0 where
  pub whole : drain.taken ++ rest ≡ o.added
  pub seen : Grows Begins (history_of drain.seen) (history_of o.history)

module _ {S : Type 0} where
  -- the row's outbox was put together with its drain, and is held no longer
  pub record Emptied (drain : Taking Item (Kept History)) (rest : List Item) (old new : Row S) : Type 0 where
    pub outbox : Box
    pub was : box_in old ≡ Some outbox
    pub joins : Joins drain rest outbox
    pub conn : new.conn ≡ old.conn
    pub is_cut : new.is_cut ≡ old.is_cut
    pub is_lost : new.is_lost ≡ old.is_lost
    pub was_lost : new.was_lost ≡ old.was_lost
    pub held : new.held ≡ None

  -- the row of c was emptied, and the others stay
  pub record EmptiesOne (c : ℕ) (drain : Taking Item (Kept History)) (rest : List Item) (olds news : List (Row S)) : Type 0 where
    pub place : ℕ
    pub old : Row S
    pub new : Row S
    pub stands : slice_get olds place ≡ Some old
    pub own : old.conn ≡ c
    pub emptied : Emptied drain rest old new
    pub after : news ≡ set olds place new

  -- the outbox of c was put together with its drain: what was taken, followed by the rest, is what was added; it begins what the
  -- realm's history owes c, and is all of that unless a step found the outbox full, since when nothing was added; what the drain
  -- saw begins the realm's history. The outbox is held no longer, and nothing else changed
  pub record Settles (c : ℕ) (drain : Taking Item (Kept History)) (rest : List Item) (old new : Acting S) : Type 0 where
    pub rows : EmptiesOne c drain rest old.rows new.rows
    pub outbox : Box
    pub was : outbox_of old.rows c ≡ Some outbox
    pub added : drain.taken ++ rest ≡ outbox.added
    pub begins : IsPrefix (drain.taken ++ rest) (owed old.history c)
    pub whole : outbox.full_finds ≡ 0 → drain.taken ++ rest ≡ owed old.history c
    pub stood : 0 < outbox.full_finds → length (drain.taken ++ rest) ≡ outbox.added_at_find
    pub seen : Grows Begins (history_of drain.seen) (Some old.history)
    pub gone : outbox_of new.rows c ≡ None
    pub others : (d : ℕ) → d ≢ c → outbox_of new.rows d ≡ outbox_of old.rows d
    pub history : new.history ≡ old.history
    pub words : new.words ≡ old.words
    pub last_cut : new.last_cut ≡ old.last_cut
    pub handled : new.handled ≡ old.handled

  -- p is the row o, and as it was where its session is live; else it holds no outbox any more
  pub record Parted (h : History) (o p : Row S) : Type 0 where
    pub conn : p.conn ≡ o.conn
    pub was_lost : p.was_lost ≡ o.was_lost
    pub lives : live h o.conn ≡ true → p ≡ o
    pub gone : live h o.conn ≡ false → p.held ≡ None

  abbrev pub EachParted : History → List (Row S) → List (Row S) → Type 0
  EachParted h olds news =
      (length news ≡ length olds)
      × ((k : ℕ) (o p : Row S) → slice_get olds k ≡ Some o → slice_get news k ≡ Some p → Parted h o p)

  -- only the sessions that are live are held, and these as before: their rows stay, and no others
  pub record Sweeps (old new : Acting S) : Type 0 where
    pub rows : new.rows ≡ filter (λ r. live old.history r.conn) old.rows
    pub lives : (c : ℕ) → live old.history c ≡ true → outbox_of new.rows c ≡ outbox_of old.rows c
    pub others : (c : ℕ) → live old.history c ≡ false → outbox_of new.rows c ≡ None
    pub history : new.history ≡ old.history
    pub words : new.words ≡ old.words
    pub last_cut : new.last_cut ≡ old.last_cut
    pub handled : new.handled ≡ old.handled
