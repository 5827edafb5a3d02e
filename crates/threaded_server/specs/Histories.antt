-- What a realm's history was made of, once its actor is over.
use Rattle.std.specs.Prelude.{◌≡◌, ◌≤◌, ◌+◌, ℕ, true, false, List, [], ◌∷◌, ◌++◌, Option, Some, length, slice_get}
use mathlib.Core.List.{IsPrefix}
use Rattle.atomic_table.specs.Seated.{TableId}
use Rattle.broker_config.specs.declared.config.Config.{Config}
use Rattle.broker_config.specs.declared.config.Ids.{Ids}
use Rattle.realm.specs.Grants.{Grants, pairs_of}
use Rattle.realm.specs.History.{History, begun, ◌▷◌}
use Rattle.realm.specs.Sessions.{IsHistory, live}
use Rattle.realm.specs.Yield.{owed}
use Rattle.realm.specs.declared.entry.Entry.TheVariants as entry
use Rattle.realm_actor.specs.Handle.{entry_of, is_dropped}
use Rattle.realm_inbox.specs.Behind.{HasAll, behind as told_by_stop}
use Rattle.realm_inbox.specs.Seats.{InOrder, act_of_letter, conn_of_letter, stops_of}
use Rattle.realm_inbox.specs.declared.act.Act.TheVariants.{Join}
use Rattle.realm_inbox.specs.declared.joining.Joining.{Joining}
use Rattle.realm_inbox.specs.declared.letter.Halt.{Halt}
use Rattle.realm_inbox.specs.declared.letter.Letter.{Letter}
use Rattle.realm_inbox.specs.declared.letter.Post.{Post}
use Rattle.realm_inbox.specs.declared.letter.Post.TheVariants.{Act, Stop}
use Rattle.threaded_server.specs.EntryWords.{HasWords}

-- what each realm begins with: an empty history with these grants on, and ids of this kind
pub record Start : Type 0 where
  pub grants : Grants
  pub ids : Ids

abbrev pub start_of : Config → Start
start_of config = record { grants = pairs_of config.grants.items; ids = config.ids }

-- a realm: the chronicle of its history, that history, and what it received, the oldest first: what its inbox gave until it was emptied
pub record Realm (S : Type 0) : Type 0 where
  pub chronicle : TableId
  pub history : History
  pub received : List (Post S)

module _ {S : Type 0} where
  -- one of these posts is a Join of the connection, and the history owes that as many items as the outbox holds which this Join brought, or more
  pub record FilledOutbox (posts : List (Post S)) (h : History) (c : ℕ) : Type 0 where
    pub letter : Letter S
    pub joining : Joining S
    pub place : ℕ
    pub stands : slice_get posts place ≡ Some (Act letter)
    pub own : conn_of_letter letter ≡ c
    pub joins : act_of_letter letter ≡ Join joining
    pub filled : joining.outbox.capacity ≤ length (owed h c)

  -- k is h, and then Cuts of sessions that have filled their outboxes
  pub data CutsOn (posts : List (Post S)) (h : History) : History → Type 0 where
    none : CutsOn posts h h
    one_more : {k : History} (c : ℕ) (word : Option ℕ) → CutsOn posts h k → FilledOutbox posts k c → CutsOn posts h (k ▷ entry.Cut c word)

  -- k is h, and then sessions that were live are closed, ascending, each below `next`, or cut instead, for want of memory
  pub data ClosesOn (posts : List (Post S)) (h : History) : ℕ → History → Type 0 where
    none : ClosesOn posts h 0 h
    closed : {next : ℕ} {k l : History} (c word : ℕ) → ClosesOn posts h next k → next ≤ c → live k c ≡ true → CutsOn posts (k ▷ entry.Closed c word) l → ClosesOn posts h (c + 1) l
    cut : {next : ℕ} {k l : History} (c : ℕ) (word : Option ℕ) → ClosesOn posts h next k → next ≤ c → live k c ≡ true → CutsOn posts (k ▷ entry.Cut c word) l → ClosesOn posts h (c + 1) l

  -- what a post makes of the history, where these posts were handled, and it is the last of them
  pub data HandlesOne (posts : List (Post S)) (h : History) : Post S → History → Type 0 where
    -- the act enters, by some word
    entered : {k : History} (l : Letter S) (word : ℕ) → is_dropped h (conn_of_letter l) (act_of_letter l) ≡ false → CutsOn posts (h ▷ entry_of (conn_of_letter l) (act_of_letter l) word) k → HandlesOne posts h (Act l) k
    -- a Join that may not join is dropped, and another act of one who isn't live
    dropped : (l : Letter S) → is_dropped h (conn_of_letter l) (act_of_letter l) ≡ true → HandlesOne posts h (Act l) h
    -- memory was refused for it: a Join is lost, and of another act the session is cut
    lost : (l : Letter S) → is_dropped h (conn_of_letter l) (act_of_letter l) ≡ false → live h (conn_of_letter l) ≡ false → HandlesOne posts h (Act l) h
    cut : {k : History} (l : Letter S) (word : Option ℕ) → is_dropped h (conn_of_letter l) (act_of_letter l) ≡ false → CutsOn posts (h ▷ entry.Cut (conn_of_letter l) word) k → HandlesOne posts h (Act l) k
    -- a stop closes
    stopped : {next : ℕ} {k : History} (halt : Halt) → ClosesOn posts h next k → HandlesOne posts h (Stop halt) k

  -- what posts make of it, one after another
  pub data HandlesAll (h : History) : List (Post S) → History → Type 0 where
    none : HandlesAll h [] h
    one_more : {posts : List (Post S)} {k l : History} (p : Post S) → HandlesAll h posts k → HandlesOne (posts ++ p ∷ []) k p l → HandlesAll h (posts ++ p ∷ []) l

  -- what was received before the first stop
  abbrev pub until_stop : List (Post S) → List (Post S)
  until_stop [] = []
  until_stop (Act l ∷ ps) = Act l ∷ until_stop ps
  until_stop (Stop halt ∷ ps) = []

  -- The history was made, from an empty one with these grants on, of what was received first: up to the first stop, and no further. Each post was the next of its seat; each entry could
  -- come when it came; and in the end nobody is live
  pub record IsMade (start : Start) (received : List (Post S)) (h : History) : Type 0 where
    pub until : List (Post S)
    pub halt : Halt
    pub first : IsPrefix (until ++ Stop halt ∷ []) received
    pub no_stop : stops_of until ≡ 0
    pub behind : HasAll until (told_by_stop halt)
    pub in_order : InOrder [] (until ++ Stop halt ∷ [])
    pub made : HandlesAll (begun start.grants) (until ++ Stop halt ∷ []) h
    pub legal : IsHistory h
    pub none_live : (c : ℕ) → live h c ≡ false
    pub words : HasWords start.ids h

  -- a realm's history was made of what it received
  abbrev pub IsRealm : Start → Realm S → Type 0
  IsRealm start realm = IsMade start realm.received realm.history
