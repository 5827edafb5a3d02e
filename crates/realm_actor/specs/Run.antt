-- What an actor does with a post, and in a run.
use Rattle.std.specs.Prelude.{◌≡◌, ◌==◌, ◌⊎◌, ℕ, Bool, true, false, List, [], ◌∷◌, ◌++◌, filter, Option, None, Some, is_some}
use Rattle.atomic_table.specs.Seated.{TableId}
use Rattle.realm.specs.History.{History}
use Rattle.realm.specs.Sessions.{live}
use Rattle.realm_inbox.specs.declared.letter.Halt.{Halt}
use Rattle.realm_inbox.specs.declared.letter.Letter.{Letter}
use Rattle.realm_inbox.specs.declared.letter.Post.{Post}
use Rattle.realm_inbox.specs.declared.letter.Post.TheVariants as post
use Rattle.wamp_ids.specs.Numbers.{seat_of}
use Rattle.realm_inbox.specs.declared.act.Act.{Act}
use Rattle.realm_inbox.specs.Seats.{conn_of_letter, act_of_letter, seat_of_letter, before, at_seat}
use Rattle.realm_inbox.specs.Behind.{behind, HasAll}
use Rattle.realm_actor.specs.declared.outcome.Outcome.{Outcome}
use Rattle.realm_actor.specs.declared.outcome.Outcome.TheVariants.{Dropped}
use Rattle.realm_actor.specs.ActorView.{Acting, working_in}
use Rattle.realm_actor.specs.Handle.{is_dropped, Does}
use Rattle.realm_actor.specs.Stop.{Stops}
use Rattle.realm_actor.specs.Settle.{Sweeps}
use Rattle.realm_actor.specs.LastCut.{outbox_of}
use Rattle.realm_actor.specs.HistoryGrowth.{was_closed, said_of}
use Rattle.realm_actor.specs.Invariant.{Stands}

-- where a chronicle is picked for an inbox, it is this one
abbrev pub IsAt : TableId → Option TableId → Type 0
IsAt own home = (picked : TableId) → home ≡ Some picked → own ≡ picked

module _ {S : Type 0} where
  -- a post is dropped where its act is; a stop never is
  abbrev pub is_dropped_post : History → Post S → Bool
  is_dropped_post h (post.Act l) = is_dropped h (conn_of_letter l) (act_of_letter l)
  is_dropped_post h (post.Stop halt) = false

  abbrev pub DoesPost : Outcome → Post S → Acting S → Acting S → Type 0
  DoesPost result (post.Act l) old new = Does result l (working_in old) (working_in new) new.last_cut
  DoesPost result (post.Stop halt) old new = Stops result (working_in old) (working_in new) new.last_cut

  -- the acts at the seat k
  abbrev pub stands_at : ℕ → List (ℕ × Act S) → List (ℕ × Act S)
  stands_at k acts = filter (λ x. seat_of x.0 == k) acts

  -- the post is the next of its seat after these acts: what had been posted there before it is what these are there
  abbrev pub IsNextOf : List (ℕ × Act S) → Post S → Type 0
  IsNextOf acts (post.Act l) = before l ≡ stands_at (seat_of_letter l) acts
  IsNextOf acts (post.Stop halt) = Unit {0}

  -- what the handling of a post does, by its outcome; it is dropped exactly where it is to be; and the rows stand with the history
  -- afterwards
  pub record Handles (result : Outcome) (p : Post S) (old new : Acting S) : Type 0 where
    pub does : DoesPost result p old new
    pub dropped : is_dropped_post old.history p ≡ true → result ≡ Dropped
    pub stands : Stands new.history new.rows
    pub handled : new.handled ≡ old.handled ++ said_of p

  -- from `a` these posts of connections were handled, each after a sweep. No step begins with rows that nobody could have: a sweep leaves
  -- exactly the rows of live sessions, and after a post they stand with the history
  pub data Runs (a : Acting S) : List (Post S) → Acting S → Type 0 where
    none : Runs a [] a
    one_more : {came : List (Post S)} {b c d : Acting S} {result : Outcome} (l : Letter S) → Runs a came b → Sweeps b c → Handles result (post.Act l) c d → Runs a (came ++ post.Act l ∷ []) d

  -- a whole run: it ends with the first stop, or where nothing comes any more
  pub data Ran (a : Acting S) : List (Post S) → Acting S → Type 0 where
    left : {came : List (Post S)} {b c : Acting S} → Runs a came b → Sweeps b c → Ran a came c
    stopped : {came : List (Post S)} {b c d : Acting S} {result : Outcome} (halt : Halt) → Runs a came b → Sweeps b c → Handles result (post.Stop halt) c d → Ran a (came ++ post.Stop halt ∷ []) d

  abbrev pub is_stop : Post S → Bool
  is_stop (post.Act l) = false
  is_stop (post.Stop halt) = true

  -- the last of these posts, which came after `got`, is a stop. It comes behind all that its door was shown: that is among those before it
  abbrev pub EndsInStop : List (Post S) → List (Post S) → Type 0
  EndsInStop got came = (front : List (Post S)) × (halt : Halt) × (came ≡ front ++ post.Stop halt ∷ []) × HasAll (got ++ front) (behind halt)

  -- the acts are, seat by seat, what these posts are there
  abbrev pub SameAtSeats : List (ℕ × Act S) → List (Post S) → Type 0
  SameAtSeats acts ps = (k : ℕ) → stands_at k acts ≡ at_seat k ps

  -- who is live at the end, or was closed in between, is held, unless it was live and not held at the start
  abbrev pub KeepsHeld : Acting S → Acting S → Type 0
  KeepsHeld a z = (c : ℕ) → (live z.history c ≡ true) ⊎ ((was_closed c a.history ≡ false) × (was_closed c z.history ≡ true))
      → ((live a.history c ≡ true) × (outbox_of a.rows c ≡ None)) ⊎ (is_some (outbox_of z.rows c) ≡ true)
