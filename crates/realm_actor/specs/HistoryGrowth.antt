-- What posts make of a history.
use Rattle.std.specs.Prelude.{◌≡◌, ◌==◌, ◌||◌, ℕ, Bool, true, false, List, [], ◌∷◌, ◌++◌, Option}
use Rattle.realm.specs.declared.entry.Entry.TheVariants as entry
use Rattle.realm.specs.Grants.{Grants}
use Rattle.realm.specs.History.{History, begun, ◌▷◌}
use Rattle.realm.specs.Sessions.{live}
use Rattle.realm_inbox.specs.declared.act.Act.{Act}
use Rattle.realm_inbox.specs.declared.letter.Halt.{Halt}
use Rattle.realm_inbox.specs.declared.letter.Letter.{Letter}
use Rattle.realm_inbox.specs.declared.letter.Post.{Post}
use Rattle.realm_inbox.specs.declared.letter.Post.TheVariants as post
use Rattle.realm_inbox.specs.Seats.{said, conn_of_letter, act_of_letter}
use Rattle.realm_actor.specs.Handle.{entry_of, is_dropped}

-- k is h, and then Cuts
pub data AfterCuts : History → History → Type 0 where
  none : {h : History} → AfterCuts h h
  one_more : {h k : History} (c : ℕ) (word : Option ℕ) → AfterCuts h k → AfterCuts h (k ▷ entry.Cut c word)

-- k is h, and then Closeds of live sessions, and Cuts
pub data AfterClosing : History → History → Type 0 where
  none : {h : History} → AfterClosing h h
  closed : {h k : History} (c word : ℕ) → live k c ≡ true → AfterClosing h k → AfterClosing h (k ▷ entry.Closed c word)
  cut : {h k : History} (c : ℕ) (word : Option ℕ) → AfterClosing h k → AfterClosing h (k ▷ entry.Cut c word)

-- a Closed of c stands in the history
abbrev pub was_closed : ℕ → History → Bool
was_closed c (begun grants) = false
was_closed c (h ▷ entry.Closed d word) = d == c || was_closed c h
was_closed c (h ▷ e) = was_closed c h

module _ {S : Type 0} where
  -- what a post makes of the history
  pub data Makes : History → Post S → History → Type 0 where
    -- the act enters by some word, and then Cuts
    applied : {h k : History} (l : Letter S) (word : ℕ) → is_dropped h (conn_of_letter l) (act_of_letter l) ≡ false → AfterCuts (h ▷ entry_of (conn_of_letter l) (act_of_letter l) word) k → Makes h (post.Act l) k
    dropped : {h : History} (l : Letter S) → is_dropped h (conn_of_letter l) (act_of_letter l) ≡ true → Makes h (post.Act l) h
    -- memory was refused, and the session wasn't live
    lost : {h : History} (l : Letter S) → live h (conn_of_letter l) ≡ false → Makes h (post.Act l) h
    -- memory was refused, and the session is cut, and then Cuts
    cut : {h k : History} (l : Letter S) (word : Option ℕ) → AfterCuts (h ▷ entry.Cut (conn_of_letter l) word) k → Makes h (post.Act l) k
    -- live sessions are closed
    stopped : {h k : History} (halt : Halt) → AfterClosing h k → Makes h (post.Stop halt) k

  -- what posts make of it, one after another
  pub data MakesAll : History → List (Post S) → History → Type 0 where
    none : {h : History} → MakesAll h [] h
    one_more : {h k l : History} {ps : List (Post S)} (p : Post S) → MakesAll h ps k → Makes k p l → MakesAll h (ps ++ p ∷ []) l

  -- the act of a post, with its connection. A stop is of none
  abbrev pub said_of : Post S → List (ℕ × Act S)
  said_of (post.Act l) = said l ∷ []
  said_of (post.Stop halt) = []

  -- the acts of these posts, each with its connection
  abbrev pub acts_in : List (Post S) → List (ℕ × Act S)
  acts_in [] = []
  acts_in (p ∷ ps) = said_of p ++ acts_in ps

  -- the history is what these acts, and stops between them, made of it from the beginning on
  pub record IsMade (h : History) (acts : List (ℕ × Act S)) : Type 0 where
    pub grants : Grants
    pub posts : List (Post S)
    pub acts_are : acts ≡ acts_in posts
    pub made : MakesAll (begun grants) posts h
