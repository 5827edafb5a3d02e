-- How the history keeps the order of the posts.
use Rattle.std.specs.Prelude.{◌≡◌, ◌⊎◌, ◌==◌, if◌then◌else◌, Option, ℕ, true, false, List, [], ◌∷◌, ◌++◌}
use mathlib.Core.Option.{some}
use lib.ListN.{get_elem?}
use Rattle.atomic_table.specs.Seated.{TableId}
use Rattle.wamp_ids.specs.Numbers.{seat_of}
use Rattle.realm.specs.declared.entry.Entry.{Entry}
use Rattle.realm.specs.Grants.{Grants}
use Rattle.realm.specs.History.{History, begun}
use Rattle.realm.specs.Sessions.{live}
use Rattle.realm.specs.Laws.{BeginsList}
use Rattle.realm.specs.PostedOrder.{said_by, AreSome, joins_first_alone}
use Rattle.realm_inbox.specs.declared.act.Act.{Act}
use Rattle.realm_inbox.specs.declared.letter.Post.{Post}
use Rattle.realm_inbox.specs.declared.letter.Post.TheVariants as post
use Rattle.realm_inbox.specs.declared.rule.InboxView.{InboxView}
use Rattle.realm_inbox.specs.declared.rule.InboxView.TheVariants.{Reader, Seat}
use Rattle.realm_inbox.specs.Seats.{conn_of_letter, act_of_letter, at_seat}
use Rattle.realm_inbox.specs.InTurn.{Keeps}
use Rattle.realm_actor.specs.ActorView.{Acting}
use Rattle.realm_actor.specs.Handle.{entry_of}
use Rattle.realm_actor.specs.HistoryGrowth.{MakesAll, was_closed}
use Rattle.realm_actor.specs.Run.{Ran}

module _ {S : Type 0} where
  -- the acts of c among these posts, the oldest first
  abbrev pub acts_of : ℕ → List (Post S) → List (Act S)
  acts_of c [] = []
  acts_of c (post.Act l ∷ ps) = if conn_of_letter l == c then act_of_letter l ∷ acts_of c ps else acts_of c ps
  acts_of c (post.Stop halt ∷ ps) = acts_of c ps

  -- the acts of c among what was posted at a seat
  abbrev pub acts_for : ℕ → List (ℕ × Act S) → List (Act S)
  acts_for c [] = []
  acts_for c (x ∷ xs) = if x.0 == c then x.1 ∷ acts_for c xs else acts_for c xs

  -- the entries of these acts of c, each by some word
  pub data AreEntries (c : ℕ) : List (Act S) → List Entry → Type 0 where
    none : AreEntries c [] []
    one_more : {acts : List (Act S)} {entries : List Entry} (act : Act S) (word : ℕ) → AreEntries c acts entries → AreEntries c (act ∷ acts) (entry_of c act word ∷ entries)

  -- Cut and Closed left aside, the entries of c are some of these acts, in their order, each once; where the first is its Join and no later one is a Join, they are a beginning of them
  pub record KeepsOrder (c : ℕ) (acts : List (Act S)) (h : History) : Type 0 where
    pub entries : List Entry
    pub are : AreEntries c acts entries
    pub some_of : AreSome (said_by c h) entries
    pub begins : joins_first_alone entries ≡ true → BeginsList (said_by c h) entries

  -- the same; and where they are a beginning, they are all of them if the session is live, or was closed since the history `from`
  pub record KeepsOrderSince (from : History) (c : ℕ) (acts : List (Act S)) (h : History) : Type 0 where
    pub entries : List Entry
    pub are : AreEntries c acts entries
    pub some_of : AreSome (said_by c h) entries
    pub begins : joins_first_alone entries ≡ true → BeginsList (said_by c h) entries
    pub all : joins_first_alone entries ≡ true → (live h c ≡ true) ⊎ ((was_closed c from ≡ false) × (was_closed c h ≡ true)) → said_by c h ≡ entries

-- of posts that were handled from an empty history on, the history keeps the order
abbrev pub HandledKeepsOrder : Type 0 → Type 0
HandledKeepsOrder S = (grants : Grants) (handled : List (Post S)) (h : History) → MakesAll (begun grants) handled h → (c : ℕ) → KeepsOrder c (acts_of c handled) h

-- where, seat by seat, what was received was handled: at every moment of the inbox the entries of c are some of what was posted for c at its seat, in that order, each once
abbrev pub HistoryKeepsOrder : Type 0 → Type 0
HistoryKeepsOrder S = (grants : Grants) (handled : List (Post S)) (h : History) → MakesAll (begun grants) handled h
    → (items : List (Post S)) (views : List (InboxView S)) (b : Option TableId) (reader seat n c : ℕ) (got : List (Post S)) (posted : List (ℕ × Act S)) → Keeps items views
    → get_elem? views reader ≡ some (Reader b n got) → get_elem? views seat ≡ some (Seat b (seat_of c) posted) → ((k : ℕ) → at_seat k handled ≡ at_seat k got)
    → KeepsOrder c (acts_for c posted) h

-- what a run makes of the history, and in which order
abbrev pub RunKeepsOrder : Type 0 → Type 0
RunKeepsOrder S = (grants : Grants) (before came : List (Post S)) (a z : Acting S) → MakesAll (begun grants) before a.history → Ran a came z
    → MakesAll (begun grants) (before ++ came) z.history × ((c : ℕ) → KeepsOrderSince a.history c (acts_of c (before ++ came)) z.history)
