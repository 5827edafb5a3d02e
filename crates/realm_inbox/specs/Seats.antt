-- What was posted at a seat, of a list of posts, and which post is the next of its seat.
use Rattle.std.specs.Prelude.{◌≡◌, Option, Some, ℕ, ◌+◌, ◌==◌, if◌then◌else◌, List, [], ◌∷◌, ◌++◌}
use Rattle.atomic_table.specs.Seated.{TableId}
use Rattle.wamp_ids.specs.Numbers.{seat_of}
use Rattle.realm_inbox.specs.declared.joining.Joining.{Joining}
use Rattle.realm_inbox.specs.declared.act.Act.{Act}
use Rattle.realm_inbox.specs.declared.act.Act.TheVariants.{Join}
use Rattle.realm_inbox.specs.declared.letter.Letter.{Letter}
use Rattle.realm_inbox.specs.declared.letter.Post.{Post}
use Rattle.realm_inbox.specs.declared.letter.Post.TheVariants as post
use Rattle.ghost_state.specs.GhostList.{items_of}

module _ {S : Type 0} where
  -- a Join brings an outbox of this connection
  abbrev pub BringsOwn : ℕ → Act S → Type 0
  BringsOwn c act = (joining : Joining S) → act ≡ Join joining → joining.outbox.conn ≡ c

  -- where a Join brings an outbox of a chronicle, it is this one
  abbrev pub BringsHome : Option TableId → Act S → Type 0
  BringsHome home act = (joining : Joining S) (chronicle : TableId) → act ≡ Join joining → joining.outbox.chronicle ≡ Some chronicle → home ≡ Some chronicle

  abbrev pub conn_of_letter : Letter S → ℕ
  conn_of_letter l = l.conn

  abbrev pub act_of_letter : Letter S → Act S
  act_of_letter l = l.act

  abbrev pub seat_of_letter : Letter S → ℕ
  seat_of_letter l = seat_of l.conn

  abbrev pub said : Letter S → ℕ × Act S
  said l = (l.conn, l.act)

  -- what had been posted at the letter's seat before it
  abbrev pub before : Letter S → List (ℕ × Act S)
  before l = items_of l.before.value

  -- what a post adds at the seat k. A stop stands at no seat
  abbrev pub adds_at : ℕ → Post S → List (ℕ × Act S)
  adds_at k (post.Act l) = if seat_of_letter l == k then said l ∷ [] else []
  adds_at k (post.Stop halt) = []

  -- what was posted at the seat k, of these posts, the oldest first
  abbrev pub at_seat : ℕ → List (Post S) → List (ℕ × Act S)
  at_seat k [] = []
  at_seat k (p ∷ ps) = adds_at k p ++ at_seat k ps

  abbrev pub adds_stops : Post S → ℕ
  adds_stops (post.Act l) = 0
  adds_stops (post.Stop halt) = 1

  -- how many of these posts are stops
  abbrev pub stops_of : List (Post S) → ℕ
  stops_of [] = 0
  stops_of (p ∷ ps) = adds_stops p + stops_of ps

  -- the post is the next of its seat after these: what had been posted there before it is what these are there
  abbrev pub IsNext : List (Post S) → Post S → Type 0
  IsNext ps (post.Act l) = before l ≡ at_seat (seat_of_letter l) ps
  IsNext ps (post.Stop halt) = Unit {0}

  -- each of the posts is the next of its seat after those before it
  abbrev pub InOrder : List (Post S) → List (Post S) → Type 0
  InOrder front [] = Unit {0}
  InOrder front (p ∷ ps) = IsNext front p × InOrder (front ++ p ∷ []) ps

  -- the same of a post
  abbrev pub IsHomed : Option TableId → Post S → Type 0
  IsHomed home (post.Act l) = BringsHome home (act_of_letter l)
  IsHomed home (post.Stop halt) = Unit {0}

  -- and of each of these posts
  abbrev pub EachHomed : Option TableId → List (Post S) → Type 0
  EachHomed home [] = Unit {0}
  EachHomed home (p ∷ ps) = IsHomed home p × EachHomed home ps
