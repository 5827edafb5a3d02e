-- Posts that were taken from the channel and wait at their places until they are given.
use Rattle.std.specs.Prelude.{◌≡◌, Option, Some, None, ℕ, zero, suc, ◌==◌, if◌then◌else◌, List, [], ◌∷◌, ◌++◌}
use Rattle.atomic_table.specs.Seated.{TableId}
use Rattle.wamp_ids.specs.Numbers.{seat_of}
use Rattle.realm_inbox.specs.declared.letter.Post.{Post}
use Rattle.realm_inbox.specs.declared.seat_line.SeatLine.{SeatLine}
use Rattle.realm_inbox.specs.declared.seat_lines.SeatLines.{SeatLines}
use Rattle.realm_inbox.specs.declared.letter.Post.TheVariants as post
use Rattle.realm_inbox.specs.Seats.{at_seat, InOrder, EachHomed}
use Rattle.realm_inbox.specs.Behind.{AllBehind, told_by}

module _ {S : Type 0} where
  -- where a post waits: at its seat, and a stop, which stands at no seat, at 0
  abbrev pub place_of_post : Post S → ℕ
  place_of_post (post.Act l) = seat_of l.conn
  place_of_post (post.Stop halt) = 0

  -- the post, where it waits at the place k
  abbrev pub own_part : ℕ → Post S → List (Post S)
  own_part k p = if place_of_post p == k then p ∷ [] else []

  -- the post, where the place k is the one that it leaves
  abbrev pub first_part : ℕ → ℕ → Post S → List (Post S)
  first_part left k p = if left == k then p ∷ [] else []

  -- each of these posts waits at the place k
  abbrev pub AllAt : ℕ → List (Post S) → Type 0
  AllAt k [] = Unit {0}
  AllAt k (p ∷ ps) = (place_of_post p ≡ k) × AllAt k ps

  -- the line of the place k
  abbrev pub line_at : List (SeatLine S) → ℕ → List (Post S)
  line_at [] k = []
  line_at (l ∷ ls) zero = l.posts.items
  line_at (l ∷ ls) (suc k) = line_at ls k

  abbrev pub aside_at : ℕ → Option (Post S) → List (Post S)
  aside_at k None = []
  aside_at k (Some p) = own_part k p

  -- what waits at the place k: its line, and what stands aside for want of memory
  abbrev pub waiting_in : List (SeatLine S) → Option (Post S) → ℕ → List (Post S)
  waiting_in lines aside k = line_at lines k ++ aside_at k aside

  abbrev pub waiting : SeatLines S → ℕ → List (Post S)
  waiting l = waiting_in l.lines.items l.aside

  -- what waits at the place k is what was taken there and not given yet, in its order
  pub record Waits (home : Option TableId) (taken given : List (Post S)) (k : ℕ) (line : List (Post S)) : Type 0 where
    pub sum : at_seat k taken ≡ at_seat k given ++ at_seat k line
    pub in_order : InOrder given line
    pub homed : EachHomed home line
    pub own : AllAt k line
    pub behind : AllBehind taken line
    -- the stops wait at 0
    pub stops : k ≡ 0 → told_by taken ≡ told_by given ++ told_by line

  -- the same of each place
  abbrev pub IsDealt : Option TableId → List (Post S) → List (Post S) → (ℕ → List (Post S)) → Type 0
  IsDealt home taken given at = (k : ℕ) → Waits home taken given k (at k)
