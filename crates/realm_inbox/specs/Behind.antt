-- What a stop comes behind: of each seat that its door was shown, as many acts as had been posted there.
use Rattle.std.specs.Prelude.{◌≡◌, ◌≢◌, ℕ, ◌≤◌, List, [], ◌∷◌, ◌++◌, length}
use Rattle.ghost_state.specs.GhostList.{items_of}
use Rattle.realm_inbox.specs.declared.letter.Halt.{Halt}
use Rattle.realm_inbox.specs.declared.letter.Post.{Post}
use Rattle.realm_inbox.specs.declared.letter.Post.TheVariants as post
use Rattle.realm_inbox.specs.Seats.{at_seat}

-- what a stop tells: the number of each seat that its door was shown, and how many acts had been posted there by then
abbrev pub behind : Halt → List (ℕ × ℕ)
behind halt = items_of halt.behind.value

module _ {S : Type 0} where
  -- of each of these seats these posts have so many acts, or more
  abbrev pub HasAll : List (Post S) → List (ℕ × ℕ) → Type 0
  HasAll ps [] = Unit {0}
  HasAll ps (s ∷ seats) = (s.1 ≤ length (at_seat s.0 ps)) × HasAll ps seats

  -- a stop comes behind these posts: of each seat that it tells they have as many acts. An act comes behind what its own seat has (IsNext)
  abbrev pub IsBehind : List (Post S) → Post S → Type 0
  IsBehind ps (post.Act l) = Unit {0}
  IsBehind ps (post.Stop halt) = HasAll ps (behind halt)

  -- each of the posts comes behind those before it
  abbrev pub EachBehind : List (Post S) → List (Post S) → Type 0
  EachBehind front [] = Unit {0}
  EachBehind front (p ∷ ps) = IsBehind front p × EachBehind (front ++ p ∷ []) ps

  -- each of these posts comes behind those that were taken
  abbrev pub AllBehind : List (Post S) → List (Post S) → Type 0
  AllBehind taken [] = Unit {0}
  AllBehind taken (p ∷ ps) = IsBehind taken p × AllBehind taken ps

  abbrev pub adds_told : Post S → List (List (ℕ × ℕ))
  adds_told (post.Act l) = []
  adds_told (post.Stop halt) = behind halt ∷ []

  -- what the stops among these posts tell, in their order
  abbrev pub told_by : List (Post S) → List (List (ℕ × ℕ))
  told_by [] = []
  told_by (p ∷ ps) = adds_told p ++ told_by ps
