-- What holds at every moment of an inbox, whatever its ends have done.
use Rattle.std.specs.Prelude.{◌≡◌, ℕ, ◌+◌, Option, List, ◌++◌, length}
use mathlib.Core.Option.{some}
use lib.ListN.{get_elem?}
use Rattle.atomic_table.specs.Seated.{TableId}
use Rattle.realm_inbox.specs.declared.act.Act.{Act}
use Rattle.realm_inbox.specs.declared.letter.Post.{Post}
use Rattle.realm_inbox.specs.declared.rule.InboxView.{InboxView}
use Rattle.realm_inbox.specs.declared.rule.InboxView.TheVariants.{Reader, Seat, Door}
use Rattle.realm_inbox.specs.Seats.{at_seat, stops_of, InOrder}
use Rattle.realm_inbox.specs.Behind.{EachBehind}
use Rattle.realm_inbox.specs.InTurn.{Keeps}

-- what was posted at a seat is what was received of it, and then what the channel holds of it
abbrev pub ReceivedBeginsPosted : Type 0 → Type 0
ReceivedBeginsPosted S = (items : List (Post S)) (views : List (InboxView S)) (b : Option TableId) (reader seat n k : ℕ) (got : List (Post S)) (posted : List (ℕ × Act S)) → Keeps items views
    → get_elem? views reader ≡ some (Reader b n got) → get_elem? views seat ≡ some (Seat b k posted) → posted ≡ at_seat k got ++ at_seat k items

-- as many stops were received as were posted, but for those that the channel holds
abbrev pub StopsReceivedWerePosted : Type 0 → Type 0
StopsReceivedWerePosted S = (items : List (Post S)) (views : List (InboxView S)) (b : Option TableId) (reader door n : ℕ) (got : List (Post S)) (seen : List (ℕ × ℕ)) (told : List (List (ℕ × ℕ))) → Keeps items views
    → get_elem? views reader ≡ some (Reader b n got) → get_elem? views door ≡ some (Door b seen told) → length told ≡ stops_of got + stops_of items

-- each post that the channel holds tells what had been posted at its seat before it: what was received of the seat, and then
-- what the channel holds of it in front of the post
abbrev pub WaitingPostsAreInOrder : Type 0 → Type 0
WaitingPostsAreInOrder S = (items : List (Post S)) (views : List (InboxView S)) (b : Option TableId) (reader n : ℕ) (got : List (Post S)) → Keeps items views
    → get_elem? views reader ≡ some (Reader b n got) → InOrder got items

-- each stop that the channel holds comes behind all that its door was shown: it was received, or the channel holds it in front of the stop
abbrev pub WaitingStopsComeBehind : Type 0 → Type 0
WaitingStopsComeBehind S = (items : List (Post S)) (views : List (InboxView S)) (b : Option TableId) (reader n : ℕ) (got : List (Post S)) → Keeps items views
    → get_elem? views reader ≡ some (Reader b n got) → EachBehind got items
