-- What the ends of an inbox show.
use Rattle.std.specs.Prelude.{ℕ, ◌==◌, Bool, true, false, Option, None, List, []}
use Rattle.crossbeam_channel.specs.Claims.{Pass, view}
use Rattle.atomic_table.specs.Seated.{TableId}
use Rattle.atomic_table.specs.declared.badge.Badge.{Badge}
use Rattle.crossbeam_channel.specs.declared.flavors.array.Key.{Key}
use Rattle.realm_inbox.specs.declared.act.Act.{Act}
use Rattle.realm_inbox.specs.declared.letter.Post.{Post}
use Rattle.realm_inbox.specs.declared.rule.InboxView.{InboxView}
use Rattle.realm_inbox.specs.declared.rule.InboxView.TheVariants.{Reader, Seat, Door, Both, Shown, Heard, Nobody}

-- which inbox it is: its channel, by the names of that, and the chronicle of its realm, if one is picked
abbrev pub Place : Type 0 → Type 0
Place S = TableId × Badge (Key (Post S)) × Option TableId

module _ {S : Type 0} where
  -- the chronicle that the view knows
  abbrev pub home_in : InboxView S → Option TableId
  home_in (Reader b n got) = b
  home_in (Seat b k posted) = b
  home_in (Door b seen told) = b
  home_in (Both b n got c k posted) = b
  home_in (Shown b seen told c k posted) = b
  home_in (Heard b n got c seen told) = b
  home_in Nobody = None

  abbrev pub place_of : Pass (Post S) (InboxView S) → Place S
  place_of s = (s.table_id, s.me.0.of, home_in (view s))

  -- what a seat's view says was posted there
  abbrev pub posted_in : InboxView S → List (ℕ × Act S)
  posted_in (Reader b n got) = []
  posted_in (Seat b k posted) = posted
  posted_in (Door b seen told) = []
  posted_in (Both b n got c k posted) = posted
  posted_in (Shown b seen told c k posted) = posted
  posted_in (Heard b n got c seen told) = []
  posted_in Nobody = []

  -- what the reader's view says was received
  abbrev pub received_in : InboxView S → List (Post S)
  received_in (Reader b n got) = got
  received_in (Seat b k posted) = []
  received_in (Door b seen told) = []
  received_in (Both b n got c k posted) = got
  received_in (Shown b seen told c k posted) = []
  received_in (Heard b n got c seen told) = got
  received_in Nobody = []

  -- what the door's view says of the seats that it was shown: their numbers, and how many acts had been posted there
  abbrev pub shown_in : InboxView S → List (ℕ × ℕ)
  shown_in (Reader b n got) = []
  shown_in (Seat b k posted) = []
  shown_in (Door b seen told) = seen
  shown_in (Both b n got c k posted) = []
  shown_in (Shown b seen told c k posted) = seen
  shown_in (Heard b n got c seen told) = seen
  shown_in Nobody = []

  -- what the door's view says that its stops told
  abbrev pub told_in : InboxView S → List (List (ℕ × ℕ))
  told_in (Reader b n got) = []
  told_in (Seat b k posted) = []
  told_in (Door b seen told) = told
  told_in (Both b n got c k posted) = []
  told_in (Shown b seen told c k posted) = told
  told_in (Heard b n got c seen told) = told
  told_in Nobody = []

  -- which seat's view it is
  abbrev pub number_in : InboxView S → ℕ
  number_in (Reader b n got) = 0
  number_in (Seat b k posted) = k
  number_in (Door b seen told) = 0
  number_in (Both b n got c k posted) = k
  number_in (Shown b seen told c k posted) = k
  number_in (Heard b n got c seen told) = 0
  number_in Nobody = 0

  -- it is the view of the seat k
  abbrev pub is_seat : ℕ → InboxView S → Bool
  is_seat k (Reader b n got) = false
  is_seat k (Seat b j posted) = j == k
  is_seat k (Door b seen told) = false
  is_seat k (Both b n got c j posted) = false
  is_seat k (Shown b seen told c j posted) = false
  is_seat k (Heard b n got c seen told) = false
  is_seat k Nobody = false

  -- it is the reader's view, and n is the next number to be cut
  abbrev pub is_reader : ℕ → InboxView S → Bool
  is_reader n (Reader b m got) = m == n
  is_reader n (Seat b k posted) = false
  is_reader n (Door b seen told) = false
  is_reader n (Both b m got c k posted) = false
  is_reader n (Shown b seen told c k posted) = false
  is_reader n (Heard b m got c seen told) = false
  is_reader n Nobody = false

  abbrev pub is_door : InboxView S → Bool
  is_door (Reader b n got) = false
  is_door (Seat b k posted) = false
  is_door (Door b seen told) = true
  is_door (Both b n got c k posted) = false
  is_door (Shown b seen told c k posted) = false
  is_door (Heard b n got c seen told) = false
  is_door Nobody = false

  -- it is the reader's view
  abbrev pub reads_any : InboxView S → Bool
  reads_any (Reader b n got) = true
  reads_any (Seat b k posted) = false
  reads_any (Door b seen told) = false
  reads_any (Both b n got c k posted) = false
  reads_any (Shown b seen told c k posted) = false
  reads_any (Heard b n got c seen told) = false
  reads_any Nobody = false

  -- it is a seat's view
  abbrev pub posts_any : InboxView S → Bool
  posts_any (Reader b n got) = false
  posts_any (Seat b k posted) = true
  posts_any (Door b seen told) = false
  posts_any (Both b n got c k posted) = false
  posts_any (Shown b seen told c k posted) = false
  posts_any (Heard b n got c seen told) = false
  posts_any Nobody = false

  -- it is a view that may be lent to the reader: a seat's, or the door's
  abbrev pub lends_any : InboxView S → Bool
  lends_any (Reader b n got) = false
  lends_any (Seat b k posted) = true
  lends_any (Door b seen told) = true
  lends_any (Both b n got c k posted) = false
  lends_any (Shown b seen told c k posted) = false
  lends_any (Heard b n got c seen told) = false
  lends_any Nobody = false
