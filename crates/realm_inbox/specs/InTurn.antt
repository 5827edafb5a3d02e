-- The rule of an inbox: what was posted at a seat is what was received of it, and then what the channel holds of it. Each post in the channel tells what had been posted at its seat before it, and no Join brings an outbox of another chronicle than the inbox's. A stop comes behind all that its door was shown.
use Rattle.std.specs.Prelude.{◌≡◌, ℕ, ◌+◌, ◌<◌, ◌≤◌, Option, None, List, [], ◌∷◌, ◌++◌, length}
use mathlib.Core.Option.{some}
use mathlib.Core.List.{IsPrefix}
use lib.ListN.{get_elem?}
use Rattle.atomic_table.specs.Seated.{TableId}
use Rattle.realm_inbox.specs.declared.letter.Post.{Post}
use Rattle.realm_inbox.specs.declared.rule.InboxView.{InboxView}
use Rattle.realm_inbox.specs.declared.rule.InboxView.TheVariants.{Reader, Seat, Door, Both, Shown, Heard, Nobody}
use Rattle.realm_inbox.specs.Seats.{adds_at, at_seat, IsNext, InOrder, IsHomed, EachHomed}
use Rattle.realm_inbox.specs.Behind.{HasAll, IsBehind, EachBehind, told_by}

-- how an inbox stands: the chronicle of its realm, if one is picked, what was received of it and what was posted there, which seat has which pass, which is the reader's, and the next number to be cut
pub record Deal (S : Type 0) : Type 0 where
  pub home : Option TableId
  pub got : List (Post S)
  pub all : List (Post S)
  pub owner : ℕ → ℕ
  pub reader : ℕ
  pub next : ℕ

module _ {S : Type 0} where
  -- the view of the first pass, from which the door and the seats are cut
  abbrev pub fresh : InboxView S
  fresh = Reader None 0 []

  abbrev pub new_door : Option TableId → InboxView S
  new_door home = Door home [] []

  -- the reader's view once the door is cut from it, for the chronicle that is picked
  abbrev pub after_door : Option TableId → InboxView S → InboxView S
  after_door home (Reader b n got) = Reader home (n + 1) got
  after_door home (Seat b k posted) = Seat b k posted
  after_door home (Door b seen told) = Door b seen told
  after_door home (Both b n got c k posted) = Both b n got c k posted
  after_door home (Shown b seen told c k posted) = Shown b seen told c k posted
  after_door home (Heard b n got c seen told) = Heard b n got c seen told
  after_door home Nobody = Nobody

  -- the reader's view once the next number is cut from it
  abbrev pub after_cut : InboxView S → InboxView S
  after_cut (Reader b n got) = Reader b (n + 1) got
  after_cut (Seat b k posted) = Seat b k posted
  after_cut (Door b seen told) = Door b seen told
  after_cut (Both b n got c k posted) = Both b n got c k posted
  after_cut (Shown b seen told c k posted) = Shown b seen told c k posted
  after_cut (Heard b n got c seen told) = Heard b n got c seen told
  after_cut Nobody = Nobody

  -- the view of the seat that is cut next
  abbrev pub next_seat : InboxView S → InboxView S
  next_seat (Reader b n got) = Seat b n []
  next_seat (Seat b k posted) = Seat b k posted
  next_seat (Door b seen told) = Door b seen told
  next_seat (Both b n got c k posted) = Both b n got c k posted
  next_seat (Shown b seen told c k posted) = Shown b seen told c k posted
  next_seat (Heard b n got c seen told) = Heard b n got c seen told
  next_seat Nobody = Nobody

  -- a post grows the list of its seat
  abbrev pub after_post : InboxView S → Post S → InboxView S
  after_post (Reader b n got) p = Reader b n got
  after_post (Seat b k posted) p = Seat b k (posted ++ adds_at k p)
  after_post (Door b seen told) p = Door b seen told
  after_post (Both b n got c k posted) p = Both b n got c k posted
  after_post (Shown b seen told c k posted) p = Shown b seen told c k posted
  after_post (Heard b n got c seen told) p = Heard b n got c seen told
  after_post Nobody p = Nobody

  -- a stop tells what its door was shown
  abbrev pub after_stop : InboxView S → InboxView S
  after_stop (Reader b n got) = Reader b n got
  after_stop (Seat b k posted) = Seat b k posted
  after_stop (Door b seen told) = Door b seen (told ++ seen ∷ [])
  after_stop (Both b n got c k posted) = Both b n got c k posted
  after_stop (Shown b seen told c k posted) = Shown b seen told c k posted
  after_stop (Heard b n got c seen told) = Heard b n got c seen told
  after_stop Nobody = Nobody

  abbrev pub nobody : InboxView S
  nobody = Nobody

  -- the reader's view, and in the same hand a seat's or the door's
  abbrev pub beside_reader : Option TableId → ℕ → List (Post S) → InboxView S → InboxView S
  beside_reader b n got (Reader c m r) = Nobody
  beside_reader b n got (Seat c k posted) = Both b n got c k posted
  beside_reader b n got (Door c seen told) = Heard b n got c seen told
  beside_reader b n got (Both c m r d k posted) = Nobody
  beside_reader b n got (Shown c seen told d k posted) = Nobody
  beside_reader b n got (Heard c m r d seen told) = Nobody
  beside_reader b n got Nobody = Nobody

  -- the door's view, and in the same hand a seat's
  abbrev pub beside_door : Option TableId → List (ℕ × ℕ) → List (List (ℕ × ℕ)) → InboxView S → InboxView S
  beside_door b seen told (Reader c m r) = Nobody
  beside_door b seen told (Seat c k posted) = Shown b seen told c k posted
  beside_door b seen told (Door c s t) = Nobody
  beside_door b seen told (Both c m r d k posted) = Nobody
  beside_door b seen told (Shown c s t d k posted) = Nobody
  beside_door b seen told (Heard c m r d s t) = Nobody
  beside_door b seen told Nobody = Nobody

  -- a view that is lent is taken in: by the reader's, by the door's, or by nobody's
  abbrev pub beside : InboxView S → InboxView S → InboxView S
  beside (Reader b n got) w = beside_reader b n got w
  beside (Seat b k posted) w = Nobody
  beside (Door b seen told) w = beside_door b seen told w
  beside (Both b n got c k posted) w = Nobody
  beside (Shown b seen told c k posted) w = Nobody
  beside (Heard b n got c seen told) w = Nobody
  beside Nobody w = w

  -- what is left once the view goes that is lent. The door has seen then how many acts had been posted at the seat
  abbrev pub without_lent : InboxView S → InboxView S
  without_lent (Reader b n got) = Nobody
  without_lent (Seat b k posted) = Nobody
  without_lent (Door b seen told) = Nobody
  without_lent (Both b n got c k posted) = Reader b n got
  without_lent (Shown b seen told c k posted) = Door b (seen ++ (k, length posted) ∷ []) told
  without_lent (Heard b n got c seen told) = Reader b n got
  without_lent Nobody = Nobody

  -- the view that is lent: a seat's, or the door's to the reader
  abbrev pub lent_in : InboxView S → InboxView S
  lent_in (Reader b n got) = Nobody
  lent_in (Seat b k posted) = Seat b k posted
  lent_in (Door b seen told) = Door b seen told
  lent_in (Both b n got c k posted) = Seat c k posted
  lent_in (Shown b seen told c k posted) = Seat c k posted
  lent_in (Heard b n got c seen told) = Door c seen told
  lent_in Nobody = Nobody

  -- what was received of the seat begins what was posted there; what the stops told that were received begins what the door's told
  abbrev pub Agrees : InboxView S → Type 0
  Agrees (Reader b n got) = Unit {0}
  Agrees (Seat b k posted) = Unit {0}
  Agrees (Door b seen told) = Unit {0}
  Agrees (Both b n got c k posted) = IsPrefix (at_seat k got) posted
  Agrees (Shown b seen told c k posted) = Unit {0}
  Agrees (Heard b n got c seen told) = IsPrefix (told_by got) told
  Agrees Nobody = Unit {0}

  -- what was posted at the seat is what was received of it, and then what these are there
  abbrev pub AgreesWith : InboxView S → List (Post S) → Type 0
  AgreesWith (Reader b n got) items = Unit {0}
  AgreesWith (Seat b k posted) items = Unit {0}
  AgreesWith (Door b seen told) items = Unit {0}
  AgreesWith (Both b n got c k posted) items = posted ≡ at_seat k got ++ at_seat k items
  AgreesWith (Shown b seen told c k posted) items = Unit {0}
  AgreesWith (Heard b n got c seen told) items = Unit {0}
  AgreesWith Nobody items = Unit {0}

  -- what a receive tells: the post was received, and is the next of its seat; a stop comes behind what was received before
  abbrev pub Receipt : InboxView S → Post S → InboxView S → Type 0
  Receipt (Reader b n got) p w = (w ≡ Reader b n (got ++ p ∷ [])) × IsNext got p × IsHomed b p × IsBehind got p
  Receipt (Seat b k posted) p w = Unit {0}
  Receipt (Door b seen told) p w = Unit {0}
  Receipt (Both b n got c k posted) p w = (w ≡ Both b n (got ++ p ∷ []) c k posted) × IsNext got p × IsHomed b p × IsBehind got p
  Receipt (Shown b seen told c k posted) p w = Unit {0}
  Receipt (Heard b n got c seen told) p w = Unit {0}
  Receipt Nobody p w = Unit {0}

  abbrev pub dealt : Option TableId → List (Post S) → List (Post S) → (ℕ → ℕ) → ℕ → ℕ → Deal S
  dealt home got all owner reader next = record { home = home; got = got; all = all; owner = owner; reader = reader; next = next }

  -- The numbers below `next` were cut. The seat k has the pass `owner k`, and what was posted there is at_seat k of `all`; the door has the pass `owner 0`, its stops told what those of `all` tell, and what it has seen was posted; all know the chronicle
  abbrev pub Fits : Deal S → ℕ → InboxView S → Type 0
  Fits d pass (Reader b n r) = (pass ≡ d.reader) × (n ≡ d.next) × (r ≡ d.got) × (b ≡ d.home)
  Fits d pass (Seat b k posted) = (pass ≡ d.owner k) × (k < d.next) × (posted ≡ at_seat k d.all) × (b ≡ d.home)
  Fits d pass (Door b seen told) = (pass ≡ d.owner 0) × (0 < d.next) × (told ≡ told_by d.all) × HasAll d.all seen × (b ≡ d.home)
  Fits d pass (Both b n r c k posted) =
      ((pass ≡ d.reader) × (n ≡ d.next) × (r ≡ d.got) × (b ≡ d.home)) × (pass ≡ d.owner k) × (k < d.next) × (posted ≡ at_seat k d.all) × (c ≡ d.home)
  Fits d pass (Shown b seen told c k posted) =
      ((pass ≡ d.owner 0) × (0 < d.next) × (told ≡ told_by d.all) × HasAll d.all seen × (b ≡ d.home)) × (pass ≡ d.owner k) × (k < d.next) × (posted ≡ at_seat k d.all) × (c ≡ d.home)
  Fits d pass (Heard b n r c seen told) =
      ((pass ≡ d.reader) × (n ≡ d.next) × (r ≡ d.got) × (b ≡ d.home)) × (pass ≡ d.owner 0) × (0 < d.next) × (told ≡ told_by d.all) × HasAll d.all seen × (c ≡ d.home)
  Fits d pass Nobody = Unit {0}

  pub record Keeps (items : List (Post S)) (views : List (InboxView S)) : Type 0 where
    pub home : Option TableId
    pub got : List (Post S)
    pub owner : ℕ → ℕ
    pub reader : ℕ
    pub next : ℕ
    pub each_view : (pass : ℕ) (v : InboxView S) → get_elem? views pass ≡ some v → Fits (dealt home got (got ++ items) owner reader next) pass v
    pub no_post : (k : ℕ) → next ≤ k → at_seat k (got ++ items) ≡ []
    pub no_stop : next ≡ 0 → told_by (got ++ items) ≡ []
    pub in_order : InOrder got items
    pub homed : EachHomed home items
    pub behind : EachBehind got items
