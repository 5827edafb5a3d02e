-- The posters of connections: by seat, from 0, one of each realm.
use Rattle.std.specs.Prelude.{◌≡◌, ◌≢◌, ◌⊎◌, ◌≤◌, ◌<◌, ◌-◌, ◌+◌, ℕ, List, [], Option, None, Some, map, option_map, set, slice_get, slice_index_or}
use Rattle.std.specs.Option.{ForSome, option_flatten}
use Rattle.realm_inbox.specs.EndViews.{inbox_of_poster, inbox_of_seat, posted, posted_at, poster_conn, seat_number}
use Rattle.realm_inbox.specs.Ends.{Place}
use Rattle.realm_inbox.specs.declared.act.Act.{Act}
use Rattle.realm_inbox.specs.declared.ends.Poster.{Poster}
use Rattle.realm_inbox.specs.declared.ends.Seat.{Seat}
use Rattle.threaded_server.specs.declared.entry.Connection.{Connection}
use Rattle.threaded_server.specs.declared.poster_table.PosterTable.{PosterTable}
use Rattle.wamp_ids.specs.Numbers.{seat_of}

module _ {S : Type 0} where
  -- those of each seat that is free
  abbrev pub lists_of : PosterTable S → List (Option (List (Option (Poster S))))
  lists_of table = map (option_map (λ posters. posters.items)) table.slots.items

  -- the poster of the realm at this place
  abbrev pub poster_in : Option (List (Option (Poster S))) → ℕ → Option (Poster S)
  poster_in None realm = None
  poster_in (Some posters) realm = option_flatten (slice_get posters realm)

  -- and at this seat, from 0
  abbrev pub poster_at : List (Option (List (Option (Poster S)))) → ℕ → ℕ → Option (Poster S)
  poster_at slots k realm = poster_in (option_flatten (slice_get slots k)) realm

  -- each is of the inbox of the realm at its place
  abbrev pub AreAt : List (Place S) → List (Option (Poster S)) → Type 0
  AreAt places posters = (i : ℕ) (p : Poster S) → slice_get posters i ≡ Some (Some p) → slice_get places i ≡ Some (inbox_of_poster p)

  -- each is of this connection
  abbrev pub AreOf : ℕ → List (Option (Poster S)) → Type 0
  AreOf conn posters = (i : ℕ) (p : Poster S) → slice_get posters i ≡ Some (Some p) → poster_conn p ≡ conn

  -- each is of a connection of this seat
  abbrev pub AreOfSeat : ℕ → List (Option (Poster S)) → Type 0
  AreOfSeat number posters = (i : ℕ) (p : Poster S) → slice_get posters i ≡ Some (Some p) → seat_of (poster_conn p) ≡ number

  -- those of each seat are of connections of this seat, and each is of the inbox of the realm at its place
  abbrev pub Stand : List (Place S) → List (Option (List (Option (Poster S)))) → Type 0
  Stand places slots = (k : ℕ) (posters : List (Option (Poster S))) → slice_get slots k ≡ Some (Some posters) → AreAt places posters × AreOfSeat (k + 1) posters

  -- where a poster posts, and what was posted there
  abbrev pub seen_at : Option (Poster S) → Option (Place S × List (ℕ × Act S))
  seen_at slot = option_map (λ p. (inbox_of_poster p, posted p)) slot

  -- they are this connection's now
  pub record Relabels (conn : ℕ) (before now : List (Option (Poster S))) : Type 0 where
    pub seen : map seen_at now ≡ map seen_at before
    pub own : AreOf conn now

  -- one of them is
  pub record RelabelsAt (conn place : ℕ) (before now : List (Option (Poster S))) : Type 0 where
    pub slot : Option (Poster S)
    pub put : now ≡ set before place slot
    pub seen : seen_at slot ≡ seen_at (slice_index_or before place slot)
    pub own : ForSome slot (λ p. poster_conn p ≡ conn)

  -- those of a seat that was free are a connection's
  pub record IsTaken (conn : ℕ) (before : List (Option (List (Option (Poster S))))) (posters : List (Option (Poster S))) (now : List (Option (List (Option (Poster S))))) : Type 0 where
    pub were : List (Option (Poster S))
    pub there : slice_get before (seat_of conn - 1) ≡ Some (Some were)
    pub relabels : Relabels conn were posters
    pub left : now ≡ set before (seat_of conn - 1) None

  -- a seat's poster of one realm more is put in its place
  pub record Puts (realm : ℕ) (seat : Seat S) (before now : List (Option (List (Option (Poster S))))) : Type 0 where
    pub poster : Poster S
    pub inbox : inbox_of_poster poster ≡ inbox_of_seat seat
    pub number : seat_of (poster_conn poster) ≡ seat_number seat
    pub posted : posted poster ≡ posted_at seat
    pub put : now ≡ set before (seat_number seat - 1) (option_map (λ posters. set posters realm (Some poster)) (option_flatten (slice_get before (seat_number seat - 1))))

  -- the posters at the seat of this place, from 0, if any are there, have one of one realm more, by which nothing was posted
  pub record Gains (place : Place S) (realm k : ℕ) (before now : List (Option (List (Option (Poster S))))) : Type 0 where
    pub poster : Poster S
    pub inbox : inbox_of_poster poster ≡ place
    pub number : seat_of (poster_conn poster) ≡ k + 1
    pub posted : posted poster ≡ []
    pub slot : slice_get now k ≡ option_map (option_map (λ posters. set posters realm (Some poster))) (slice_get before k)

  -- those at each of 256 seats do
  pub record AllGain (place : Place S) (realm : ℕ) (before now : List (Option (List (Option (Poster S))))) : Type 0 where
    pub seats : (k : ℕ) → k < 256 → Gains place realm k before now
    pub others : (k : ℕ) → 256 ≤ k → slice_get now k ≡ slice_get before k

  -- the connection of a poster, where it posts, and what was posted there: all but what was returned to it, and by which weights it posted
  abbrev pub trace : Poster S → ℕ × Place S × List (ℕ × Act S)
  trace p = (poster_conn p, inbox_of_poster p, posted p)

  -- of each of a seat, of the one at a place, and of each of all seats
  abbrev pub traces : List (Option (Poster S)) → List (Option (ℕ × Place S × List (ℕ × Act S)))
  traces posters = map (option_map trace) posters

  abbrev pub trace_at : List (Option (List (Option (Poster S)))) → ℕ → ℕ → Option (ℕ × Place S × List (ℕ × Act S))
  trace_at slots k realm = option_map trace (poster_at slots k realm)

  abbrev pub traces_of : List (Option (List (Option (Poster S)))) → List (Option (List (Option (ℕ × Place S × List (ℕ × Act S)))))
  traces_of slots = map (option_map traces) slots

  -- posters with the traces of these are put at a place
  pub record PutsBack (place : ℕ) (posters : List (Option (Poster S))) (before now : List (Option (List (Option (Poster S))))) : Type 0 where
    pub back : List (Option (Poster S))
    pub same : traces back ≡ traces posters
    pub put : now ≡ set before place (Some back)

  -- it posts to this inbox, for a connection of this seat
  pub record IsOfInbox (place : Place S) (number : ℕ) (p : Poster S) : Type 0 where
    pub inbox : place ≡ inbox_of_poster p
    pub seat : seat_of (poster_conn p) ≡ number

  -- the poster of a realm at a seat is given up, if there is one, and no other
  pub record GivesUp (before : List (Option (List (Option (Poster S))))) (k realm : ℕ) (given : Option (Poster S)) (now : List (Option (List (Option (Poster S))))) : Type 0 where
    pub there : poster_at before k realm ≡ given
    pub others : (l i : ℕ) → (l ≢ k) ⊎ (i ≢ realm) → poster_at now l i ≡ poster_at before l i

module _ {I O S : Type 0} where
  -- those of each connection that is served, as its reader was given them
  abbrev pub lists_at : List (Option (Connection I O S)) → List (Option (List (Option (Poster S))))
  lists_at entries = map (option_map (λ entry. entry.began.value.posters.items)) entries
