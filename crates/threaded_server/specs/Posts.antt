-- What the streams posted that are over.
use Rattle.std.specs.Prelude.{◌≡◌, ◌⊎◌, ◌<◌, ◌+◌, ◌==◌, ℕ, List, [], Option, None, Some, drop, if◌then◌else◌, length, slice_get}
use Rattle.std.specs.List.{flat_map}
use Rattle.std.specs.Option.{option_flatten}
use Rattle.realm_inbox.specs.EndViews.{posted, poster_conn, received}
use Rattle.realm_inbox.specs.Seats.{at_seat}
use Rattle.realm_inbox.specs.declared.act.Act.{Act}
use Rattle.realm_inbox.specs.declared.ends.Poster.{Poster}
use Rattle.threaded_server.specs.declared.over.Over.{Over}
use Rattle.threaded_server.specs.declared.over.Over.TheVariants.{Seated, TurnedAway, Untouched}
use Rattle.threaded_server.specs.declared.realm_run.RealmRun.{RealmRun}
use Rattle.wamp_ids.specs.Numbers.{seat_of}

-- what was added to a list
abbrev pub since : {A : Type 0} → List A → List A → List A
since before now = drop (length before) now

module _ {S : Type 0} where
  -- what was posted by a poster of this seat, from when it was given to when it came back
  abbrev pub posts_between : ℕ → Option (Poster S) → Option (Poster S) → List (ℕ × Act S)
  posts_between number None back = []
  posts_between number (Some given) None = []
  posts_between number (Some given) (Some back) = if seat_of (poster_conn given) == number then since (posted given) (posted back) else []

module _ {I O S : Type 0} where
  -- what a stream posted at this seat, in the realm at this place
  abbrev pub posts_of : ℕ → ℕ → Over I O S → List (ℕ × Act S)
  posts_of realm number (Seated reader ended) = posts_between number (option_flatten (slice_get reader.value.posters.items realm)) (option_flatten (slice_get ended.value.posters.items realm))
  posts_of realm number (TurnedAway halves source sink) = []
  posts_of realm number (Untouched halves) = []

  -- what all of them did, each act with its connection, those first that were over first
  abbrev pub posts_at : ℕ → ℕ → List (Over I O S) → List (ℕ × Act S)
  posts_at realm number streams = flat_map (posts_of realm number) streams

  -- what each realm received of a seat, of 256, is what the streams posted there
  abbrev pub ReceivedPosted : List (RealmRun S) → List (Over I O S) → Type 0
  ReceivedPosted runs streams = (realm k : ℕ) (run : RealmRun S) → slice_get runs realm ≡ Some run → k < 256 → at_seat (k + 1) (received run.inbox.value) ≡ posts_at realm (k + 1) streams

module _ {P A : Type 0} (posted : P → List A) where
  -- these are as many posters as there will be realms; and of the first so many realms each is there, and what was posted by it is this
  pub record Say (whole count : ℕ) (said : ℕ → List A) (posters : List (Option P)) : Type 0 where
    pub long : length posters ≡ whole
    pub each : (i : ℕ) → i < count → (p : P) × (slice_get posters i ≡ Some (Some p)) × (posted p ≡ said i)

  -- such posters are at a place of one table, and nothing is there in the other
  pub record AreIn (whole count k : ℕ) (said : ℕ → ℕ → List A) (here there : List (Option (List (Option P)))) : Type 0 where
    pub posters : List (Option P)
    pub at : slice_get here k ≡ Some (Some posters)
    pub none : slice_get there k ≡ Some None
    pub say : Say whole count (λ realm. said realm (k + 1)) posters

  -- each seat is free, or taken, and its posters say what was posted there
  abbrev pub AllSay : ℕ → ℕ → (ℕ → ℕ → List A) → List (Option (List (Option P))) → List (Option (List (Option P))) → Type 0
  AllSay whole count said free taken = (k : ℕ) → k < 256 → AreIn whole count k said free taken ⊎ AreIn whole count k said taken free
