-- What a connection posted, of what was received of its seat.
use Rattle.std.proofs.Common.{◌≡◌, ◌≢◌, ◌⊎◌, ◌<◌, ◌+◌, ℕ, zero, suc, Bool, true, false, cond, if◌then◌else◌, List, [], ◌∷◌, ◌++◌, Option, None, Some, map, length, length-append, slice_get, refl, sym, ap, ◌∙◌, append_assoc, append-nil, arith, inl, inr}
use Rattle.std.specs.Prelude.{◌==◌, ◌&&◌}
use Rattle.std.specs.List.{flat_map}
use Rattle.std.specs.Option.{option_to_list}
use Rattle.std.proofs.lemmas.Bool.{eq-eqb, ne_eqb}
use Rattle.std.proofs.lemmas.Grind.{flat_map-append}
use Rattle.std.proofs.lemmas.Option.{none-some, same_Some}
use mathlib.Core.List.{IsPrefix}
use Rattle.realm_inbox.specs.Seats.{adds_at, at_seat, conn_of_letter, said, seat_of_letter, stops_of}
use Rattle.realm_inbox.specs.declared.act.Act as the
use Rattle.realm_inbox.specs.declared.letter.Halt.{Halt}
use Rattle.realm_inbox.specs.declared.letter.Post.{Post}
use Rattle.realm_inbox.specs.declared.letter.Post.TheVariants.{Act, Stop}
use Rattle.server_laws.proofs.WholeSteps.{acts_by, acts_of}
use Rattle.threaded_server.proofs.Places.{get_more, same_or_other}
use Rattle.threaded_server.specs.Histories.{until_stop}
use Rattle.threaded_server.specs.SeatRules.{AscendAtSeats}
use Rattle.threaded_server.specs.Served.{LentStream, posts_by}
use Rattle.wamp_ids.specs.Numbers.{seat_of}

module _ {S : Type 0} where
  -- what a connection did, of acts each with its connection
  abbrev pub said_by : ℕ → List (ℕ × the.Act S) → List (the.Act S)
  said_by c [] = []
  said_by c (it ∷ more) = cond (it.0 == c) (it.1 ∷ []) [] ++ said_by c more

  said_more : (c : ℕ) (xs ys : List (ℕ × the.Act S)) → said_by c (xs ++ ys) ≡ said_by c xs ++ said_by c ys
  said_more c [] ys = refl
  said_more c (x ∷ xs) ys = ap (λ l. cond (x.0 == c) (x.1 ∷ []) [] ++ l) (said_more c xs ys) ∙ sym (append_assoc (cond (x.0 == c) (x.1 ∷ []) []) (said_by c xs) (said_by c ys))

  adds_said : (c : ℕ) (p : Post S) → acts_by c p ≡ said_by c (adds_at (seat_of c) p)
  adds_said c (Stop halt) = refl
  adds_said c (Act l) = by_conn (same_or_other (conn_of_letter l) c)
    where
      of_own : Bool → List (the.Act S)
      of_own b = said_by c (if b then said l ∷ [] else [])

      none : conn_of_letter l ≢ c → (b : Bool) → of_own b ≡ []
      none other true = ap (λ b. cond b (l.act ∷ []) [] ++ []) (ne_eqb (conn_of_letter l) c other)
      none other false = refl

      by_conn : (conn_of_letter l ≡ c) ⊎ (conn_of_letter l ≢ c) → cond (conn_of_letter l == c) (l.act ∷ []) [] ≡ of_own (seat_of_letter l == seat_of c)
      by_conn (inl same) = sym (append-nil (cond (conn_of_letter l == c) (l.act ∷ []) [])) ∙ sym (ap of_own (eq-eqb (seat_of_letter l) (seat_of c) (ap seat_of same)))
      by_conn (inr other) = ap (λ b. cond b (l.act ∷ []) []) (ne_eqb (conn_of_letter l) c other) ∙ sym (none other (seat_of_letter l == seat_of c))

  -- the acts of a connection are what it did at its seat
  pub acts_said : (c : ℕ) (ps : List (Post S)) → acts_of c ps ≡ said_by c (at_seat (seat_of c) ps)
  acts_said c [] = refl
  acts_said c (p ∷ ps) = ap (λ l. l ++ acts_of c ps) (adds_said c p) ∙ ap (λ l. said_by c (adds_at (seat_of c) p) ++ l) (acts_said c ps) ∙ sym (said_more c (adds_at (seat_of c) p) (at_seat (seat_of c) ps))

  said_own : (c : ℕ) (acts : List (the.Act S)) → said_by c (map (λ act. (c, act)) acts) ≡ acts
  said_own c [] = refl
  said_own c (act ∷ acts) = ap (λ b. cond b (act ∷ []) [] ++ said_by c (map (λ act. (c, act)) acts)) (eq-eqb c c refl) ∙ ap (λ l. act ∷ l) (said_own c acts)

  said_other : (c n : ℕ) → n ≢ c → (acts : List (the.Act S)) → said_by c (map (λ act. (n, act)) acts) ≡ []
  said_other c n other [] = refl
  said_other c n other (act ∷ acts) = ap (λ b. cond b (act ∷ []) [] ++ said_by c (map (λ act. (n, act)) acts)) (ne_eqb n c other) ∙ said_other c n other acts

  -- what is said before a stop, up to which there is none, is what is said before the first
  pub until_first : (until rest : List (Post S)) (halt : Halt) → stops_of until ≡ 0 → until_stop (until ++ Stop halt ∷ rest) ≡ until
  until_first [] rest halt none = refl
  until_first (Act l ∷ until) rest halt none = ap (λ ps. Act l ∷ ps) (until_first until rest halt (omega (arith, none)))
  until_first (Stop first ∷ until) rest halt none = absurd (omega (arith, none))

  -- a list that begins another and is as long as that and more behind it is the other
  no_more : (xs a b : List (the.Act S)) → (xs ++ a) ++ b ≡ xs → xs ++ a ≡ xs
  no_more xs a b e = ap (λ l. xs ++ l) (none a b (let one : length ((xs ++ a) ++ b) ≡ length (xs ++ a) + length b = length-append (xs ++ a) b in
      let two : length (xs ++ a) ≡ length xs + length a = length-append xs a in
      let long : length ((xs ++ a) ++ b) ≡ length xs = ap length e in
      omega (arith, one, two, long))) ∙ append-nil xs
    where
      none : (a b : List (the.Act S)) → length a + length b ≡ 0 → a ≡ []
      none [] b e = refl
      none (x ∷ a) b e = absurd (omega (arith, e))

later : (o : Option ℕ) (ns : List ℕ) (j c : ℕ) → slice_get ns j ≡ Some c → (k : ℕ) × (slice_get (option_to_list o ++ ns) k ≡ Some c)
later None ns j c at = (j, at)
later (Some n) ns j c at = (suc j, at)

tail_ascends : (o : Option ℕ) (ns : List ℕ) → AscendAtSeats (option_to_list o ++ ns) → AscendAtSeats ns
tail_ascends None ns h = h
tail_ascends (Some n) ns h = λ i j m k less at there same. h (suc i) (suc j) m k (omega (arith, less)) at there same

-- a number that stands first stands no further
first_alone : (o : Option ℕ) (ns : List ℕ) (c j : ℕ) → AscendAtSeats (option_to_list o ++ ns) → o ≡ Some c → slice_get ns j ≡ Some c → ⊥
first_alone None ns c j h e at = none-some c e
first_alone (Some n) ns c j h e at = let same = same_Some n c e in let less : n < c = h 0 (suc j) n c (omega arith) refl at (ap seat_of same) in omega (arith, less, same)

module _ {I O S : Type 0} where
  -- the numbers of those streams that have one
  abbrev pub numbers_of : List (LentStream I O S) → List ℕ
  numbers_of streams = flat_map (λ (s : LentStream I O S). option_to_list s.conn) streams

  -- what streams posted at a seat, in the realm at this place
  abbrev pub posts_there : ℕ → ℕ → List (LentStream I O S) → List (ℕ × the.Act S)
  posts_there realm seat streams = flat_map (λ (s : LentStream I O S). posts_by realm seat s s.conn) streams

  number_there : (streams : List (LentStream I O S)) (j c : ℕ) (s : LentStream I O S) → slice_get streams j ≡ Some s → s.conn ≡ Some c → (k : ℕ) × (slice_get (numbers_of streams) k ≡ Some c)
  number_there [] j c s at is = absurd (none-some s at)
  number_there (x ∷ xs) zero c s at is = (0, ap (λ (o : Option ℕ). slice_get (option_to_list o ++ numbers_of xs) 0) (ap (λ (y : LentStream I O S). y.conn) (same_Some x s at) ∙ is))
  number_there (x ∷ xs) (suc j) c s at is = let below = number_there xs j c s at is in later x.conn (numbers_of xs) below.0 c below.1

  other_posts : (realm seat c : ℕ) (s : LentStream I O S) (conn : Option ℕ) → (conn ≡ Some c → ⊥) → said_by c (posts_by realm seat s conn) ≡ []
  other_posts realm seat c s None other = refl
  other_posts realm seat c s (Some n) other = by_test (s.realm == realm && seat_of n == seat)
    where
      by_test : (b : Bool) → said_by c (if b then map (λ act. (n, act)) s.posted else []) ≡ []
      by_test true = said_other c n (λ same. other (ap Some same)) s.posted
      by_test false = refl

  own_posts : (realm c : ℕ) (s : LentStream I O S) → s.conn ≡ Some c → s.realm ≡ realm → said_by c (posts_by realm (seat_of c) s s.conn) ≡ s.posted
  own_posts realm c s is there =
      ap (λ (o : Option ℕ). said_by c (posts_by realm (seat_of c) s o)) is
      ∙ ap (λ b. said_by c (if b && seat_of c == seat_of c then map (λ act. (c, act)) s.posted else [])) (eq-eqb s.realm realm there)
      ∙ ap (λ b. said_by c (if b then map (λ act. (c, act)) s.posted else [])) (eq-eqb (seat_of c) (seat_of c) refl)
      ∙ said_own c s.posted

  none_posts : (realm seat c : ℕ) (streams : List (LentStream I O S)) → ((j : ℕ) → slice_get (numbers_of streams) j ≡ Some c → ⊥) → said_by c (posts_there realm seat streams) ≡ []
  none_posts realm seat c [] none = refl
  none_posts realm seat c (x ∷ xs) none =
      said_more c (posts_by realm seat x x.conn) (posts_there realm seat xs)
      ∙ ap (λ l. l ++ said_by c (posts_there realm seat xs)) (other_posts realm seat c x x.conn (λ is. none 0 (ap (λ (o : Option ℕ). slice_get (option_to_list o ++ numbers_of xs) 0) is)))
      ∙ none_posts realm seat c xs (λ j at. let more = later x.conn (numbers_of xs) j c at in none more.0 more.1)

  -- of what streams posted, what a connection posted is what its stream did
  pub stream_posts : (realm c : ℕ) (streams : List (LentStream I O S)) (j : ℕ) (s : LentStream I O S) → slice_get streams j ≡ Some s → s.conn ≡ Some c → s.realm ≡ realm → AscendAtSeats (numbers_of streams) → said_by c (posts_there realm (seat_of c) streams) ≡ s.posted
  stream_posts realm c [] j s at is there h = absurd (none-some s at)
  stream_posts realm c (x ∷ xs) zero s at is there h =
      said_more c (posts_by realm (seat_of c) x x.conn) (posts_there realm (seat_of c) xs)
      ∙ ap (λ l. said_by c (posts_by realm (seat_of c) x x.conn) ++ l) (none_posts realm (seat_of c) c xs (λ k there. first_alone x.conn (numbers_of xs) c k h (ap (λ (y : LentStream I O S). y.conn) (same_Some x s at) ∙ is) there))
      ∙ append-nil (said_by c (posts_by realm (seat_of c) x x.conn))
      ∙ ap (λ (y : LentStream I O S). said_by c (posts_by realm (seat_of c) y y.conn)) (same_Some x s at)
      ∙ own_posts realm c s is there
  stream_posts realm c (x ∷ xs) (suc j) s at is there h =
      said_more c (posts_by realm (seat_of c) x x.conn) (posts_there realm (seat_of c) xs)
      ∙ ap (λ l. l ++ said_by c (posts_there realm (seat_of c) xs)) (other_posts realm (seat_of c) c x x.conn (λ own. let more = number_there xs j c s at is in first_alone x.conn (numbers_of xs) c more.0 h own more.1))
      ∙ stream_posts realm c xs j s at is there (tail_ascends x.conn (numbers_of xs) h)

  numbers_begin : (early streams : List (LentStream I O S)) → IsPrefix early streams → AscendAtSeats (numbers_of streams) → AscendAtSeats (numbers_of early)
  numbers_begin early streams p h i j m n less at there same = h i j m n less (among i m at) (among j n there) same
    where
      whole : numbers_of streams ≡ numbers_of early ++ numbers_of p.0
      whole = ap numbers_of (sym p.1) ∙ flat_map-append (λ (s : LentStream I O S). option_to_list s.conn) early p.0

      among : (i m : ℕ) → slice_get (numbers_of early) i ≡ Some m → slice_get (numbers_of streams) i ≡ Some m
      among i m at = ap (λ ns. slice_get ns i) whole ∙ get_more (numbers_of early) (numbers_of p.0) i m at

  -- What a connection posted whose stream is among the early ones is what it posted before the stop, where what the early ones posted there begins that, and it begins what all posted there
  pub posted_whole : (realm c : ℕ) (early streams : List (LentStream I O S)) (j : ℕ) (s : LentStream I O S) (until more : List (ℕ × the.Act S)) → slice_get early j ≡ Some s → s.conn ≡ Some c → s.realm ≡ realm → IsPrefix early streams → AscendAtSeats (numbers_of streams)
      → IsPrefix (posts_there realm (seat_of c) early) until → until ++ more ≡ posts_there realm (seat_of c) streams → said_by c until ≡ s.posted
  posted_whole realm c early streams j s until more at is there begins h handled received =
      first ∙ no_more s.posted (said_by c handled.0) (said_by c more) (ap (λ l. l ++ said_by c more) (sym first) ∙ sym (said_more c until more) ∙ ap (said_by c) received ∙ stream_posts realm c streams j s in_all is there h)
    where
      in_all : slice_get streams j ≡ Some s
      in_all = ap (λ l. slice_get l j) (sym begins.1) ∙ get_more early begins.0 j s at

      first : said_by c until ≡ s.posted ++ said_by c handled.0
      first = ap (said_by c) (sym handled.1) ∙ said_more c (posts_there realm (seat_of c) early) handled.0 ∙ ap (λ l. l ++ said_by c handled.0) (stream_posts realm c early j s at is there (numbers_begin early streams begins h))
