-- Who is at the seats, while connections come and go.
use Rattle.std.proofs.Common.{◌≡◌, ◌≢◌, ◌≤◌, ◌<◌, ◌+◌, ◌-◌, ◌/◌, ◌&&◌, ◌==◌, ℕ, zero, suc, Bool, true, false, List, [], ◌∷◌, ◌++◌, Option, None, Some, All, length, length-append, length-set, get_or, replicate, set, slice_get, refl, sym, ap, ◌∙◌, subst, arith, nat_lt, if◌then◌else◌, map}
use mathlib.Core.Logic.{◌⊎◌, inl, inr}
use Rattle.std.proofs.Math.Logic.{∥∥₁_elim}
use Rattle.std.proofs.Math.Nat.{ℕ_set}
use Rattle.std.proofs.lemmas.Bool.{eq-eqb, ltb-false}
use Rattle.std.proofs.lemmas.List.{get_or-replicate, get_or-set_other, get_or-set_same, length-map, length-replicate}
use Rattle.std.proofs.lemmas.List.Sorted.{length_permutation}
use Rattle.std.proofs.lemmas.Option.{get_or_from_slice_get, none-some, same_Some, slice_get-get_or, slice_get_within}
use Rattle.threaded_server.specs.Seats.{Table, Takes, free_at, given_back, holds_number, number_at}
use Rattle.threaded_server.proofs.Numbering.{place_given, turn_given}
use Rattle.threaded_server.proofs.Places.{below, get_set, get_set_cases, same_or_other}
use Rattle.threaded_server.specs.Seating.{AreSeated, IsLastOf}
use Rattle.threaded_server.specs.Slots.{Balances, in_slots}
use Rattle.threaded_server.specs.declared.entry.Connection.{Connection}
use Rattle.wamp_ids.specs.Numbers.{seat_of}

true_not_false : true ≡ false → ⊥
true_not_false e = cc

-- within a list it doesn't matter what would be said past its end
either_way : (xs : List Bool) (k : ℕ) → k < length xs → get_or xs k true ≡ get_or xs k false
either_way xs k less = same_Some (get_or xs k true) (get_or xs k false) (sym (slice_get-get_or xs k true less) ∙ slice_get-get_or xs k false less)

-- a seat that gives a number isn't out
free_not_out : (t : Table) (k n : ℕ) → free_at t k ≡ Some n → get_or t.is_out k true ≡ false
free_not_out t k n e = by_out (get_or t.is_out k true) e
  where
    by_out : (b : Bool) → (if b then None else if nat_lt (number_at t k) 18446744073709551616 then Some (number_at t k) else None) ≡ Some n → b ≡ false
    by_out true f = absurd (none-some n f)
    by_out false f = refl

-- one that isn't out, and gives none, has none left
none_left_of : (t : Table) (k : ℕ) → get_or t.is_out k true ≡ false → free_at t k ≡ None → 18446744073709551616 ≤ number_at t k
none_left_of t k free e = by_limit (nat_lt (number_at t k) 18446744073709551616) refl (sym (ap (λ b. if b then None else if nat_lt (number_at t k) 18446744073709551616 then Some (number_at t k) else None) free) ∙ e)
  where
    by_limit : (b : Bool) → nat_lt (number_at t k) 18446744073709551616 ≡ b → (if b then Some (number_at t k) else None) ≡ None → 18446744073709551616 ≤ number_at t k
    by_limit true more f = absurd (none-some (number_at t k) (sym f))
    by_limit false more f = ltb-false (number_at t k) 18446744073709551616 more

-- each is true up to here, or one isn't
all_or_one : (is : ℕ → Bool) (n : ℕ) → ((k : ℕ) → k < n → is k ≡ true) ⊎ ((k : ℕ) × (k < n) × (is k ≡ false))
all_or_one is zero = inl (λ k less. absurd (omega (arith, less)))
all_or_one is (suc n) = by_last (is n) refl (all_or_one is n)
  where
    here : (k : ℕ) → k < suc n → (n ≡ k) ⊎ (n ≢ k) → is n ≡ true → ((j : ℕ) → j < n → is j ≡ true) → is k ≡ true
    here k less (inl same) e h = ap is (sym same) ∙ e
    here k less (inr other) e h = h k (below k n (omega (arith, less)) other)

    by_last : (b : Bool) → is n ≡ b → ((k : ℕ) → k < n → is k ≡ true) ⊎ ((k : ℕ) × (k < n) × (is k ≡ false)) → ((k : ℕ) → k < suc n → is k ≡ true) ⊎ ((k : ℕ) × (k < suc n) × (is k ≡ false))
    by_last b e (inr w) = inr (w.0, (let less = w.1 in omega (arith, less)), w.2)
    by_last true e (inl h) = inl (λ k less. here k less (same_or_other n k) e h)
    by_last false e (inl h) = inr (n, omega arith, e)

-- where no place is free, as much stands in the places as there are places
all_in_slots : {A : Type 0} (slots : List (Option A)) → ((k : ℕ) → slice_get slots k ≢ Some None) → length (in_slots slots) ≡ length slots
all_in_slots [] taken = refl
all_in_slots (None ∷ slots) taken = absurd (taken zero refl)
all_in_slots (Some a ∷ slots) taken = ap suc (all_in_slots slots (λ k. taken (suc k)))

-- as much came as went and is still there
pub balance_counts : {A B C : Type 0} (f : B → A) (g : C → A) (came : List A) (went : List B) (there : List C) → ∥ Balances came (map f went) (map g there) ∥₁ → length came ≡ length went + length there
balance_counts f g came went there h =
    let ups : length (map f went) ≡ length went = length-map went f in
    let downs : length (map g there) ≡ length there = length-map there g in
    ∥∥₁_elim h (ℕ_set _ _) (λ all. let whole = sym (length_permutation came (map f went ++ map g there) all) ∙ length-append (map f went) (map g there) in omega (arith, whole, ups, downs))

one_longer : {A : Type 0} (xs more : List A) (x : A) → more ≡ xs ++ x ∷ [] → length xs + 1 ≤ length more
one_longer xs more x e = let long = ap length e ∙ length-append xs (x ∷ []) in omega (arith, long)

module _ {I O S : Type 0} where
  -- As `AreSeated`, but for one place: nobody is there, and this number is out. So many numbers at most were given by a seat
  record IsOut (seats : Table) (entries : List (Option (Connection I O S))) (most place number : ℕ) : Type 0 where
    places : length entries ≡ 256
    long : length seats.is_out ≡ 256
    within : place < 256
    empty : slice_get entries place ≡ Some None
    free : (k : ℕ) → k ≢ place → slice_get entries k ≡ Some None → get_or seats.is_out k true ≡ false
    held : (k : ℕ) (entry : Connection I O S) → slice_get entries k ≡ Some (Some entry) → IsLastOf seats k entry.began.value.conn
    last : IsLastOf seats place number
    few : (k : ℕ) → get_or seats.given k 0 ≤ most

  elsewhere : (entries : List (Option (Connection I O S))) (place k : ℕ) (entry : Connection I O S) → slice_get entries place ≡ Some None → slice_get entries k ≡ Some (Some entry) → k ≢ place
  elsewhere entries place k entry empty at same = none-some entry (same_Some None (Some entry) (sym empty ∙ ap (slice_get entries) (sym same) ∙ at))

  -- nobody is at the place of a seat that isn't out
  nobody_there : (seats : Table) (entries : List (Option (Connection I O S))) (lent : List (I × O)) (k : ℕ) → k < 256 → get_or seats.is_out k true ≡ false → AreSeated seats entries lent → slice_get entries k ≡ Some None
  nobody_there seats entries lent k less free h = at ∙ ap Some (by_slot (get_or entries k None) at)
    where
      at : slice_get entries k ≡ Some (get_or entries k None)
      at = slice_get-get_or entries k None (subst (λ (n : ℕ). k < n) (sym h.places) less)

      by_slot : (o : Option (Connection I O S)) → slice_get entries k ≡ Some o → o ≡ None
      by_slot None e = refl
      by_slot (Some entry) e = absurd (true_not_false (sym (h.held k entry e).out ∙ sym (either_way seats.is_out k (subst (λ (n : ℕ). k < n) (sym h.long) less)) ∙ free))

  -- a number is taken
  took : (old now : Table) (n : ℕ) (entries : List (Option (Connection I O S))) (lent : List (I × O)) → length old.given ≡ 256 → (t : Takes old n now) → AreSeated old entries lent → IsOut now entries (length lent + 1) t.place n
  took old now n entries lent all t h = record {
    places = h.places;
    long = ap length t.is_out ∙ length-set old.is_out t.place true ∙ h.long;
    within = t.within;
    empty = empty;
    free = λ k other at. ap (λ l. get_or l k true) t.is_out ∙ get_or-set_other old.is_out t.place k true true other ∙ h.free k at;
    held = λ k entry at.
        let other = elsewhere entries t.place k entry empty at in
        let l = h.held k entry at in
        record {
          out = ap (λ l. get_or l k false) t.is_out ∙ get_or-set_other old.is_out t.place k true false other ∙ l.out;
          last = l.last ∙ sym (get_or-set_other old.given t.place k (count + 1) 0 other) ∙ sym (ap (λ l. get_or l k 0) t.given);
        };
    last = record {
      out = ap (λ l. get_or l t.place false) t.is_out ∙ get_or-set_same old.is_out t.place true false (subst (λ (m : ℕ). t.place < m) (sym h.long) t.within);
      last = ap (λ (m : ℕ). m + 1) (turn_given old now n t) ∙ sym (get_or-set_same old.given t.place (count + 1) 0 within) ∙ sym (ap (λ l. get_or l t.place 0) t.given);
    };
    few = λ k. subst (λ l. get_or l k 0 ≤ length lent + 1) (sym t.given) (by_place k (same_or_other t.place k));
  }
    where
      count : ℕ
      count = get_or old.given t.place 0

      within : t.place < length old.given
      within = subst (λ (m : ℕ). t.place < m) (sym all) t.within

      empty : slice_get entries t.place ≡ Some None
      empty = nobody_there old entries lent t.place t.within (free_not_out old t.place n t.free) h

      by_place : (k : ℕ) → (t.place ≡ k) ⊎ (t.place ≢ k) → get_or (set old.given t.place (count + 1)) k 0 ≤ length lent + 1
      by_place k (inl same) =
          let less = h.few t.place in
          subst (λ (m : ℕ). get_or (set old.given t.place (count + 1)) m 0 ≤ length lent + 1) same (subst (λ (m : ℕ). m ≤ length lent + 1) (sym (get_or-set_same old.given t.place (count + 1) 0 within)) (omega (arith, less)))
      by_place k (inr other) = let less = h.few k in subst (λ (m : ℕ). m ≤ length lent + 1) (sym (get_or-set_other old.given t.place k (count + 1) 0 (λ same. other (sym same)))) (omega (arith, less))

  -- the connection of the number that is out takes its place
  sits : (seats : Table) (n : ℕ) (entries : List (Option (Connection I O S))) (lent : List (I × O)) (most place : ℕ) (entry : Connection I O S) → entry.began.value.conn ≡ n → most ≤ length lent → IsOut seats entries most place n → AreSeated seats (set entries place (Some entry)) lent
  sits seats n entries lent most place entry number more h = record {
    places = length-set entries place (Some entry) ∙ h.places;
    long = h.long;
    free = λ k at. by_free k (get_set_cases entries place k (Some entry) None at);
    held = λ k other at. by_held k other (get_set_cases entries place k (Some entry) (Some other) at);
    few = λ k. let less = h.few k in omega (arith, less, more);
  }
    where
      by_free : (k : ℕ) → ((place ≡ k) × (Some entry ≡ None)) ⊎ ((place ≢ k) × (slice_get entries k ≡ Some None)) → get_or seats.is_out k true ≡ false
      by_free k (inl w) = absurd (none-some entry (sym w.1))
      by_free k (inr w) = h.free k (λ same. w.0 (sym same)) w.1

      by_held : (k : ℕ) (other : Connection I O S) → ((place ≡ k) × (Some entry ≡ Some other)) ⊎ ((place ≢ k) × (slice_get entries k ≡ Some (Some other))) → IsLastOf seats k other.began.value.conn
      by_held k other (inl w) = subst (λ (c : Connection I O S). IsLastOf seats k c.began.value.conn) (same_Some entry other w.1) (subst (λ (m : ℕ). IsLastOf seats k m) (sym number) (subst (λ (m : ℕ). IsLastOf seats m n) w.0 h.last))
      by_held k other (inr w) = h.held k other w.1

  -- the number that is out is given back
  gives_back : (seats : Table) (n : ℕ) (entries : List (Option (Connection I O S))) (lent : List (I × O)) (most place : ℕ) → seat_of n - 1 ≡ place → most ≤ length lent → IsOut seats entries most place n → AreSeated (given_back seats n) entries lent
  gives_back seats n entries lent most place at more h = record {
    places = h.places;
    long = ap length out ∙ length-set seats.is_out place false ∙ h.long;
    free = λ k there. ap (λ l. get_or l k true) out ∙ by_free k there (same_or_other k place);
    held = λ k entry there.
        let other = elsewhere entries place k entry h.empty there in
        let l = h.held k entry there in
        record { out = ap (λ l. get_or l k false) out ∙ get_or-set_other seats.is_out place k false false other ∙ l.out; last = l.last };
    few = λ k. let less = h.few k in omega (arith, less, more);
  }
    where
      holds : holds_number seats n ≡ true
      holds = ap (λ (k : ℕ). get_or seats.is_out k false && get_or seats.given k 0 == (n - 1) / 256 + 1) at ∙ ap (λ b. b && get_or seats.given place 0 == (n - 1) / 256 + 1) h.last.out ∙ eq-eqb (get_or seats.given place 0) ((n - 1) / 256 + 1) (sym h.last.last)

      out : (given_back seats n).is_out ≡ set seats.is_out place false
      out = ap (λ b. if b then set seats.is_out (seat_of n - 1) false else seats.is_out) holds ∙ ap (λ (k : ℕ). set seats.is_out k false) at

      by_free : (k : ℕ) → slice_get entries k ≡ Some None → (k ≡ place) ⊎ (k ≢ place) → get_or (set seats.is_out place false) k true ≡ false
      by_free k there (inl same) = subst (λ (m : ℕ). get_or (set seats.is_out place false) m true ≡ false) (sym same) (get_or-set_same seats.is_out place false true (subst (λ (m : ℕ). place < m) (sym h.long) h.within))
      by_free k there (inr other) = get_or-set_other seats.is_out place k false true other ∙ h.free k other there

  -- a connection leaves its place, and its number is out still
  leaves : (seats : Table) (entries : List (Option (Connection I O S))) (lent : List (I × O)) (place : ℕ) (entry : Connection I O S) → slice_get entries place ≡ Some (Some entry) → AreSeated seats entries lent → IsOut seats (set entries place None) (length lent) place entry.began.value.conn
  leaves seats entries lent place entry there h = record {
    places = length-set entries place None ∙ h.places;
    long = h.long;
    within = subst (λ (n : ℕ). place < n) h.places (slice_get_within entries place (Some entry) there);
    empty = get_set entries place (Some entry) None there;
    free = λ k other at. by_free k other (get_set_cases entries place k None None at);
    held = λ k one at. by_held k one (get_set_cases entries place k None (Some one) at);
    last = h.held place entry there;
    few = h.few;
  }
    where
      by_free : (k : ℕ) → k ≢ place → ((place ≡ k) × (let nobody : Option (Connection I O S) = None in nobody ≡ None)) ⊎ ((place ≢ k) × (slice_get entries k ≡ Some None)) → get_or seats.is_out k true ≡ false
      by_free k other (inl w) = absurd (other (sym w.0))
      by_free k other (inr w) = h.free k w.1

      by_held : (k : ℕ) (one : Connection I O S) → ((place ≡ k) × (None ≡ Some one)) ⊎ ((place ≢ k) × (slice_get entries k ≡ Some (Some one))) → IsLastOf seats k one.began.value.conn
      by_held k one (inl w) = absurd (none-some one w.1)
      by_held k one (inr w) = h.held k one w.1

  -- a seat gives its number to a connection, which takes its place
  pub seat_given : (old now : Table) (n : ℕ) (entries seated : List (Option (Connection I O S))) (lent more : List (I × O)) (halves : I × O) (place : ℕ) (entry : Connection I O S) → length old.given ≡ 256 → Takes old n now → place ≡ seat_of n - 1
      → entry.began.value.conn ≡ n → seated ≡ set entries place (Some entry) → more ≡ lent ++ halves ∷ [] → AreSeated old entries lent → AreSeated now seated more
  seat_given old now n entries seated lent more halves place entry all t at number e f h =
      let here : place ≡ t.place = at ∙ place_given old now n t in
      subst (λ (l : List (Option (Connection I O S))). AreSeated now l more) (sym (e ∙ ap (λ (k : ℕ). set entries k (Some entry)) here)) (sits now n entries more (length lent + 1) t.place entry number (one_longer lent more halves f) (took old now n entries lent all t h))

  -- or the number is given back, as the connection came to nothing
  pub seat_kept : (old between now : Table) (n : ℕ) (entries same : List (Option (Connection I O S))) (lent more : List (I × O)) (halves : I × O) → length old.given ≡ 256 → Takes old n between → now ≡ given_back between n
      → same ≡ entries → more ≡ lent ++ halves ∷ [] → AreSeated old entries lent → AreSeated now same more
  seat_kept old between now n entries same lent more halves all t back e f h =
      subst (λ (s : Table). AreSeated s same more) (sym back) (subst (λ (l : List (Option (Connection I O S))). AreSeated (given_back between n) l more) (sym e)
      (gives_back between n entries more (length lent + 1) t.place (place_given old between n t) (one_longer lent more halves f) (took old between n entries lent all t h)))

  -- nobody is at the place of a seat that gives a number
  pub free_place : (old now : Table) (n : ℕ) (entries : List (Option (Connection I O S))) (lent : List (I × O)) (place : ℕ) → Takes old n now → place ≡ seat_of n - 1 → AreSeated old entries lent → slice_get entries place ≡ Some None
  free_place old now n entries lent place t at h = subst (λ (k : ℕ). slice_get entries k ≡ Some None) (sym (at ∙ place_given old now n t)) (nobody_there old entries lent t.place t.within (free_not_out old t.place n t.free) h)

  -- a connection leaves, and its seat is free
  pub seat_left : (seats now : Table) (entries left : List (Option (Connection I O S))) (lent same : List (I × O)) (conn place : ℕ) (entry : Connection I O S) → slice_get entries place ≡ Some (Some entry) → seat_of entry.began.value.conn ≡ place + 1
      → conn ≡ entry.began.value.conn → now ≡ given_back seats conn → left ≡ set entries place None → same ≡ lent → AreSeated seats entries lent → AreSeated now left same
  seat_left seats now entries left lent same conn place entry there seat number back e f h =
      let here : seat_of entry.began.value.conn - 1 ≡ place = omega (arith, seat) in
      let upto : length lent ≤ length lent = omega arith in
      subst (λ (s : Table). AreSeated s left same) (sym (back ∙ ap (given_back seats) number)) (subst (λ (l : List (I × O)). AreSeated (given_back seats entry.began.value.conn) left l) (sym f) (subst (λ (l : List (Option (Connection I O S))). AreSeated (given_back seats entry.began.value.conn) l lent) (sym e)
      (gives_back seats entry.began.value.conn (set entries place None) lent (length lent) place here upto (leaves seats entries lent place entry there h))))

  -- nobody comes or goes
  pub still_seated : (seats now : Table) (entries same : List (Option (Connection I O S))) (lent alike : List (I × O)) → now ≡ seats → same ≡ entries → alike ≡ lent → AreSeated seats entries lent → AreSeated now same alike
  still_seated seats now entries same lent alike d e f h =
      subst (λ (s : Table). AreSeated s same alike) (sym d) (subst (λ (l : List (Option (Connection I O S))). AreSeated seats l alike) (sym e) (subst (λ (l : List (I × O)). AreSeated seats entries l) (sym f) h))

  -- one more was lent, which takes no seat
  pub more_lent : (seats : Table) (entries same : List (Option (Connection I O S))) (lent more : List (I × O)) (halves : I × O) → same ≡ entries → more ≡ lent ++ halves ∷ [] → AreSeated seats entries lent → AreSeated seats same more
  more_lent seats entries same lent more halves e f h = subst (λ (l : List (Option (Connection I O S))). AreSeated seats l more) (sym e) (record {
    places = h.places;
    long = h.long;
    free = h.free;
    held = h.held;
    few = λ k. let less = h.few k in let long = one_longer lent more halves f in omega (arith, less, long);
  })

  -- nobody is there yet
  pub none_seated : (seats : Table) (entries : List (Option (Connection I O S))) (lent : List (I × O)) → seats.given ≡ replicate 256 0 → seats.is_out ≡ replicate 256 false → length entries ≡ 256 → All (λ slot. slot ≡ None) entries → AreSeated seats entries lent
  none_seated seats entries lent given out long nobody = record {
    places = long;
    long = ap length out ∙ length-replicate 256 false;
    free = λ k at. ap (λ l. get_or l k true) out ∙ get_or-replicate 256 k false true (subst (λ (n : ℕ). k < n) long (slice_get_within entries k None at));
    held = λ k entry at. absurd (none-some entry (sym (nobody k (Some entry) (slice_get_within entries k (Some entry) at)) ∙ get_or_from_slice_get entries k (Some entry) (Some entry) at));
    few = λ k. subst (λ l. get_or l k 0 ≤ length lent) (sym given) (nothing 256 k);
  }
    where
      nothing : (n k : ℕ) → get_or (replicate n 0) k 0 ≤ length lent
      nothing zero k = omega arith
      nothing (suc n) zero = omega arith
      nothing (suc n) (suc k) = nothing n k

  -- no seat is free: each is taken, or one gave all its numbers
  pub all_taken : (seats : Table) (entries : List (Option (Connection I O S))) (lent : List (I × O)) (over : ℕ) → ((k : ℕ) → k < 256 → free_at seats k ≡ None) → length lent ≡ over + length (in_slots entries) → AreSeated seats entries lent
      → (over + 256 ≤ length lent) ⊎ (72057594037927935 ≤ length lent)
  all_taken seats entries lent over full count h = by_seats (all_or_one (λ k. get_or seats.is_out k true) 256)
    where
      by_seats : ((k : ℕ) → k < 256 → get_or seats.is_out k true ≡ true) ⊎ ((k : ℕ) × (k < 256) × (get_or seats.is_out k true ≡ false)) → (over + 256 ≤ length lent) ⊎ (72057594037927935 ≤ length lent)
      by_seats (inl out) =
          let all = all_in_slots entries (λ k at. true_not_false (sym (out k (subst (λ (n : ℕ). k < n) h.places (slice_get_within entries k None at))) ∙ h.free k at)) ∙ h.places in
          inl (omega (arith, all, count))
      by_seats (inr w) =
          let past = none_left_of seats w.0 w.2 (full w.0 w.1) in
          let less = w.1 in
          let few = h.few w.0 in
          inr (omega (arith, past, less, few))
