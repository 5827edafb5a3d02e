-- The numbers of connections, while these come and go.
use Rattle.std.proofs.Common.{◌≡◌, ◌≢◌, ◌<◌, ◌+◌, ◌*◌, ◌-◌, ◌/◌, ◌%◌, ℕ, Bool, true, false, List, [], ◌∷◌, ◌++◌, Option, None, Some, All, IfOk, OnErr, Result, Ok, Err, append-nil, length, length-set, get_or, set, slice_get, refl, sym, ap, ◌∙◌, subst, arith, nat_lt, if◌then◌else◌}
use mathlib.Core.Logic.{◌⊎◌, inl, inr}
use Rattle.std.proofs.lemmas.Option.{get_or_from_slice_get, none-some, same_Some, slice_get_within}
use Rattle.std.proofs.lemmas.List.{get_or-set_same, get_or-set_other}
use Rattle.threaded_server.proofs.Places.{get_push_cases, get_set_cases, same_or_other}
use Rattle.std.proofs.lemmas.Grind.{flat_map-append}
use Rattle.std.specs.declared.snapshot.Snapshot.{Snapshot}
use Rattle.threaded_server.specs.Seats.{Table, Takes, free_at, given_back, number_at}
use Rattle.threaded_server.specs.SeatRules.{AscendAtSeats}
use Rattle.threaded_server.specs.Conns.{IsGiven, IsNew, IsNumbered, Numbered, conn_of, conns_of}
use Rattle.threaded_server.specs.Posters.{AreOf}
use Rattle.threaded_server.specs.declared.entry.Connection.{Connection}
use Rattle.threaded_server.specs.declared.over.Over.{Over}
use Rattle.threaded_server.specs.declared.over.Over.TheVariants.{Seated}
use Rattle.broker_threads.specs.declared.reader_thread.Ended.{Ended}
use Rattle.broker_threads.specs.declared.reader_thread.Reader.{Reader}
use Rattle.wamp_ids.specs.Numbers.{seat_of}

-- one number more, above those of its seat
pub one_ascends : (numbers now : List ℕ) (n : ℕ) → now ≡ numbers ++ n ∷ [] → ((i m : ℕ) → slice_get numbers i ≡ Some m → seat_of m ≡ seat_of n → m < n) → AscendAtSeats numbers → AscendAtSeats now
one_ascends numbers now n e above h i j m k less at there same = by_place (get_push_cases numbers n m i (ap (λ l. slice_get l i) (sym e) ∙ at)) (get_push_cases numbers n k j (ap (λ l. slice_get l j) (sym e) ∙ there))
  where
    behind : i ≡ length numbers → j < length numbers + 1 → ⊥
    behind last within = omega (arith, less, last, within)

    by_place : ((i ≡ length numbers) × (n ≡ m)) ⊎ (slice_get numbers i ≡ Some m) → ((j ≡ length numbers) × (n ≡ k)) ⊎ (slice_get numbers j ≡ Some k) → m < k
    by_place (inl a) (inl b) = absurd (behind a.0 (let last : j ≡ length numbers = b.0 in omega (arith, last)))
    by_place (inl a) (inr b) = absurd (behind a.0 (let within : j < length numbers = slice_get_within numbers j k b in omega (arith, within)))
    by_place (inr a) (inl b) = subst (λ (x : ℕ). m < x) b.1 (above i m a (same ∙ ap seat_of (sym b.1)))
    by_place (inr a) (inr b) = h i j m k less a b same

-- what a free seat gives
free_is : (t : Table) (place n : ℕ) → free_at t place ≡ Some n → n ≡ number_at t place
free_is t place n e = by_out (get_or t.is_out place true) e
  where
    by_limit : (b : Bool) → (if b then Some (number_at t place) else None) ≡ Some n → n ≡ number_at t place
    by_limit true f = sym (same_Some (number_at t place) n f)
    by_limit false f = absurd (none-some n f)

    by_out : (b : Bool) → (if b then None else if nat_lt (number_at t place) 18446744073709551616 then Some (number_at t place) else None) ≡ Some n → n ≡ number_at t place
    by_out true f = absurd (none-some n f)
    by_out false f = by_limit (nat_lt (number_at t place) 18446744073709551616) f

split_seat : (given place : ℕ) → place < 256 → (given * 256 + place + 1 - 1) % 256 ≡ place
split_seat given place less = omega (arith, less)

split_given : (given place : ℕ) → place < 256 → (given * 256 + place + 1 - 1) / 256 ≡ given
split_given given place less = omega (arith, less)

-- of which seat a number is that is taken
pub place_given : (old now : Table) (n : ℕ) → (t : Takes old n now) → seat_of n - 1 ≡ t.place
place_given old now n t = ap (λ (m : ℕ). seat_of m - 1) (free_is old t.place n t.free) ∙ again (split_seat (get_or old.given t.place 0) t.place t.within)
  where
    again : (get_or old.given t.place 0 * 256 + t.place + 1 - 1) % 256 ≡ t.place → (get_or old.given t.place 0 * 256 + t.place + 1 - 1) % 256 + 1 - 1 ≡ t.place
    again e = omega (arith, e)

-- and which of its numbers
pub turn_given : (old now : Table) (n : ℕ) → (t : Takes old n now) → (n - 1) / 256 ≡ get_or old.given t.place 0
turn_given old now n t = ap (λ (m : ℕ). (m - 1) / 256) (free_is old t.place n t.free) ∙ split_given (get_or old.given t.place 0) t.place t.within

-- a number that is taken is given from then on, is above those that its seat gave, and what was given is
pub record Fresh (old now : Table) (n : ℕ) : Type 0 where
  pub given : IsGiven now n
  pub above : (m : ℕ) → IsGiven old m → seat_of m ≡ seat_of n → m < n
  pub still : (m : ℕ) → IsGiven old m → IsGiven now m
  pub long : length now.given ≡ length old.given

pub taken_fresh : (old now : Table) (n : ℕ) → length old.given ≡ 256 → Takes old n now → Fresh old now n
taken_fresh old now n all t = record {
  given = subst (λ (l : List ℕ). (n - 1) / 256 < get_or l (seat_of n - 1) 0) (sym t.given)
      (subst (λ (k : ℕ). (n - 1) / 256 < get_or (set old.given t.place (count + 1)) k 0) (sym seat) (subst (λ (m : ℕ). (n - 1) / 256 < m) (sym (get_or-set_same old.given t.place (count + 1) 0 within)) (omega (arith, turn))));
  above = λ m given same. let less : (m - 1) / 256 < count = subst (λ (k : ℕ). (m - 1) / 256 < get_or old.given k 0) (ap (λ (k : ℕ). k - 1) same ∙ seat) given in omega (arith, less, turn);
  still = λ m given. subst (λ (l : List ℕ). (m - 1) / 256 < get_or l (seat_of m - 1) 0) (sym t.given) (by_place m given (same_or_other t.place (seat_of m - 1)));
  long = ap length t.given ∙ length-set old.given t.place (count + 1);
}
  where
    count : ℕ
    count = get_or old.given t.place 0

    within : t.place < length old.given
    within = subst (λ (m : ℕ). t.place < m) (sym all) t.within

    seat : seat_of n - 1 ≡ t.place
    seat = place_given old now n t

    turn : (n - 1) / 256 ≡ count
    turn = turn_given old now n t

    by_place : (m : ℕ) → IsGiven old m → (t.place ≡ seat_of m - 1) ⊎ (t.place ≢ seat_of m - 1) → (m - 1) / 256 < get_or (set old.given t.place (count + 1)) (seat_of m - 1) 0
    by_place m given (inl same) =
        let less : (m - 1) / 256 < count = subst (λ (k : ℕ). (m - 1) / 256 < get_or old.given k 0) (sym same) given in
        subst (λ (k : ℕ). (m - 1) / 256 < get_or (set old.given t.place (count + 1)) k 0) same (subst (λ (k : ℕ). (m - 1) / 256 < k) (sym (get_or-set_same old.given t.place (count + 1) 0 within)) (omega (arith, less)))
    by_place m given (inr other) = subst (λ (k : ℕ). (m - 1) / 256 < k) (sym (get_or-set_other old.given t.place (seat_of m - 1) (count + 1) 0 (λ same. other (sym same)))) given

module _ {I O S : Type 0} where
  conns_on : (overs now : List (Over I O S)) (o : Over I O S) → now ≡ overs ++ o ∷ [] → conns_of now ≡ conns_of overs ++ conn_of o
  conns_on overs now o e = ap conns_of e ∙ flat_map-append conn_of overs (o ∷ []) ∙ ap (λ l. conns_of overs ++ l) (append-nil (conn_of o))

  -- nobody has a number yet
  pub none_numbered : (seats : Table) (entries : List (Option (Connection I O S))) (overs : List (Over I O S)) → length seats.given ≡ 256 → All (λ slot. slot ≡ None) entries → overs ≡ [] → Numbered seats entries overs
  none_numbered seats entries overs all nobody e = record {
    long = all;
    ascend = λ i j m n less at there same. absurd (nothing i m at);
    given = λ i n at. absurd (nothing i n at);
    served = λ k entry at. absurd (none-some entry (sym (nobody k (Some entry) (slice_get_within entries k (Some entry) at)) ∙ get_or_from_slice_get entries k (Some entry) (Some entry) at));
  }
    where
      nothing : (i n : ℕ) → slice_get (conns_of overs) i ≡ Some n → ⊥
      nothing i n at = none-some n (ap (λ o. slice_get (conns_of o) i) (sym e) ∙ at)

  -- a number is taken
  pub taken_numbered : (old now : Table) (n : ℕ) (entries : List (Option (Connection I O S))) (overs : List (Over I O S)) → Takes old n now → Numbered old entries overs → Numbered now entries overs × IsNew now overs n
  taken_numbered old now n entries overs t h =
      let f = taken_fresh old now n h.long t in (
        record {
          long = f.long ∙ h.long;
          ascend = h.ascend;
          given = λ i m at. f.still m (h.given i m at);
          served = λ k entry at. let s = h.served k entry at in record { seat = s.seat; new = record { given = f.still entry.began.value.conn s.new.given; above = s.new.above }; own = s.own };
        },
        record { given = f.given; above = λ i m at. f.above m (h.given i m at) },
      )

  -- or none is
  pub took_numbered : {E : Type 0} (old now : Table) (r : Result ℕ E) (entries : List (Option (Connection I O S))) (overs : List (Over I O S)) → IfOk r (λ n. Takes old n now) → OnErr r (now ≡ old) → Numbered old entries overs → Numbered now entries overs
  took_numbered old now (Ok n) entries overs t e h = (taken_numbered old now n entries overs t h).0
  took_numbered old now (Err fault) entries overs t e h = subst (λ (s : Table). Numbered s entries overs) (sym e) h

  -- a connection takes its seat
  pub seat_numbered : (seats : Table) (n : ℕ) (entries seated : List (Option (Connection I O S))) (overs same : List (Over I O S)) (place : ℕ) (entry : Connection I O S) → seated ≡ set entries place (Some entry) → same ≡ overs → place ≡ seat_of n - 1 → entry.began.value.conn ≡ n
      → AreOf n entry.began.value.posters.items → IsNew seats overs n → Numbered seats entries overs → Numbered seats seated same
  seat_numbered seats n entries seated overs same place entry e f at is own new h = subst (λ (o : List (Over I O S)). Numbered seats seated o) (sym f) (record {
    long = h.long;
    ascend = h.ascend;
    given = h.given;
    served = λ k other there. by_place k other (get_set_cases entries place k (Some entry) (Some other) (ap (λ l. slice_get l k) (sym e) ∙ there));
  })
    where
      ends : seat_of n ≡ place + 1
      ends = omega (arith, at)

      by_place : (k : ℕ) (other : Connection I O S) → ((place ≡ k) × (Some entry ≡ Some other)) ⊎ ((place ≢ k) × (slice_get entries k ≡ Some (Some other))) → IsNumbered seats k overs other.began.value
      by_place k other (inl w) = subst (λ (c : Connection I O S). IsNumbered seats k overs c.began.value) (same_Some entry other w.1) (record {
        seat = ap seat_of is ∙ ends ∙ ap (λ m. m + 1) w.0;
        new = subst (λ (m : ℕ). IsNew seats overs m) (sym is) new;
        own = subst (λ (m : ℕ). AreOf m entry.began.value.posters.items) (sym is) own;
      })
      by_place k other (inr w) = h.served k other w.1

  -- a stream goes over that had no seat
  pub over_numbered : (seats : Table) (entries same : List (Option (Connection I O S))) (overs now : List (Over I O S)) (o : Over I O S) → same ≡ entries → now ≡ overs ++ o ∷ [] → conn_of o ≡ [] → Numbered seats entries overs → Numbered seats same now
  over_numbered seats entries same overs now o e f none h = subst (λ (l : List (Option (Connection I O S))). Numbered seats l now) (sym e) (record {
    long = h.long;
    ascend = subst AscendAtSeats (sym alike) h.ascend;
    given = λ i n at. h.given i n (ap (λ l. slice_get l i) (sym alike) ∙ at);
    served = λ k entry at. let s = h.served k entry at in record { seat = s.seat; new = record { given = s.new.given; above = λ i n there. s.new.above i n (ap (λ l. slice_get l i) (sym alike) ∙ there) }; own = s.own };
  })
    where
      alike : conns_of now ≡ conns_of overs
      alike = conns_on overs now o f ∙ ap (λ l. conns_of overs ++ l) none ∙ append-nil (conns_of overs)

  -- one goes over that had a seat, where nobody is any more
  pub ended_numbered : (seats : Table) (n : ℕ) (entries left : List (Option (Connection I O S))) (overs now : List (Over I O S)) (began : Snapshot (Reader I O S)) (ended : Snapshot (Ended I O S)) → now ≡ overs ++ Seated began ended ∷ [] → began.value.conn ≡ n → IsNew seats overs n
      → ((k : ℕ) (entry : Connection I O S) → slice_get left k ≡ Some (Some entry) → (slice_get entries k ≡ Some (Some entry)) × (k + 1 ≢ seat_of n)) → Numbered seats entries overs → Numbered seats left now
  ended_numbered seats n entries left overs now began ended e is new others h = record {
    long = h.long;
    ascend = one_ascends (conns_of overs) (conns_of now) n more new.above h.ascend;
    given = λ i m at. by_given i m (get_push_cases (conns_of overs) n m i (ap (λ l. slice_get l i) (sym more) ∙ at));
    served = λ k entry at.
        let was = others k entry at in
        let s = h.served k entry was.0 in
        record { seat = s.seat; new = record { given = s.new.given; above = λ i m there. below k entry was.1 s i m (get_push_cases (conns_of overs) n m i (ap (λ l. slice_get l i) (sym more) ∙ there)) }; own = s.own };
  }
    where
      more : conns_of now ≡ conns_of overs ++ n ∷ []
      more = conns_on overs now (Seated began ended) e ∙ ap (λ (m : ℕ). conns_of overs ++ m ∷ []) is

      by_given : (i m : ℕ) → ((i ≡ length (conns_of overs)) × (n ≡ m)) ⊎ (slice_get (conns_of overs) i ≡ Some m) → IsGiven seats m
      by_given i m (inl w) = subst (λ (x : ℕ). IsGiven seats x) w.1 new.given
      by_given i m (inr w) = h.given i m w

      below : (k : ℕ) (entry : Connection I O S) → k + 1 ≢ seat_of n → IsNumbered seats k overs entry.began.value → (i m : ℕ) → ((i ≡ length (conns_of overs)) × (n ≡ m)) ⊎ (slice_get (conns_of overs) i ≡ Some m) → seat_of m ≡ seat_of entry.began.value.conn → m < entry.began.value.conn
      below k entry other s i m (inl w) same = absurd (other (sym (ap seat_of w.1 ∙ same ∙ s.seat)))
      below k entry other s i m (inr w) same = s.new.above i m w same

  -- a connection leaves its place
  pub left_numbered : (seats : Table) (entries left : List (Option (Connection I O S))) (overs now : List (Over I O S)) (place : ℕ) (entry : Connection I O S) (ended : Snapshot (Ended I O S)) → left ≡ set entries place None → slice_get entries place ≡ Some (Some entry)
      → now ≡ overs ++ Seated entry.began ended ∷ [] → Numbered seats entries overs → Numbered seats left now
  left_numbered seats entries left overs now place entry ended e held f h =
      let s = h.served place entry held in
      ended_numbered seats entry.began.value.conn entries left overs now entry.began ended f refl s.new (λ k other at. by_place s.seat k other (get_set_cases entries place k None (Some other) (ap (λ l. slice_get l k) (sym e) ∙ at))) h
    where
      by_place : seat_of entry.began.value.conn ≡ place + 1 → (k : ℕ) (other : Connection I O S) → ((place ≡ k) × (None ≡ Some other)) ⊎ ((place ≢ k) × (slice_get entries k ≡ Some (Some other))) → (slice_get entries k ≡ Some (Some other)) × (k + 1 ≢ seat_of entry.began.value.conn)
      by_place seat k other (inl w) = absurd (none-some other w.1)
      by_place seat k other (inr w) = (w.1, λ same. w.0 (omega (arith, same, seat)))

  -- or never came to it
  pub unseated_numbered : (seats : Table) (n : ℕ) (entries same : List (Option (Connection I O S))) (overs now : List (Over I O S)) (place : ℕ) (began : Snapshot (Reader I O S)) (ended : Snapshot (Ended I O S)) (over : Over I O S) → same ≡ entries → slice_get entries place ≡ Some None → place ≡ seat_of n - 1
      → now ≡ overs ++ over ∷ [] → over ≡ Seated began ended → began.value.conn ≡ n → IsNew seats overs n → Numbered seats entries overs → Numbered seats same now
  unseated_numbered seats n entries same overs now place began ended over e free at f is number new h = subst (λ (l : List (Option (Connection I O S))). Numbered seats l now) (sym e)
      (ended_numbered seats n entries entries overs now began ended (f ∙ ap (λ o. overs ++ o ∷ []) is) number new (λ k entry there. (there, λ same. elsewhere k entry there same)) h)
    where
      elsewhere : (k : ℕ) (entry : Connection I O S) → slice_get entries k ≡ Some (Some entry) → k + 1 ≡ seat_of n → ⊥
      elsewhere k entry there same =
          let here : k ≡ place = omega (arith, same, at) in
          none-some entry (same_Some None (Some entry) (sym free ∙ ap (slice_get entries) (sym here) ∙ there))

  -- nothing changes
  pub still_numbered : (seats : Table) (entries same : List (Option (Connection I O S))) (overs now : List (Over I O S)) → same ≡ entries → now ≡ overs → Numbered seats entries overs → Numbered seats same now
  still_numbered seats entries same overs now e f h = subst (λ (l : List (Option (Connection I O S))). Numbered seats l now) (sym e) (subst (λ (o : List (Over I O S)). Numbered seats entries o) (sym f) h)

  -- a seat is given back: what it gave it has given
  pub back_numbered : (seats now : Table) (n : ℕ) (entries : List (Option (Connection I O S))) (overs : List (Over I O S)) → now ≡ given_back seats n → Numbered seats entries overs → Numbered now entries overs
  back_numbered seats now n entries overs e h = subst (λ (t : Table). Numbered t entries overs) (sym e) (record {
    long = h.long;
    ascend = h.ascend;
    given = h.given;
    served = λ k entry at. let s = h.served k entry at in record { seat = s.seat; new = record { given = s.new.given; above = s.new.above }; own = s.own };
  })
