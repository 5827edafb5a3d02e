-- How the telling of an input goes on, octets after octets.
use Rattle.std.proofs.Common.{◌≡◌, ℕ, ◌+◌, ◌<◌, ◌≤◌, Bool, true, false, eqb, List, [], ◌∷◌, ◌++◌, length, refl, sym, ap, ◌∙◌, append_assoc, append-nil, length-append, subst, None, Some, inl, inr, arith}
use Rattle.std.specs.Prelude.{nat_le}
use Rattle.std.proofs.lemmas.List.Folds.{list_any-append}
use Rattle.std.proofs.lemmas.Bool.Decides.{nat_tests}
use Rattle.std.proofs.lemmas.Bool.{or_from, or_parts}
use Rattle.replay.specs.Lines.{HaveNoLineFeed, Line, has_line_feed, in_front, joined, line_of, lines_of}
use Rattle.replay.specs.Progress.{Completes, Goes, IsBadAt, IsRefused, IsToldOf, IsWhole, Stops, TellsMore, ReplayInput}
use Rattle.replay.specs.Speech.{Hears}
use Rattle.replay.specs.declared.speech.Speech.{Speech}
use Rattle.replay.specs.Transcript.{IsTranscript, PrintsMore, Replay, after, more}

joined-more : (lines : List (List ℕ)) (line : List ℕ) → joined (lines ++ line ∷ []) ≡ joined lines ++ (line ++ 10 ∷ [])
joined-more [] line = refl
joined-more (x ∷ lines) line =
    ap (λ ys. x ++ 10 ∷ ys) (joined-more lines line) ∙ sym (append_assoc x (10 ∷ joined lines) (line ++ 10 ∷ []))

clean-more : (lines : List (List ℕ)) (line : List ℕ) → HaveNoLineFeed lines → has_line_feed line ≡ false → HaveNoLineFeed (lines ++ line ∷ [])
clean-more [] line all own = (own, tt)
clean-more (x ∷ lines) line all own = (all.0, clean-more lines line all.1 own)

pub clean-append : (xs ys : List ℕ) → has_line_feed xs ≡ false → has_line_feed ys ≡ false → has_line_feed (xs ++ ys) ≡ false
clean-append xs ys e f = list_any-append (λ c. eqb c 10) xs ys ∙ or_from (has_line_feed xs) (has_line_feed ys) e f

length-more : (lines : List (List ℕ)) (line : List ℕ) → length (lines ++ line ∷ []) ≡ length lines + 1
length-more lines line = length-append lines (line ∷ [])

-- octets of the line that isn't ended yet
pub Goes-hold : (t u : ReplayInput) (octets : List ℕ) → has_line_feed octets ≡ false → u ≡ record t { rest = t.rest ++ octets } → Goes t octets u
Goes-hold t u octets clean is start input written told = rw is (record {
  lines = told.lines;
  split = ap (λ xs. xs ++ octets) told.split ∙ append_assoc (joined told.lines) t.rest octets;
  lines_clean = told.lines_clean;
  rest_clean = clean-append t.rest octets told.rest_clean clean;
  count = told.count;
  transcript = told.transcript;
})

-- the end of a line
pub Goes-line : (t u : ReplayInput) → TellsMore t.replay t.rest u.replay t.out u.out → u.rest ≡ [] → u.count ≡ t.count + 1 → Goes t (10 ∷ []) u
Goes-line t u tells rest count start input written told = record {
  lines = told.lines ++ t.rest ∷ [];
  split = ap (λ xs. xs ++ 10 ∷ []) told.split ∙ (append_assoc (joined told.lines) t.rest (10 ∷ [])
      ∙ (sym (joined-more told.lines t.rest) ∙ (sym (append-nil (joined (told.lines ++ t.rest ∷ []))) ∙ ap (λ r. joined (told.lines ++ t.rest ∷ []) ++ r) (sym rest))));
  lines_clean = clean-more told.lines t.rest told.lines_clean told.rest_clean;
  rest_clean = rw rest refl;
  count = count ∙ (ap (λ n. n + 1) told.count ∙ sym (length-more told.lines t.rest));
  transcript = subst (λ o. IsTranscript start (told.lines ++ t.rest ∷ []) u.replay o) (append_assoc written t.out tells.out ∙ ap (λ o. written ++ o) (sym tells.is)) (more told.transcript tells.tells);
}

pub Goes-then : (t u v : ReplayInput) (xs ys : List ℕ) → Goes t xs u → Goes u ys v → Goes t (xs ++ ys) v
Goes-then t u v xs ys first second start input written told =
    subst (λ i. IsToldOf start i written v) (append_assoc input xs ys) (second start (input ++ xs) written (first start input written told))

pub Goes-nothing : (t : ReplayInput) → Goes t [] t
Goes-nothing t start input written told = subst (λ i. IsToldOf start i written t) (sym (append-nil input)) told

-- a bad line, ended by LF
pub Stops-line : (t u : ReplayInput) (k : ℕ) → IsRefused t k u → Stops t (10 ∷ []) false k u
Stops-line t u k refused start input written told = record {
  good = told.lines;
  bad = t.rest;
  rest = 10 ∷ [];
  split = ap (λ xs. xs ++ 10 ∷ []) told.split ∙ append_assoc (joined told.lines) t.rest (10 ∷ []);
  good_clean = told.lines_clean;
  bad_clean = told.rest_clean;
  whole = inr refl;
  is_bad = refused.is_bad;
  place = refused.place ∙ ap (λ n. n + 1) told.count;
  next = t.replay;
  transcript = subst (λ w. IsTranscript start told.lines t.replay (written ++ w.out)) (sym refused.unchanged) told.transcript;
}

-- a bad line, ended by the end of input
pub Stops-end : (t u : ReplayInput) (k : ℕ) → 0 < length t.rest → IsRefused t k u → Stops t [] true k u
Stops-end t u k some refused start input written told = record {
  good = told.lines;
  bad = t.rest;
  rest = [];
  split = append-nil input ∙ (told.split ∙ ap (λ r. joined told.lines ++ r) (sym (append-nil t.rest)));
  good_clean = told.lines_clean;
  bad_clean = told.rest_clean;
  whole = inr (refl, some);
  is_bad = refused.is_bad;
  place = refused.place ∙ ap (λ n. n + 1) told.count;
  next = t.replay;
  transcript = subst (λ w. IsTranscript start told.lines t.replay (written ++ w.out)) (sym refused.unchanged) told.transcript;
}

too-long : (octets : List ℕ) → 1048576 < length octets → line_of octets ≡ None
unfolding line_of
too-long octets long = let e : nat_le (length octets) 1048576 ≡ false = grind (arith, nat_tests) in rw e

-- a line that is too long already
pub Stops-long : (t : ReplayInput) (k : ℕ) → 1048576 < length t.rest → k ≡ t.count + 1 → Stops t [] false k t
Stops-long t k long place start input written told = record {
  good = told.lines;
  bad = t.rest;
  rest = [];
  split = append-nil input ∙ (told.split ∙ ap (λ r. joined told.lines ++ r) (sym (append-nil t.rest)));
  good_clean = told.lines_clean;
  bad_clean = told.rest_clean;
  whole = inl long;
  is_bad = too-long t.rest long;
  place = place ∙ ap (λ n. n + 1) told.count;
  next = t.replay;
  transcript = told.transcript;
}

pub Stops-after : (t u v : ReplayInput) (xs ys : List ℕ) (ended : Bool) (k : ℕ) → Goes t xs u → Stops u ys ended k v → Stops t (xs ++ ys) ended k v
Stops-after t u v xs ys ended k first second start input written told =
    subst (λ i. IsBadAt start i ended k (written ++ v.out)) (append_assoc input xs ys) (second start (input ++ xs) written (first start input written told))

whole-more : (bad rest ys : List ℕ) → IsWhole bad rest false → IsWhole bad (rest ++ ys) false
whole-more bad [] [] whole = whole
whole-more bad [] (y ∷ ys) (inl long) = inl long
whole-more bad [] (y ∷ ys) (inr never) = let over : false ≡ true = never.0 in absurd (cc)
whole-more bad (c ∷ rest) ys whole = whole

-- what comes after a bad line changes nothing
pub Stops-more : (t u : ReplayInput) (xs ys : List ℕ) (k : ℕ) → Stops t xs false k u → Stops t (xs ++ ys) false k u
Stops-more t u xs ys k stops start input written told =
    let b = stops start input written told in
    record {
      good = b.good;
      bad = b.bad;
      rest = b.rest ++ ys;
      split = sym (append_assoc input xs ys) ∙ (ap (λ i. i ++ ys) b.split ∙ (append_assoc (joined b.good) (b.bad ++ b.rest) ys ∙ ap (λ r. joined b.good ++ r) (append_assoc b.bad b.rest ys)));
      good_clean = b.good_clean;
      bad_clean = b.bad_clean;
      whole = whole-more b.bad b.rest ys b.whole;
      is_bad = b.is_bad;
      place = b.place;
      next = b.next;
      transcript = b.transcript;
    }

-- the lines of an input
abbrev last_line : List ℕ → List (List ℕ)
last_line [] = []
last_line (c ∷ cs) = (c ∷ cs) ∷ []

lines_of-clean : (xs : List ℕ) → has_line_feed xs ≡ false → lines_of xs ≡ last_line xs
lines_of-clean [] clean = refl
lines_of-clean (c ∷ cs) clean =
    let parts = or_parts (eqb c 10) (has_line_feed cs) clean in
    rw parts.0 (ap (in_front c) (lines_of-clean cs parts.1) ∙ one cs)
  where
    one : (ys : List ℕ) → in_front c (last_line ys) ≡ (c ∷ ys) ∷ []
    one [] = refl
    one (y ∷ ys) = refl

lines_of-line : (line rest : List ℕ) → has_line_feed line ≡ false → lines_of (line ++ 10 ∷ rest) ≡ line ∷ lines_of rest
lines_of-line [] rest clean = refl
lines_of-line (c ∷ cs) rest clean =
    let parts = or_parts (eqb c 10) (has_line_feed cs) clean in
    rw parts.0 (ap (in_front c) (lines_of-line cs rest parts.1))

lines_of-joined : (lines : List (List ℕ)) (rest : List ℕ) → HaveNoLineFeed lines → has_line_feed rest ≡ false → lines_of (joined lines ++ rest) ≡ lines ++ last_line rest
lines_of-joined [] rest all clean = lines_of-clean rest clean
lines_of-joined (line ∷ lines) rest all clean =
    ap lines_of (append_assoc line (10 ∷ joined lines) rest) ∙ (lines_of-line line (joined lines ++ rest) all.0 ∙ ap (λ ls. line ∷ ls) (lines_of-joined lines rest all.1 clean))

-- the input has ended with LF, or is empty
pub Completes-empty : (t : ReplayInput) → t.rest ≡ [] → Completes t t
Completes-empty t none start input written told = record {
  next = t.replay;
  transcript = subst (λ ls. IsTranscript start ls t.replay (written ++ t.out))
      (sym (ap lines_of told.split ∙ (lines_of-joined told.lines t.rest told.lines_clean told.rest_clean ∙ (ap (λ r. told.lines ++ last_line r) none ∙ append-nil told.lines)))) told.transcript;
}

last-some : (xs : List ℕ) → 0 < length xs → last_line xs ≡ xs ∷ []
last-some [] some = absurd (omega arith)
last-some (x ∷ xs) some = refl

-- the input has ended, and with it its last line
pub Completes-line : (t u : ReplayInput) → 0 < length t.rest → TellsMore t.replay t.rest u.replay t.out u.out → Completes t u
Completes-line t u some tells start input written told = record {
  next = u.replay;
  transcript = subst (λ ls. IsTranscript start ls u.replay (written ++ u.out))
      (sym (ap lines_of told.split ∙ (lines_of-joined told.lines t.rest told.lines_clean told.rest_clean ∙ ap (λ r. told.lines ++ r) (last-some t.rest some))))
      (subst (λ o. IsTranscript start (told.lines ++ t.rest ∷ []) u.replay o) (append_assoc written t.out tells.out ∙ ap (λ o. written ++ o) (sym tells.is)) (more told.transcript tells.tells));
}

lines-le : (lines : List (List ℕ)) → length lines ≤ length (joined lines)
lines-le [] = omega arith
lines-le (line ∷ lines) = omega (arith, lines-le lines, length-append line (10 ∷ joined lines))

-- there are no more lines than octets
pub count-le : (start : Replay) (input written : List ℕ) (t : ReplayInput) → IsToldOf start input written t → t.count ≤ length input
count-le start input written t told =
    let all : length input ≡ length (joined told.lines) + length t.rest = ap length told.split ∙ length-append (joined told.lines) t.rest in
    let few : length told.lines ≤ length (joined told.lines) = lines-le told.lines in
    let own : t.count ≡ length told.lines = told.count in
    omega arith

-- so much of the piece led on to this, and the rest of it is left
pub record Consumed (t : ReplayInput) (piece left : List ℕ) (u : ReplayInput) : Type 0 where
  pub octets : List ℕ
  pub split : piece ≡ octets ++ left
  pub goes : Goes t octets u
  pub bound : u.count + length left ≤ t.count + length piece

-- a line more
pub Consumed-more : (t u v : ReplayInput) (piece left line rest : List ℕ) → Consumed t piece left u → left ≡ line ++ 10 ∷ rest → Goes u (line ++ 10 ∷ []) v → v.count ≡ u.count + 1 → Consumed t piece rest v
Consumed-more t u v piece left line rest so_far is goes count =
    let long : length left ≡ length line + length (10 ∷ rest) = ap length is ∙ length-append line (10 ∷ rest) in
    let bound : u.count + length left ≤ t.count + length piece = so_far.bound in
    record {
      octets = so_far.octets ++ (line ++ 10 ∷ []);
      split = so_far.split ∙ (ap (λ l. so_far.octets ++ l) (is ∙ sym (append_assoc line (10 ∷ []) rest)) ∙ sym (append_assoc so_far.octets (line ++ 10 ∷ []) rest));
      goes = Goes-then t u v so_far.octets (line ++ 10 ∷ []) so_far.goes goes;
      bound = omega arith;
    }

pub Consumed-nothing : (t : ReplayInput) (piece : List ℕ) → Consumed t piece piece t
Consumed-nothing t piece = record { octets = []; split = refl; goes = Goes-nothing t; bound = omega arith }

pub Stops-piece : (t u v : ReplayInput) (piece left line rest : List ℕ) (k : ℕ) → Consumed t piece left u → left ≡ line ++ 10 ∷ rest → Stops u (line ++ 10 ∷ []) false k v → Stops t piece false k v
Stops-piece t u v piece left line rest k so_far is stops =
    let whole : so_far.octets ++ ((line ++ 10 ∷ []) ++ rest) ≡ piece =
    ap (λ l. so_far.octets ++ l) (append_assoc line (10 ∷ []) rest ∙ sym is) ∙ sym so_far.split in
    subst (λ o. Stops t o false k v) whole (Stops-after t u v so_far.octets ((line ++ 10 ∷ []) ++ rest) false k so_far.goes (Stops-more u v (line ++ 10 ∷ []) rest k stops))

pub Stops-rest : (t u v : ReplayInput) (piece left : List ℕ) (k : ℕ) → Consumed t piece left u → Stops u left false k v → Stops t piece false k v
Stops-rest t u v piece left k so_far stops =
    subst (λ o. Stops t o false k v) (sym so_far.split) (Stops-after t u v so_far.octets left false k so_far.goes stops)

pub Goes-rest : (t u v : ReplayInput) (piece left : List ℕ) → Consumed t piece left u → Goes u left v → Goes t piece v
Goes-rest t u v piece left so_far goes =
    subst (λ o. Goes t o v) (sym so_far.split) (Goes-then t u v so_far.octets left so_far.goes goes)

-- what a line says, and what is printed for it
pub tells-line : (r : Replay) (octets : List ℕ) (line : Line) (speech : Speech) (next : Replay) (before out : List ℕ)
    → line_of octets ≡ Some line → Hears line.text speech → next ≡ after r line.number speech → PrintsMore r line.number speech before out → TellsMore r octets next before out
tells-line r octets line speech next before out is_line hears is_next prints = record {
  out = prints.out;
  is = prints.is;
  tells = record { line = line; is_line = is_line; speech = speech; hears = hears; is_next = is_next; prints = prints.prints };
}
