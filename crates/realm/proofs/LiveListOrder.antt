-- The live sessions, ascending by connection: where one stands, where one belongs, and what an edit at that place gives.
use Rattle.std.proofs.Common.{◌≡◌, ℕ, zero, suc, ◌+◌, ◌<◌, ◌≤◌, Bool, true, false, cond, not, eqb, ltb, List, [], ◌∷◌, length, get_or, refl, sym, ap, ◌∙◌, None, Some, Result, Ok, Err, arith}
use Rattle.std.specs.Prelude.{MatchResult}
use Rattle.std.specs.List.{insert, remove}
use Rattle.std.specs.List.Sorted.{IsSearchInRange, IsBinarySearchResult, IsNonDecreasingBy}
use Rattle.std.specs.Ordering.{nat_cmp, ordering_index}
use Rattle.std.proofs.lemmas.Cmp.{ranked}
use Rattle.std.proofs.lemmas.Bool.Decides.{nat_tests}
use Rattle.eligibility.specs.declared.who.Who.{Who}
use Rattle.realm.specs.body.LiveSessions.{session_of, others, added, IsBelowAll, AreByConn, StandsAt, BelongsAt}

-- ---- order

below-more : (c d : ℕ) (ws : List Who) → c < d → IsBelowAll d ws → IsBelowAll c ws
below-more c d [] less below = tt
below-more c d (w ∷ ws) less below = (omega (arith, below.0), below-more c d ws less below.1)

below-at : (c : ℕ) (ws : List Who) (k : ℕ) (d : Who) → IsBelowAll c ws → k < length ws → c < (get_or ws k d).conn
below-at c [] k d below small = absurd (omega arith)
below-at c (w ∷ ws) zero d below small = below.0
below-at c (w ∷ ws) (suc k) d below small = below-at c ws k d below.1 (omega arith)

rising : (ws : List Who) (i j : ℕ) (d : Who) → AreByConn ws → i ≤ j → j < length ws → (get_or ws i d).conn ≤ (get_or ws j d).conn
rising [] i j d ordered le small = absurd (omega arith)
rising (w ∷ ws) zero zero d ordered le small = omega arith
rising (w ∷ ws) zero (suc j) d ordered le small = let less : w.conn < (get_or ws j d).conn = below-at w.conn ws j d ordered.0 (omega arith) in omega arith
rising (w ∷ ws) (suc i) zero d ordered le small = absurd (omega arith)
rising (w ∷ ws) (suc i) (suc j) d ordered le small = rising ws i j d ordered.1 (omega arith) (omega arith)

-- what is below all of them has no session among them
pub below-none : (c : ℕ) (ws : List Who) → IsBelowAll c ws → session_of ws c ≡ None
below-none c [] below = refl
below-none c (w ∷ ws) below =
    let less : c < w.conn = below.0 in
    let other : eqb w.conn c ≡ false = grind (arith, nat_tests) in
    rw other (below-none c ws below.1)

below-others : (c d : ℕ) (ws : List Who) → IsBelowAll c ws → IsBelowAll c (others d ws)
below-others c d [] below = tt
below-others c d (w ∷ ws) below = at (eqb w.conn d) (below-others c d ws below.1)
  where
    at : (own : Bool) → IsBelowAll c (others d ws) → IsBelowAll c (cond (not own) (w ∷ others d ws) (others d ws))
    at true rest = rest
    at false rest = (below.0, rest)

pub ordered-others : (c : ℕ) (ws : List Who) → AreByConn ws → AreByConn (others c ws)
ordered-others c [] ordered = tt
ordered-others c (w ∷ ws) ordered = at (eqb w.conn c) (ordered-others c ws ordered.1)
  where
    at : (own : Bool) → AreByConn (others c ws) → AreByConn (cond (not own) (w ∷ others c ws) (others c ws))
    at true rest = rest
    at false rest = (below-others w.conn c ws ordered.0, rest)

below-added : (c : ℕ) (w : Who) (ws : List Who) → c < w.conn → IsBelowAll c ws → IsBelowAll c (added w ws)
below-added c w [] less below = (less, tt)
below-added c w (v ∷ vs) less below = at (ltb v.conn w.conn) (below-added c w vs less below.1)
  where
    at : (before : Bool) → IsBelowAll c (added w vs) → IsBelowAll c (cond before (v ∷ added w vs) (w ∷ v ∷ vs))
    at true rest = (below.0, rest)
    at false rest = (less, below)

pub ordered-added : (w : Who) (ws : List Who) → session_of ws w.conn ≡ None → AreByConn ws → AreByConn (added w ws)
ordered-added w [] free ordered = (tt, tt)
ordered-added w (v ∷ vs) free ordered = at (ltb v.conn w.conn) refl (eqb v.conn w.conn) refl free (λ vacant. ordered-added w vs vacant ordered.1)
  where
    at : (before : Bool) → ltb v.conn w.conn ≡ before → (own : Bool) → eqb v.conn w.conn ≡ own → cond own (Some v) (session_of vs w.conn) ≡ None
        → (session_of vs w.conn ≡ None → AreByConn (added w vs)) → AreByConn (cond before (v ∷ added w vs) (w ∷ v ∷ vs))
    at before less true own vacant rest = absurd (cc)
    at true less false own vacant rest = (below-added v.conn w vs (grind (arith, nat_tests)) ordered.0, rest vacant)
    at false less false own vacant rest =
        let above : w.conn < v.conn = grind (arith, nat_tests) in
        ((above, below-more w.conn v.conn vs above ordered.0), ordered)

-- ---- one session more

pub added-of : (w : Who) (d : ℕ) (ws : List Who) → session_of (added w ws) d ≡ cond (eqb w.conn d) (Some w) (session_of ws d)
added-of w d [] = refl
added-of w d (v ∷ vs) = at (ltb v.conn w.conn) refl (eqb v.conn d) refl (eqb w.conn d) refl (added-of w d vs)
  where
    at : (before : Bool) → ltb v.conn w.conn ≡ before → (asked : Bool) → eqb v.conn d ≡ asked → (same : Bool) → eqb w.conn d ≡ same
        → session_of (added w vs) d ≡ cond same (Some w) (session_of vs d)
        → session_of (cond before (v ∷ added w vs) (w ∷ v ∷ vs)) d ≡ cond same (Some w) (cond asked (Some v) (session_of vs d))
    at false less asked asked_is same same_is rest = rw (same_is, asked_is) refl
    at true less true asked_is true same_is rest = absurd (grind (arith, nat_tests))
    at true less true asked_is false same_is rest = rw asked_is refl
    at true less false asked_is same same_is rest = rw asked_is rest

pub length-added : (w : Who) (ws : List Who) → length (added w ws) ≡ length ws + 1
length-added w [] = refl
length-added w (v ∷ vs) = at (ltb v.conn w.conn) (length-added w vs)
  where
    at : (before : Bool) → length (added w vs) ≡ length vs + 1 → length (cond before (v ∷ added w vs) (w ∷ v ∷ vs)) ≡ suc (length vs) + 1
    at true rest = omega arith
    at false rest = omega arith

-- ---- a place

pub same-at : (ws : List Who) (i : ℕ) (d e : Who) → i < length ws → get_or ws i d ≡ get_or ws i e
same-at [] i d e small = absurd (omega arith)
same-at (w ∷ ws) zero d e small = refl
same-at (w ∷ ws) (suc i) d e small = same-at ws i d e (omega arith)

pub here : (ws : List Who) (i c : ℕ) (d : Who) → AreByConn ws → i < length ws → (get_or ws i d).conn ≡ c → session_of ws c ≡ Some (get_or ws i d)
here [] i c d ordered small is = absurd (omega arith)
here (w ∷ ws) zero c d ordered small is = let own : eqb w.conn c ≡ true = grind (arith, nat_tests) in rw own refl
here (w ∷ ws) (suc i) c d ordered small is =
    let less : w.conn < (get_or ws i d).conn = below-at w.conn ws i d ordered.0 (omega arith) in
    let other : eqb w.conn c ≡ false = grind (arith, nat_tests) in
    rw other (here ws i c d ordered.1 (omega arith) is)

pub stands : (ws : List Who) (i c : ℕ) (d : Who) → AreByConn ws → StandsAt ws i c → session_of ws c ≡ Some (get_or ws i d)
stands ws i c d ordered at = here ws i c d ordered at.within (at.is d)

-- none of them is of c
abbrev AreNotOf : ℕ → List Who → Type 0
AreNotOf c ws = (k : ℕ) (d : Who) → k < length ws → (get_or ws k d).conn ≡ c → ⊥

not-of : (ws : List Who) (i c : ℕ) → BelongsAt ws i c → AreNotOf c ws
not-of ws i c at k d small is = grind (arith, at.before k d, at.after k d)

none-of : (c : ℕ) (ws : List Who) → AreNotOf c ws → session_of ws c ≡ None
none-of c [] none = refl
none-of c (w ∷ ws) none = at (eqb w.conn c) refl (none-of c ws (λ k d small. none (suc k) d (omega arith)))
  where
    at : (own : Bool) → eqb w.conn c ≡ own → session_of ws c ≡ None → cond own (Some w) (session_of ws c) ≡ None
    at true is rest = absurd (none zero w (omega arith) (grind (arith, nat_tests)))
    at false is rest = rest

others-none : (c : ℕ) (ws : List Who) → AreNotOf c ws → others c ws ≡ ws
others-none c [] none = refl
others-none c (w ∷ ws) none = at (eqb w.conn c) refl (others-none c ws (λ k d small. none (suc k) d (omega arith)))
  where
    at : (own : Bool) → eqb w.conn c ≡ own → others c ws ≡ ws → cond (not own) (w ∷ others c ws) (others c ws) ≡ w ∷ ws
    at true is rest = absurd (none zero w (omega arith) (grind (arith, nat_tests)))
    at false is rest = ap (λ l. w ∷ l) rest

pub belongs-none : (ws : List Who) (i c : ℕ) → BelongsAt ws i c → session_of ws c ≡ None
belongs-none ws i c at = none-of c ws (not-of ws i c at)

pub belongs-others : (ws : List Who) (i c : ℕ) → BelongsAt ws i c → others c ws ≡ ws
belongs-others ws i c at = others-none c ws (not-of ws i c at)

below-others-none : (c : ℕ) (ws : List Who) → IsBelowAll c ws → others c ws ≡ ws
below-others-none c ws below = others-none c ws (λ k d small is. let less : c < (get_or ws k d).conn = below-at c ws k d below small in omega arith)

taken : (ws : List Who) (i c : ℕ) → AreByConn ws → i < length ws → ((d : Who) → (get_or ws i d).conn ≡ c) → remove ws i ≡ others c ws
taken [] i c ordered small is = absurd (omega arith)
taken (w ∷ ws) zero c ordered small is =
    let same : w.conn ≡ c = is w in
    let own : eqb w.conn c ≡ true = grind (arith, nat_tests) in
    rw own (sym (ap (λ x. others x ws) (sym same) ∙ below-others-none w.conn ws ordered.0))
taken (w ∷ ws) (suc i) c ordered small is =
    let same : (get_or ws i w).conn ≡ c = is w in
    let less : w.conn < (get_or ws i w).conn = below-at w.conn ws i w ordered.0 (omega arith) in
    let other : eqb w.conn c ≡ false = grind (arith, nat_tests) in
    rw other (ap (λ l. w ∷ l) (taken ws i c ordered.1 (omega arith) is))

pub stands-remove : (ws : List Who) (i c : ℕ) → AreByConn ws → StandsAt ws i c → remove ws i ≡ others c ws
stands-remove ws i c ordered at = taken ws i c ordered at.within at.is

put : (ws : List Who) (i : ℕ) (w : Who) → i ≤ length ws → ((k : ℕ) (d : Who) → k < i → (get_or ws k d).conn < w.conn)
    → ((k : ℕ) (d : Who) → i ≤ k → k < length ws → w.conn < (get_or ws k d).conn) → insert ws i w ≡ added w ws
put [] zero w within before after = refl
put [] (suc i) w within before after = absurd (omega arith)
put (v ∷ vs) zero w within before after =
    let above : w.conn < v.conn = after zero v (omega arith) (omega arith) in
    let less : ltb v.conn w.conn ≡ false = grind (arith, nat_tests) in
    rw less refl
put (v ∷ vs) (suc i) w within before after =
    let below : v.conn < w.conn = before zero v (omega arith) in
    let less : ltb v.conn w.conn ≡ true = grind (arith, nat_tests) in
    rw less (ap (λ l. v ∷ l) (put vs i w (omega arith) (λ k d small. before (suc k) d (omega arith)) (λ k d le small. after (suc k) d (omega arith) (omega arith))))

pub belongs-insert : (ws : List Who) (i : ℕ) (w : Who) → BelongsAt ws i w.conn → insert ws i w ≡ added w ws
belongs-insert ws i w at = put ws i w at.within at.before at.after

-- ---- a binary search

comparisons-rise : (c : ℕ) (ws : List Who) → AreByConn ws → IsNonDecreasingBy (λ w. ordering_index (nat_cmp w.conn c)) ws
comparisons-rise c ws ordered i j d le small = let conns : (get_or ws i d).conn ≤ (get_or ws j d).conn = rising ws i j d ordered le small in grind (arith, nat_tests)

pub found-place : (ws : List Who) (c : ℕ) (r : Result ℕ ℕ) → AreByConn ws → IsSearchInRange r (length ws) → IsBinarySearchResult (λ w. nat_cmp w.conn c) ws r
    → MatchResult r (λ i. StandsAt ws i c) (λ i. BelongsAt ws i c)
found-place ws c (Ok i) ordered range equal = record { within = range; is = λ d. ranked _ c _ (sym (equal d)) }
found-place ws c (Err i) ordered range parted =
    let sides = parted (comparisons-rise c ws ordered) in
    record {
      within = range;
      before = λ k d less. ranked _ c _ (sym (sides.0 k d (omega arith) less));
      after = λ k d le small. ranked _ c _ (sym (sides.1 k d le small));
    }
