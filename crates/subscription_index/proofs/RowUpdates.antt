-- What changes of the rows mean for the lookups beside them.
use Rattle.std.proofs.Common.{◌≡◌, ℕ, Bool, true, false, cond, not, ◌&&◌, ◌||◌, ◌+◌, ◌≤◌, eqb, List, [], ◌∷◌, Option, Some, None, Ordering, Less, Equal, Greater, refl, sym, ap, ◌∙◌, subst, arith}
use Rattle.std.specs.Map.{lookup, remove_entry}
use Rattle.std.specs.BTreeMap.{is_at, insert_entry}
use Rattle.std.specs.Ordering.{is_eq, is_gt, match_ordering}
use Rattle.std.specs.Option.{is_some, IfSome}
use Rattle.std.specs.Prelude.{slice_get}
use Rattle.std.proofs.lemmas.Bool.Decides.{nat_tests}
use Rattle.std.proofs.Math.Bool.{and-false}
use Rattle.std.proofs.Math.Nat.{add_left_cancel}
use Rattle.std.proofs.lemmas.Bool.{and_parts, or_parts, true≢false, eq-eqb}
use Rattle.std.proofs.lemmas.Option.{same_Some}
use Rattle.wamp_ids.proofs.Lemmas.{same_pattern-true}
use Rattle.wamp_ids.specs.Pattern.{PatternText, same_pattern}
use Rattle.subscription_index.specs.Index.{Row, IsStrictlyAscending, IsNamed, IsNumberedTo, is_before, keys, has_key, same_key, NamesInAll, count_of, number_held, number_of, holds_number, pattern_of, insert_row, is_meant, without, without_all}
use Rattle.subscription_index.specs.Members.{has_row}
use Rattle.subscription_index.specs.body.Holders.{Holders, Counts, IsShared, is_holder, count_at}
use Rattle.subscription_index.proofs.Arithmetic.{or_left_comm}
use Rattle.subscription_index.proofs.HolderCounts.{pair_cmp}
use Rattle.subscription_index.proofs.Keys.{absent, same_key-true, same_key-refl, ascending-insert}
use Rattle.subscription_index.proofs.NumbersNamePatterns.{names_held, named-filter}
use Rattle.subscription_index.proofs.CommandsKeepIndexes.{count-insert}
use Rattle.subscription_index.proofs.Members.{same_row_self, has_row-insert, pattern_of-has_row, has_row-left, has_row-number_of, has_row-no_number, number_of-has_row, has_row-holds_number, has_row-holds_no_number, has_row-pattern_of, has_row-named, has_row-number_held, has_row-not_held}

row_at : (c n : ℕ) (k : ℕ × ℕ) → is_eq (pair_cmp (c, n) k) ≡ eqb k.0 c && eqb k.1 n
row_at c n k = grind (arith, nat_tests)

-- a look-up by the key
pub looked_up : (rows : List Row) (c n : ℕ) → lookup (is_at (pair_cmp (c, n))) rows ≡ pattern_of rows c n
looked_up [] c n = refl
looked_up (x ∷ xs) c n = ap (λ b. cond b (Some x.1) (lookup (is_at (pair_cmp (c, n))) xs)) (row_at c n x.0) ∙ ap (λ o. cond (eqb x.0.0 c && eqb x.0.1 n) (Some x.1) o) (looked_up xs c n)

less_is : (k x : ℕ × ℕ) → pair_cmp k x ≡ Less → is_before x k ≡ false
less_is k x h = grind (arith, nat_tests)

equal_is : (k x : ℕ × ℕ) → pair_cmp k x ≡ Equal → same_key x k ≡ true
equal_is k x h = grind (arith, nat_tests)

greater_is : (k x : ℕ × ℕ) → pair_cmp k x ≡ Greater → is_before x k ≡ true
greater_is k x h = grind (arith, nat_tests)

-- a row with a new key
pub put_in : (k : ℕ × ℕ) (p : PatternText) (rows : List Row) → has_key (keys rows) k ≡ false → insert_entry pair_cmp rows k p ≡ insert_row (k, p) rows
put_in k p [] free = refl
put_in k p (x ∷ xs) free = by_order (put_in k p xs (or_parts (same_key x.0 k) (has_key (keys xs) k) free).1) (pair_cmp k x.0) refl
  where
    by_order : insert_entry pair_cmp xs k p ≡ insert_row (k, p) xs → (o : Ordering) → pair_cmp k x.0 ≡ o
        → match_ordering o ((k, p) ∷ x ∷ xs) ((x.0, p) ∷ xs) (x ∷ insert_entry pair_cmp xs k p) ≡ cond (is_before x.0 k) (x ∷ insert_row (k, p) xs) ((k, p) ∷ x ∷ xs)
    by_order rest Less h = sym (ap (λ b. cond b (x ∷ insert_row (k, p) xs) ((k, p) ∷ x ∷ xs)) (less_is k x.0 h))
    by_order rest Equal h =
        let e : true ≡ false = sym (equal_is k x.0 h) ∙ (or_parts (same_key x.0 k) (has_key (keys xs) k) free).0 in
        cc
    by_order rest Greater h = ap (λ rs. x ∷ rs) rest ∙ sym (ap (λ b. cond b (x ∷ insert_row (k, p) xs) ((k, p) ∷ x ∷ xs)) (greater_is k x.0 h))

-- nothing has the key
pub without_absent : (rows : List Row) (c n : ℕ) → has_key (keys rows) (c, n) ≡ false → without rows c n ≡ rows
without_absent [] c n free = refl
without_absent (x ∷ xs) c n free =
    let k = or_parts (same_key x.0 (c, n)) (has_key (keys xs) (c, n)) free in
    ap (λ b. cond (not b) (x ∷ without xs c n) (without xs c n)) k.0 ∙ ap (λ rs. x ∷ rs) (without_absent xs c n k.1)

-- a row taken out
pub taken_out : (rows : List Row) (c n : ℕ) → IsStrictlyAscending (keys rows) → remove_entry (is_at (pair_cmp (c, n))) rows ≡ without rows c n
taken_out [] c n up = refl
taken_out (x ∷ xs) c n up = ap (λ b. cond b xs (x ∷ remove_entry (is_at (pair_cmp (c, n))) xs)) (row_at c n x.0) ∙ by_value (taken_out xs c n up.1) (same_key x.0 (c, n)) refl
  where
    by_value : remove_entry (is_at (pair_cmp (c, n))) xs ≡ without xs c n → (b : Bool) → same_key x.0 (c, n) ≡ b → cond b xs (x ∷ remove_entry (is_at (pair_cmp (c, n))) xs) ≡ cond (not b) (x ∷ without xs c n) (without xs c n)
    by_value rest true h = sym (without_absent xs c n (subst (λ (k : ℕ × ℕ). has_key (keys xs) k ≡ false) (same_key-true x.0 (c, n) h) (absent x.0 (keys xs) up.0)))
    by_value rest false h = ap (λ rs. x ∷ rs) rest

pub key_held : (rows : List Row) (c n : ℕ) → has_key (keys rows) (c, n) ≡ holds_number rows c n
key_held [] c n = refl
key_held (x ∷ xs) c n = ap (λ b. same_key x.0 (c, n) || b) (key_held xs c n)

pub no_pattern : (rows : List Row) (c n : ℕ) → pattern_of rows c n ≡ None → holds_number rows c n ≡ false
no_pattern [] c n h = refl
no_pattern (x ∷ xs) c n h = by_value (no_pattern xs c n) (eqb x.0.0 c && eqb x.0.1 n) h
  where
    by_value : (pattern_of xs c n ≡ None → holds_number xs c n ≡ false) → (b : Bool) → cond b (Some x.1) (pattern_of xs c n) ≡ None → b || holds_number xs c n ≡ false
    by_value rest true k = cc
    by_value rest false k = rest k

pub some_pattern : (rows : List Row) (c n : ℕ) (p : PatternText) → pattern_of rows c n ≡ Some p → holds_number rows c n ≡ true
some_pattern [] c n p h = cc
some_pattern (x ∷ xs) c n p h = by_value (some_pattern xs c n p) (eqb x.0.0 c && eqb x.0.1 n) h
  where
    by_value : (pattern_of xs c n ≡ Some p → holds_number xs c n ≡ true) → (b : Bool) → cond b (Some x.1) (pattern_of xs c n) ≡ Some p → b || holds_number xs c n ≡ true
    by_value rest true k = refl
    by_value rest false k = rest k

pub holds-insert : (r : Row) (rows : List Row) (c n : ℕ) → holds_number (insert_row r rows) c n ≡ (eqb r.0.0 c && eqb r.0.1 n) || holds_number rows c n
holds-insert r [] c n = refl
holds-insert r (x ∷ xs) c n = by_value (holds-insert r xs c n) (is_before x.0 r.0)
  where
    by_value : holds_number (insert_row r xs) c n ≡ (eqb r.0.0 c && eqb r.0.1 n) || holds_number xs c n → (b : Bool) → holds_number (cond b (x ∷ insert_row r xs) (r ∷ x ∷ xs)) c n ≡ (eqb r.0.0 c && eqb r.0.1 n) || holds_number (x ∷ xs) c n
    by_value rest true = ap (λ b. (eqb x.0.0 c && eqb x.0.1 n) || b) rest ∙ or_left_comm (eqb x.0.0 c && eqb x.0.1 n) (eqb r.0.0 c && eqb r.0.1 n) (holds_number xs c n)
    by_value rest false = refl

-- the others of what is held
pub holds-without : (rows : List Row) (d m c n : ℕ) → holds_number (without rows d m) c n ≡ not (eqb d c && eqb m n) && holds_number rows c n
holds-without [] d m c n = sym (and-false (not (eqb d c && eqb m n)))
holds-without (x ∷ xs) d m c n = by_value (holds-without xs d m c n) (eqb x.0.0 d && eqb x.0.1 m) refl
  where
    meets : (h : Bool) → eqb x.0.0 d && eqb x.0.1 m ≡ true → not (eqb d c && eqb m n) && h ≡ not (eqb d c && eqb m n) && ((eqb x.0.0 c && eqb x.0.1 n) || h)
    meets h e = grind (arith, nat_tests)

    apart : (h : Bool) → eqb x.0.0 d && eqb x.0.1 m ≡ false → (eqb x.0.0 c && eqb x.0.1 n) || (not (eqb d c && eqb m n) && h) ≡ not (eqb d c && eqb m n) && ((eqb x.0.0 c && eqb x.0.1 n) || h)
    apart h e = grind (arith, nat_tests)

    by_value : holds_number (without xs d m) c n ≡ not (eqb d c && eqb m n) && holds_number xs c n → (b : Bool) → eqb x.0.0 d && eqb x.0.1 m ≡ b
        → holds_number (cond (not b) (x ∷ without xs d m) (without xs d m)) c n ≡ not (eqb d c && eqb m n) && holds_number (x ∷ xs) c n
    by_value rest true e = rest ∙ meets (holds_number xs c n) e
    by_value rest false e = ap (λ b. (eqb x.0.0 c && eqb x.0.1 n) || b) rest ∙ apart (holds_number xs c n) e

-- one less of the connection that held it
pub count-without : (rows : List Row) (d m c : ℕ) → IsStrictlyAscending (keys rows) → holds_number rows d m ≡ true → cond (eqb d c) 1 0 + count_of (without rows d m) c ≡ count_of rows c
count-without [] d m c up h = let e : false ≡ true = h in cc
count-without (x ∷ xs) d m c up h = by_value (λ k. count-without xs d m c up.1 k) (same_key x.0 (d, m)) refl h
  where
    by_value : (holds_number xs d m ≡ true → cond (eqb d c) 1 0 + count_of (without xs d m) c ≡ count_of xs c) → (b : Bool) → same_key x.0 (d, m) ≡ b → b || holds_number xs d m ≡ true
        → cond (eqb d c) 1 0 + count_of (cond (not b) (x ∷ without xs d m) (without xs d m)) c ≡ cond (eqb x.0.0 c) 1 0 + count_of xs c
    by_value rest true e k =
        let gone : without xs d m ≡ xs = without_absent xs d m (subst (λ (q : ℕ × ℕ). has_key (keys xs) q ≡ false) (same_key-true x.0 (d, m) e) (absent x.0 (keys xs) up.0)) in
        ap (λ rs. cond (eqb d c) 1 0 + count_of rs c) gone ∙ ap (λ (q : ℕ × ℕ). cond (eqb q.0 c) 1 0 + count_of xs c) (sym (same_key-true x.0 (d, m) e))
    by_value rest false e k = shuffle (cond (eqb d c) 1 0) (cond (eqb x.0.0 c) 1 0) (count_of (without xs d m) c) (count_of xs c) (rest k)
      where
        shuffle : (a b n m : ℕ) → a + n ≡ m → a + (b + n) ≡ b + m
        shuffle a b n m e = omega arith

-- ---- holders and counts

pub shared_more : (rows : List Row) (holders h2 : Holders) (counts c2 : Counts) (r : Row) → IsShared rows holders counts → ((c n : ℕ) → is_holder h2 c n ≡ (eqb r.0.0 c && eqb r.0.1 n) || is_holder holders c n)
    → ((c : ℕ) → count_at c2 c ≡ cond (eqb r.0.0 c) 1 0 + count_at counts c) → IsShared (insert_row r rows) h2 c2
shared_more rows holders h2 counts c2 r is h k = record {
  held = λ c n. h c n ∙ ap (λ b. (eqb r.0.0 c && eqb r.0.1 n) || b) (is.held c n) ∙ sym (holds-insert r rows c n);
  counted = λ c. k c ∙ ap (λ m. cond (eqb r.0.0 c) 1 0 + m) (is.counted c) ∙ sym (count-insert r rows c);
}

pub shared_same : (rows : List Row) (holders h2 : Holders) (counts c2 : Counts) → IsShared rows holders counts → ((c n : ℕ) → is_holder h2 c n ≡ is_holder holders c n) → ((c : ℕ) → count_at c2 c ≡ count_at counts c) → IsShared rows h2 c2
shared_same rows holders h2 counts c2 is h k = record { held = λ c n. h c n ∙ is.held c n; counted = λ c. k c ∙ is.counted c }

pub shared_less : (rows : List Row) (holders h2 : Holders) (counts c2 : Counts) (d m : ℕ) → IsStrictlyAscending (keys rows) → holds_number rows d m ≡ true → IsShared rows holders counts
    → ((c n : ℕ) → is_holder h2 c n ≡ not (eqb d c && eqb m n) && is_holder holders c n) → ((c : ℕ) → cond (eqb d c) 1 0 + count_at c2 c ≡ count_at counts c) → IsShared (without rows d m) h2 c2
shared_less rows holders h2 counts c2 d m up has is h k = record {
  held = λ c n. h c n ∙ ap (λ b. not (eqb d c && eqb m n) && b) (is.held c n) ∙ sym (holds-without rows d m c n);
  counted = λ c. add_left_cancel (cond (eqb d c) 1 0) (k c ∙ is.counted c ∙ sym (count-without rows d m c up has));
}

undone : (a b : Bool) → (a ≡ true → b ≡ false) → not a && (a || b) ≡ b
undone true b h = sym (h refl)
undone false b h = refl

-- what was entered was left again
pub entered_and_left : (rows : List Row) (h1 h2 h3 : Holders) (c1 c2 c3 : Counts) (d m : ℕ) → IsShared rows h1 c1 → holds_number rows d m ≡ false
    → ((c n : ℕ) → is_holder h2 c n ≡ (eqb d c && eqb m n) || is_holder h1 c n) → ((c : ℕ) → count_at c2 c ≡ cond (eqb d c) 1 0 + count_at c1 c)
    → ((c n : ℕ) → is_holder h3 c n ≡ not (eqb d c && eqb m n) && is_holder h2 c n) → ((c : ℕ) → cond (eqb d c) 1 0 + count_at c3 c ≡ count_at c2 c) → IsShared rows h3 c3
entered_and_left rows h1 h2 h3 c1 c2 c3 d m is free eh ec lh lc = record {
  held = λ c n. lh c n ∙ ap (λ b. not (eqb d c && eqb m n) && b) (eh c n) ∙ undone (eqb d c && eqb m n) (is_holder h1 c n) (λ e. is.held c n ∙ here c n e) ∙ is.held c n;
  counted = λ c. add_left_cancel (cond (eqb d c) 1 0) (lc c ∙ ec c) ∙ is.counted c;
}
  where
    here : (c n : ℕ) → eqb d c && eqb m n ≡ true → holds_number rows c n ≡ false
    here c n e =
        let f : d ≡ c = grind (arith, nat_tests) in
        let g : m ≡ n = grind (arith, nat_tests) in
        ap (λ x. holds_number rows x n) (sym f) ∙ ap (λ x. holds_number rows d x) (sym g) ∙ free

-- ---- names

-- two lists of rows that call a pattern by the same numbers
agree : (xs ys : List Row) (q : PatternText) → IsNamed xs → IsNamed ys → ((c n : ℕ) → has_row xs ((c, n), q) ≡ true → (d : ℕ) × (has_row ys ((d, n), q) ≡ true)) → ((c n : ℕ) → has_row ys ((c, n), q) ≡ true → (d : ℕ) × (has_row xs ((d, n), q) ≡ true))
    → number_of xs q ≡ number_of ys q
agree xs ys q named_xs named_ys there back = by_first (number_of xs q) refl (number_of ys q) refl
  where
    by_first : (a : Option ℕ) → number_of xs q ≡ a → (b : Option ℕ) → number_of ys q ≡ b → number_of xs q ≡ number_of ys q
    by_first (Some n) e b f =
        let r = has_row-number_of xs q n e in
        let s = there r.0 n r.1 in
        e ∙ sym (number_of-has_row ys s.0 n q named_ys s.1)
    by_first None e None f = e ∙ sym f
    by_first None e (Some n) f =
        let r = has_row-number_of ys q n f in
        let s = back r.0 n r.1 in
        number_of-has_row xs s.0 n q named_xs s.1 ∙ sym f

still_there : (rows : List Row) (d m c n : ℕ) (q : PatternText) → has_row (without rows d m) ((c, n), q) ≡ true → has_row rows ((c, n), q) ≡ true
still_there rows d m c n q h = (and_parts (not (is_meant d (Some m) ((c, n), q))) (has_row rows ((c, n), q)) (sym (has_row-left rows d (Some m) ((c, n), q)) ∙ h)).1

not_meant : (rows : List Row) (d m c n : ℕ) (q : PatternText) → is_meant d (Some m) ((c, n), q) ≡ false → has_row rows ((c, n), q) ≡ true → has_row (without rows d m) ((c, n), q) ≡ true
not_meant rows d m c n q e h = has_row-left rows d (Some m) ((c, n), q) ∙ ap (λ b. not b && has_row rows ((c, n), q)) e ∙ h

-- two rows with one number have one pattern
one_pattern : (rows : List Row) (c d n : ℕ) (p q : PatternText) → IsNamed rows → has_row rows ((c, n), p) ≡ true → has_row rows ((d, n), q) ≡ true → same_pattern p q ≡ true
one_pattern rows c d n p q named e f = has_row-named n p rows d n q (names_held rows p n named (number_of-has_row rows c n p named e)) f ∙ eq-eqb n n refl

-- somebody else holds the pattern: the numbers stay
pub names_kept : (rows : List Row) (d m c : ℕ) → IsNamed rows → holds_number (without rows d m) c m ≡ true → (q : PatternText) → number_of (without rows d m) q ≡ number_of rows q
names_kept rows d m c named other q = agree (without rows d m) rows q (named-filter (λ r. not (is_meant d (Some m) r)) rows named) named (λ a n h. (a, still_there rows d m a n q h)) back
  where
    back : (a n : ℕ) → has_row rows ((a, n), q) ≡ true → (b : ℕ) × (has_row (without rows d m) ((b, n), q) ≡ true)
    back a n h = by_value (is_meant d (Some m) ((a, n), q)) refl
      where
        by_value : (b : Bool) → is_meant d (Some m) ((a, n), q) ≡ b → (e : ℕ) × (has_row (without rows d m) ((e, n), q) ≡ true)
        by_value false e = (a, not_meant rows d m a n q e h)
        by_value true e =
            let same : n ≡ m = grind (arith, nat_tests) in
            let r = has_row-holds_number (without rows d m) c m other in
            let s = still_there rows d m c m r.0 r.1 in
            let t : same_pattern r.0 q ≡ true = one_pattern rows c a m r.0 q named s (subst (λ (k : ℕ). has_row rows ((a, k), q) ≡ true) same h) in
            (c, subst (λ (k : ℕ). has_row (without rows d m) ((c, k), q) ≡ true) (sym same) (subst (λ (p : PatternText). has_row (without rows d m) ((c, m), p) ≡ true) (same_pattern-true r.0 q t) r.1))

-- nobody does: the pattern has no number any longer
pub names_ended : (rows : List Row) (d m : ℕ) (p : PatternText) → IsNamed rows → pattern_of rows d m ≡ Some p → ((c : ℕ) → holds_number (without rows d m) c m ≡ false) → (q : PatternText) → number_of (without rows d m) q ≡ cond (same_pattern p q) None (number_of rows q)
names_ended rows d m p named at nobody q = by_value (same_pattern p q) refl
  where
    row : has_row rows ((d, m), p) ≡ true
    row = has_row-pattern_of rows d m p at

    none : (o : Option ℕ) → number_of (without rows d m) q ≡ o → same_pattern p q ≡ true → o ≡ None
    none None e h = refl
    none (Some n) e h =
        let r = has_row-number_of (without rows d m) q n e in
        let s = still_there rows d m r.0 n q r.1 in
        let number_q : number_of rows q ≡ Some n = number_of-has_row rows r.0 n q named s in
        let number_p : number_of rows q ≡ Some m = number_of-has_row rows d m q named (subst (λ (x : PatternText). has_row rows ((d, m), x) ≡ true) (same_pattern-true p q h) row) in
        let same : n ≡ m = same_Some n m (sym number_q ∙ number_p) in
        let gone = has_row-holds_no_number (without rows d m) r.0 m (nobody r.0) q in
        absurd (true≢false (sym (subst (λ (k : ℕ). has_row (without rows d m) ((r.0, k), q) ≡ true) same r.1) ∙ gone))

    back : same_pattern p q ≡ false → (a n : ℕ) → has_row rows ((a, n), q) ≡ true → (b : ℕ) × (has_row (without rows d m) ((b, n), q) ≡ true)
    back h a n e = by_meant (is_meant d (Some m) ((a, n), q)) refl
      where
        by_meant : (b : Bool) → is_meant d (Some m) ((a, n), q) ≡ b → (k : ℕ) × (has_row (without rows d m) ((k, n), q) ≡ true)
        by_meant false f = (a, not_meant rows d m a n q f e)
        by_meant true f =
            let same : n ≡ m = grind (arith, nat_tests) in
            absurd (true≢false (sym (one_pattern rows d a m p q named row (subst (λ (k : ℕ). has_row rows ((a, k), q) ≡ true) same e)) ∙ h))

    by_value : (b : Bool) → same_pattern p q ≡ b → number_of (without rows d m) q ≡ cond b None (number_of rows q)
    by_value true h = none (number_of (without rows d m) q) refl h
    by_value false h = agree (without rows d m) rows q (named-filter (λ r. not (is_meant d (Some m) r)) rows named) named (λ a n e. (a, still_there rows d m a n q e)) (back h)

pub counted_once : (rows : List Row) (d m k : ℕ) → IsStrictlyAscending (keys rows) → holds_number rows d m ≡ true → k ≡ count_of rows d → 1 ≤ k
counted_once rows d m k up h e = at_least (eqb d d) (count_of (without rows d m) d) (count_of rows d) k (eq-eqb d d refl) (count-without rows d m d up h) e
  where
    at_least : (b : Bool) (n all k : ℕ) → b ≡ true → cond b 1 0 + n ≡ all → k ≡ all → 1 ≤ k
    at_least true n all k f g h = omega arith
    at_least false n all k f g h = let x : false ≡ true = f in cc

-- a row put in and taken out again
pub put_and_taken : (rows : List Row) (c n : ℕ) (p : PatternText) → has_key (keys rows) (c, n) ≡ false → without (insert_row ((c, n), p) rows) c n ≡ rows
put_and_taken [] c n p free = ap (λ b. cond (not b) (((c, n), p) ∷ []) []) (same_key-refl (c, n))
put_and_taken (x ∷ xs) c n p free = by_value (put_and_taken xs c n p k.1) (is_before x.0 (c, n))
  where
    k : (same_key x.0 (c, n) ≡ false) × (has_key (keys xs) (c, n) ≡ false)
    k = or_parts (same_key x.0 (c, n)) (has_key (keys xs) (c, n)) free

    by_value : without (insert_row ((c, n), p) xs) c n ≡ xs → (b : Bool) → without (cond b (x ∷ insert_row ((c, n), p) xs) (((c, n), p) ∷ x ∷ xs)) c n ≡ x ∷ xs
    by_value rest true = ap (λ b. cond (not b) (x ∷ without (insert_row ((c, n), p) xs) c n) (without (insert_row ((c, n), p) xs) c n)) k.0 ∙ ap (λ rs. x ∷ rs) rest
    by_value rest false = ap (λ b. cond (not b) (((c, n), p) ∷ without (x ∷ xs) c n) (without (x ∷ xs) c n)) (same_key-refl (c, n)) ∙ without_absent (x ∷ xs) c n free

-- the pattern of a row that was put in
pub pattern_put : (rows : List Row) (c n : ℕ) (p : PatternText) → IsStrictlyAscending (keys rows) → has_key (keys rows) (c, n) ≡ false → pattern_of (insert_row ((c, n), p) rows) c n ≡ Some p
pattern_put rows c n p up free =
    pattern_of-has_row (insert_row ((c, n), p) rows) c n p (ascending-insert ((c, n), p) rows free up) (has_row-insert ((c, n), p) rows ((c, n), p) ∙ ap (λ b. b || has_row rows ((c, n), p)) (same_row_self ((c, n), p)))

-- c has no row
pub no_rows_of : (last : ℕ) (rows : List Row) (c : ℕ) → IsNumberedTo last rows → ((n : ℕ) → 1 ≤ n → pattern_of rows c n ≡ None) → without_all rows c ≡ rows
no_rows_of last [] c numbered none = refl
no_rows_of last (x ∷ xs) c numbered none = by_value (no_rows_of last xs c numbered.1 (λ n l. later n (none n l))) (eqb x.0.0 c) refl
  where
    later : (n : ℕ) → pattern_of (x ∷ xs) c n ≡ None → pattern_of xs c n ≡ None
    later n h = by_test (eqb x.0.0 c && eqb x.0.1 n) h
      where
        by_test : (b : Bool) → cond b (Some x.1) (pattern_of xs c n) ≡ None → pattern_of xs c n ≡ None
        by_test true k = cc
        by_test false k = k

    here : eqb x.0.0 c ≡ true → Some x.1 ≡ None
    here e = sym (ap (λ b. cond (b && eqb x.0.1 x.0.1) (Some x.1) (pattern_of xs c x.0.1)) e ∙ ap (λ b. cond b (Some x.1) (pattern_of xs c x.0.1)) (eq-eqb x.0.1 x.0.1 refl)) ∙ none x.0.1 numbered.0.0

    by_value : without_all xs c ≡ xs → (b : Bool) → eqb x.0.0 c ≡ b → cond (not b) (x ∷ without_all xs c) (without_all xs c) ≡ x ∷ xs
    by_value rest true e = let k : Some x.1 ≡ None = here e in cc
    by_value rest false e = ap (λ rs. x ∷ rs) rest

-- the numbers after a row was put in
pub number_of-insert : (n : ℕ) (p : PatternText) (c : ℕ) (rows : List Row) (q : PatternText) → NamesInAll n p rows → number_of (insert_row ((c, n), p) rows) q ≡ cond (same_pattern p q) (Some n) (number_of rows q)
number_of-insert n p c [] q all = refl
number_of-insert n p c (x ∷ xs) q all = by_value (number_of-insert n p c xs q all.1) (is_before x.0 (c, n))
  where
    exchanged : (a b : Bool) → same_pattern x.1 q ≡ a → same_pattern p q ≡ b → cond a (Some x.0.1) (cond b (Some n) (number_of xs q)) ≡ cond b (Some n) (cond a (Some x.0.1) (number_of xs q))
    exchanged false b e f = refl
    exchanged true false e f = refl
    exchanged true true e f =
        let s : same_pattern p x.1 ≡ true = ap (λ (y : PatternText). same_pattern p y) (same_pattern-true x.1 q e) ∙ f in
        let t : eqb n x.0.1 ≡ true = sym all.0 ∙ s in
        let k : n ≡ x.0.1 = grind (arith, nat_tests) in
        ap (λ m. Some m) (sym k)

    by_value : number_of (insert_row ((c, n), p) xs) q ≡ cond (same_pattern p q) (Some n) (number_of xs q) → (b : Bool)
        → number_of (cond b (x ∷ insert_row ((c, n), p) xs) (((c, n), p) ∷ x ∷ xs)) q ≡ cond (same_pattern p q) (Some n) (number_of (x ∷ xs) q)
    by_value rest true = ap (λ o. cond (same_pattern x.1 q) (Some x.0.1) o) rest ∙ exchanged (same_pattern x.1 q) (same_pattern p q) refl refl
    by_value rest false = refl

-- somebody holds the pattern already
pub number_of-joined : (rows : List Row) (p : PatternText) (n c : ℕ) (q : PatternText) → IsNamed rows → number_of rows p ≡ Some n → number_of (insert_row ((c, n), p) rows) q ≡ number_of rows q
number_of-joined rows p n c q named e = number_of-insert n p c rows q (names_held rows p n named e) ∙ by_value (same_pattern p q) refl
  where
    by_value : (b : Bool) → same_pattern p q ≡ b → cond b (Some n) (number_of rows q) ≡ number_of rows q
    by_value true h = sym e ∙ ap (λ (x : PatternText). number_of rows x) (same_pattern-true p q h)
    by_value false h = refl

-- the number under which c holds a pattern, from the pattern's number
pub held_where : (rows : List Row) (c : ℕ) (p : PatternText) (n : ℕ) → IsNamed rows → number_of rows p ≡ Some n → number_held rows c p ≡ cond (holds_number rows c n) (Some n) None
held_where rows c p n named e = by_values (number_held rows c p) refl (holds_number rows c n) refl
  where
    by_values : (o : Option ℕ) → number_held rows c p ≡ o → (b : Bool) → holds_number rows c n ≡ b → o ≡ cond b (Some n) None
    by_values None f false g = refl
    by_values None f true g =
        let r = has_row-holds_number rows c n g in
        let k = names_held rows p n named e in
        let s : same_pattern p r.0 ≡ true = has_row-named n p rows c n r.0 k r.1 ∙ eq-eqb n n refl in
        absurd (true≢false (sym (subst (λ (x : PatternText). has_row rows ((c, n), x) ≡ true) (sym (same_pattern-true p r.0 s)) r.1) ∙ has_row-not_held rows c p f n))
    by_values (Some m) f b g =
        let row = has_row-number_held rows c p m f in
        let same : m ≡ n = same_Some m n (sym (number_of-has_row rows c m p named row) ∙ e) in
        by_held b g row same
      where
        by_held : (b : Bool) → holds_number rows c n ≡ b → has_row rows ((c, m), p) ≡ true → m ≡ n → Some m ≡ cond b (Some n) None
        by_held true g row same = ap (λ k. Some k) same
        by_held false g row same = absurd (true≢false (sym row ∙ has_row-holds_no_number rows c m (ap (λ k. holds_number rows c k) same ∙ g) p))

pub held_nowhere : (rows : List Row) (c : ℕ) (p : PatternText) → number_of rows p ≡ None → number_held rows c p ≡ None
held_nowhere rows c p e = by_value (number_held rows c p) refl
  where
    by_value : (o : Option ℕ) → number_held rows c p ≡ o → o ≡ None
    by_value None f = refl
    by_value (Some m) f = let x : true ≡ false = sym (has_row-number_held rows c p m f) ∙ has_row-no_number rows p e c m in cc

pub is_found : (rows : List Row) (c n : ℕ) → is_some (pattern_of rows c n) ≡ holds_number rows c n
is_found [] c n = refl
is_found (x ∷ xs) c n = by_value (is_found xs c n) (eqb x.0.0 c && eqb x.0.1 n)
  where
    by_value : is_some (pattern_of xs c n) ≡ holds_number xs c n → (b : Bool) → is_some (cond b (Some x.1) (pattern_of xs c n)) ≡ b || holds_number xs c n
    by_value rest true = refl
    by_value rest false = rest

pub from_first : (c n w : ℕ) → w ≡ 1 → 1 ≤ n → is_gt (pair_cmp (c, w) (c, n)) ≡ false
from_first c n w e l = grind (arith, nat_tests)

pub others_later : (c n d m w : ℕ) → w ≡ 1 → is_gt (pair_cmp (c, w) (d, m)) ≡ false → eqb d c ≡ false → is_gt (pair_cmp (d, m) (c, n)) ≡ true
others_later c n d m w e g h = grind (arith, nat_tests)

pub first_in : (P : Row → Type 0) (r : List Row) (e : Row) (t : List Row) → r ≡ e ∷ t → IfSome (slice_get r 0) P → P e
first_in P r e t is h = subst (λ (rs : List Row). IfSome (slice_get rs 0) P) is h

pub none_unless : (o : Option PatternText) → ((p : PatternText) → o ≡ Some p → ⊥) → o ≡ None
none_unless None h = refl
none_unless (Some p) h = absurd (h p refl)
