-- Holders by number, and counts by connection.
use Rattle.std.proofs.Common.{◌≡◌, ℕ, suc, zero, Bool, true, false, cond, not, ◌&&◌, ◌||◌, ◌+◌, eqb, List, [], ◌∷◌, ◌++◌, take, drop, length, Option, Some, None, Ordering, Less, refl, sym, ap, ◌∙◌, arith, rules}
use Rattle.std.proofs.lemmas.Bool.Decides.{nat_tests}
use Rattle.std.specs.List.{filter, dedup, dedup_from, AllByRecursion}
use Rattle.std.specs.List.Sorted.{IsStrictlySortedBy}
use Rattle.std.specs.Cmp.{IsTotalOrder}
use Rattle.std.specs.Cmp.Rules.{comparing}
use Rattle.std.specs.BTreeMap.{get}
use Rattle.std.specs.Ordering.{nat_cmp, is_eq, ordering_then, eq_by_cmp}
use Rattle.std.proofs.Math.Bool.{and-true, and-false, or_self_left}
use Rattle.std.proofs.lemmas.Bool.{eqb-true}
use Rattle.std.proofs.lemmas.List.{nil_from_length}
use Rattle.std.proofs.lemmas.List.Folds.{list_any-append}
use Rattle.subscription_index.specs.body.Found.{has}
use Rattle.subscription_index.specs.Index.{is_before, IsBeforeAll, IsStrictlyAscending, has_key, same_key}
use Rattle.subscription_index.specs.body.Holders.{Holders, Counts, among, is_holder, count_or_none, count_at}
use Rattle.subscription_index.proofs.Arithmetic.{or_left_comm}
use Rattle.subscription_index.proofs.Keys.{same_key-true}
use Rattle.subscription_index.proofs.FoundLemmas.{has_first}

same_order : (k n : ℕ) → is_eq (nat_cmp k n) ≡ eqb k n
same_order k n = grind (arith, nat_tests)

-- the count of one connection was set
pub count_set : (old new : Counts) (k v : ℕ) → ((n : ℕ) → get nat_cmp new n ≡ cond (is_eq (nat_cmp k n)) (Some v) (get nat_cmp old n)) → (c : ℕ) → count_at new c ≡ cond (eqb k c) v (count_at old c)
count_set old new k v set c = ap count_or_none (set c ∙ ap (λ b. cond b (Some v) (get nat_cmp old c)) (same_order k c)) ∙ by_value (eqb k c)
  where
    by_value : (b : Bool) → count_or_none (cond b (Some v) (get nat_cmp old c)) ≡ cond b v (count_at old c)
    by_value true = refl
    by_value false = refl

pub count_raised : (old new : Counts) (k v : ℕ) → ((n : ℕ) → get nat_cmp new n ≡ cond (is_eq (nat_cmp k n)) (Some v) (get nat_cmp old n)) → v ≡ 1 + count_at old k → (c : ℕ) → count_at new c ≡ cond (eqb k c) 1 0 + count_at old c
count_raised old new k v set e c = count_set old new k v set c ∙ by_value (eqb k c) refl
  where
    by_value : (b : Bool) → eqb k c ≡ b → cond b v (count_at old c) ≡ cond b 1 0 + count_at old c
    by_value true h = e ∙ ap (λ x. 1 + count_at old x) (eqb-true k c h)
    by_value false h = omega arith

pub count_lowered : (old new : Counts) (k v : ℕ) → ((n : ℕ) → get nat_cmp new n ≡ cond (is_eq (nat_cmp k n)) (Some v) (get nat_cmp old n)) → 1 + v ≡ count_at old k → (c : ℕ) → cond (eqb k c) 1 0 + count_at new c ≡ count_at old c
count_lowered old new k v set e c = ap (λ m. cond (eqb k c) 1 0 + m) (count_set old new k v set c) ∙ by_value (eqb k c) refl
  where
    by_value : (b : Bool) → eqb k c ≡ b → cond b 1 0 + cond b v (count_at old c) ≡ count_at old c
    by_value true h = e ∙ ap (λ x. count_at old x) (eqb-true k c h)
    by_value false h = omega arith

pub zero_dropped : (old new : Counts) (k : ℕ) → ((n : ℕ) → get nat_cmp new n ≡ cond (is_eq (nat_cmp k n)) None (get nat_cmp old n)) → count_at old k ≡ 0 → (c : ℕ) → count_at new c ≡ count_at old c
zero_dropped old new k set e c = ap count_or_none (set c ∙ ap (λ b. cond b None (get nat_cmp old c)) (same_order k c)) ∙ by_value (eqb k c) refl
  where
    by_value : (b : Bool) → eqb k c ≡ b → count_or_none (cond b None (get nat_cmp old c)) ≡ count_at old c
    by_value true h = sym e ∙ ap (λ x. count_at old x) (eqb-true k c h)
    by_value false h = refl

-- the list of one number was set
pub list_set : (old new : Holders) (k : ℕ) (v : Option (List ℕ)) → ((n : ℕ) → get nat_cmp new n ≡ cond (is_eq (nat_cmp k n)) v (get nat_cmp old n)) → (c n : ℕ) → is_holder new c n ≡ cond (eqb k n) (among v c) (is_holder old c n)
list_set old new k v set c n = ap (λ o. among o c) (set n ∙ ap (λ b. cond b v (get nat_cmp old n)) (same_order k n)) ∙ by_value (eqb k n)
  where
    by_value : (b : Bool) → among (cond b v (get nat_cmp old n)) c ≡ cond b (among v c) (is_holder old c n)
    by_value true = refl
    by_value false = refl

pub list_same : (old new : Holders) (k : ℕ) (v : Option (List ℕ)) → ((n : ℕ) → get nat_cmp new n ≡ cond (is_eq (nat_cmp k n)) v (get nat_cmp old n)) → ((c : ℕ) → among v c ≡ is_holder old c k) → (c n : ℕ) → is_holder new c n ≡ is_holder old c n
list_same old new k v set same c n = list_set old new k v set c n ∙ by_value (eqb k n) refl
  where
    by_value : (b : Bool) → eqb k n ≡ b → cond b (among v c) (is_holder old c n) ≡ is_holder old c n
    by_value true h = same c ∙ ap (λ m. is_holder old c m) (eqb-true k n h)
    by_value false h = refl

pub list_raised : (old new : Holders) (conn k : ℕ) (v : Option (List ℕ)) → ((n : ℕ) → get nat_cmp new n ≡ cond (is_eq (nat_cmp k n)) v (get nat_cmp old n)) → ((c : ℕ) → among v c ≡ eqb conn c || is_holder old c k)
    → (c n : ℕ) → is_holder new c n ≡ (eqb conn c && eqb k n) || is_holder old c n
list_raised old new conn k v set more c n = list_set old new k v set c n ∙ by_value (eqb k n) refl
  where
    by_value : (b : Bool) → eqb k n ≡ b → cond b (among v c) (is_holder old c n) ≡ (eqb conn c && b) || is_holder old c n
    by_value true h = more c ∙ ap (λ m. eqb conn c || is_holder old c m) (eqb-true k n h) ∙ ap (λ b. b || is_holder old c n) (sym (and-true (eqb conn c)))
    by_value false h = ap (λ b. b || is_holder old c n) (sym (and-false (eqb conn c)))

pub list_lowered : (old new : Holders) (conn k : ℕ) (v : Option (List ℕ)) → ((n : ℕ) → get nat_cmp new n ≡ cond (is_eq (nat_cmp k n)) v (get nat_cmp old n)) → ((c : ℕ) → among v c ≡ not (eqb conn c) && is_holder old c k)
    → (c n : ℕ) → is_holder new c n ≡ not (eqb conn c && eqb k n) && is_holder old c n
list_lowered old new conn k v set fewer c n = list_set old new k v set c n ∙ by_value (eqb k n) refl
  where
    by_value : (b : Bool) → eqb k n ≡ b → cond b (among v c) (is_holder old c n) ≡ not (eqb conn c && b) && is_holder old c n
    by_value true h = fewer c ∙ ap (λ m. not (eqb conn c) && is_holder old c m) (eqb-true k n h) ∙ ap (λ b. not b && is_holder old c n) (sym (and-true (eqb conn c)))
    by_value false h = ap (λ b. not b && is_holder old c n) (sym (and-false (eqb conn c)))

-- nothing was there: a removal changes nothing
pub list_absent : (old : Holders) (conn k : ℕ) → get nat_cmp old k ≡ None → (c n : ℕ) → is_holder old c n ≡ not (eqb conn c && eqb k n) && is_holder old c n
list_absent old conn k none c n = by_value (eqb k n) refl
  where
    by_value : (b : Bool) → eqb k n ≡ b → is_holder old c n ≡ not (eqb conn c && b) && is_holder old c n
    by_value true h =
        let e : is_holder old c n ≡ false = ap (λ m. is_holder old c m) (sym (eqb-true k n h)) ∙ ap (λ o. among o c) none in
        e ∙ sym (ap (λ b. not (eqb conn c && true) && b) e ∙ and-false (not (eqb conn c && true)))
    by_value false h = sym (ap (λ b. not b && is_holder old c n) (and-false (eqb conn c)))

-- an element put in at any place
pub has-put : (x : ℕ) (xs : List ℕ) (i c : ℕ) → has (take i xs ++ x ∷ drop i xs) c ≡ eqb x c || has xs c
has-put x xs zero c = refl
has-put x [] (suc i) c = refl
has-put x (y ∷ ys) (suc i) c = ap (λ b. eqb y c || b) (has-put x ys i c) ∙ or_left_comm (eqb y c) (eqb x c) (has ys c)

-- the others stay
pub has-filter : (conn : ℕ) (xs : List ℕ) (c : ℕ) → has (filter (λ x. not (eqb x conn)) xs) c ≡ not (eqb conn c) && has xs c
has-filter conn [] c = sym (and-false (not (eqb conn c)))
has-filter conn (x ∷ xs) c = by_value (has-filter conn xs c) (eqb x conn) refl
  where
    meets : (a : Bool) (h : Bool) → eqb x c ≡ a → eqb x conn ≡ true → not (eqb conn c) && h ≡ not (eqb conn c) && (a || h)
    meets a h e f = grind (arith, nat_tests)

    apart : (a : Bool) (h : Bool) → eqb x c ≡ a → eqb x conn ≡ false → a || (not (eqb conn c) && h) ≡ not (eqb conn c) && (a || h)
    apart a h e f = grind (arith, nat_tests)

    by_value : has (filter (λ y. not (eqb y conn)) xs) c ≡ not (eqb conn c) && has xs c → (b : Bool) → eqb x conn ≡ b → has (cond (not b) (x ∷ filter (λ y. not (eqb y conn)) xs) (filter (λ y. not (eqb y conn)) xs)) c ≡ not (eqb conn c) && has (x ∷ xs) c
    by_value rest true f = rest ∙ meets (eqb x c) (has xs c) refl f
    by_value rest false f = ap (λ b. eqb x c || b) rest ∙ apart (eqb x c) (has xs c) refl f

-- what stays of keys, each once
pub has-dedup_from : (k : ℕ × ℕ) (xs : List (ℕ × ℕ)) (q : ℕ × ℕ) → has_key (dedup_from same_key k xs) q ≡ same_key k q || has_key xs q
has-dedup_from k [] q = refl
has-dedup_from k (x ∷ xs) q = by_value (has-dedup_from k xs q) (has-dedup_from x xs q) (same_key x k) refl
  where
    by_value : has_key (dedup_from same_key k xs) q ≡ same_key k q || has_key xs q → has_key (dedup_from same_key x xs) q ≡ same_key x q || has_key xs q
        → (b : Bool) → same_key x k ≡ b → has_key (cond b (dedup_from same_key k xs) (k ∷ dedup_from same_key x xs)) q ≡ same_key k q || (same_key x q || has_key xs q)
    by_value one other true h = one ∙ sym (ap (λ (y : ℕ × ℕ). same_key k q || (same_key y q || has_key xs q)) (same_key-true x k h) ∙ or_self_left (same_key k q) (has_key xs q))
    by_value one other false h = ap (λ b. same_key k q || b) other

pub has-dedup : (xs : List (ℕ × ℕ)) (q : ℕ × ℕ) → has_key (dedup same_key xs) q ≡ has_key xs q
has-dedup [] q = refl
has-dedup (x ∷ xs) q = has-dedup_from x xs q

abbrev pub pair_cmp : ℕ × ℕ → ℕ × ℕ → Ordering
pair_cmp a b = ordering_then (nat_cmp a.0 b.0) (nat_cmp a.1 b.1)

before_is : (a b : ℕ × ℕ) → pair_cmp a b ≡ Less → is_before a b ≡ true
before_is a b h = grind (arith, nat_tests)

pub before_all_is : (k : ℕ × ℕ) (xs : List (ℕ × ℕ)) → AllByRecursion (λ y. pair_cmp k y ≡ Less) xs → IsBeforeAll k xs
before_all_is k [] h = tt
before_all_is k (x ∷ xs) h = (before_is k x h.0, before_all_is k xs h.1)

pub ascending_is : (xs : List (ℕ × ℕ)) → IsStrictlySortedBy pair_cmp xs → IsStrictlyAscending xs
unfolding IsStrictlySortedBy
ascending_is [] h = tt
ascending_is (x ∷ xs) h = (before_all_is x xs h.0, ascending_is xs h.1)

pub pair_ties : (x y : ℕ × ℕ) → same_key x y ≡ eq_by_cmp pair_cmp x y
pair_ties x y = grind (arith, nat_tests)

-- a loop's steps
pub pairs_more : (conn number : ℕ) (old new all : List (ℕ × ℕ)) (conns rest : List ℕ) → new ≡ old ++ (conn, number) ∷ []
    → ((c n : ℕ) → has_key all (c, n) ≡ has_key old (c, n) || (eqb number n && has (conn ∷ rest) c)) → (c n : ℕ) → has_key all (c, n) ≡ has_key new (c, n) || (eqb number n && has rest c)
pairs_more conn number old new all conns rest e inv c n = inv c n ∙ sym (ap (λ ks. has_key ks (c, n) || (eqb number n && has rest c)) e ∙ ap (λ b. b || (eqb number n && has rest c)) (list_any-append (λ x. same_key x (c, n)) old ((conn, number) ∷ [])) ∙ shuffle (has_key old (c, n)) (eqb conn c) (eqb number n) (has rest c))
  where
    shuffle : (a b c d : Bool) → (a || ((b && c) || false)) || (c && d) ≡ a || (c && (b || d))
    shuffle true b c d = refl
    shuffle false true true d = refl
    shuffle false true false d = refl
    shuffle false false true d = refl
    shuffle false false false d = refl

pub nobody : (xs : List ℕ) → eqb (length xs) 0 ≡ true → xs ≡ []
nobody xs h = nil_from_length xs (eqb-true (length xs) 0 h)

pub somebody : (xs : List ℕ) → eqb (length xs) 0 ≡ false → (c : ℕ) × (has xs c ≡ true)
somebody [] h = let e : true ≡ false = h in cc
somebody (x ∷ xs) h = (x, has_first x xs)

-- one more number's holders
pub numbers_more : (number : ℕ) (holders : Holders) (old new all : List (ℕ × ℕ)) (rest : List ℕ) → ((c n : ℕ) → has_key new (c, n) ≡ has_key old (c, n) || (eqb number n && is_holder holders c n))
    → ((c n : ℕ) → (has_key old (c, n) || (has (number ∷ rest) n && is_holder holders c n)) ≡ has_key all (c, n)) → (c n : ℕ) → (has_key new (c, n) || (has rest n && is_holder holders c n)) ≡ has_key all (c, n)
numbers_more number holders old new all rest e inv c n =
    ap (λ b. b || (has rest n && is_holder holders c n)) (e c n) ∙ shuffle (has_key old (c, n)) (eqb number n) (has rest n) (is_holder holders c n) ∙ inv c n
  where
    shuffle : (a b d h : Bool) → (a || (b && h)) || (d && h) ≡ a || ((b || d) && h)
    shuffle true b d h = refl
    shuffle false true d true = refl
    shuffle false true true false = refl
    shuffle false true false false = refl
    shuffle false false d h = refl

pub pairs_total : IsTotalOrder pair_cmp
pairs_total = search (comparing, rules)
