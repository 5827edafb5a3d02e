-- What searches add, one after another.
use Rattle.std.proofs.Common.{◌≡◌, ℕ, Bool, true, ◌==◌, ◌||◌, eqb, List, [], ◌∷◌, ◌++◌, Option, Some, None, ◌⊎◌, inl, inr, refl, sym, ap, ◌∙◌, subst}
use Rattle.std.proofs.Math.Bool.{or-false}
use Rattle.std.specs.Str.{bytes_eq}
use Rattle.std.proofs.lemmas.Bool.{or_cases, or_left, or_right, eqb-true, eq-eqb}
use Rattle.std.proofs.lemmas.List.Folds.{list_any-append}
use Rattle.std.proofs.lemmas.Option.{same_Some, none-some}
use Rattle.wamp_ids.proofs.Lemmas.{bytes_eq-true, bytes_eq-refl}
use Rattle.subscription_index.specs.body.Found.{has, Adds}

pub has-append : (xs ys : List ℕ) (n : ℕ) → has (xs ++ ys) n ≡ has xs n || has ys n
has-append xs ys n = list_any-append (λ m. m == n) xs ys

pub one_more : (n m : ℕ) → has (n ∷ []) m ≡ true → n ≡ m
one_more n m h = eqb-true n m (sym (or-false (eqb n m)) ∙ h)

pub has_first : (n : ℕ) (ns : List ℕ) → has (n ∷ ns) n ≡ true
has_first n ns = or_left (eqb n n) (has ns n) (eq-eqb n n refl)

-- nothing is added where no key that passes has a number
pub adds_none : {K : Type 0} (find : K → Option ℕ) (test : K → Bool) (old : List ℕ) → ((k : K) (n : ℕ) → find k ≡ Some n → test k ≡ true → ⊥) → Adds find test old old
adds_none find test old none = record {
  kept = λ n h. h;
  found = λ k n e h. absurd (none k n e h);
  only = λ n h. inl h;
}

-- what is added behind what was there
pub adds_append : {K : Type 0} (find : K → Option ℕ) (test : K → Bool) (old more new : List ℕ) → new ≡ old ++ more → ((k : K) (n : ℕ) → find k ≡ Some n → test k ≡ true → has more n ≡ true)
    → ((n : ℕ) → has more n ≡ true → (k : K) × (find k ≡ Some n) × (test k ≡ true)) → Adds find test old new
adds_append find test old more new e found only = record {
  kept = λ n h. ap (λ ns. has ns n) e ∙ has-append old more n ∙ or_left (has old n) (has more n) h;
  found = λ k n is h. ap (λ ns. has ns n) e ∙ has-append old more n ∙ or_right (has old n) (has more n) (found k n is h);
  only = λ n h. elim (or_cases (has old n) (has more n) (sym (ap (λ ns. has ns n) e ∙ has-append old more n) ∙ h)) [
    | inl l ↦ inl l
    | inr r ↦ inr (only n r)
  ];
}

-- a text's number
pub adds_number : (find : List ℕ → Option ℕ) (text : List ℕ) (n : ℕ) (old new : List ℕ) → find text ≡ Some n → new ≡ old ++ n ∷ [] → Adds find (λ q. bytes_eq text q) old new
adds_number find text n old new is e =
    adds_append find (λ q. bytes_eq text q) old (n ∷ []) new e
    (λ q m f h. subst (λ j. has (n ∷ []) j ≡ true) (same_Some n m (sym is ∙ ap find (bytes_eq-true text q h) ∙ f)) (has_first n []))
    (λ m k. (text, is ∙ ap (λ j. Some j) (one_more n m k), bytes_eq-refl text))

-- a text without a number
pub adds_no_number : (find : List ℕ → Option ℕ) (text : List ℕ) (old : List ℕ) → find text ≡ None → Adds find (λ q. bytes_eq text q) old old
adds_no_number find text old is = adds_none find (λ q. bytes_eq text q) old (λ q n e h. none-some n (sym is ∙ ap find (bytes_eq-true text q h) ∙ e))

-- one search after another
pub adds_both : {K : Type 0} (find : K → Option ℕ) (one two either_test : K → Bool) (a b c : List ℕ) → ((k : K) → either_test k ≡ one k || two k) → Adds find one a b → Adds find two b c → Adds find either_test a c
adds_both {K} find one two either_test a b c e f g = record {
  kept = λ n h. g.kept n (f.kept n h);
  found = λ k n is h. elim (or_cases (one k) (two k) (sym (e k) ∙ h)) [
    | inl l ↦ g.kept n (f.found k n is l)
    | inr r ↦ g.found k n is r
  ];
  only = λ n h. elim (g.only n h) [
    | inl l ↦ from_first n (f.only n l)
    | inr r ↦ inr (r.0, r.1, e r.0 ∙ or_right (one r.0) (two r.0) r.2)
  ];
}
  where
    from_first : (n : ℕ) → (has a n ≡ true) ⊎ ((k : K) × (find k ≡ Some n) × (one k ≡ true)) → (has a n ≡ true) ⊎ ((k : K) × (find k ≡ Some n) × (either_test k ≡ true))
    from_first n (inl l) = inl l
    from_first n (inr r) = inr (r.0, r.1, e r.0 ∙ or_left (one r.0) (two r.0) r.2)

-- one search by another, whose keys answer to its keys
pub adds_by : {K L : Type 0} (find : K → Option ℕ) (test : K → Bool) (other : L → Option ℕ) (other_test : L → Bool) (a b : List ℕ) → ((l : L) (n : ℕ) → other l ≡ Some n → other_test l ≡ true → (k : K) × (find k ≡ Some n) × (test k ≡ true))
    → ((k : K) (n : ℕ) → find k ≡ Some n → test k ≡ true → (l : L) × (other l ≡ Some n) × (other_test l ≡ true)) → Adds find test a b → Adds other other_test a b
adds_by find test other other_test a b there back f = record {
  kept = f.kept;
  found = λ l n is h. let r = there l n is h in f.found r.0 n r.1 r.2;
  only = λ n h. elim (f.only n h) [
    | inl l ↦ inl l
    | inr r ↦ inr (back r.0 n r.1 r.2)
  ];
}

-- another test of the same meaning, and another name of the same search
pub adds_as : {K : Type 0} (find other : K → Option ℕ) (test other_test : K → Bool) (a b : List ℕ) → ((k : K) → other k ≡ find k) → ((k : K) → other_test k ≡ test k) → Adds find test a b → Adds other other_test a b
adds_as find other test other_test a b e t = adds_by find test other other_test a b (λ k n is h. (k, sym (e k) ∙ is, sym (t k) ∙ h)) (λ k n is h. (k, e k ∙ is, t k ∙ h))
