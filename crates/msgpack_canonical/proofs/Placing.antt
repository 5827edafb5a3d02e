-- One is put in its place by looking at each of those before it.
use Rattle.std.proofs.Common.{◌≡◌, ◌+◌, ◌<◌, ◌≤◌, ℕ, suc, List, [], ◌∷◌, ◌++◌, length, take, drop, drop-cons, add-one, get_or, set, reverse, Ordering, Less, Equal, Greater, sym, ap, ◌∙◌}
use Rattle.std.specs.Ordering.{match_ordering}
use Rattle.std.specs.List.{All, insert}
use Rattle.std.proofs.lemmas.List.{reverse-append, set_split, take_more, append_assoc}
use Rattle.std.proofs.lemmas.List.Elements.{All-cons, All-head, All-tail}
use Rattle.std.proofs.Math.ListN.{drop_of_length-le}
use Rattle.message_tree.proofs.Comparisons.{whichever}
use Rattle.msgpack_canonical.specs.body.Sorting.{placed, in_order}

module _ {X : Type 0} (c : X → X → Ordering) where
  -- those before `at` are passed
  abbrev pub IsPast : X → List X → ℕ → Type 0
  IsPast x xs at = placed c x xs ≡ take at xs ++ placed c x (drop at xs)

  module _ (x : X) (xs : List X) (at : ℕ) (d : X) (past : IsPast x xs at) (inside : at < length xs) where
    abbrev pub y : X
    y = get_or xs at d

    abbrev pub ys : List X
    ys = drop (suc at) xs

    chosen : (r : Ordering) → c x y ≡ r → placed c x xs ≡ take at xs ++ match_ordering r (x ∷ y ∷ ys) (x ∷ ys) (y ∷ placed c x ys)
    chosen r e = past ∙ ap (λ zs. take at xs ++ zs) (ap (placed c x) (drop-cons xs at d inside) ∙ ap (λ o. match_ordering o (x ∷ y ∷ ys) (x ∷ ys) (y ∷ placed c x ys)) e)

    pub placed-less : c x y ≡ Less → placed c x xs ≡ insert xs at x
    placed-less e = chosen Less e ∙ ap (λ zs. take at xs ++ x ∷ zs) (sym (drop-cons xs at d inside))

    pub placed-equal : c x y ≡ Equal → placed c x xs ≡ set xs at x
    placed-equal e = chosen Equal e ∙ sym (set_split xs at x inside)

    pub placed-greater : c x y ≡ Greater → IsPast x xs (at + 1)
    placed-greater e =
        chosen Greater e
        ∙ (sym (append_assoc (take at xs) (y ∷ []) (placed c x ys))
        ∙ (ap (λ (zs : List X). zs ++ placed c x ys) (sym (take_more xs at d inside)) ∙ ap (λ n. take (at + 1) xs ++ placed c x (drop n xs)) (sym (add-one at))))

  pub placed-last : (x : X) (xs : List X) (at : ℕ) → IsPast x xs at → length xs ≤ at → placed c x xs ≡ insert xs at x
  placed-last x xs at past le =
      let none = drop_of_length-le xs le in
      past ∙ ap (λ zs. take at xs ++ zs) (ap (placed c x) none ∙ ap (λ zs. x ∷ zs) (sym none))

  module _ (P : X → Type 0) where
    All-placed : (x : X) (xs : List X) → P x → All P xs → All P (placed c x xs)
    All-placed x [] one all = All-cons P x [] one all
    All-placed x (y ∷ ys) one all =
        let rest = All-tail P y ys all in
        whichever (All P) (c x y) (x ∷ y ∷ ys) (x ∷ ys) (y ∷ placed c x ys) (All-cons P x (y ∷ ys) one all) (All-cons P x ys one rest)
        (All-cons P y (placed c x ys) (All-head P y ys all) (All-placed x ys one rest))

    pub All-in_order : (xs : List X) → All P xs → All P (in_order c xs)
    All-in_order [] all = all
    All-in_order (x ∷ xs) all = All-placed x (in_order c xs) (All-head P x xs all) (All-in_order xs (All-tail P x xs all))

-- one more of those that came
pub reverse-more : {X : Type 0} (xs : List X) (at : ℕ) (d : X) → at < length xs → reverse (take (at + 1) xs) ≡ get_or xs at d ∷ reverse (take at xs)
reverse-more xs at d inside = ap reverse (take_more xs at d inside) ∙ reverse-append (take at xs) (get_or xs at d ∷ [])
