-- Looking for the first space, octet by octet.
use Rattle.std.proofs.Common.{◌≡◌, ℕ, ◌+◌, ◌-◌, ◌<◌, ◌≤◌, true, false, cond, eqb, List, [], ◌∷◌, ◌++◌, length, length-drop, take, drop, get_or, refl, sym, ap, ◌∙◌, append_assoc, append-nil, add-one, None, Some, arith}
use Rattle.std.specs.declared.option.Option.{Option}
use Rattle.std.proofs.Math.Seq.{drop-cons}
use Rattle.std.proofs.lemmas.Bool.{eq-eqb}
use Rattle.std.proofs.lemmas.Bool.Decides.{nat_tests}
use Rattle.std.proofs.lemmas.List.{drop_all, take_all, take_more}
use Rattle.replay.specs.Lines.{at_space, front_on}

-- the octets stand in front of the first part
abbrev pub fronted : List ℕ → Option (List ℕ × List ℕ) → Option (List ℕ × List ℕ)
fronted xs None = None
fronted xs (Some p) = Some (xs ++ p.0, p.1)

pub fronted-nil : (o : Option (List ℕ × List ℕ)) → o ≡ fronted [] o
fronted-nil None = refl
fronted-nil (Some p) = refl

fronted-one : (xs : List ℕ) (c : ℕ) (o : Option (List ℕ × List ℕ)) → fronted xs (front_on c o) ≡ fronted (xs ++ c ∷ []) o
fronted-one xs c None = refl
fronted-one xs c (Some p) = ap (λ ys. Some (ys, p.1)) (sym (append_assoc xs (c ∷ []) p.0))

-- an octet that is no space
pub fronted-more : (octets : List ℕ) (i : ℕ) → i < length octets → (get_or octets i 0 ≡ 32 → ⊥)
    → fronted (take i octets) (at_space (drop i octets)) ≡ fronted (take (i + 1) octets) (at_space (drop (i + 1) octets))
fronted-more octets i small differs =
    let other : eqb (get_or octets i 0) 32 ≡ false = grind (arith, nat_tests) in
    let here : drop i octets ≡ get_or octets i 0 ∷ drop (i + 1) octets = rw add-one (drop-cons octets i 0 small) in
    let step : at_space (drop i octets) ≡ front_on (get_or octets i 0) (at_space (drop (i + 1) octets)) = ap at_space here ∙ ap (λ b. cond b (Some ([], drop (i + 1) octets)) (front_on (get_or octets i 0) (at_space (drop (i + 1) octets)))) other in
    ap (fronted (take i octets)) step
    ∙ (fronted-one (take i octets) (get_or octets i 0) (at_space (drop (i + 1) octets))
    ∙ ap (λ xs. fronted xs (at_space (drop (i + 1) octets))) (sym (take_more octets i 0 small)))

-- the first space
pub fronted-found : (octets : List ℕ) (i : ℕ) → i < length octets → get_or octets i 0 ≡ 32
    → fronted (take i octets) (at_space (drop i octets)) ≡ Some (take i octets, drop (i + 1) octets)
fronted-found octets i small is =
    let found : eqb (get_or octets i 0) 32 ≡ true = eq-eqb (get_or octets i 0) 32 is in
    let here : drop i octets ≡ get_or octets i 0 ∷ drop (i + 1) octets = rw add-one (drop-cons octets i 0 small) in
    let step : at_space (drop i octets) ≡ Some ([], drop (i + 1) octets) = ap at_space here ∙ ap (λ b. cond b (Some ([], drop (i + 1) octets)) (front_on (get_or octets i 0) (at_space (drop (i + 1) octets)))) found in
    ap (fronted (take i octets)) step ∙ ap (λ xs. Some (xs, drop (i + 1) octets)) (append-nil (take i octets))

-- no space at all
pub fronted-end : (octets : List ℕ) (i : ℕ) → length octets ≤ i → fronted (take i octets) (at_space (drop i octets)) ≡ None
fronted-end octets i past = ap (λ xs. fronted (take i octets) (at_space xs)) (drop_all i octets past)

-- what stands after place i is the rest
pub rest-after : (octets : List ℕ) (i : ℕ) → i < length octets → take (length octets - (i + 1)) (drop (i + 1) octets) ≡ drop (i + 1) octets
rest-after octets i small = take_all (length octets - (i + 1)) (drop (i + 1) octets) (omega (arith, length-drop {A = ℕ}))
