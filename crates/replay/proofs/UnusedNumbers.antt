-- A number that no line named may join.
use Rattle.std.proofs.Common.{◌≡◌, ℕ, ◌≤◌, Bool, true, false, not, ◌&&◌, ◌||◌, eqb, ltb, List, [], ◌∷◌, ◌++◌, refl, sym, ap, ◌∙◌, arith}
use Rattle.std.specs.List.{list_all, list_any}
use Rattle.std.proofs.lemmas.Bool.{eq-eqb, ne_eqb, and_parts, or_left, or_right, and_from}
use Rattle.std.proofs.lemmas.Bool.Decides.{nat_tests}
use Rattle.std.proofs.lemmas.List.Folds.{list_any-append}
use Rattle.wamp_ids.specs.Numbers.{seat_of}
use Rattle.realm.proofs.Lemmas.{clash}
use Rattle.replay.specs.Lines.{is_number}

abbrev names : List ℕ → ℕ → Bool
names named n = list_any (λ m. eqb m n) named

seat-own : (n : ℕ) → is_number n ≡ true → seat_of n ≡ n
seat-own n is =
    let low : 1 ≤ n = grind (arith, nat_tests) in
    let high : n ≤ 256 = grind (arith, nat_tests) in
    omega arith

pub fresh-may_join : (conns named : List ℕ) (n : ℕ) → is_number n ≡ true → names named n ≡ false → list_all (λ d. is_number d && names named d) conns ≡ true
    → list_all (λ d. not (eqb (seat_of d) (seat_of n)) || ltb d n) conns ≡ true
fresh-may_join [] named n is fresh all = refl
fresh-may_join (d ∷ conns) named n is fresh all =
    let parts = and_parts (is_number d && names named d) (list_all (λ x. is_number x && names named x) conns) all in
    let own = and_parts (is_number d) (names named d) parts.0 in
    let other : eqb (seat_of d) (seat_of n) ≡ false = ne_eqb (seat_of d) (seat_of n) (λ same.
    let e : d ≡ n = sym (seat-own d own.0) ∙ (same ∙ seat-own n is) in
    clash (names named n) (sym (ap (names named) e) ∙ own.1) fresh) in
    rw other (fresh-may_join conns named n is fresh parts.1)

-- who was named stays named
pub named-more : (conns named more : List ℕ) → list_all (λ d. is_number d && names named d) conns ≡ true → list_all (λ d. is_number d && names (named ++ more) d) conns ≡ true
named-more [] named more all = refl
named-more (d ∷ conns) named more all =
    let parts = and_parts (is_number d && names named d) (list_all (λ x. is_number x && names named x) conns) all in
    let own = and_parts (is_number d) (names named d) parts.0 in
    let still : names (named ++ more) d ≡ true = list_any-append (λ m. eqb m d) named more ∙ or_left (names named d) (names more d) own.1 in
    and_from (is_number d && names (named ++ more) d) (list_all (λ x. is_number x && names (named ++ more) x) conns) (and_from (is_number d) (names (named ++ more) d) own.0 still) (named-more conns named more parts.1)

pub named-new : (named : List ℕ) (n : ℕ) → names (named ++ n ∷ []) n ≡ true
named-new named n =
    let own : eqb n n ≡ true = eq-eqb n n refl in
    list_any-append (λ m. eqb m n) named (n ∷ []) ∙ or_right (names named n) (eqb n n || false) (or_left (eqb n n) false own)
