-- The last connection at each seat, after one Join more.
use Rattle.std.proofs.Common.{◌≡◌, ℕ, ◌-◌, ◌<◌, ◌%◌, Bool, true, false, not, ◌||◌, ◌&&◌, eqb, ltb, List, length, get_or, get_or-set_other, set, refl, sym, ap, ◌∙◌, None, Some, arith}
use Rattle.std.specs.declared.option.Option.{Option}
use Rattle.std.proofs.lemmas.Bool.{eqb-true}
use Rattle.std.proofs.lemmas.Bool.Decides.{nat_tests}
use Rattle.std.proofs.lemmas.Grind.{get_or-set_at}
use Rattle.std.proofs.Math.Bool.{and-true}
use Rattle.wamp_ids.specs.Numbers.{seat_of}
use Rattle.realm.specs.body.LiveSessions.{is_above, may_join_by}

seat-place : (c : ℕ) → seat_of c - 1 < 256
seat-place c = let small : (c - 1) % 256 < 256 = omega arith in omega arith

other-place : (c d : ℕ) → eqb (seat_of d) (seat_of c) ≡ false → eqb (seat_of c - 1) (seat_of d - 1) ≡ false
other-place c d other = grind (arith, nat_tests)

above-next : (o : Option ℕ) (d c : ℕ) → is_above o d ≡ true → ltb d c ≡ (ltb d c && is_above o c)
above-next None d c above = sym (and-true (ltb d c))
above-next (Some e) d c above = grind (arith, nat_tests)

-- after a Join of d, one may join whose number is above d where the seat is the same, and who might have joined before
pub noted : (last : List (Option ℕ)) (d c : ℕ) → length last ≡ 256 → may_join_by last d ≡ true
    → may_join_by (set last (seat_of d - 1) (Some d)) c ≡ ((not (eqb (seat_of d) (seat_of c)) || ltb d c) && may_join_by last c)
noted last d c long may = at (eqb (seat_of d) (seat_of c)) refl
  where
    within : seat_of d - 1 < length last
    within = rw long (seat-place d)

    at : (b : Bool) → eqb (seat_of d) (seat_of c) ≡ b → may_join_by (set last (seat_of d - 1) (Some d)) c ≡ ((not b || ltb d c) && may_join_by last c)
    at true is =
        let same : seat_of d ≡ seat_of c = eqb-true (seat_of d) (seat_of c) is in
        let place : seat_of c - 1 ≡ seat_of d - 1 = ap (λ s. s - 1) (sym same) in
        let now : get_or (set last (seat_of d - 1) (Some d)) (seat_of c - 1) None ≡ Some d = get_or-set_at last (seat_of d - 1) (seat_of c - 1) (Some d) None place within in
        rw now (above-next (get_or last (seat_of d - 1) None) d c may ∙ ap (λ i. ltb d c && is_above (get_or last i None) c) (sym place))
    at false is =
        let now : get_or (set last (seat_of d - 1) (Some d)) (seat_of c - 1) None ≡ get_or last (seat_of c - 1) None =
        grind (arith, nat_tests, get_or-set_other, is) in
        rw now refl
