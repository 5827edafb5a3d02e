use Rattle.std.proofs.Common.{◌≡◌, [], ◌++◌, refl, sym, ap, ◌∙◌, subst}
use Rattle.realm_inbox.specs.SeatLines.{own_part, first_part, waiting}
use Rattle.realm_inbox.proofs.LinePlaces.{not_free}
use Rattle.realm_inbox.proofs.SeatLineSteps.{through, still_none}
use Rattle.realm_inbox.proofs.seat_lines.SeatLines.exchange.Goals as goal

pub returns-then-lets_through-clause-first : goal.returns-then-lets_through-clause-first
returns-then-lets_through-clause-first g c = λ k.
    let at = waiting c.args.self.now in
    subst (λ n. at k ++ own_part k c.args.post ≡ first_part n k c.args.post ++ at k) (sym c.place_of-place.ensures)
    (through at c.args.post (subst (λ n. at n ≡ []) c.place_of-place.ensures (c.if-lets_through.ensures.free refl)) k)

pub returns-then-lets_through-clause-last : goal.returns-then-lets_through-clause-last
returns-then-lets_through-clause-last g c = λ zero.
    still_none (waiting c.args.self.now) c.args.post (λ z. c.if-lets_through.ensures.last refl (c.place_of-place.ensures ∙ z)) (sym c.place_of-place.ensures ∙ zero)

pub unreachable-requires : goal.unreachable-requires
unreachable-requires g c =
    let place = c.place_of-place.result in
    let none = subst (λ n. waiting c.add.new.self n ≡ []) (c.stop_last-place.ensures.kept c.in-None.ensures.none) c.in-None.ensures.none in
    not_free (waiting c.args.self.now place) place c.args.post (sym c.place_of-place.ensures) (sym (c.add.ensures place) ∙ none)

pub returns-clause-first : goal.returns-clause-first
returns-clause-first g c = λ k. sym (c.add.ensures k) ∙ c.in-Some.ensures.first k

pub returns-clause-last : goal.returns-clause-last
returns-clause-last g c = λ zero k seat. sym (c.add.ensures k) ∙ c.stop_last-place.ensures.last zero k seat
