use Rattle.std.proofs.Common.{◌≡◌, [], sym, ◌∙◌, arith}
use Rattle.realm_inbox.proofs.LinePlaces.{nowhere, not_in_line, not_aside, only_zero}
use Rattle.realm_inbox.proofs.seat_lines.SeatLines.stop_last.Goals as goal

pub returns-then-aside-ne0-clause-kept : goal.returns-then-aside-ne0-clause-kept
returns-then-aside-ne0-clause-kept g c = λ none. absurd (c.place_aside-aside.ensures.some c.if-aside-ne0.true (not_aside c.args.self.now.lines.items c.args.self.now.aside c.place_aside-aside.result none))

pub returns-clause-last : goal.returns-clause-last
returns-clause-last g c = λ zero k seat.
    nowhere c.args.self.now.lines.items c.args.self.now.aside k (c.first_line.ensures.none zero k seat) (c.place_aside-aside.ensures.none (omega (arith, c.if-aside-ne0.false)) k seat)

pub returns-clause-kept : goal.returns-clause-kept
returns-clause-kept g c = λ none.
    only_zero c.first_line.result c.args.place (omega (arith, c.if-place-ne0.false)) (λ seat. c.first_line.ensures.some seat (not_in_line c.args.self.now.lines.items c.args.self.now.aside c.first_line.result none))
