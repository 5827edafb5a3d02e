use Rattle.std.proofs.Common.{sym, ap, ◌∙◌, arith}
use Rattle.realm_inbox.proofs.LinePlaces.{line_is}
use Rattle.realm_inbox.proofs.seat_lines.is_empty_at.Goals as goal

pub returns : goal.returns
returns g c = λ empty.
    line_is c.args.lines.now.items c.args.place c.index.result.now (omega (arith, c.len.ensures, c.if-len-place.false)) ∙ ap (λ l. l.posts.items) (sym c.index.ensures) ∙ c.is_empty.ensures.none empty
