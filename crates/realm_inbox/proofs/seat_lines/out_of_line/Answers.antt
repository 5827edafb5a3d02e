use Rattle.std.proofs.Common.{◌<◌, length, refl, sym, ap, ◌∙◌, arith}
use Rattle.realm_inbox.proofs.LinePlaces.{line_is, line_none, popped_from}
use Rattle.realm_inbox.proofs.seat_lines.out_of_line.Goals as goal

pub returns-then-len-place : goal.returns-then-len-place
returns-then-len-place g c = (line_none c.args.lines.now.items c.args.place (omega (arith, c.len.ensures, c.if-len-place.true)), λ k. refl)

pub returns : goal.returns
returns g c =
    let below : c.args.place < length c.args.lines.now.items = omega (arith, c.len.ensures, c.if-len-place.false) in
    let old = c.index_mut.result.now in
    popped_from c.args.lines.now.items c.args.place old c.pop.new.self c.pop.result below (line_is c.args.lines.now.items c.args.place old below ∙ ap (λ l. l.posts.items) (sym c.index_mut.ensures.value)) c.pop.ensures
