use Rattle.std.proofs.Common.{◌<◌, length, sym, ap, ◌∙◌, arith}
use Rattle.realm_inbox.proofs.LinePlaces.{line_is, pushed_into}
use Rattle.realm_inbox.proofs.seat_lines.into_line.Goals as goal

pub returns : goal.returns
returns g c =
    let below : c.place_of-place.result < length c.args.lines.now.items = omega (arith, c.len.ensures, c.if-len-place.false) in
    let place = c.place_of-place.result in
    let old = c.index_mut.result.now in
    pushed_into c.args.lines.now.items place old c.push.new.self c.args.post c.push.result c.place_of-place.ensures below (line_is c.args.lines.now.items place old below ∙ ap (λ l. l.posts.items) (sym c.index_mut.ensures.value)) c.push.ensures
