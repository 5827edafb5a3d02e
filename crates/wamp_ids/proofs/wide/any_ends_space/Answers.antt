use Rattle.std.proofs.Common.{◌∙◌, ◌≤◌, ◌+◌, ◌||◌, length, get_or, drop, sym, ap, arith}
use Rattle.wamp_ids.specs.Octets.{has_space}
use Rattle.wamp_ids.proofs.WideScan.{space_more, space_at_end}
use Rattle.wamp_ids.proofs.wide.any_ends_space.Goals as goal

pub loop-octet-preserved : goal.loop-octet-preserved
loop-octet-preserved c =
    let octets = c.args.octets.now in
    let l = c.loop-octet in
    let n = l.octet-index in
    ap (λ b. (l.found || b) || has_space l.before (get_or octets n 0) (drop (n + 1) octets)) c.ends_space-found.ensures
    ∙ space_more octets n l.first l.before l.found c.loop-octet-test.true ∙ l.invariant

pub returns : goal.returns
returns c =
    let octets = c.args.octets.now in
    let l = c.loop-octet in
    let end : length octets ≤ l.octet-index = omega (arith, c.loop-octet-test.false) in
    sym (space_at_end octets l.octet-index l.first l.before l.found end) ∙ l.invariant
