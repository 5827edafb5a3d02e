use Rattle.std.proofs.Common.{◌∙◌, ◌≤◌, not, eqb, length, sym, arith}
use Rattle.wamp_ids.specs.Octets.{leads_space}
use Rattle.wamp_ids.proofs.WideScan.{marks_more, any_at_end}
use Rattle.wamp_ids.proofs.wide.any_leads_space.Goals as goal

pub loop-octet-preserved : goal.loop-octet-preserved
loop-octet-preserved c =
    let l = c.loop-octet in
    marks_more leads_space c.args.octets.now l.octet-index l.found c.lead_mark-found.result c.loop-octet-test.true c.lead_mark-found.ensures ∙ l.invariant

pub returns : goal.returns
returns c =
    let octets = c.args.octets.now in
    let l = c.loop-octet in
    let end : length octets ≤ l.octet-index = omega (arith, c.loop-octet-test.false) in
    sym (any_at_end leads_space octets l.octet-index (not (eqb l.found 0)) end) ∙ l.invariant
