use Rattle.std.proofs.Common.{◌≡◌, ◌∙◌, ◌≤◌, ◌&&◌, not, eqb, true, length, sym, arith}
use Rattle.std.specs.List.{list_any}
use Rattle.wamp_ids.specs.Octets.{passes}
use Rattle.wamp_ids.proofs.WideScan.{answers, passes_more, is_wide, any_more, passes_at_end, any_at_end}
use Rattle.wamp_ids.proofs.ascii.is_topic_so_far.Goals as goal

pub loop-octet-preserved : goal.loop-octet-preserved
loop-octet-preserved c =
    let octets = c.args.octets.now in
    let l = c.loop-octet in
    let n = l.octet-index in (
      any_more is_wide octets n l.wide c.loop-octet-test.true ∙ l.invariant.0,
      passes_more true octets n l.faults c.fault_behind-faults.result l.before c.loop-octet-test.true c.fault_behind-faults.ensures ∙ l.invariant.1,
    )

pub returns : goal.returns
returns c =
    let octets = c.args.octets.now in
    let l = c.loop-octet in
    let n = l.octet-index in
    let end : length octets ≤ n = omega (arith, c.loop-octet-test.false) in
    let good : eqb l.faults 0 && not (eqb l.before 46) ≡ passes true 46 octets = sym (passes_at_end true octets n l.faults l.before end) ∙ l.invariant.1 in
    let wide : l.wide ≡ list_any is_wide octets = sym (any_at_end is_wide octets n l.wide end) ∙ l.invariant.0 in
    let both = answers octets (eqb l.faults 0 && not (eqb l.before 46)) (passes true 46 octets) l.wide c.answer.result c.answer.ensures good wide in
    record { some = both.0; none = both.1 }
