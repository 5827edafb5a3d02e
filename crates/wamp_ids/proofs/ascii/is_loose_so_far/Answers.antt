use Rattle.std.proofs.Common.{◌≡◌, ◌+◌, ◌∙◌, ◌≤◌, ◌&&◌, ◌||◌, eqb, false, bit_or, length, get_or, drop, sym, ap, arith}
use Rattle.std.specs.List.{list_any}
use Rattle.std.specs.Prelude.{nat_lt}
use Rattle.std.proofs.Math.Bool.{and-true}
use Rattle.wamp_ids.specs.Uri.{is_plain}
use Rattle.wamp_ids.specs.Octets.{passes}
use Rattle.wamp_ids.proofs.WideScan.{answers, passes_more, passes-before, is_wide, any_more, passes_at_end, any_at_end}
use Rattle.wamp_ids.proofs.ascii.is_loose_so_far.Goals as goal

pub loop-octet-preserved : goal.loop-octet-preserved
loop-octet-preserved c =
    let octets = c.args.octets.now in
    let l = c.loop-octet in
    let n = l.octet-index in
    let octet = get_or octets n 0 in
    let rest = drop (n + 1) octets in (
      any_more is_wide octets n l.wide c.loop-octet-test.true ∙ l.invariant.0,
      ap (λ b. eqb (bit_or l.faults c.fault_at-faults.result) 0 && b) (passes-before 0 octet rest)
          ∙ passes_more false octets n l.faults c.fault_at-faults.result 0 c.loop-octet-test.true (c.fault_at-faults.ensures ∙ sym (and-true (nat_lt 127 octet || is_plain octet)))
          ∙ l.invariant.1,
    )

pub returns : goal.returns
returns c =
    let octets = c.args.octets.now in
    let l = c.loop-octet in
    let n = l.octet-index in
    let end : length octets ≤ n = omega (arith, c.loop-octet-test.false) in
    let good : eqb l.faults 0 ≡ passes false 0 octets = sym (and-true (eqb l.faults 0)) ∙ sym (passes_at_end false octets n l.faults 0 end) ∙ l.invariant.1 in
    let wide : l.wide ≡ list_any is_wide octets = sym (any_at_end is_wide octets n l.wide end) ∙ l.invariant.0 in
    let both = answers octets (eqb l.faults 0) (passes false 0 octets) l.wide c.answer.result c.answer.ensures good wide in
    record { some = both.0; none = both.1 }
