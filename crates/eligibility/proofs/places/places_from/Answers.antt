use Rattle.std.proofs.Common.{◌≡◌, ◌-◌, sym, subst, arith}
use Rattle.msgpack_codec.proofs.Loops.{one-left, none-left}
use Rattle.eligibility.proofs.Walking.{ReadSoFar, begun, one-more, other-member, ended}
use Rattle.eligibility.proofs.places.places_from.Goals as goal

pub loop-init : goal.loop-init
loop-init c =
    let all : c.args.count - 0 ≡ c.args.count = omega arith in
    rw (c.in_ok-places.ensures.items, all) (begun c.args.octets.now c.args.members.now c.args.count c.requires)

pub loop-preserved : goal.loop-preserved
loop-preserved c =
    let l = c.loop in
    let so = subst (λ n. ReadSoFar c.args.octets.now c.args.members.now l.rest.now c.args.count n l.places.items) (sym (one-left (λ n. n) c.args.count l.counter c.loop-test.true)) l.invariant in
    rw c.in_ok-push.ensures.items (one-more c.args.octets.now c.args.members.now l.rest.now c.args.count _ l.places.items c.in-Some._text.now c.in-Some.next.now c.in_ok-place_of.field-0 so c.in-Some.ensures.some c.in_ok-place_of.ensures)

pub returns-in_default-clause-bad : goal.returns-in_default-clause-bad
returns-in_default-clause-bad c = λ is there.
    let l = c.loop in
    let so = subst (λ n. ReadSoFar c.args.octets.now c.args.members.now l.rest.now c.args.count n l.places.items) (sym (one-left (λ n. n) c.args.count l.counter c.loop-test.true)) l.invariant in
    other-member c.args.octets.now c.args.members.now l.rest.now c.args.count _ l.places.items so c.in_default.ensures.none there

pub returns-clause-ok : goal.returns-clause-ok
returns-clause-ok c = λ there.
    let l = c.loop in
    let so = subst (λ n. ReadSoFar c.args.octets.now c.args.members.now l.rest.now c.args.count n l.places.items) (sym (none-left (λ n. n) c.args.count l.counter c.loop-test.false)) l.invariant in
    ended c.args.octets.now c.args.members.now l.rest.now c.args.count l.places.items so there
