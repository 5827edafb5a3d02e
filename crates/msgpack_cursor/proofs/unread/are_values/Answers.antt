use Rattle.std.proofs.Common.{◌≡◌, ◌-◌, refl, sym, ap, ◌∙◌, arith}
use Rattle.msgpack_codec.proofs.Loops.{one-left, none-left}
use Rattle.msgpack_cursor.specs.Standing.{is_whole}
use Rattle.msgpack_cursor.proofs.Walking.{none-whole, one-behind, whole-end}
use Rattle.msgpack_cursor.proofs.unread.are_values.Goals as goal

pub loop-init : goal.loop-init
loop-init c = let e : c.args.count - 0 ≡ c.args.count = omega arith in ap (λ n. is_whole 99 n c.args.octets.now) e

pub returns-in_default : goal.returns-in_default
returns-in_default c =
    let l = c.loop in
    sym (none-whole 99 _ l.rest.now c.in_default.ensures.none) ∙ (one-left (λ n. is_whole 99 n l.rest.now) c.args.count l.counter c.loop-test.true ∙ l.invariant)

pub loop-preserved : goal.loop-preserved
loop-preserved c =
    let l = c.loop in
    one-behind 99 _ l.rest.now _ c.in-Some.next.now c.in-Some.ensures.some
    ∙ (one-left (λ n. is_whole 99 n l.rest.now) c.args.count l.counter c.loop-test.true ∙ l.invariant)

pub returns : goal.returns
returns c =
    let l = c.loop in
    c.is_empty.ensures ∙ (sym (whole-end 99 0 l.rest.now refl) ∙ (none-left (λ n. is_whole 99 n l.rest.now) c.args.count l.counter c.loop-test.false ∙ l.invariant))
