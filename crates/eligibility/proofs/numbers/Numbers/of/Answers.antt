use Rattle.std.proofs.Common.{Some, ◌==◌, length, sym, ap, ◌∙◌}
use Rattle.eligibility.specs.Options.{each_of, number_of}
use Rattle.eligibility.specs.Lists.{has_number}
use Rattle.eligibility.specs.body.IdSet.{holds}
use Rattle.eligibility.specs.body.Standing.{listed_in}
use Rattle.eligibility.proofs.Standing.{held-some, seen-list, bare-list}
use Rattle.eligibility.proofs.numbers.Numbers.of.Goals as goal

pub invariant_of-result : goal.invariant_of-result
invariant_of-result c =
    let h = held-some (holds c.in_ok-ids.ids) (each_of number_of c.args.items) c.in_ok-ids.ensures.ok in
    let seen = ap (listed_in number_of) c.in_ok-given.ensures ∙ seen-list number_of c.args.octets.now c.args.items h.0 c.requires h.1 in (
      c.put_in_order.ensures.ordered,
      λ q lt. ap (has_number q) seen ∙ (h.2 q lt ∙ sym (c.put_in_order.ensures.same q)),
      c.is_bare-is_empty.ensures c.args.items c.requires ∙ (bare-list number_of c.args.items h.0 h.1 ∙ ap (λ zs. length zs == 0) (sym seen)),
    )

pub returns-clause-ok : goal.returns-clause-ok
returns-clause-ok c =
    let h = held-some (holds c.in_ok-ids.ids) (each_of number_of c.args.items) c.in_ok-ids.ensures.ok in
    let seen = ap (listed_in number_of) c.in_ok-given.ensures ∙ seen-list number_of c.args.octets.now c.args.items h.0 c.requires h.1 in
    h.1 ∙ ap Some (sym seen)
