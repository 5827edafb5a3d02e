use Rattle.std.proofs.Common.{Some, map, sym, ap, ◌∙◌, subst}
use Rattle.eligibility.specs.Options.{text_of}
use Rattle.eligibility.specs.Lists.{has_text}
use Rattle.eligibility.specs.body.Standing.{listed_in, text_at, IsIndex}
use Rattle.eligibility.proofs.Standing.{seen-list, stands-listed}
use Rattle.eligibility.proofs.texts.Texts.of.Goals as goal

pub invariant_of-result : goal.invariant_of-result
invariant_of-result c =
    let octets = c.args.octets.now in
    let items = c.requires.0 in
    let old = c.in_ok-places.places.items in
    let new = c.put_in_order.new.places.items in
    let seen = seen-list text_of octets items (map (text_at octets) old) c.requires.1 (c.in_ok-places.ensures.ok items c.requires.1) in
    subst (λ o. IsIndex o new) (sym c.in_ok-octets.ensures.items) (record {
      ordered = c.put_in_order.ensures.ordered;
      same = λ s. c.put_in_order.ensures.same s ∙ (stands-listed octets old s ∙ ap (has_text s) (sym seen));
    })

pub returns-clause-ok : goal.returns-clause-ok
returns-clause-ok c = λ items s.
    let octets = c.args.octets.now in
    let old = c.in_ok-places.places.items in
    let each = c.in_ok-places.ensures.ok items s in
    let seen = seen-list text_of octets items (map (text_at octets) old) s each in
    each ∙ ap Some (sym (ap (listed_in text_of) c.in_ok-octets.ensures.items ∙ seen))
