use Rattle.std.proofs.Common.{◌+◌, length, sym, ap, ◌∙◌}
use Rattle.std.proofs.lemmas.Bool.{eq-eqb, ne_eqb}
use Rattle.retained.specs.body.Counts.{component_count}
use Rattle.retained.proofs.CountLemmas.{dots_match, no_match}
use Rattle.retained.proofs.kept.Kept.is_matched.Goals as goal

pub returns-then-text-count : goal.returns-then-text-count
returns-then-text-count c =
    let own = c.self.invariant ∙ ap (λ p. component_count p.topic) c.self.view_is in
    let counted = sym c.requires ∙ c.in-Some.is in
    let long = ap (λ text. length text + 1) (sym c.text.ensures.same) ∙ c.if-text-count.true in
    let all = dots_match c.args.pattern.now c.args.self.now.topic c.in-Some.count counted (c.if-count-self.true ∙ own) long in
    eq-eqb _ _ c.if-text-count.true ∙ sym all

pub returns-else-count-self : goal.returns-else-count-self
returns-else-count-self c =
    let own = c.self.invariant ∙ ap (λ p. component_count p.topic) c.self.view_is in
    let counted = sym c.requires ∙ c.in-Some.is in
    let none = no_match c.args.pattern.now c.args.self.now.topic c.in-Some.count counted (λ same. c.if-count-self.false (same ∙ sym own)) in
    ne_eqb _ _ c.if-count-self.false ∙ sym none
