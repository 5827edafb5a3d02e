use Rattle.std.proofs.Common.{◌==◌, length, ap, ◌∙◌}
use Rattle.eligibility.proofs.Standing.{none-stand}
use Rattle.eligibility.proofs.texts.Texts.is_empty.Goals as goal

pub returns : goal.returns
returns c =
    let t = c.self.inside in
    c.is_empty.ensures ∙ (ap (λ n. n == 0) t.places.ok.0 ∙ (none-stand t.octets.items t.places.items _ c.self.invariant.same ∙ ap (λ ts. length ts == 0) c.self.view_is))
