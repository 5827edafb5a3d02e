use Rattle.std.proofs.Common.{rules, ◌∙◌}
use Rattle.std.proofs.lemmas.Fn.{always_returns_same}
use Rattle.eligibility.proofs.Ranks.{against, found}
use Rattle.eligibility.proofs.places.find_text.Goals as goal

pub returns : goal.returns
returns c =
    let octets = c.args.octets.now in
    let text = c.args.text.now in
    let at = c.binary_search_by.ensures.position (against octets text) (always_returns_same _ _ _ (λ a r f k. search rules)) in
    c.is_ok.ensures.value ∙ found octets c.args.places.now text c.binary_search_by.result c.requires at c.binary_search_by.ensures.bound
