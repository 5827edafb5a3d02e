use Rattle.std.proofs.Common.{◌∙◌, refl, sym}
use Rattle.wamp_ids.proofs.WideScan.{no_space}
use Rattle.wamp_ids.proofs.wide.has_space.Goals as goal

pub returns-else-any_leads_space : goal.returns-else-any_leads_space
returns-else-any_leads_space c = sym (no_space c.args.octets.now 0 0 refl refl (sym c.any_leads_space.ensures ∙ c.if-any_leads_space.false))
