use Rattle.std.proofs.Common.{◌∙◌, ap₂, ◌&&◌}
use Rattle.wamp_ids.proofs.AsciiScan.{or_is_zero}
use Rattle.wamp_ids.proofs.ascii.fault_behind.Goals as goal

pub returns : goal.returns
returns c = or_is_zero c.fault_at.result c.fault_of_dots.result ∙ ap₂ (λ a b. a && b) c.fault_at.ensures c.fault_of_dots.ensures
