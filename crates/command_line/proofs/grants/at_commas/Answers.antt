use Rattle.std.proofs.Common.{arith}
use Rattle.std.proofs.lemmas.Iterator.Consumers.{map_from_collect}
use Rattle.std.proofs.lemmas.Iterator.Splits.{YieldsList-from_str_split}
use Rattle.command_line.proofs.grants.at_commas.Goals as goal

pub returns : goal.returns
returns c =
    let whole = map_from_collect _ c.collect.ensures.ran (YieldsList-from_str_split 44 c.args.text.now (omega arith) c.split.ensures.text c.split.ensures.has_more c.split.ensures.pattern) in
    let was = c.in_ok-collect.was in
    record { texts = rw was at whole }
