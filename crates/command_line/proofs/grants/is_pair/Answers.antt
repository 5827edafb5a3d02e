use Rattle.std.proofs.Common.{◌<◌, length, arith}
use Rattle.std.proofs.lemmas.Str.Pattern.{contains_char}
use Rattle.std.proofs.lemmas.Bool.Decides.{nat_tests}
use Rattle.command_line.proofs.GrantsLemmas.{pair-tested}
use Rattle.command_line.proofs.grants.is_pair.Goals as goal

pub returns : goal.returns
returns c =
    let found = contains_char 58 c.args.role.now c.contains.result c.contains.ensures.cases (omega arith) in
    let some : 0 < length c.args.authid.now = grind (arith, nat_tests, c.is_empty.ensures, c.if-is_empty.false) in
    let also : 0 < length c.args.role.now = grind (arith, nat_tests, c.if-is_empty-2.false) in
    pair-tested c.args.authid.now c.args.role.now c.contains.result some also found.0 found.1
