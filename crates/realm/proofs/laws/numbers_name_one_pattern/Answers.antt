use Rattle.realm.proofs.NumbersNameOnePattern.{one-pattern}
use Rattle.realm.proofs.laws.numbers_name_one_pattern.Goals as goal

pub returns : goal.returns
returns c = one-pattern
