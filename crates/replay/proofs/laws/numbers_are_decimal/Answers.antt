use Rattle.replay.proofs.NumbersAreDecimal.{numbers-are-decimal as law}
use Rattle.replay.proofs.laws.numbers_are_decimal.Goals as goal

pub returns : goal.returns
returns c = law
