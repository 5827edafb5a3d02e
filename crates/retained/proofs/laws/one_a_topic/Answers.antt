use Rattle.retained.proofs.StoreLemmas.{last_alone, ascending-retained}
use Rattle.retained.proofs.laws.one_a_topic.Goals as goal

pub returns : goal.returns
returns c = record { last = last_alone; order = ascending-retained }
