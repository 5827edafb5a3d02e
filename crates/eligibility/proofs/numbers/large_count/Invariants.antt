use Rattle.msgpack_codec.specs.Short.{item_count}
use Rattle.eligibility.proofs.numbers.large_count.Given as goal

abbrev pub decreases-loop-item : goal.decreases-loop-item
decreases-loop-item l = item_count l.items
