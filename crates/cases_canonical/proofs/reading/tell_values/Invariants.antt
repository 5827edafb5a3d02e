use Rattle.msgpack_codec.specs.Short.{item_count}
use Rattle.cases_canonical.proofs.reading.tell_values.Given as goal

-- each value that is read is one less that is left
abbrev pub decreases-loop-value : goal.decreases-loop-value
decreases-loop-value l = item_count l.rest.items
