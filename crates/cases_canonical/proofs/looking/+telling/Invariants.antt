use Rattle.std.proofs.Common.{◌+◌, ◌*◌}
use Rattle.msgpack_codec.specs.Short.{item_count}
use Rattle.cases_canonical.proofs.looking.+telling.Given as goal

abbrev pub decreases-tell : goal.decreases-tell
decreases-tell l = 2 * l.room

abbrev pub decreases-tell_elements : goal.decreases-tell_elements
decreases-tell_elements l = 2 * l.room + 1

abbrev pub decreases-tell_dictionary : goal.decreases-tell_dictionary
decreases-tell_dictionary l = 2 * l.room + 1

-- each value that is read is one less that is left
abbrev pub decreases-tell_elements-loop-value : goal.decreases-tell_elements-loop-value
decreases-tell_elements-loop-value l = item_count l.elements
