use Rattle.std.proofs.Common.{◌+◌, ◌*◌, length}
use Rattle.json_to_msgpack.specs.body.Keys.{has_key}
use Rattle.json_to_msgpack.specs.body.Values.{IsListOpen, IsDictOpen}
use Rattle.json_to_msgpack.proofs.values.+values.Given as goal

abbrev pub decreases-put_value : goal.decreases-put_value
decreases-put_value l = 2 * l.level

abbrev pub decreases-put_list : goal.decreases-put_list
decreases-put_list l = 2 * l.level + 1

abbrev pub decreases-put_dict : goal.decreases-put_dict
decreases-put_dict l = 2 * l.level + 1

abbrev pub invariant-put_list-items : goal.invariant-put_list-items
invariant-put_list-items l = IsListOpen l.within l.level l.initial.lexer l.lexer l.fn.out.items l.out.items l.count

abbrev pub decreases-put_list-items : goal.decreases-put_list-items
decreases-put_list-items l = length l.lexer

abbrev pub invariant-put_dict-members : goal.invariant-put_dict-members
invariant-put_dict-members l = IsDictOpen (has_key l.deep) l.level l.initial.lexer l.lexer l.fn.out.items l.out.items l.count

abbrev pub decreases-put_dict-members : goal.decreases-put_dict-members
decreases-put_dict-members l = length l.lexer
