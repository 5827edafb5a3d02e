use Rattle.std.proofs.Common.{◌∙◌}
use Rattle.message_tree.specs.Data.{no_entries}
use Rattle.msgpack_cursor.proofs.Pairs.{pairs-there}
use Rattle.msgpack_cursor.proofs.dictionary.Dictionary.entries.Goals as goal

pub invariant_of-result : goal.invariant_of-result
invariant_of-result c = ((pairs-there c.self.inside.room c.self.inside.count no_entries c.self.inside.octets.now _ _ c.self.invariant.0).0, c.self.invariant.1)

pub returns : goal.returns
returns c = (pairs-there c.self.inside.room c.self.inside.count no_entries c.self.inside.octets.now _ _ c.self.invariant.0).1 ∙ c.self.view_is
