use Rattle.message_tree.specs.View.{view}
use Rattle.msgpack_codec.proofs.Messages.{within}
use Rattle.msgpack_codec.proofs.decoder.tree.Goals as goal

pub returns-clause-bounded : goal.returns-clause-bounded
returns-clause-bounded c = within c.args.octets.now (view c.in_ok-tree.tree) c.in_ok-tree.rest.now c.in_ok-tree.ensures.ok
