use Rattle.std.proofs.Common.{false}
use Rattle.json_to_msgpack.proofs.KeySets.{key_updated}
use Rattle.json_to_msgpack.proofs.deep_keys.DeepKeys.remove.Goals as goal

pub returns : goal.returns
returns c = key_updated c.args.text c.args.self.now.keys c.remove.new.self false c.remove.ensures.updates
