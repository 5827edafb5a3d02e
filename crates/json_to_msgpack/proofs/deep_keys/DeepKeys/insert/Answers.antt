use Rattle.std.proofs.Common.{true}
use Rattle.json_to_msgpack.proofs.KeySets.{key_updated}
use Rattle.json_to_msgpack.proofs.deep_keys.DeepKeys.insert.Goals as goal

pub returns : goal.returns
returns c = key_updated c.args.text c.args.self.now.keys c.insert.new.self true c.in-Ok.ensures.updates
