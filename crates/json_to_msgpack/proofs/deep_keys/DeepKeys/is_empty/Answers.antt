use Rattle.json_to_msgpack.proofs.KeySets.{emptiness}
use Rattle.json_to_msgpack.proofs.deep_keys.DeepKeys.is_empty.Goals as goal

pub returns : goal.returns
returns c = emptiness c.args.self.now.keys c.is_empty.result c.is_empty.ensures.0 c.is_empty.ensures.1
