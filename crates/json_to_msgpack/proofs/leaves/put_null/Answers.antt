use Rattle.std.proofs.Common.{refl}
use Rattle.std.proofs.lemmas.Result.{on_ok_weaker}
use Rattle.message_tree.specs.Data.{null}
use Rattle.msgpack_codec.proofs.ShortIsSpelled.{null_spelled}
use Rattle.json_to_msgpack.proofs.LeafSpellings.{short_added}
use Rattle.json_to_msgpack.proofs.leaves.put_null.Goals as goal

pub returns : goal.returns
returns c = on_ok_weaker c.put.result (λ e. short_added null null c.args.out.now.items c.put.new.out.items refl null_spelled e) c.put.ensures
