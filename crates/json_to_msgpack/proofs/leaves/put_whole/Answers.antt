use Rattle.std.proofs.Common.{ap, rules, FitsSigned}
use Rattle.std.proofs.lemmas.Int.{to_z-of_z}
use Rattle.std.proofs.lemmas.Result.{on_ok_weaker}
use Rattle.std.specs.Int.{w128}
use Rattle.message_tree.specs.Data.{whole}
use Rattle.msgpack_codec.proofs.ShortIsSpelled.{whole_spelled}
use Rattle.json_to_msgpack.proofs.LeafSpellings.{short_added}
use Rattle.json_to_msgpack.proofs.leaves.put_whole.Goals as goal

pub returns : goal.returns
returns c =
    let n = c.args.number in
    let fits : FitsSigned w128 n = search rules in
    on_ok_weaker c.put_whole_short.result
    (λ e. short_added _ (whole n) c.args.out.now.items c.put_whole_short.new.out.items (ap whole (to_z-of_z w128 n fits)) (λ room. whole_spelled room n c.requires) e) c.put_whole_short.ensures
