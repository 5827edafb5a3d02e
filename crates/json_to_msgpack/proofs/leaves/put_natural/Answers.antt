use Rattle.std.proofs.Common.{◌^◌, refl}
use Rattle.std.specs.Prelude.{pos}
use Rattle.std.proofs.lemmas.Bool.{lt-ltb}
use Rattle.std.proofs.lemmas.Result.{on_ok_weaker}
use Rattle.message_tree.specs.Data.{whole}
use Rattle.msgpack_codec.proofs.ShortIsSpelled.{whole_spelled}
use Rattle.json_to_msgpack.proofs.LeafSpellings.{short_added}
use Rattle.json_to_msgpack.proofs.leaves.put_natural.Goals as goal

pub returns : goal.returns
returns c =
    let n = c.args.number in
    on_ok_weaker c.put_from_zero.result
    (λ e. short_added (whole (pos n)) (whole (pos n)) c.args.out.now.items c.put_from_zero.new.out.items refl (λ room. whole_spelled room (pos n) (lt-ltb n (2 ^ 64) c.ranges.number.fits)) e) c.put_from_zero.ensures
