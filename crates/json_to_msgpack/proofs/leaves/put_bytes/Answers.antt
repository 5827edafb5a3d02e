use Rattle.std.proofs.Common.{◌≡◌, ◌++◌, ◌<◌, ◌^◌, length, refl, ap, ◌∙◌, append_assoc, arith}
use Rattle.std.proofs.lemmas.Result.{on_ok_weaker}
use Rattle.message_tree.specs.Data.{bytes}
use Rattle.msgpack_codec.specs.Short.{bytes_head}
use Rattle.msgpack_codec.proofs.ShortIsSpelled.{bytes_spelled}
use Rattle.json_to_msgpack.proofs.LeafSpellings.{short_added}
use Rattle.json_to_msgpack.proofs.leaves.put_bytes.Goals as goal

pub returns : goal.returns
returns c =
    let s = c.args.bytes.now in
    let before = c.args.out.now.items in
    let middle = c.put_bytes_head.new.out.items in
    let after = c.put_all.new.out.items in
    let headed : middle ≡ before ++ bytes_head (length s) = c.in_ok-put_bytes_head.ensures in
    let fits : length s < 2 ^ 32 = omega arith in
    on_ok_weaker c.put_all.result
    (λ e. short_added (bytes s) (bytes s) before after refl (λ room. bytes_spelled room s fits) (e ∙ ap (λ l. l ++ s) headed ∙ append_assoc before (bytes_head (length s)) s)) c.put_all.ensures
