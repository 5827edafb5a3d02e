use Rattle.std.proofs.Common.{◌≡◌, ◌++◌, ◌<◌, ◌^◌, length, refl, ap, ◌∙◌, append_assoc, arith}
use Rattle.std.proofs.lemmas.Result.{on_ok_weaker}
use Rattle.message_tree.specs.Data.{text}
use Rattle.msgpack_codec.specs.Short.{text_head}
use Rattle.msgpack_codec.proofs.ShortIsSpelled.{text_spelled}
use Rattle.json_to_msgpack.proofs.LeafSpellings.{short_added}
use Rattle.json_to_msgpack.proofs.leaves.put_text.Goals as goal

pub returns : goal.returns
returns c =
    let s = c.args.text.now in
    let before = c.args.out.now.items in
    let middle = c.put_text_head.new.out.items in
    let after = c.put_all.new.out.items in
    let headed : middle ≡ before ++ text_head (length s) = c.in_ok-put_text_head.ensures in
    let fits : length s < 2 ^ 32 = omega arith in
    on_ok_weaker c.put_all.result
    (λ e. short_added (text s) (text s) before after refl (λ room. text_spelled room s c.utf8.text fits) (e ∙ ap (λ l. middle ++ l) c.as_bytes.ensures.value ∙ ap (λ l. l ++ s) headed ∙ append_assoc before (text_head (length s)) s)) c.put_all.ensures
