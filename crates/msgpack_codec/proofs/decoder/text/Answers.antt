use Rattle.std.proofs.Common.{◌≡◌, sym, ap, ◌∙◌, string_bytes, rules}
use Rattle.message_tree.specs.Data as tree
use Rattle.message_tree.specs.View.{view}
use Rattle.message_tree.specs.declared.tree.Tree.{Text, Uncarried, the_lemmas}
use Rattle.msgpack_codec.proofs.Texts.{text_from-utf8, text_from-other}
use Rattle.msgpack_codec.proofs.decoder.text.Goals as goal

pub returns-in_ok-from_str-in-Ok : goal.returns-in_ok-from_str-in-Ok
returns-in_ok-from_str-in-Ok c =
    let made = c.in_ok-from_str-in-Ok.field-0 in
    let seen : view (Text made) ≡ tree.text (string_bytes made) = search (rules, the_lemmas) in
    let copied : string_bytes made ≡ c.args.octets.now = c.in_ok-from_str-in-Ok.ensures.ok ∙ c.in-Ok.ensures.ok.0 in
    record { ok = seen ∙ ap tree.text copied ∙ sym (text_from-utf8 c.args.octets.now c.in-Ok.ensures.ok.1) }

pub returns-in-Err : goal.returns-in-Err
returns-in-Err c =
    let seen : view Uncarried ≡ tree.uncarried = search (rules, the_lemmas) in
    record { ok = seen ∙ sym (text_from-other c.args.octets.now c.in-Err.ensures.err) }
