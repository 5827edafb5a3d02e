use Rattle.std.proofs.Common.{sym, ap, ◌∙◌}
use Rattle.message_tree.specs.Data as tree
use Rattle.msgpack_codec.proofs.Texts.{text_from-utf8, text_from-other}
use Rattle.msgpack_codec.proofs.tokens.text.Goals as goal

pub returns-in-Ok-clause-data : goal.returns-in-Ok-clause-data
returns-in-Ok-clause-data c = ap tree.text c.in-Ok.ensures.ok.0 ∙ sym (text_from-utf8 c.args.octets.now c.in-Ok.ensures.ok.1)

pub returns-in-Err-clause-data : goal.returns-in-Err-clause-data
returns-in-Err-clause-data c = sym (text_from-other c.args.octets.now c.in-Err.ensures.err)
