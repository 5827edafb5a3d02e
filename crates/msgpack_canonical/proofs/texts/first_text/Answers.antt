use Rattle.msgpack_codec.proofs.ShortTexts.{text-read}
use Rattle.msgpack_canonical.proofs.texts.first_text.Goals as goal

pub returns-in-Some-clause-some : goal.returns-in-Some-clause-some
returns-in-Some-clause-some c = λ room. text-read c.args.octets.now c.in-Some.text.now c.in-Some.rest.now c.in-Some.ensures.spelled c.in-Some.ensures.utf8 c.in-Some.ensures.few room
