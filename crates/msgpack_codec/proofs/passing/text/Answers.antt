use Rattle.std.proofs.Common.{sym, ap, ◌∙◌, subst}
use Rattle.msgpack_codec.specs.Written.{carriage_of}
use Rattle.msgpack_codec.specs.body.Passing.{text_of}
use Rattle.msgpack_codec.proofs.Texts.{text_from-utf8, text_from-other}
use Rattle.msgpack_codec.specs.Short.{short}
use Rattle.msgpack_codec.specs.body.Writable.{is_writable}
use Rattle.msgpack_codec.specs.body.Passing.{TellsLeaf}
use Rattle.msgpack_codec.proofs.Judgements.{text-judged, judged-false}
use Rattle.msgpack_codec.proofs.passing.text.Goals as goal

pub returns-in-Ok-clause-carriage : goal.returns-in-Ok-clause-carriage
returns-in-Ok-clause-carriage c = ap carriage_of (sym (text_from-utf8 c.args.octets.now c.in-Ok.ensures.ok.1))

pub returns-in-Ok-clause-text : goal.returns-in-Ok-clause-text
returns-in-Ok-clause-text c = ap text_of (sym (text_from-utf8 c.args.octets.now c.in-Ok.ensures.ok.1))

pub returns-in-Err-clause-carriage : goal.returns-in-Err-clause-carriage
returns-in-Err-clause-carriage c = c.no_text.ensures.carriage ∙ ap carriage_of (sym (text_from-other c.args.octets.now c.in-Err.ensures.err))

pub returns-in-Err-clause-text : goal.returns-in-Err-clause-text
returns-in-Err-clause-text c = c.no_text.ensures.text ∙ ap text_of (sym (text_from-other c.args.octets.now c.in-Err.ensures.err))

pub returns-in-Ok-clause-shortest : goal.returns-in-Ok-clause-shortest
returns-in-Ok-clause-shortest c = λ head parts.
    let octets = c.args.octets.now in
    let front = c.args.front.now in
    let said = rw (c.before-in-Ok.ensures head parts) at c.is_text_head.ensures in
    let b = c.is_text_head.result in
    subst (λ d. TellsLeaf b (is_writable d) front (short d)) (sym (text_from-utf8 octets c.in-Ok.ensures.ok.1)) (text-judged b head octets front parts said.0 said.1)

pub returns-in-Err-clause-shortest : goal.returns-in-Err-clause-shortest
returns-in-Err-clause-shortest c = λ head parts.
    let octets = c.args.octets.now in
    let front = c.args.front.now in
    let b = c.no_text.result.is_shortest in
    subst (λ d. TellsLeaf b (is_writable d) front (short d)) (sym (text_from-other octets c.in-Err.ensures.err)) (judged-false b front c.no_text.ensures.shortest)
