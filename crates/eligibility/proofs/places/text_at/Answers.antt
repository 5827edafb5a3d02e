use Rattle.std.proofs.Common.{drop, sym, ap, ◌∙◌}
use Rattle.std.proofs.lemmas.List.{drop_min}
use Rattle.msgpack_codec.specs.body.Decoder.{value_at}
use Rattle.eligibility.proofs.Standing.{text-there, text-missing}
use Rattle.eligibility.proofs.places.text_at.Goals as goal

pub returns-in-Some : goal.returns-in-Some
returns-in-Some c =
    let octets = c.args.octets.now in
    let at = c.split_at.ensures.back ∙ (ap (λ k. drop k octets) c.min-start.ensures ∙ drop_min c.args.place octets) in
    c.as_bytes.ensures.value ∙ sym (text-there octets c.args.place c.in-Some.text.now _ (ap (value_at 0) (sym at) ∙ c.in-Some.ensures.some 0))

pub returns-in-None : goal.returns-in-None
returns-in-None c =
    let octets = c.args.octets.now in
    let at = c.split_at.ensures.back ∙ (ap (λ k. drop k octets) c.min-start.ensures ∙ drop_min c.args.place octets) in
    sym (text-missing octets c.args.place (λ k rest e. c.in-None.ensures.none 0 k rest (ap (value_at 0) at ∙ e)))
