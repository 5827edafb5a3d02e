use Rattle.std.proofs.Common.{◌≡◌, sym, subst}
use Rattle.json_to_msgpack.specs.Transliteration.{SaysTheSame, IsTransliterated}
use Rattle.json_to_msgpack.specs.declared.transliteration.Transliteration.TheVariants.{Octets}
use Rattle.client_messages.proofs.InJson.{answered_too}
use Rattle.client_messages.proofs.events.read_json.Goals as goal

pub returns-in-Ok-Octets-clause-says : goal.returns-in-Ok-Octets-clause-says
returns-in-Ok-Octets-clause-says c =
    let turned : c.in-Ok-Octets.field-0 ≡ Octets c.in-Ok-Octets.octets = cc in
    let same : SaysTheSame c.args.json.now c.deref.result.now = subst (SaysTheSame c.args.json.now) (sym c.deref.ensures.value) (subst (IsTransliterated c.args.json.now) turned c.in-Ok-Octets.ensures) in
    answered_too c.args.json.now c.deref.result.now same c.read_octets.result c.read_octets.ensures.says
