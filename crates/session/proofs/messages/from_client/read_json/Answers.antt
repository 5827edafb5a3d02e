use Rattle.std.proofs.Common.{◌≡◌, sym, subst}
use Rattle.json_to_msgpack.specs.Transliteration.{SaysTheSame, IsTransliterated}
use Rattle.json_to_msgpack.specs.declared.transliteration.Transliteration.TheVariants.{Octets}
use Rattle.session.proofs.Transliterated.{ok_too, bad_too}
use Rattle.session.proofs.messages.from_client.read_json.Goals as goal

pub returns-in-Ok-Octets-clause-ok : goal.returns-in-Ok-Octets-clause-ok
returns-in-Ok-Octets-clause-ok c =
    let turned : c.in-Ok-Octets.field-0 ≡ Octets c.in-Ok-Octets.octets = cc in
    let same : SaysTheSame c.args.json.now c.deref.result.now = subst (SaysTheSame c.args.json.now) (sym c.deref.ensures.value) (subst (IsTransliterated c.args.json.now) turned c.in-Ok-Octets.ensures) in
    ok_too c.args.json.now c.deref.result.now same c.read_octets.result c.read_octets.ensures.ok

pub returns-in-Ok-Octets-clause-bad : goal.returns-in-Ok-Octets-clause-bad
returns-in-Ok-Octets-clause-bad c =
    let turned : c.in-Ok-Octets.field-0 ≡ Octets c.in-Ok-Octets.octets = cc in
    let same : SaysTheSame c.args.json.now c.deref.result.now = subst (SaysTheSame c.args.json.now) (sym c.deref.ensures.value) (subst (IsTransliterated c.args.json.now) turned c.in-Ok-Octets.ensures) in
    bad_too c.args.json.now c.deref.result.now same c.read_octets.result c.read_octets.ensures.bad
