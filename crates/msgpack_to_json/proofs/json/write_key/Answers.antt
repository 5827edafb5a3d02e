use Rattle.std.proofs.Common.{ℕ, List, ◌∷◌, [], ◌++◌, ap, ◌∙◌, append_assoc}
use Rattle.json_codec.specs.Encoder.{json_text}
use Rattle.message_tree.specs.Data.{Data, text}
use Rattle.msgpack_to_json.proofs.ShortTexts.{text-is}
use Rattle.msgpack_to_json.proofs.json.write_key.Goals as goal

pub returns-in_ok-put-in-Some-clause-ok : goal.returns-in_ok-put-in-Some-clause-ok
returns-in_ok-put-in-Some-clause-ok c = λ room key after read.
    let k = text-is room c.args.octets.now c.in-Some.key.now c.in-Some.rest.now c.in-Some.ensures.spelled c.in-Some.ensures.utf8 c.in-Some.ensures.few (text key) after read in (
      k.1,
      c.in_ok-put-in-Some.ensures.ok ∙ (ap (λ (o : List ℕ). o ++ 58 ∷ []) c.in_ok-encode_text_into-in-Some.ensures.ok ∙ (append_assoc c.args.out.now.since (json_text (text c.in-Some.key.now)) (58 ∷ [])
          ∙ ap (λ (d : Data). c.args.out.now.since ++ (json_text d ++ 58 ∷ [])) k.0)),
    )
