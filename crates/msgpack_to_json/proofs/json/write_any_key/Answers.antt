use Rattle.std.proofs.Common.{ℕ, List, ◌∷◌, [], ◌++◌, ap, ◌∙◌, append_assoc}
use Rattle.json_codec.specs.Encoder.{json_text}
use Rattle.message_tree.specs.Data.{text}
use Rattle.msgpack_to_json.proofs.Tokens.{no-token-passed, key-passed, no-key-passed}
use Rattle.msgpack_to_json.proofs.json.write_any_key.Goals as goal

pub returns-in-Err-clause-fault : goal.returns-in-Err-clause-fault
returns-in-Err-clause-fault c = λ is room key after read. no-token-passed room c.args.octets.now c.in-Err.ensures.err (text key) after read

pub returns-in_default-clause-fault : goal.returns-in_default-clause-fault
returns-in_default-clause-fault c = λ is room key after read.
    no-key-passed room c.in-Ok.found.0 c.args.octets.now c.in-Ok.found.1.now c.in-Ok.ensures.ok c.in_default.ensures key after read

pub returns-clause-ok : goal.returns-clause-ok
returns-clause-ok c = λ room key after read.
    let k = key-passed room c.in-Ok.found.0 c.args.octets.now c.in-Ok.found.1.now c.in-Ok.ensures.ok c.in-Some.ensures.1 c.in-Some.key.now c.in-Some.ensures.0 key after read in (
      k.1,
      c.in_ok-put.ensures.ok ∙ (ap (λ (o : List ℕ). o ++ 58 ∷ []) c.in_ok-encode_text_into.ensures.ok ∙ (append_assoc c.args.out.now.since (json_text (text c.in-Some.key.now)) (58 ∷ [])
          ∙ ap (λ (s : List ℕ). c.args.out.now.since ++ (json_text (text s) ++ 58 ∷ [])) k.0)),
    )
