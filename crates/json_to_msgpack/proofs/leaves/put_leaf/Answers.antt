use Rattle.std.proofs.Common.{◌≡◌, ℕ, List, Bool, true, false, refl, sym, subst}
use Rattle.std.proofs.lemmas.Result.{IfOk-weaker}
use Rattle.json_codec.specs.Decoder.{string_tree}
use Rattle.serde_json.specs.Data.{null, boolean, string}
use Rattle.serde_json.specs.Read.{number_of}
use Rattle.json.specs.Token as grammar
use Rattle.json_to_msgpack.specs.declared.token.JsonToken.{JsonToken}
use Rattle.std.specs.String.{string_bytes}
use Rattle.json_to_msgpack.specs.body.Lexing.{token_of}
use Rattle.json_to_msgpack.specs.body.Values.{IsLeafAdded, IsTokenPut, IsNumberPut}
use Rattle.json_to_msgpack.proofs.LeafSpellings.{number_added}
use Rattle.json_to_msgpack.proofs.leaves.put_leaf.Goals as goal

as_token : (fits : Bool) (token kind : JsonToken) (before after : List ℕ) → token ≡ kind → IsTokenPut fits (token_of kind) before after → IsTokenPut fits (token_of token) before after
as_token fits token kind before after e h = subst (λ t. IsTokenPut fits (token_of t) before after) (sym e) h

-- a number that is put is a token that is
number_put : (fits : Bool) (s before after : List ℕ) → IsNumberPut fits (number_of s) before after → IsTokenPut fits (grammar.Token.number s) before after
number_put true s before after h = number_added s before after h
number_put false s before after h = record { digits = s; is = refl; none = h }

pub returns-in-Number : goal.returns-in-Number
returns-in-Number c =
    let before = c.args.out.now.items in
    let after = c.put_number.new.out.items in
    IfOk-weaker c.put_number.result _ _ (λ fits h. as_token fits _ _ before after c.in-Number.is (number_put fits c.in-Number.number.now before after h)) c.put_number.ensures

pub returns-in_ok-put_null-in-Null : goal.returns-in_ok-put_null-in-Null
returns-in_ok-put_null-in-Null c =
    as_token true _ _ c.args.out.now.items c.put_null.new.out.items c.in-Null.is (record { leaf = null; read = refl; added = c.in_ok-put_null-in-Null.ensures })

pub returns-in_ok-put_flag-in-Flag : goal.returns-in_ok-put_flag-in-Flag
returns-in_ok-put_flag-in-Flag c =
    as_token true _ _ c.args.out.now.items c.put_flag.new.out.items c.in-Flag.is (record { leaf = boolean c.in-Flag.value; read = refl; added = c.in_ok-put_flag-in-Flag.ensures })

pub returns-in_ok-put_string-in-String : goal.returns-in_ok-put_string-in-String
returns-in_ok-put_string-in-String c =
    let before = c.args.out.now.items in
    let after = c.put_string.new.out.items in
    as_token true _ _ before after c.in-String.is
    (record { leaf = string (string_bytes c.in-String.text); read = refl; added = subst (λ s. IsLeafAdded (string_tree s) before after) c.as_str.ensures.value c.in_ok-put_string-in-String.ensures })
