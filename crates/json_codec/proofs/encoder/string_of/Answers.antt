use Rattle.std.proofs.Common.{◌≡◌, [], ◌∷◌, ◌++◌, ap, ◌∙◌}
use Rattle.json.specs.Print.{print}
use Rattle.json.specs.Token.{string}
use Rattle.serde_json.proofs.Texts.{print-outline}
use Rattle.message_tree.specs.Data.{text}
use Rattle.json_codec.specs.Encoder.{value_of}
use Rattle.json_codec.proofs.encoder.string_of.Goals as goal

pub returns : goal.returns
returns c =
    let ts = c.string.new.self.tokens in
    let before : c.string.new.self.before ≡ [] = c.string.ensures.room.0 ∙ c.new-out.ensures.before ∙ c.in_ok-with_capacity.ensures.items in
    let one : ts ≡ string c.args.of.now ∷ [] = c.in_ok-string.ensures.ok ∙ ap (λ ts. ts ++ string c.args.of.now ∷ []) c.new-out.ensures.tokens in
    c.into_inner.ensures.items ∙ ap (λ bs. bs ++ print ts) before ∙ ap print one ∙ print-outline (value_of (text c.args.of.now))
