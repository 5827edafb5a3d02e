use Rattle.std.proofs.Common.{◌≡◌, [], ◌++◌, true, sym, ap, ap₂, ◌∙◌, subst, rules}
use Rattle.message_tree.specs.Data.{is_carried, IsSound}
use Rattle.message_tree.specs.View.{view}
use Rattle.message_tree.specs.Meaning.{meaning}
use Rattle.msgpack_codec.specs.Grammar.{Spells}
use Rattle.msgpack_codec.specs.Short.{short, has_short}
use Rattle.msgpack_codec.proofs.ShortIsSpelled.{short_spells}
use Rattle.msgpack_codec.proofs.encoder.encode.Goals as goal

pub returns-clause-spelled : goal.returns-clause-spelled
returns-clause-spelled c =
    let m = meaning c.args.message.now in
    let before : c.encode_into.new.out.before ≡ [] = c.encode_into.ensures.before ∙ c.new-out.ensures.before ∙ c.new.ensures.items in
    let since : c.encode_into.new.out.since ≡ short m =
    c.in_ok-encode_into.ensures.ok ∙ ap (λ o. o ++ short (view c.tree.result.now)) c.new-out.ensures.since ∙ ap short c.tree.ensures.same in
    let written : c.into_vec.result.items ≡ short m = c.into_vec.ensures ∙ ap₂ (λ o p. o ++ p) before since in
    let carried : is_carried m ≡ true = search rules in
    let sound : IsSound m = search rules in
    subst (λ o. Spells 100 o m) (sym written) (short_spells m 100 sound carried (ap has_short (sym c.tree.ensures.same) ∙ c.in_ok-encode_into.ensures.fits) c.tree.ensures.bounded)
