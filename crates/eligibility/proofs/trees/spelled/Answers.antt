use Rattle.std.proofs.Common.{◌≡◌, ◌≤◌, [], ◌++◌, true, false, sym, ap, ap₂, ◌∙◌, subst, arith, rules}
use Rattle.message_tree.specs.Data.{depth, is_carried, IsSound}
use Rattle.message_tree.specs.View.{view}
use Rattle.msgpack_codec.specs.Grammar.{Spells}
use Rattle.msgpack_codec.specs.Short.{short}
use Rattle.msgpack_codec.proofs.ShortIsSpelled.{short_spells}
use Rattle.eligibility.specs.Options.{number_of, text_of}
use Rattle.eligibility.proofs.Unlisted.{unlisted, numbers-plain, texts-plain}
use Rattle.eligibility.proofs.trees.spelled.Goals.{then-not-is_carried-via-then-not-is_carried, then-not-is_carried-via-else-not-is_carried+then-depth-gt-MAX_DEPTH}
use Rattle.eligibility.proofs.trees.spelled.Goals as goal

-- it isn't carried, or nests too deep
wrong : (c : goal.Joined-then-not-is_carried) → is_carried (view c.args.tree.now) ≡ true → depth (view c.args.tree.now) ≤ 1 → ⊥
wrong c carried shallow =
    elim c.then-not-is_carried.branch [
      | then-not-is_carried-via-then-not-is_carried w ↦ let f : false ≡ true = w.if-not-is_carried.ensures.value ∙ carried in absurd cc
      | then-not-is_carried-via-else-not-is_carried+then-depth-gt-MAX_DEPTH w ↦ omega (arith, w.depth.ensures, w.if-depth-gt-MAX_DEPTH.true, shallow)
    ]

pub returns-then-not-is_carried-clause-no_numbers : goal.returns-then-not-is_carried-clause-no_numbers
returns-then-not-is_carried-clause-no_numbers c = λ is. unlisted number_of numbers-plain (view c.args.tree.now) (wrong c)

pub returns-then-not-is_carried-clause-no_texts : goal.returns-then-not-is_carried-clause-no_texts
returns-then-not-is_carried-clause-no_texts c = λ is. unlisted text_of texts-plain (view c.args.tree.now) (wrong c)

pub returns-in-Ok-clause-ok : goal.returns-in-Ok-clause-ok
returns-in-Ok-clause-ok c =
    let d = view c.args.tree.now in
    let before : c.encode_into.new.out.before ≡ [] = c.encode_into.ensures.before ∙ c.new-out.ensures.before ∙ c.new.ensures.items in
    let since : c.encode_into.new.out.since ≡ short d = c.in-Ok.ensures.ok ∙ ap (λ o. o ++ short d) c.new-out.ensures.since in
    let written : c.into_vec.result.items ≡ short d = c.into_vec.ensures ∙ ap₂ (λ o p. o ++ p) before since in
    let carried : is_carried d ≡ true = search rules in
    let sound : IsSound d = search rules in
    let bounded : depth d ≤ 100 = omega arith in
    subst (λ o. Spells 100 o d) (sym written) (short_spells d 100 sound carried c.in-Ok.ensures.fits bounded)
