use Rattle.std.proofs.Common.{◌≡◌, ◌≤◌, [], ◌++◌, IsUtf8, sym, ap, ◌∙◌, subst, arith}
use Rattle.json.specs.Lex.{tokens}
use Rattle.json.specs.Print.{print}
use Rattle.json.specs.Tree.{json_tokens}
use Rattle.serde_json.specs.Written.{outline}
use Rattle.serde_json.proofs.Texts.{print-outline}
use Rattle.message_tree.specs.Data.{depth}
use Rattle.message_tree.specs.View.{view}
use Rattle.json_codec.specs.Encoder.{value_of, json_text}
use Rattle.json_codec.proofs.Laws.{reads_back}
use Rattle.json_codec.proofs.RoundTrip.{read-outline}
use Rattle.json_codec.proofs.encoder.text_of.Goals as goal

written : (c : goal.After-into_inner) → c.write_tree.new.out.tokens ≡ json_tokens (outline (value_of (view c.args.tree.now)))
written c = c.in_ok-write_tree.ensures.ok ∙ ap (λ ts. ts ++ json_tokens (outline (value_of (view c.args.tree.now)))) c.new-out.ensures.tokens

printed : (c : goal.After-into_inner) → print c.write_tree.new.out.tokens ≡ json_text (view c.args.tree.now)
printed c = ap print (written c) ∙ print-outline (value_of (view c.args.tree.now))

pub returns-clause-ok : goal.returns-clause-ok
returns-clause-ok c =
    let before : c.write_tree.new.out.before ≡ [] = c.write_tree.ensures.before ∙ c.new-out.ensures.before ∙ c.in_ok-with_capacity.ensures.items in
    c.into_inner.ensures.items ∙ ap (λ bs. bs ++ print c.write_tree.new.out.tokens) before ∙ printed c

pub returns-clause-reads_back : goal.returns-clause-reads_back
returns-clause-reads_back c sound bounded plain =
    let d = view c.args.tree.now in
    let shallow : depth d ≤ 127 = omega (arith, bounded) in
    let same : tokens (json_text d) ≡ json_tokens (outline (value_of d)) = ap tokens (sym (printed c)) ∙ c.into_inner.ensures.reads_back ∙ written c in (
      value_of d,
      record { utf8 = subst IsUtf8 (printed c) c.into_inner.ensures.utf8; value = read-outline d (json_text d) sound c.requires.carried shallow same },
      sym (reads_back d sound c.requires.carried plain),
    )
