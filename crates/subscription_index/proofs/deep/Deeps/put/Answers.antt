use Rattle.std.proofs.Common.{Some, ◌∙◌, sym, ap, subst, cond}
use Rattle.std.specs.Str.{bytes_eq}
use Rattle.subscription_index.specs.body.Pieces.{AreMade, IsMade, deep_number, numbers_of}
use Rattle.subscription_index.specs.declared.pieces.Deep.{Deep}
use Rattle.subscription_index.proofs.Texts.{at-insert, at_text}
use Rattle.subscription_index.proofs.WildcardPlaces.{number_changed, made-insert}
use Rattle.subscription_index.proofs.deep.Deeps.put.Goals as goal

pub invariant_of-self-2 : goal.invariant_of-self-2
invariant_of-self-2 c =
    subst AreMade (sym c.in_ok-insert.ensures.entries)
    (made-insert c.in_ok-key.key c.in_ok-deep.deep c.self.inside.table.entries (subst (λ t. IsMade c.in_ok-deep.deep t) (sym c.in_ok-key.ensures.items) c.in_ok-deep.ensures.made) c.self.invariant)

pub returns-clause-ok : goal.returns-clause-ok
returns-clause-ok c = λ q.
    number_changed q (bytes_eq c.in_ok-key.key.items q) (Some c.in_ok-deep.deep) c.self.inside.table.entries c.insert.new.self.entries
    (ap (λ es. at_text {X = Deep} q es) c.in_ok-insert.ensures.entries ∙ at-insert q c.in_ok-key.key c.in_ok-deep.deep c.self.inside.table.entries)
    ∙ (ap (λ text. cond (bytes_eq text q) (Some c.in_ok-deep.deep.number) (deep_number (numbers_of c.self.inside.table.entries) q)) c.in_ok-key.ensures.items
    ∙ (ap (λ n. cond (bytes_eq c.args.text.now q) (Some n) (deep_number (numbers_of c.self.inside.table.entries) q)) c.in_ok-deep.ensures.number
    ∙ ap (λ es. cond (bytes_eq c.args.text.now q) (Some c.args.number) (deep_number es q)) c.self.view_is))
