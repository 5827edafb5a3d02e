use Rattle.std.proofs.Common.{None, ◌∙◌, sym, ap, subst, cond}
use Rattle.std.specs.Str.{bytes_eq}
use Rattle.subscription_index.specs.body.Pieces.{AreMade, deep_number}
use Rattle.subscription_index.specs.declared.pieces.Deep.{Deep}
use Rattle.subscription_index.proofs.Texts.{at-remove}
use Rattle.subscription_index.proofs.WildcardPlaces.{number_changed, made-remove}
use Rattle.subscription_index.proofs.deep.Deeps.take.Goals as goal

pub invariant_of-self : goal.invariant_of-self
invariant_of-self c = subst AreMade (sym c.remove.ensures.entries) (made-remove _ c.self.inside.table.entries c.self.invariant)

pub returns : goal.returns
returns c = λ q.
    number_changed q (bytes_eq c.args.text.now q) None c.self.inside.table.entries c.remove.new.self.entries (at-remove {X = Deep} q c.args.text.now c.self.inside.table.entries c.remove.new.self.entries c.remove.ensures.updates.1 c.remove.ensures.entries)
    ∙ ap (λ es. cond (bytes_eq c.args.text.now q) None (deep_number es q)) c.self.view_is
