use Rattle.std.proofs.Common.{◌≡◌, ◌++◌, true, refl, sym, ap, ◌∙◌, subst}
use Rattle.msgpack_codec.specs.Short.{short, has_short}
use Rattle.arguments.proofs.Written.{writable}
use Rattle.arguments.proofs.held.put_tree.Goals as goal

pub returns-in-Ok-clause-ok : goal.returns-in-Ok-clause-ok
returns-in-Ok-clause-ok c = λ is.
    let told = c.if-not-is_carried.ensures in (
      writable c.args.content.now (told.sound refl) (sym told.value) (subst (λ d. has_short d ≡ true) c.tree.ensures c.in-Ok.ensures.fits) c.requires,
      c.in-Ok.ensures.ok ∙ ap (λ d. c.args.out.now.since ++ short d) c.tree.ensures,
    )
