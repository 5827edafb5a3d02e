use Rattle.std.proofs.Common.{◌≡◌, [], sym, ap, ◌∙◌, refl, subst, arith}
use Rattle.realm_inbox.proofs.LinePlaces.{line_is, none_below, none_anywhere}
use Rattle.realm_inbox.proofs.seat_lines.first_line.Goals as goal

pub returns-then-not-is_empty-clause-some : goal.returns-then-not-is_empty-clause-some
returns-then-not-is_empty-clause-some g c = λ seat none.
    c.if-not-is_empty.ensures.some refl (ap (λ l. l.posts.items) c.index.ensures ∙ sym (line_is c.args.lines.now.items c.loop-place.place c.index.result.now (omega arith)) ∙ none)

pub loop-place-preserved : goal.loop-place-preserved
loop-place-preserved g c =
    none_below c.args.lines.now.items c.loop-place.place c.loop-place.invariant
    (line_is c.args.lines.now.items c.loop-place.place c.index.result.now (omega arith) ∙ ap (λ l. l.posts.items) (sym c.index.ensures) ∙ c.if-not-is_empty.ensures.none refl)

pub returns-clause-none : goal.returns-clause-none
returns-clause-none g c = λ zero. none_anywhere c.args.lines.now.items c.loop-place.place c.loop-place.invariant (omega arith)
