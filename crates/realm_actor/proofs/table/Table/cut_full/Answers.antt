use Rattle.std.proofs.Common.{sym, ap, ◌∙◌, subst, [], ◌∷◌, ◌++◌}
use Rattle.std.specs.Prelude.{None}
use Rattle.realm_actor.specs.Rows.{Ascending}
use Rattle.realm_actor.specs.Cuts.{none, one_more, IsLeastFull}
use Rattle.realm_actor.proofs.FoundFull.{full_live, ready_full}
use Rattle.realm_actor.proofs.TableInvariant.{keeps_none, keeps_on}
use Rattle.realm_actor.specs.Words.{◌⊕◌}
use Rattle.realm_actor.proofs.WordSteps.{more_on, none_more}
use Rattle.realm_actor.proofs.table.Table.cut_full.Goals as goal

pub loop-init : goal.loop-init
loop-init g c = ((tt, tt), ([], none, sym (none_more (g.W.IdSource.given c.args.words.now))), c.requires, keeps_none c.args.self.now)

pub loop-preserved : goal.loop-preserved
loop-preserved g c =
    let i = c.loop.invariant in
    let so_far = i.1 in
    let word = c.next_word-word.result in
    let conn = c.in-Some-least_full.conn in
    let least = subst (λ l. IsLeastFull l conn) c.as_slice.ensures.value c.in-Some-least_full.ensures in
    let entered = c.cut.ensures.history in (
      (tt, tt),
      (
        so_far.0 ++ word ∷ [],
        one_more conn word so_far.1 i.2 least entered.1 entered.2 c.cut.ensures.rows,
        c.next_word-word.ensures ∙ ap (λ l. l ⊕ (word ∷ [])) so_far.2 ∙ more_on (g.W.IdSource.given c.args.words.now) so_far.0 (word ∷ []),
      ),
      c.cut.ensures.sound,
      keeps_on i.3 c.cut.ensures.keeps,
    )

pub cut-requires-clause-ready : goal.cut-requires-clause-ready
cut-requires-clause-ready g c =
    let conn = c.in-Some-least_full.conn in
    ready_full c.loop.self.realm c.loop.self.rows.items conn None c.loop.invariant.2 (subst (λ l. IsLeastFull l conn) c.as_slice.ensures.value c.in-Some-least_full.ensures)

pub cut-requires-clause-live : goal.cut-requires-clause-live
cut-requires-clause-live g c =
    let conn = c.in-Some-least_full.conn in
    full_live c.loop.self.realm c.loop.self.rows.items conn c.loop.invariant.2 (subst (λ l. IsLeastFull l conn) c.as_slice.ensures.value c.in-Some-least_full.ensures)

pub shut_transport-requires : goal.shut_transport-requires
shut_transport-requires g c = subst (λ l. Ascending l) (sym c.as_slice-in-loop.ensures.value) c.cut.ensures.sound.ascending
