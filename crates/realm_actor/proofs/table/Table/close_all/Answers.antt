use Rattle.std.proofs.Common.{refl, sym, ap, ◌∙◌, subst, [], ◌++◌, add-one, arith}
use Rattle.realm_actor.specs.Tables.{standing}
use Rattle.realm_actor.specs.Stop.{Closes, first, one_more}
use Rattle.realm_actor.proofs.StopLemmas.{nil_append, closes_moved}
use Rattle.realm_actor.proofs.TableInvariant.{keeps_none, keeps_on}
use Rattle.realm_actor.specs.Words.{◌⊕◌}
use Rattle.realm_actor.proofs.WordSteps.{more_on, none_more}
use Rattle.realm_actor.proofs.table.Table.close_all.Goals as goal

pub loop-place-init : goal.loop-place-init
loop-place-init g c = record { closes = ([], [], first, sym (none_more (g.W.IdSource.given c.args.words.now)), refl); sound = c.requires.sound; none = c.requires.none; keeps = keeps_none c.args.self.now }

pub close_at-is_closed-requires-clause-inside : goal.close_at-is_closed-requires-clause-inside
close_at-is_closed-requires-clause-inside g c =
    let n = (closes_moved c.loop-place.invariant.closes.2).0 in
    omega (arith, n, c.loop-place-test.true)

pub loop-place-preserved : goal.loop-place-preserved
loop-place-preserved g c =
    let i = c.loop-place.invariant in
    let t = i.closes in
    let u = c.close_at-is_closed.ensures.closes in
    let a = c.args.self.now in
    let b = c.close_at-is_closed.new.self in
    record {
      closes = (
        t.0 ++ u.0,
        t.1 ++ u.1,
        subst (λ k. Closes (standing a) k (t.0 ++ u.0) (t.1 ++ u.1) (standing b)) (sym (add-one c.loop-place.place)) (one_more t.2 u.2),
        u.3 ∙ ap (λ l. l ⊕ u.0) t.3 ∙ more_on (g.W.IdSource.given c.args.words.now) t.0 u.0,
        c.both-all_closed.ensures ∙ nil_append t.1 u.1 c.loop-place.all_closed c.close_at-is_closed.result t.4 u.4,
      );
      sound = c.close_at-is_closed.ensures.sound;
      none = c.close_at-is_closed.ensures.none;
      keeps = keeps_on i.keeps c.close_at-is_closed.ensures.keeps;
    }
