use Rattle.std.proofs.Common.{sym, subst}
use Rattle.realm_actor.specs.ActorView.{working}
use Rattle.realm_actor.specs.Handle.{Does}
use Rattle.realm_actor.specs.Invariant.{Stands}
use Rattle.realm_actor.proofs.HandleLemmas.{does, stands_after, none_after}
use Rattle.realm_actor.proofs.TableInvariant.{keeps_on}
use Rattle.realm_actor.proofs.state.ActorState.handle_act.Goals as goal

pub returns-clause-does : goal.returns-clause-does
returns-clause-does g c =
    let old = working (g.W.IdSource.given c.args.self.now.words) c.args.self.now in
    let acted = working (g.W.IdSource.given c.act-outcome.new.self.words) c.act-outcome.new.self in
    let n = c.name.ensures in
    let news = c.name.new.self.rows.items in
    let named = c.name.new.last_cut.items in
    subst (λ h. Does c.act-outcome.result c.args.letter old (record { history = h; rows = news; words = acted.words }) named) (sym n.realm)
    (does c.act-outcome.result c.args.letter old (record acted { rows = news }) acted.rows named c.requires.stands c.act-outcome.ensures.sound c.act-outcome.ensures.outcome c.act-outcome.ensures.exact n.rows n.named)

pub returns-clause-stands : goal.returns-clause-stands
returns-clause-stands g c =
    let old = working (g.W.IdSource.given c.args.self.now.words) c.args.self.now in
    let acted = working (g.W.IdSource.given c.act-outcome.new.self.words) c.act-outcome.new.self in
    let news = c.name.new.self.rows.items in
    subst (λ h. Stands h news) (sym c.name.ensures.realm)
    (stands_after acted.history acted.rows news c.act-outcome.ensures.sound
    (none_after c.act-outcome.result c.args.letter.conn c.args.letter.act old acted c.requires.stands.none_full c.act-outcome.ensures.outcome)
    c.name.ensures.rows)

pub name-requires-clause-knows : goal.name-requires-clause-knows
name-requires-clause-knows g c = c.act-outcome.ensures.keeps.table.knows c.requires.knows

pub returns-clause-keeps : goal.returns-clause-keeps
returns-clause-keeps g c = let kept = c.act-outcome.ensures.keeps in record { handled = kept.handled; table = keeps_on kept.table c.name.ensures.keeps }
