use Rattle.std.proofs.Common.{refl, sym, ◌∙◌, subst, arith}
use Rattle.realm_actor.specs.ActorView.{working}
use Rattle.realm_actor.specs.Stop.{Stops}
use Rattle.realm_actor.specs.Invariant.{Stands}
use Rattle.realm_actor.proofs.StopLemmas.{stops, closes_moved, outcome_applied, outcome_refused}
use Rattle.realm_actor.proofs.HandleLemmas.{stands_after}
use Rattle.realm_actor.proofs.TableInvariant.{keeps_on}
use Rattle.realm_actor.proofs.state.ActorState.stop.Goals as goal

pub returns-then-all_closed-clause-stops : goal.returns-then-all_closed-clause-stops
returns-then-all_closed-clause-stops g c =
    let old = working (g.W.IdSource.given c.args.self.now.words) c.args.self.now in
    let b = c.close_all-all_closed.new.self in
    let words = g.W.IdSource.given c.close_all-all_closed.new.words in
    let t = c.close_all-all_closed.ensures.closes in
    let n = c.name.ensures in
    let news = c.name.new.self.rows.items in
    let named = c.name.new.last_cut.items in
    subst (λ h. Stops _ old (record { history = h; rows = news; words = words }) named) (sym n.realm)
    (stops _ old (record { history = b.realm; rows = news; words = words }) b.rows.items t.0 t.1 named
    c.requires.stands c.close_all-all_closed.ensures.sound t.2 (sym (outcome_applied t.1 (sym t.4 ∙ c.if-all_closed.true))) n.rows t.3 n.named)

pub returns-else-all_closed-clause-stops : goal.returns-else-all_closed-clause-stops
returns-else-all_closed-clause-stops g c =
    let old = working (g.W.IdSource.given c.args.self.now.words) c.args.self.now in
    let b = c.close_all-all_closed.new.self in
    let words = g.W.IdSource.given c.close_all-all_closed.new.words in
    let t = c.close_all-all_closed.ensures.closes in
    let n = c.name.ensures in
    let news = c.name.new.self.rows.items in
    let named = c.name.new.last_cut.items in
    subst (λ h. Stops _ old (record { history = h; rows = news; words = words }) named) (sym n.realm)
    (stops _ old (record { history = b.realm; rows = news; words = words }) b.rows.items t.0 t.1 named
    c.requires.stands c.close_all-all_closed.ensures.sound t.2 (sym (outcome_refused t.1 (sym t.4 ∙ c.if-all_closed.false))) n.rows t.3 n.named)

pub name-requires-clause-room : goal.name-requires-clause-room
name-requires-clause-room g c =
    let n = (closes_moved c.close_all-all_closed.ensures.closes.2).0 in
    let room = c.requires.room in
    let same = c.clear.ensures.capacity in
    omega (arith, n, room, same)

pub returns-then-all_closed-clause-stands : goal.returns-then-all_closed-clause-stands
returns-then-all_closed-clause-stands g c =
    let b = c.close_all-all_closed.new.self in
    let e = c.close_all-all_closed.ensures in
    let news = c.name.new.self in
    subst (λ h. Stands h news.rows.items) (sym c.name.ensures.realm) (stands_after b.realm b.rows.items news.rows.items e.sound e.none c.name.ensures.rows)

pub returns-else-all_closed-clause-stands : goal.returns-else-all_closed-clause-stands
returns-else-all_closed-clause-stands g c =
    let b = c.close_all-all_closed.new.self in
    let e = c.close_all-all_closed.ensures in
    let news = c.name.new.self in
    subst (λ h. Stands h news.rows.items) (sym c.name.ensures.realm) (stands_after b.realm b.rows.items news.rows.items e.sound e.none c.name.ensures.rows)

pub returns-then-all_closed-clause-room : goal.returns-then-all_closed-clause-room
returns-then-all_closed-clause-room g c =
    let n = (closes_moved c.close_all-all_closed.ensures.closes.2).0 in
    let m = c.name.ensures.rows.0 in
    let room = c.requires.room in
    let same = c.clear.ensures.capacity in
    let kept = c.name.ensures.capacity in
    omega (arith, n, m, room, same, kept)

pub returns-else-all_closed-clause-room : goal.returns-else-all_closed-clause-room
returns-else-all_closed-clause-room g c =
    let n = (closes_moved c.close_all-all_closed.ensures.closes.2).0 in
    let m = c.name.ensures.rows.0 in
    let room = c.requires.room in
    let same = c.clear.ensures.capacity in
    let kept = c.name.ensures.capacity in
    omega (arith, n, m, room, same, kept)

pub name-requires-clause-knows : goal.name-requires-clause-knows
name-requires-clause-knows g c = c.close_all-all_closed.ensures.keeps.knows c.requires.knows

pub returns-then-all_closed-clause-keeps : goal.returns-then-all_closed-clause-keeps
returns-then-all_closed-clause-keeps g c = record { handled = refl; table = keeps_on c.close_all-all_closed.ensures.keeps c.name.ensures.keeps }

pub returns-else-all_closed-clause-keeps : goal.returns-else-all_closed-clause-keeps
returns-else-all_closed-clause-keeps g c = record { handled = refl; table = keeps_on c.close_all-all_closed.ensures.keeps c.name.ensures.keeps }
