use Rattle.std.proofs.Common.{[], ◌∷◌, cond, sym, ap, subst, arith}
use Rattle.std.specs.Prelude.{vec_capacity}
use Rattle.realm_actor.specs.ActorView.{working}
use Rattle.realm_actor.specs.Tables.{CutsNobody}
use Rattle.realm_actor.specs.Handle.{draws}
use Rattle.realm_actor.proofs.HandleLemmas.{as_many}
use Rattle.realm_actor.proofs.AppliedActs.{by_outcome, not_dropped, applies_drawn, loses_by, few_drawn, no_joining, uncut-entry_of}
use Rattle.realm_actor.proofs.TableInvariant.{keeps_rest}
use Rattle.realm_actor.proofs.state.ActorState.enter.Goals as goal

pub returns-clause-outcome : goal.returns-clause-outcome
returns-clause-outcome g c =
    let old = working (g.W.IdSource.given c.args.self.now.words) c.args.self.now in
    let new = working (g.W.IdSource.given c.take_in.new.self.words) c.take_in.new.self in
    let start = g.W.IdSource.given c.entry_of-entry.new.words in
    let drawn = c.entry_of-entry.ensures in
    let lost = cond (draws c.args.act) (drawn.0 ∷ []) [] in
    by_outcome c.take_in.result _ _ _ _
    (applies_drawn c.args.conn c.args.act old new c.entry_of-entry.result c.requires.other drawn.0 start drawn.2 drawn.1)
    (loses_by c.args.conn c.args.act old new lost start drawn.2 (few_drawn (draws c.args.act) drawn.0))
    _ c.take_in.ensures.outcome

pub take_in-requires-clause-uncut : goal.take_in-requires-clause-uncut
take_in-requires-clause-uncut g c =
    let drawn = c.entry_of-entry.ensures in
    let h = c.args.self.now.table.realm in
    subst (λ e. CutsNobody h e) (sym drawn.1) (uncut-entry_of h c.args.conn c.args.act drawn.0)

pub returns-clause-same : goal.returns-clause-same
returns-clause-same g c = λ is. absurd (not_dropped c.take_in.result _ _ is c.take_in.ensures.outcome)

pub returns-clause-room : goal.returns-clause-room
returns-clause-room g c = λ before.
    let old = working (g.W.IdSource.given c.args.self.now.words) c.args.self.now in
    let new = working (g.W.IdSource.given c.take_in.new.self.words) c.take_in.new.self in
    let l = as_many c.take_in.result c.args.conn c.args.act old new (no_joining c.args.act c.requires.other) (returns-clause-outcome g c) in
    let room = ap vec_capacity c.take_in.ensures.last_cut in
    omega (arith, before, l, room)

pub returns-then-not-is_live-clause-keeps : goal.returns-then-not-is_live-clause-keeps
returns-then-not-is_live-clause-keeps g c = keeps_rest c.args.self.now

pub returns-clause-keeps : goal.returns-clause-keeps
returns-clause-keeps g c = let kept = c.take_in.ensures.keeps in record { handled = kept.handled; table = kept.table }
