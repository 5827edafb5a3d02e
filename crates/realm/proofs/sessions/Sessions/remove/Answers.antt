use Rattle.std.proofs.Common.{sym, ap, ◌∙◌}
use Rattle.realm.specs.body.LiveSessions.{others}
use Rattle.realm.proofs.LiveListOrder.{stands-remove, belongs-others, ordered-others}
use Rattle.realm.proofs.sessions.Sessions.remove.Goals as goal

pub invariant_of-self : goal.invariant_of-self
invariant_of-self c =
    let place = rw c.deref.ensures.value at c.in-Ok.ensures in
    let gone = stands-remove c.self.inside.live.items c.in-Ok.place c.args.conn c.self.invariant place in
    rw (c.remove.ensures.items, gone) (ordered-others c.args.conn c.self.inside.live.items c.self.invariant)

pub returns-in-Ok : goal.returns-in-Ok
returns-in-Ok c =
    let place = rw c.deref.ensures.value at c.in-Ok.ensures in
    c.remove.ensures.items ∙ (stands-remove c.self.inside.live.items c.in-Ok.place c.args.conn c.self.invariant place ∙ ap (others c.args.conn) c.self.view_is)

pub returns-in_default : goal.returns-in_default
returns-in_default c =
    let place = rw c.deref.ensures.value at c.in_default.ensures in
    rw (← c.self.view_is) (sym (belongs-others c.self.inside.live.items c.in_default.field-0 c.args.conn place))
