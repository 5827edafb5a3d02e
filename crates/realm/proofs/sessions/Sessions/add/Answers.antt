use Rattle.std.proofs.Common.{◌≡◌, None, sym, ap, ◌∙◌}
use Rattle.realm.specs.body.LiveSessions.{session_of, added}
use Rattle.realm.proofs.LiveListOrder.{stands, belongs-insert, ordered-added}
use Rattle.realm.proofs.sessions.Sessions.add.Goals as goal

pub unreachable-requires : goal.unreachable-requires
unreachable-requires c =
    let place = rw c.deref.ensures.value at c.in-Ok.ensures in
    let there = stands c.self.inside.live.items c.in-Ok.field-0 c.args.who.conn c.args.who c.self.invariant place in
    let none : session_of c.self.inside.live.items c.args.who.conn ≡ None = rw (← c.self.view_is) at c.requires in
    let clash = sym none ∙ there in
    cc

pub invariant_of-self-in-Err : goal.invariant_of-self-in-Err
invariant_of-self-in-Err c =
    let place = rw c.deref.ensures.value at c.in-Err.ensures in
    let free = rw (← c.self.view_is) at c.requires in
    rw (c.in_ok-insert-in-Err.ensures.items, belongs-insert c.self.inside.live.items c.in-Err.place c.args.who place)
    (ordered-added c.args.who c.self.inside.live.items free c.self.invariant)

pub returns-clause-ok : goal.returns-clause-ok
returns-clause-ok c =
    let place = rw c.deref.ensures.value at c.in-Err.ensures in
    c.in_ok-insert-in-Err.ensures.items ∙ (belongs-insert c.self.inside.live.items c.in-Err.place c.args.who place ∙ ap (added c.args.who) c.self.view_is)
