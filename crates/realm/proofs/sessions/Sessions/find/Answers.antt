use Rattle.std.proofs.Common.{◌≡◌, ◌<◌, length, get_or, Some, sym, ap, ◌∙◌, arith}
use Rattle.std.proofs.lemmas.Bool.{eqb-true}
use Rattle.eligibility.specs.declared.who.Who.{Who}
use Rattle.realm.specs.body.LiveSessions.{session_of}
use Rattle.realm.proofs.LiveListOrder.{here, same-at, stands, belongs-none}
use Rattle.realm.proofs.sessions.Sessions.find.Goals as goal

pub returns-in-Ok : goal.returns-in-Ok
returns-in-Ok c =
    let place = rw c.deref.ensures.value at c.in-Ok.ensures in
    ap Some c.index-in-Ok.ensures
    ∙ (sym (stands c.self.inside.live.items c.in-Ok.place c.args.conn c.index-in-Ok.result.now c.self.invariant place)
    ∙ ap (λ ws. session_of ws c.args.conn) c.self.view_is)

pub returns-in-Err : goal.returns-in-Err
returns-in-Err c =
    let place = rw c.deref.ensures.value at c.in-Err.ensures in
    sym (belongs-none c.self.inside.live.items c.in-Err.field-0 c.args.conn place) ∙ ap (λ ws. session_of ws c.args.conn) c.self.view_is

pub returns-then-eq : goal.returns-then-eq
returns-then-eq c =
    let ws = c.self.inside.live.items in
    let guess = get_or c.self.inside.guesses c.seat_index.result 0 in
    let small : get_or c.self.inside.guesses c.seat_index.result 0 < length c.self.inside.live.items = omega arith in
    let other = c.index.result.now in
    let own : (get_or c.self.inside.live.items (get_or c.self.inside.guesses c.seat_index.result 0) c.index.result.now).conn ≡ c.args.conn =
    sym (ap (λ (w : Who). w.conn) c.index.ensures) ∙ eqb-true c.index.result.now.conn c.args.conn (sym c.eq.ensures ∙ c.if-eq.true) in
    let there = here ws guess c.args.conn other c.self.invariant small own in
    ap Some (c.index-then-eq.ensures ∙ same-at ws guess c.index-then-eq.result.now other small)
    ∙ (sym there ∙ ap (λ ws. session_of ws c.args.conn) c.self.view_is)
