use Rattle.std.proofs.Common.{◌≡◌, ◌++◌, ◌∷◌, [], ap}
use Rattle.ghost_state.specs.GhostList.{items_of as shown}
use Rattle.threaded_server.proofs.Naming.{one_named}
use Rattle.threaded_server.proofs.tcp.TcpAcceptorAcceptor.split.Goals as goal

pub invariant_of-self : goal.invariant_of-self
invariant_of-self g c =
    let old = c.args.self.now in
    let parts = c.in-Ok.parts in
    let lent : shown c.lend.new.self.lent ≡ shown old.account.lent ++ (parts.source, parts.sink) ∷ [] = ap (λ l. l.lent) c.lend.ensures.lending in
    record { named = rw (lent, c.tick.ensures) (one_named (λ h. h.0.name.value) (λ h. h.1.name.value) (shown old.account.lent) (parts.source, parts.sink) old.made old.named c.in-Ok.ensures.read c.in-Ok.ensures.written) }
