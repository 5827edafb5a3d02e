use Rattle.std.proofs.Common.{◌≡◌, length, refl, sym, ap, ◌∙◌, arith}
use Rattle.threaded_server.proofs.opening.open.Goals as goal

pub loop-name-init : goal.loop-name-init
loop-name-init g c = (refl, ap length c.requires.none, λ none. none)

pub open_realm-requires-clause-within : goal.open_realm-requires-clause-within
open_realm-requires-clause-within g c κs within =
    let names : length c.loop-name.connection_table.roster.over.plan.value.realms.items ≡ length c.deref-name-items.result.now = ap (λ r. length r.over.plan.value.realms.items) c.loop-name.invariant.0 ∙ ap length c.requires.realms ∙ sym (ap length c.deref-name-items.ensures.value) in
    omega (arith, c.loop-name.invariant.1, names, c.loop-name-test.true)
