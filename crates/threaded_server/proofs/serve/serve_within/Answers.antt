use Rattle.std.proofs.Common.{sym, ap, ◌∙◌, subst}
use Rattle.std.proofs.Math.Logic.{∥∥₁_elim, ∥∥₁_map}
use Rattle.ghost_state.specs.GhostList.{items_of}
use Rattle.broker_threads.specs.Streams.{offer_of, offer_within}
use Rattle.threaded_server.specs.Histories.{start_of}
use Rattle.threaded_server.proofs.ServeSteps.{nothing_served, on_same, served}
use Rattle.threaded_server.specs.Stopping.{StopsCover}
use Rattle.threaded_server.specs.Table.{books}
use Rattle.threaded_server.proofs.serve.serve_within.Goals as goal

pub returns-clause-streams : goal.returns-clause-streams
returns-clause-streams g c =
    let made = c.in_ok-connection_table.ensures in
    let opened = c.open_and_accept-served.ensures in
    let stopped = c.stop.ensures in
    let left = c.join_all.ensures in
    let still = left.plan ∙ ap (λ r. r.over.plan) stopped.roster ∙ opened.plan in
    let plan = c.in_ok-plan.plan in
    let room = plan.room ∙ ap (λ k. k.outbox) c.in_ok-plan.ensures.config in
    let same = ap (λ p. offer_of p.value) still ∙ ap offer_of made.plan ∙ (λ i. offer_within (c.in_ok-plan.ensures.bound i) (c.in_ok-plan.ensures.realms i) (room i)) in
    let start = ap (λ p. start_of p.value.config.value) still ∙ ap (λ p. start_of p.config.value) made.plan ∙ ap start_of c.in_ok-plan.ensures.config in
    let ends = c.finish.ensures in
    let has = c.open_and_accept-served.new.connection_table.roster in
    let early = items_of has.over.streams in
    let moves = on_same (ap (λ r. books r.lent r.over.streams) stopped.roster) left.moves in
    let covers = ∥∥₁_map (stopped.stops (opened.stops made.stops)) (subst (λ stops. StopsCover early stops) (sym left.stops)) in
    let handled = ∥∥₁_elim covers squash₁ (λ cover. ∥∥₁_map ends.handled (λ handles. handles early (moves.over, sym moves.over_here) cover)) in
    served _ _ _ _ _ (items_of c.finish.result) _ _ _ _ _ _ _ _ _ _ _ made.lent made.unused.nothing opened.lent left.answers moves same start ends.went ends.runs (λ asked. ends.realms ∙ left.realms ∙ stopped.realms ∙ opened.realms asked) ends.ascend ends.received ends.tied
    (λ some. left.asked ∙ opened.asked some) handled

pub returns-in_err-plan-clause-streams : goal.returns-in_err-plan-clause-streams
returns-in_err-plan-clause-streams g c = nothing_served _ _ _ _ _ _

pub returns-in_err-connection_table-clause-streams : goal.returns-in_err-connection_table-clause-streams
returns-in_err-connection_table-clause-streams g c = nothing_served _ _ _ _ _ _
