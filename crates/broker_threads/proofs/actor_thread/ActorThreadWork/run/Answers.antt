use Rattle.std.proofs.Common.{◌≡◌, Some, ◌∙◌, subst}
use Rattle.realm.specs.History.{grants_of}
use Rattle.broker_threads.proofs.Acting.{acted}
use Rattle.broker_threads.specs.Words.{AreInOrder}
use Rattle.realm_actor.specs.Words.{Words}
use Rattle.broker_threads.proofs.actor_thread.ActorThreadWork.run.Goals as goal

pub of_realm-actor-requires-clause-empty : goal.of_realm-actor-requires-clause-empty
of_realm-actor-requires-clause-empty g c = (grants_of c.args.self.kept, c.args.self.empty)

pub into_parts-chronicle-requires : goal.into_parts-chronicle-requires
into_parts-chronicle-requires g c = record { released = λ d. c.sweep.ensures.sweeps.others d (c.run_to_stop-actor.ensures.ended d) }

pub returns : goal.returns
returns g c =
    let w = c.args.self in
    let ran = c.run_to_stop-actor.ensures.ran in
    let first = c.of_realm-actor.ensures in
    let kept : c.into_parts-chronicle.result.0 ≡ record { chronicle = c.run_to_stop-actor.result.chronicle; history = Some c.run_to_stop-actor.result.history } =
    c.into_parts-chronicle.ensures.chronicle ∙ (λ i. record { chronicle = c.sweep.ensures.chronicle i; history = Some (c.sweep.ensures.sweeps.history i) }) in
    let words = subst (λ (s : Words). AreInOrder s) (c.into_parts-chronicle.ensures.words ∙ c.sweep.ensures.sweeps.words) c.shows-2.ensures in
    acted w c.of_realm-actor.result c.run_to_stop-actor.result c.of-ended.result c.run_to_stop-actor.new.inbox c.turn_away_rest.new.inbox c.into_parts-chronicle.result.0 ran.0 c.shows.ensures.stands.sound.legal first c.of-ended.ensures kept c.run_to_stop-actor.ensures.chronicle ran.1 ran.2 ran.3 ran.4
    c.run_to_stop-actor.ensures.same c.turn_away_rest.ensures.more c.turn_away_rest.ensures.same words
