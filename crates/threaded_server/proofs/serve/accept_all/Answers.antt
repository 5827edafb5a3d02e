use Rattle.std.proofs.Common.{length, sym, ap, ◌∙◌, refl}
use Rattle.threaded_server.proofs.Accepting.{failed, none_so_far, stopped}
use Rattle.threaded_server.proofs.ServeSteps.{accept_failed, stream_came}
use Rattle.threaded_server.specs.Lending.{returned_to}
use Rattle.threaded_server.proofs.serve.accept_all.Goals as goal

pub accepting-init : goal.accepting-init
accepting-init g c = (none_so_far _ _ _, refl, refl, refl)

pub accepting-preserved-in-Stream : goal.accepting-preserved-in-Stream
accepting-preserved-in-Stream g c = (
  stream_came _ _ _ _ _ _ _ _ _ _ _ _ _ _ _ c.accepting.invariant.0 c.in-Stream.ensures.answers c.in-Stream.ensures.lending c.reap.ensures.answers c.reap.ensures.moves c.receive.ensures.answers c.receive.ensures.moves,
  c.receive.ensures.plan ∙ c.reap.ensures.plan ∙ c.accepting.invariant.1,
  c.receive.ensures.realms ∙ c.reap.ensures.realms ∙ c.accepting.invariant.2,
  c.receive.ensures.stops ∙ c.reap.ensures.stops ∙ c.accepting.invariant.3,
)

pub returns-in-Stop-clause-lent : goal.returns-in-Stop-clause-lent
returns-in-Stop-clause-lent g c = stopped _ _ _ _ _ _ _ _ _ c.accepting.invariant.0 c.in-Stop.ensures.answers c.in-Stop.ensures.lending

pub returns-then-failures-ge-MOST_FAILURES-clause-lent : goal.returns-then-failures-ge-MOST_FAILURES-clause-lent
returns-then-failures-ge-MOST_FAILURES-clause-lent g c = failed _ _ _ _ _ _ _ _ _ c.accepting.invariant.0 c.in-Failed.ensures.answers c.if-failures-ge-MOST_FAILURES.true c.in-Failed.ensures.lending

pub accepting-preserved : goal.accepting-preserved
accepting-preserved g c = (
  accept_failed _ _ _ _ _ _ _ _ _ _ _ _ _ _ c.accepting.invariant.0 c.in-Failed.ensures.answers c.in-Failed.ensures.lending c.reap-in-Failed.ensures.answers c.reap-in-Failed.ensures.moves c.pause.ensures.answers c.pause.ensures.lending
      c.if-failures-ge-MOST_FAILURES.false,
  c.reap-in-Failed.ensures.plan ∙ c.accepting.invariant.1,
  c.reap-in-Failed.ensures.realms ∙ c.accepting.invariant.2,
  c.reap-in-Failed.ensures.stops ∙ c.accepting.invariant.3,
)

pub returns-in-Stop-clause-asked : goal.returns-in-Stop-clause-asked
returns-in-Stop-clause-asked g c = c.in-Stop.ensures.asked ∙ ap (λ l. length (returned_to l)) (sym c.in-Stop.ensures.lending)

pub returns-then-failures-ge-MOST_FAILURES-clause-asked : goal.returns-then-failures-ge-MOST_FAILURES-clause-asked
returns-then-failures-ge-MOST_FAILURES-clause-asked g c = c.in-Failed.ensures.asked ∙ ap (λ l. length (returned_to l)) (sym c.in-Failed.ensures.lending)
