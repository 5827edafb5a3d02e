use Rattle.std.proofs.Common.{[], sym, ap, ◌∙◌, subst}
use Rattle.realm.specs.Grants.{pairs_of}
use Rattle.broker_threads.specs.Words.{are_counted}
use Rattle.realm.specs.History.{begun}
use Rattle.realm_inbox.specs.EndViews.{AreNewSeats, inbox_of}
use Rattle.threaded_server.specs.Histories.{start_of}
use Rattle.threaded_server.specs.Ties.{IsBegun}
use Rattle.threaded_server.proofs.opening.open_realm.Goals as goal

pub add_realm-requires-clause-began : goal.add_realm-requires-clause-began
add_realm-requires-clause-began g c κs within =
    let same = sym c.requires.config in
    subst (λ r. IsBegun (start_of c.args.connection_table.now.roster.over.plan.value.config.value) r.work) (sym c.in_ok-handle.ensures) (record {
      history = c.in_ok-kept.ensures.realm ∙ ap (λ k. begun (pairs_of k.grants.items)) same;
      words = c.in_ok-kept.ensures.words ∙ ap (λ k. record { is_counting = are_counted k.ids; given = [] }) same;
    })

pub add_realm-requires-clause-seats : goal.add_realm-requires-clause-seats
add_realm-requires-clause-seats g c κs within = subst (λ r. AreNewSeats (inbox_of r.work.inbox) c.in_ok-door.seats.items) (sym c.in_ok-handle.ensures) c.in_ok-door.ensures.seats

pub add_realm-requires-clause-door : goal.add_realm-requires-clause-door
add_realm-requires-clause-door g c κs within = (c.in_ok-door.ensures.door.1 ∙ ap (λ r. inbox_of r.work.inbox) (sym c.in_ok-handle.ensures), c.in_ok-door.ensures.shown.0, c.in_ok-door.ensures.shown.1)
