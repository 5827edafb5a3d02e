use Rattle.std.proofs.Common.{sym, ◌∙◌}
use Rattle.crossbeam_channel.specs.Claims.{view}
use Rattle.ghost_state.specs.GhostList.{items_of}
use Rattle.realm_inbox.specs.SeatLines.{waiting}
use Rattle.realm_inbox.specs.Ends.{home_in, received_in}
use Rattle.realm_inbox.proofs.RuleSteps.{begins}
use Rattle.realm_inbox.proofs.SeatLineSteps.{none_waits}
use Rattle.realm_inbox.proofs.opening.make.Goals as goal

pub bounded_with-requires-clause-rule : goal.bounded_with-requires-clause-rule
bounded_with-requires-clause-rule g c = begins

pub invariant_of-result-2-clause-dealt : goal.invariant_of-result-2-clause-dealt
invariant_of-result-2-clause-dealt g c =
    let v = view c.cut_seats.new.pass in
    ∣ none_waits (home_in v) (received_in v) (items_of c.new-6.result) (waiting c.in_ok-lines.lines) (c.new-6.ensures ∙ sym c.in_ok-seats.ensures.pass.2) c.in_ok-lines.ensures.none ∣₁
