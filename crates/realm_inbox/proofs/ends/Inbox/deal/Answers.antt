use Rattle.std.proofs.Common.{[], ◌∷◌, ◌++◌, ap, ◌∙◌}
use Rattle.std.proofs.Math.Logic.{∥∥₁_map}
use Rattle.crossbeam_channel.specs.Claims.{view}
use Rattle.ghost_state.specs.GhostList.{items_of}
use Rattle.realm_inbox.specs.SeatLines.{waiting}
use Rattle.realm_inbox.specs.Ends.{home_in, received_in}
use Rattle.realm_inbox.proofs.SeatLineSteps.{same_waits, dealt_out, told_next, told_homed, told_behind}
use Rattle.realm_inbox.proofs.ends.Inbox.deal.Goals as goal

pub invariant_of-self : goal.invariant_of-self
invariant_of-self g c =
    let i = c.args.self.now in
    record {
      at = i.at;
      reads = i.reads;
      dealt = ∥∥₁_map i.dealt (λ d. same_waits (home_in (view i.pass)) (received_in (view i.pass)) (items_of i.given) (waiting i.lines) (waiting c.pop.new.self) d c.in_default.ensures.first);
    }

pub invariant_of-self-2 : goal.invariant_of-self-2
invariant_of-self-2 g c =
    let i = c.args.self.now in
    let place = c.stop_last-place.result in
    let first = c.in-Some.first in
    let longer = c.add.ensures ∙ ap (λ x. items_of i.given ++ x ∷ []) c.of.ensures in
    record {
      at = i.at;
      reads = i.reads;
      dealt = ∥∥₁_map i.dealt (λ d. dealt_out (home_in (view i.pass)) (received_in (view i.pass)) (items_of i.given) (items_of c.add.new.self) (waiting i.lines) (waiting c.pop.new.self) place first longer d c.in-Some.ensures.first);
    }

pub returns-clause-given : goal.returns-clause-given
returns-clause-given g c = c.add.ensures ∙ ap (λ x. items_of c.args.self.now.given ++ x ∷ []) c.of.ensures

pub returns-clause-in_turn : goal.returns-clause-in_turn
returns-clause-in_turn g c =
    let i = c.args.self.now in told_next g.row.S (home_in (view i.pass)) (received_in (view i.pass)) (items_of i.given) (waiting i.lines) (waiting c.pop.new.self) c.stop_last-place.result c.in-Some.first i.dealt c.in-Some.ensures.first

pub returns-clause-home : goal.returns-clause-home
returns-clause-home g c =
    let i = c.args.self.now in told_homed g.row.S (home_in (view i.pass)) (received_in (view i.pass)) (items_of i.given) (waiting i.lines) (waiting c.pop.new.self) c.stop_last-place.result c.in-Some.first i.dealt c.in-Some.ensures.first

pub returns-clause-behind : goal.returns-clause-behind
returns-clause-behind g c =
    let i = c.args.self.now in
    told_behind g.row.S (home_in (view i.pass)) (received_in (view i.pass)) (items_of i.given) (waiting i.lines) (waiting c.pop.new.self) c.stop_last-place.result c.in-Some.first i.dealt c.in-Some.ensures.first c.stop_last-place.ensures.last
