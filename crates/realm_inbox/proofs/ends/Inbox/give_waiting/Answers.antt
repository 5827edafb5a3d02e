use Rattle.std.proofs.Common.{◌≡◌, [], ◌∷◌, ◌++◌, ap, ◌∙◌, subst}
use Rattle.std.proofs.Math.Logic.{∥∥₁_map}
use Rattle.crossbeam_channel.specs.Claims.{view}
use Rattle.ghost_state.specs.GhostList.{items_of}
use Rattle.realm_inbox.specs.SeatLines.{waiting}
use Rattle.realm_inbox.specs.Ends.{home_in, received_in}
use Rattle.realm_inbox.proofs.LinePlaces.{anyhow}
use Rattle.realm_inbox.proofs.SeatLineSteps.{same_waits, dealt_out, told_next, told_homed, told_behind}
use Rattle.realm_inbox.proofs.ends.Inbox.give_waiting.Goals as goal

pub invariant_of-self : goal.invariant_of-self
invariant_of-self g c =
    let i = c.args.self.now in
    record {
      at = i.at;
      reads = i.reads;
      dealt = ∥∥₁_map i.dealt (λ d. same_waits (home_in (view i.pass)) (received_in (view i.pass)) (items_of i.given) (waiting i.lines) (waiting c.pop.new.self) d c.in_err-first.ensures.first);
    }

pub returns-in_err-first-clause-none : goal.returns-in_err-first-clause-none
returns-in_err-first-clause-none g c =
    let t = c.in_err-first.ensures in
    let empty = c.place_to_empty.ensures (subst (λ k. waiting c.args.self.now.lines k ≡ []) (c.stop_last-place.ensures.kept t.none) t.none) in
    anyhow c.from_residual.result (t.first c.args.place ∙ empty.0, t.aside empty.1)

pub invariant_of-self-2 : goal.invariant_of-self-2
invariant_of-self-2 g c =
    let i = c.args.self.now in
    let longer = c.add.ensures ∙ ap (λ x. items_of i.given ++ x ∷ []) c.of.ensures in
    record {
      at = i.at;
      reads = i.reads;
      dealt = ∥∥₁_map i.dealt (λ d. dealt_out (home_in (view i.pass)) (received_in (view i.pass)) (items_of i.given) (items_of c.add.new.self) (waiting i.lines) (waiting c.pop.new.self) c.stop_last-place.result c.in_ok-first.first longer d c.in_ok-first.ensures.first);
    }

pub returns-clause-given : goal.returns-clause-given
returns-clause-given g c = c.add.ensures ∙ ap (λ x. items_of c.args.self.now.given ++ x ∷ []) c.of.ensures

pub returns-clause-in_turn : goal.returns-clause-in_turn
returns-clause-in_turn g c =
    let i = c.args.self.now in told_next g.row.S (home_in (view i.pass)) (received_in (view i.pass)) (items_of i.given) (waiting i.lines) (waiting c.pop.new.self) c.stop_last-place.result c.in_ok-first.first i.dealt c.in_ok-first.ensures.first

pub returns-clause-home : goal.returns-clause-home
returns-clause-home g c =
    let i = c.args.self.now in told_homed g.row.S (home_in (view i.pass)) (received_in (view i.pass)) (items_of i.given) (waiting i.lines) (waiting c.pop.new.self) c.stop_last-place.result c.in_ok-first.first i.dealt c.in_ok-first.ensures.first

pub returns-clause-behind : goal.returns-clause-behind
returns-clause-behind g c =
    let i = c.args.self.now in
    told_behind g.row.S (home_in (view i.pass)) (received_in (view i.pass)) (items_of i.given) (waiting i.lines) (waiting c.pop.new.self) c.stop_last-place.result c.in_ok-first.first i.dealt c.in_ok-first.ensures.first c.stop_last-place.ensures.last
