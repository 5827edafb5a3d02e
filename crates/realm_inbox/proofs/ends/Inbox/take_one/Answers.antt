use Rattle.std.proofs.Common.{◌≡◌, true, sym, subst}
use Rattle.std.proofs.Math.Logic.{∥∥₁_map}
use Rattle.crossbeam_channel.specs.Claims.{view}
use Rattle.ghost_state.specs.GhostList.{items_of}
use Rattle.realm_inbox.specs.SeatLines.{IsDealt, waiting}
use Rattle.realm_inbox.specs.Ends.{home_in, received_in, is_reader}
use Rattle.realm_inbox.proofs.SeatLineSteps.{taken_in}
use Rattle.realm_inbox.proofs.StepEffects.{receives_by, receipt_told}
use Rattle.realm_inbox.proofs.ends.Inbox.take_one.Goals as goal

pub try_recv_as-requires-clause-rule : goal.try_recv_as-requires-clause-rule
try_recv_as-requires-clause-rule g c = receives_by _ _ _ c.args.self.now.reads

pub invariant_of-self : goal.invariant_of-self
invariant_of-self g c =
    let i = c.args.self.now in
    let same = c.in-Err.ensures.rule.0 in
    record {
      at = c.try_recv_as.ensures.channel.0;
      reads = subst (λ v. is_reader i.next v ≡ true) (sym same) i.reads;
      dealt = subst (λ v. ∥ IsDealt (home_in v) (received_in v) (items_of i.given) (waiting i.lines) ∥₁) (sym same) i.dealt;
    }

pub invariant_of-self-2 : goal.invariant_of-self-2
invariant_of-self-2 g c =
    let i = c.args.self.now in
    let v = view i.pass in
    let w = view c.try_recv_as.new.pass in
    let t = receipt_told i.next v w c.in-Ok.taken i.reads c.in-Ok.ensures.rule in
    record {
      at = c.try_recv_as.ensures.channel.0;
      reads = t.0;
      dealt = ∥∥₁_map i.dealt (λ d. subst (λ h. IsDealt h (received_in w) (items_of i.given) (waiting c.add.new.self)) (sym t.4)
          (taken_in (home_in v) (received_in v) (items_of i.given) (received_in w) c.in-Ok.taken t.1 t.2 t.3 t.5 (waiting i.lines) (waiting c.add.new.self) d c.add.ensures));
    }
