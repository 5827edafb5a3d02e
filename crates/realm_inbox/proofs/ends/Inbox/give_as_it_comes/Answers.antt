use Rattle.std.proofs.Common.{◌≡◌, true, [], ◌∷◌, ◌++◌, refl, sym, ap, ◌∙◌, subst}
use Rattle.std.specs.Prelude.{IfOk}
use Rattle.std.proofs.Math.Logic.{∥∥₁_map}
use Rattle.crossbeam_channel.specs.Claims.{view}
use Rattle.ghost_state.specs.GhostList.{items_of}
use Rattle.realm_inbox.specs.Seats.{IsHomed}
use Rattle.realm_inbox.specs.SeatLines.{IsDealt, place_of_post, waiting}
use Rattle.realm_inbox.specs.Ends.{home_in, received_in, is_reader}
use Rattle.realm_inbox.proofs.SeatLineSteps.{taken_in, through, still_none, exchanged, told_next_exchanged, told_behind_exchanged}
use Rattle.realm_inbox.proofs.StepEffects.{receives_by, receipt_told}
use Rattle.realm_inbox.proofs.ends.Inbox.give_as_it_comes.Goals as goal

pub try_recv_as-requires-clause-rule : goal.try_recv_as-requires-clause-rule
try_recv_as-requires-clause-rule g c = receives_by _ _ _ c.args.self.now.reads

pub invariant_of-self : goal.invariant_of-self
invariant_of-self g c =
    let i = c.args.self.now in
    let same = c.in-Err.ensures.rule.0 in
    record {
      at = c.try_recv_as.ensures.channel.0;
      reads = subst (λ v. is_reader i.next v ≡ true) (sym same) i.reads;
      dealt = subst (λ v. ∥ IsDealt (home_in v) (received_in v) (items_of i.given) (waiting i.lines) ∥₁) (sym same) i.dealt;
    }

pub invariant_of-self-then-not-lets_through : goal.invariant_of-self-then-not-lets_through
invariant_of-self-then-not-lets_through g c =
    let i = c.args.self.now in
    let v = view i.pass in
    let w = view c.try_recv_as.new.pass in
    let t = receipt_told i.next v w c.in-Ok.post i.reads c.in-Ok.ensures.rule in
    record {
      at = c.try_recv_as.ensures.channel.0;
      reads = t.0;
      dealt = ∥∥₁_map i.dealt (λ d. subst (λ h. IsDealt h (received_in w) (items_of i.given) (waiting c.add.new.self)) (sym t.4)
          (taken_in (home_in v) (received_in v) (items_of i.given) (received_in w) c.in-Ok.post t.1 t.2 t.3 t.5 (waiting i.lines) (waiting c.add.new.self) d c.add.ensures));
    }

pub returns-then-not-lets_through-clause-home : goal.returns-then-not-lets_through-clause-home
returns-then-not-lets_through-clause-home g c =
    let t = receipt_told _ _ _ _ c.args.self.now.reads c.in-Ok.ensures.rule in
    subst (λ h. IfOk c.deal.result (λ p. IsHomed h p)) t.4 c.deal.ensures.home

pub returns-then-not-lets_through-clause-same : goal.returns-then-not-lets_through-clause-same
returns-then-not-lets_through-clause-same g c =
    let now = c.try_recv_as.ensures.channel.0 in
    let old = c.args.self.now.at in
    let t = receipt_told _ _ _ _ c.args.self.now.reads c.in-Ok.ensures.rule in
    (c.deal.ensures.same.0 ∙ (λ i. ((now.0 ∙ sym old.0) i, (now.1 ∙ sym old.1) i, t.4 i)), c.deal.ensures.same.1)

pub invariant_of-self-2 : goal.invariant_of-self-2
invariant_of-self-2 g c =
    let i = c.args.self.now in
    let v = view i.pass in
    let w = view c.try_recv_as.new.pass in
    let t = receipt_told i.next v w c.in-Ok.post i.reads c.in-Ok.ensures.rule in
    let longer = c.add-2.ensures ∙ ap (λ x. items_of i.given ++ x ∷ []) c.of.ensures in
    let free = subst (λ n. waiting i.lines n ≡ []) c.place_of-place.ensures (c.if-not-lets_through.ensures.free refl) in
    record {
      at = c.try_recv_as.ensures.channel.0;
      reads = t.0;
      dealt = ∥∥₁_map i.dealt (λ d. subst (λ h. IsDealt h (received_in w) (items_of c.add-2.new.self) (waiting i.lines)) (sym t.4)
          (exchanged (home_in v) (received_in v) (received_in w) (items_of i.given) (waiting i.lines) (waiting i.lines) (place_of_post c.in-Ok.post) c.in-Ok.post c.in-Ok.post t.1 t.2 t.3 t.5 (through (waiting i.lines) c.in-Ok.post free) d (items_of c.add-2.new.self) longer));
    }

pub returns-clause-given : goal.returns-clause-given
returns-clause-given g c = c.add-2.ensures ∙ ap (λ x. items_of c.args.self.now.given ++ x ∷ []) c.of.ensures

pub returns-clause-in_turn : goal.returns-clause-in_turn
returns-clause-in_turn g c =
    let i = c.args.self.now in
    let v = view i.pass in
    let w = view c.try_recv_as.new.pass in
    let t = receipt_told i.next v w c.in-Ok.post i.reads c.in-Ok.ensures.rule in
    let free = subst (λ n. waiting i.lines n ≡ []) c.place_of-place.ensures (c.if-not-lets_through.ensures.free refl) in
    told_next_exchanged g.row.S (home_in v) (received_in v) (items_of i.given) (received_in w) (waiting i.lines) (waiting i.lines) (place_of_post c.in-Ok.post) c.in-Ok.post c.in-Ok.post t.1 t.2 t.3 t.5 (through (waiting i.lines) c.in-Ok.post free) i.dealt

pub returns-clause-behind : goal.returns-clause-behind
returns-clause-behind g c =
    let i = c.args.self.now in
    let v = view i.pass in
    let w = view c.try_recv_as.new.pass in
    let t = receipt_told i.next v w c.in-Ok.post i.reads c.in-Ok.ensures.rule in
    let free = subst (λ n. waiting i.lines n ≡ []) c.place_of-place.ensures (c.if-not-lets_through.ensures.free refl) in
    let last = still_none (waiting i.lines) c.in-Ok.post (λ zero. c.if-not-lets_through.ensures.last refl (c.place_of-place.ensures ∙ zero)) in
    told_behind_exchanged g.row.S (home_in v) (received_in v) (items_of i.given) (received_in w) (waiting i.lines) (waiting i.lines) (place_of_post c.in-Ok.post) c.in-Ok.post c.in-Ok.post t.1 t.2 t.3 t.5 (through (waiting i.lines) c.in-Ok.post free) i.dealt last

pub returns-clause-same : goal.returns-clause-same
returns-clause-same g c =
    let now = c.try_recv_as.ensures.channel.0 in
    let old = c.args.self.now.at in
    let t = receipt_told _ _ _ _ c.args.self.now.reads c.in-Ok.ensures.rule in
    ((λ i. ((now.0 ∙ sym old.0) i, (now.1 ∙ sym old.1) i, t.4 i)), refl)
