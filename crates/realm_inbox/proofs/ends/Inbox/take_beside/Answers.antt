use Rattle.std.proofs.Common.{◌≡◌, true, [], ◌∷◌, ◌++◌, refl, sym, ap, ◌∙◌, subst}
use Rattle.std.proofs.Math.Logic.{∥∥₁_map}
use Rattle.crossbeam_channel.specs.Claims.{view}
use Rattle.wamp_ids.specs.Numbers.{seat_of}
use Rattle.ghost_state.specs.GhostList.{items_of}
use Rattle.realm_inbox.specs.Seats.{at_seat}
use Rattle.realm_inbox.specs.SeatLines.{IsDealt, waiting}
use Rattle.realm_inbox.specs.Ends.{home_in, received_in, is_reader}
use Rattle.realm_inbox.proofs.SeatLineSteps.{exchanged, told_next_exchanged, told_homed_exchanged, told_behind_exchanged, all_given}
use Rattle.realm_inbox.proofs.StepEffects.{receipt_told}
use Rattle.realm_inbox.proofs.ends.Inbox.take_beside.Goals as goal

pub invariant_of-self : goal.invariant_of-self
invariant_of-self g c =
    let i = c.args.self.now in
    let same = c.in-Err.ensures.found in
    record {
      at = c.receive.ensures.reading;
      reads = subst (λ v. is_reader i.next v ≡ true) (sym same) i.reads;
      dealt = subst (λ v. ∥ IsDealt (home_in v) (received_in v) (items_of i.given) (waiting i.lines) ∥₁) (sym same) i.dealt;
    }

pub returns-in-Err-clause-all : goal.returns-in-Err-clause-all
returns-in-Err-clause-all g c =
    let i = c.args.self.now in
    let p = c.args.poster.now in
    let v = view i.pass in
    all_given g.row.S (home_in v) (received_in v) (items_of i.given) (waiting i.lines) (seat_of p.conn) i.dealt c.requires.free
    ∙ ap (λ k. at_seat k (received_in v)) (p.own ∙ sym c.receive.ensures.same.0) ∙ c.in-Err.ensures.all

pub invariant_of-self-2 : goal.invariant_of-self-2
invariant_of-self-2 g c =
    let i = c.args.self.now in
    let v = view i.pass in
    let w = view c.receive.new.reading in
    let t = receipt_told i.next v w c.in-Ok.taken i.reads c.in-Ok.ensures.found in
    let now = waiting c.exchange-place.new.self in
    let longer = c.add.ensures ∙ ap (λ x. items_of i.given ++ x ∷ []) c.of.ensures in
    record {
      at = c.receive.ensures.reading;
      reads = t.0;
      dealt = ∥∥₁_map i.dealt (λ d. subst (λ h. IsDealt h (received_in w) (items_of c.add.new.self) now) (sym t.4)
          (exchanged (home_in v) (received_in v) (received_in w) (items_of i.given) (waiting i.lines) now c.exchange-place.result.0 c.in-Ok.taken c.exchange-place.result.1 t.1 t.2 t.3 t.5 c.exchange-place.ensures.first d (items_of c.add.new.self) longer));
    }

pub returns-clause-given : goal.returns-clause-given
returns-clause-given g c = c.add.ensures ∙ ap (λ x. items_of c.args.self.now.given ++ x ∷ []) c.of.ensures

pub returns-clause-in_turn : goal.returns-clause-in_turn
returns-clause-in_turn g c =
    let i = c.args.self.now in
    let v = view i.pass in
    let w = view c.receive.new.reading in
    let t = receipt_told i.next v w c.in-Ok.taken i.reads c.in-Ok.ensures.found in
    told_next_exchanged g.row.S (home_in v) (received_in v) (items_of i.given) (received_in w) (waiting i.lines) (waiting c.exchange-place.new.self) c.exchange-place.result.0 c.in-Ok.taken c.exchange-place.result.1 t.1 t.2 t.3 t.5 c.exchange-place.ensures.first i.dealt

pub returns-clause-home : goal.returns-clause-home
returns-clause-home g c =
    let i = c.args.self.now in
    let v = view i.pass in
    let w = view c.receive.new.reading in
    let t = receipt_told i.next v w c.in-Ok.taken i.reads c.in-Ok.ensures.found in
    told_homed_exchanged g.row.S (home_in v) (received_in v) (items_of i.given) (received_in w) (waiting i.lines) (waiting c.exchange-place.new.self) c.exchange-place.result.0 c.in-Ok.taken c.exchange-place.result.1 t.1 t.2 t.3 t.5 c.exchange-place.ensures.first i.dealt

pub returns-clause-behind : goal.returns-clause-behind
returns-clause-behind g c =
    let i = c.args.self.now in
    let v = view i.pass in
    let w = view c.receive.new.reading in
    let t = receipt_told i.next v w c.in-Ok.taken i.reads c.in-Ok.ensures.found in
    told_behind_exchanged g.row.S (home_in v) (received_in v) (items_of i.given) (received_in w) (waiting i.lines) (waiting c.exchange-place.new.self) c.exchange-place.result.0 c.in-Ok.taken c.exchange-place.result.1 t.1 t.2 t.3 t.5 c.exchange-place.ensures.first i.dealt c.exchange-place.ensures.last

pub returns-clause-same : goal.returns-clause-same
returns-clause-same g c =
    let now = c.receive.ensures.reading in
    let old = c.args.self.now.at in
    let t = receipt_told _ _ _ _ c.args.self.now.reads c.in-Ok.ensures.found in
    ((λ i. ((now.0 ∙ sym old.0) i, (now.1 ∙ sym old.1) i, t.4 i)), refl)
