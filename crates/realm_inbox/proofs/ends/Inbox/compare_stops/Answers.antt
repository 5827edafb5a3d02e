use Rattle.std.proofs.Common.{◌≡◌, true, sym, ap, ◌∙◌, subst}
use Rattle.crossbeam_channel.specs.Claims.{view}
use Rattle.ghost_state.specs.GhostList.{items_of}
use Rattle.realm_inbox.specs.SeatLines.{IsDealt, waiting}
use Rattle.realm_inbox.specs.Ends.{home_in, received_in, is_reader}
use Rattle.realm_inbox.specs.EndViews.{told}
use Rattle.realm_inbox.proofs.SeatLineSteps.{told_begins}
use Rattle.realm_inbox.proofs.ends.Inbox.compare_stops.Goals as goal

pub invariant_of-self : goal.invariant_of-self
invariant_of-self g c =
    let i = c.args.self.now in
    let there = c.compare.ensures.reading.0 in
    let same = c.compare.ensures.reading.2 in
    record {
      at = (ap (λ x. x.0) there ∙ i.at.0, ap (λ x. x.1) there ∙ i.at.1, c.compare.ensures.reading.1, i.at.3);
      reads = subst (λ v. is_reader i.next v ≡ true) (sym same) i.reads;
      dealt = subst (λ v. ∥ IsDealt (home_in v) (received_in v) (items_of i.given) (waiting i.lines) ∥₁) (sym same) i.dealt;
    }

pub returns-clause-begins : goal.returns-clause-begins
returns-clause-begins g c =
    let i = c.args.self.now in
    told_begins g.row.S (home_in (view i.pass)) (received_in (view i.pass)) (items_of i.given) (waiting i.lines) (told c.compare.new.self) i.dealt c.compare.ensures.begins
