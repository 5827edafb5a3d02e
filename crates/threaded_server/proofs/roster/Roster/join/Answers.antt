use Rattle.std.proofs.Common.{rules, ◌<◌, ◌≡◌, [], ◌∷◌, ◌++◌, length, refl, sym, ap, ◌∙◌, subst, None, Some, set, slice_get}
use Rattle.std.proofs.Math.Logic.{∥∥₁_map}
use Rattle.std.proofs.lemmas.Option.{slice_get_read}
use Rattle.ghost_state.specs.GhostList.{items_of}
use Rattle.threaded_server.proofs.Finding.{seated_found}
use Rattle.broker_threads.proofs.Lemmas.{put_back}
use Rattle.threaded_server.proofs.RosterSteps.{leave_balances, left_of_plan, seated_before, still_balances}
use Rattle.broker_threads.specs.Streams.{Reads, sight}
use Rattle.threaded_server.proofs.roster.Roster.join.Goals as goal

pub invariant_of-self-in-None : goal.invariant_of-self-in-None
invariant_of-self-in-None g c =
    let roster = c.args.self.now in
    let slots = roster.entries.items in
    let within : c.args.place < length c.args.self.now.entries.items = search rules in
    let at = slice_get_read slots (length slots) c.args.place c.in_ok-slot.slot.now refl within c.in_ok-slot.ensures.value in
    let held : slice_get c.args.self.now.entries.items c.args.place ≡ Some None = at ∙ ap Some (sym c.in-None.ensures.value) in
    record {
      own = left_of_plan roster.over.plan roster.over.plan slots c.args.place c.take.new.self refl c.take.ensures.after roster.own;
      balance = still_balances (items_of roster.lent) (items_of roster.over.streams) slots c.args.place c.take.new.self held c.take.ensures.after roster.balance;
      found = roster.found;
    }

pub invariant_of-self-2 : goal.invariant_of-self-2
invariant_of-self-2 g c =
    let roster = c.args.self.now in
    let slots = roster.entries.items in
    let entry = c.in-Some.entry in
    let within : c.args.place < length c.args.self.now.entries.items = search rules in
    let at = slice_get_read slots (length slots) c.args.place c.in_ok-slot.slot.now refl within c.in_ok-slot.ensures.value in
    let held : slice_get c.args.self.now.entries.items c.args.place ≡ Some (Some c.in-Some.entry) = at ∙ ap Some (sym c.in-Some.ensures.value) in
    record {
      own = left_of_plan roster.over.plan c.add.new.self.plan slots c.args.place c.take.new.self c.add.ensures.plan c.take.ensures.after roster.own;
      balance = leave_balances (items_of roster.lent) (items_of roster.over.streams) (items_of c.add.new.self.streams) slots c.args.place entry c.take.new.self c.of-2.result.value held c.take.ensures.after c.add.ensures.streams
          (seated_before entry.began c.of.result c.of-2.result.value c.of-2.ensures) roster.balance;
      found = ∥∥₁_map roster.found (seated_found (items_of roster.lent) (items_of roster.over.streams) (items_of c.add.new.self.streams) c.of-2.result.value entry.began c.of.result c.add.ensures.streams c.of-2.ensures);
    }

pub returns-clause-over : goal.returns-clause-over
returns-clause-over g c =
    let slots = c.args.self.now.entries.items in
    let within : c.args.place < length c.args.self.now.entries.items = search rules in
    let at = slice_get_read slots (length slots) c.args.place c.in_ok-slot.slot.now refl within c.in_ok-slot.ensures.value in
    record {
      entry = c.in-Some.entry;
      held = at ∙ ap Some (sym c.in-Some.ensures.value);
      number = c.in-Some.entry.number;
      reads = subst (λ reader. Reads (sight g.I.Source.seen g.O.Sink.seen) reader c.join-ended.result) c.in-Some.entry.same c.join-ended.ensures;
      left = c.of.result;
      left_is = c.of.ensures;
      over = c.add.ensures.streams ∙ ap (λ o. items_of c.args.self.now.over.streams ++ o ∷ []) c.of-2.ensures;
    }

pub returns-in-None-clause-over : goal.returns-in-None-clause-over
returns-in-None-clause-over g c =
    let slots = c.args.self.now.entries.items in
    let within : c.args.place < length c.args.self.now.entries.items = search rules in
    let at = slice_get_read slots (length slots) c.args.place c.in_ok-slot.slot.now refl within c.in_ok-slot.ensures.value in
    (refl, ap (set slots c.args.place) c.take.ensures.after ∙ put_back slots c.args.place None (at ∙ ap Some (sym c.in-None.ensures.value)))
