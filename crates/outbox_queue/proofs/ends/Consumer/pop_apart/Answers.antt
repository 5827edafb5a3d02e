use Rattle.std.proofs.Common.{◌≡◌, ℕ, length, sym, ap, ◌∙◌, subst, true, Some}
use Rattle.std.specs.Prelude.{slice_get}
use Rattle.std.specs.Arc.{arc_value}
use Rattle.crossbeam_queue.specs.Passes.{view, ruled_capacity}
use Rattle.outbox_queue.specs.Rule.{with_taken}
use Rattle.outbox_queue.specs.Ends.{Owes, IsOf}
use Rattle.outbox_queue.specs.body.EndInvariants.{MayHaveCome}
use Rattle.outbox_queue.proofs.ComingOver.{apart}
use Rattle.outbox_queue.specs.declared.rule.OutboxView.{OutboxView}
use Rattle.outbox_queue.proofs.RuleSteps.{takes}
use Rattle.outbox_queue.proofs.OwedBeginnings.{owes_next}
use Rattle.outbox_queue.proofs.ends.Consumer.pop_apart.Goals as goal

pub pop_counted-requires-clause-rule : goal.pop_counted-requires-clause-rule
pop_counted-requires-clause-rule g c = let o = g.H.Owed in (takes o.begins o.is_of o.begins_itself o.begins_on _ _ c.self.invariant.takes, λ _ _ _ _. tt)

pub invariant_of-self-2 : goal.invariant_of-self-2
invariant_of-self-2 g c =
    let o = g.H.Owed in let old = c.self.invariant in let x = c.in_ok-item.item in let v = view c.self.inside.place.pass in
    let same = c.in_ok-item.ensures.queue in let told = c.in_ok-item.ensures.rule.0 in let eq = told.0 in
    let owes : slice_get (o.owed x.history v.conn) (length v.taken) ≡ Some x.item = subst (λ (y : ℕ × ℕ). slice_get (o.owed x.history y.0) y.1 ≡ Some x.item) (λ i. (told.1 i, told.2 i)) c.shows.ensures in
    let P : OutboxView g.row.T.Denot g.row.H.Denot → Type 0 = λ u. u.takes ≡ true in
    let Q : OutboxView g.row.T.Denot g.row.H.Denot → Type 0 = λ u. Owes o.owed u.seen u.conn u.taken in
    let C : OutboxView g.row.T.Denot g.row.H.Denot → Type 0 = λ u. IsOf o.is_of u.seen u.chronicle in
    record {
      is_pass = (same.0 ∙ old.is_pass.0, same.2 ∙ old.is_pass.1);
      takes = subst P (sym eq) old.takes;
      capacity = old.capacity;
      owes = subst Q (sym eq) (owes_next o.begins o.owed o.owes_on v.seen v.conn v.taken x.history x.item old.owes told.3 owes);
      is_of = subst C (sym eq) told.4;
      conn = old.conn ∙ sym (ap (λ u. u.conn) eq);
      last = let none = ap (λ a. a.last) c.self.view_is ∙ c.requires in subst (λ (w : OutboxView g.row.T.Denot g.row.H.Denot). MayHaveCome o.owed o.is_over o.was_cut o.is_of (ruled_capacity (arc_value c.self.inside.queue)) w c.self.inside.came) (sym eq) (apart o.owed o.is_over o.was_cut o.is_of (ruled_capacity (arc_value c.self.inside.queue)) (with_taken v x) v.added c.self.inside.came none);
    }
