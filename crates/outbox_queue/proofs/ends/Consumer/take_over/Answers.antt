use Rattle.std.proofs.Common.{◌≡◌, ◌≤◌, ◌<◌, ℕ, Bool, List, length, ap, ◌∙◌, sym, subst, refl}
use Rattle.std.specs.Prelude.{Option, Some}
use Rattle.std.specs.Arc.{arc_value}
use Rattle.crossbeam_queue.specs.Passes.{view, ruled_capacity}
use Rattle.outbox_queue.specs.Ends.{IsOf, IsVouched, Owes}
use Rattle.outbox_queue.specs.declared.ends.Came.{Came}
use Rattle.outbox_queue.specs.body.EndInvariants.{CameOver}
use Rattle.outbox_queue.specs.Rule.{Waiting}
use Rattle.outbox_queue.specs.declared.owed.Note.{Note}
use Rattle.outbox_queue.specs.declared.rule.OutboxView.{OutboxView}
use Rattle.outbox_queue.proofs.ComingOver.{comes, joined, joins}
use Rattle.outbox_queue.proofs.RuleSteps.{comes_over, learns_waiting}
use Rattle.outbox_queue.proofs.ends.Consumer.take_over.Given as given
use Rattle.outbox_queue.proofs.ends.Consumer.take_over.Goals as goal

pub absorb-requires-clause-rule : goal.absorb-requires-clause-rule
absorb-requires-clause-rule g c =
    let o = g.H.Owed in let may = ap (λ v. v.adds) c.into_place-theirs.ensures.view in
    (comes_over o.begins o.is_of o.begins_itself o.begins_on _ _ _ _ c.self.invariant.takes may, learns_waiting o.begins o.is_of o.begins_itself o.begins_on _ _ refl refl)

-- what the end knows then
now_knows : (g : given.Over) (c : goal.Joined-self g) → view c.absorb.new.self.pass ≡ joined g.H.Owed.owed g.H.Owed.is_over g.H.Owed.was_cut g.H.Owed.is_of (view c.self.inside.place.pass) c.into_parts-end.result.0.history c.into_parts-end.result.0.added
now_knows g c =
    let o = g.H.Owed in let end = c.into_parts-end.result.0 in let t = view c.self.inside.place.pass in let vi = c.self.view_is in let same = c.into_parts-end.ensures.end in
    let own : end.conn ≡ t.conn = ap (λ e. e.conn) same ∙ ap (λ w. w.conn) c.requires.whose ∙ sym (ap (λ a. a.conn) vi) in
    let home : end.chronicle ≡ t.chronicle = ap (λ e. e.chronicle) same ∙ ap (λ w. w.chronicle) c.requires.whose ∙ sym (ap (λ a. a.chronicle) vi) in
    c.absorb.ensures.rule ∙ joins o.owed o.is_over o.was_cut o.is_of t (view c.into_place-theirs.result.0) end.conn end.chronicle end.history end.added c.into_place-theirs.ensures.view own home

pub invariant_of-self : goal.invariant_of-self
invariant_of-self g c =
    let o = g.H.Owed in let old = c.self.invariant in let end = c.into_parts-end.result.0 in let from = c.args.farewell.end in let t = view c.self.inside.place.pass in let vi = c.self.view_is in
    let same = c.into_parts-end.ensures in
    let own : from.conn ≡ t.conn = ap (λ w. w.conn) c.requires.whose ∙ sym (ap (λ a. a.conn) vi) in
    let home : from.chronicle ≡ t.chronicle = ap (λ w. w.chronicle) c.requires.whose ∙ sym (ap (λ a. a.chronicle) vi) in
    let knows = now_knows g c in let all = joined o.owed o.is_over o.was_cut o.is_of t end.history end.added in
    let came : Came g.row.H.Denot = record { history = c.into_parts-end.result.1; finds = c.into_place-theirs.result.1; was_full = c.was_full-was_full.result; is_lost = c.into_parts-end.result.2 } in
    let finds : came.finds.count ≡ from.full_finds = c.into_place-theirs.ensures.finds ∙ ap (λ e. e.full_finds) same.end in
    let V : Option g.row.H.Denot × List g.row.T.Denot × ℕ × Bool → Type 0 = λ y. IsVouched o.owed o.is_over o.was_cut y.0 from.conn y.1 y.2 y.3 in
    let vouched : IsVouched o.owed o.is_over o.was_cut came.history from.conn end.added came.finds.count came.is_lost = subst V (λ i. (sym same.history i, ap (λ e. e.added) (sym same.end) i, sym finds i, sym same.lost i)) same.vouched in
    let belongs : IsOf o.is_of came.history from.chronicle = subst (λ (h : Option g.row.H.Denot). IsOf o.is_of h from.chronicle) (sym same.history) same.chronicle in
    let W : OutboxView g.row.T.Denot g.row.H.Denot → Type 0 = λ u. (waiting : List (Note g.row.T.Denot g.row.H.Denot)) × Waiting o.begins u waiting in
    let waits : W all = subst W (sym c.absorb.ensures.rule ∙ knows) c.absorb.ensures.fact in
    let here = ruled_capacity (arc_value c.self.inside.queue) in
    let holds : end.capacity ≡ here = ap (λ e. e.capacity) same.end ∙ ap (λ w. w.capacity) c.requires.whose ∙ sym (ap (λ a. a.capacity) vi) in
    let room : 0 < came.finds.count → here ≤ length end.added = λ rose. subst (λ n. n ≤ length end.added) holds (c.shows.ensures.room (subst (λ n. 0 < n) c.into_place-theirs.ensures.finds rose)) in
    let over = comes o.owed o.is_over o.was_cut o.is_of o.begins here t from.conn from.chronicle end.history end.added came waits.0 own home vouched belongs waits.1 room (λ is. subst (λ n. 0 < n) (sym c.into_place-theirs.ensures.finds) (c.was_full-was_full.ensures.full is)) (λ is. c.into_place-theirs.ensures.finds ∙ c.was_full-was_full.ensures.never is) in
    let moved = c.absorb.ensures.queue in
    record {
      is_pass = (moved.0 ∙ old.is_pass.0, moved.2 ∙ old.is_pass.1);
      takes = ap (λ u. u.takes) knows;
      capacity = old.capacity;
      owes = subst (λ (u : OutboxView g.row.T.Denot g.row.H.Denot). Owes o.owed u.seen u.conn u.taken) (sym knows) old.owes;
      is_of = subst (λ (u : OutboxView g.row.T.Denot g.row.H.Denot). IsOf o.is_of u.seen u.chronicle) (sym knows) old.is_of;
      conn = old.conn ∙ sym (ap (λ u. u.conn) knows);
      last = subst (λ (u : OutboxView g.row.T.Denot g.row.H.Denot). CameOver o.owed o.is_over o.was_cut o.is_of here u came) (sym knows) over;
    }

pub returns : goal.returns
returns g c =
    let vi = c.self.view_is in let knows = now_knows g c in λ i. record {
      queue = (c.absorb.ensures.queue.0 ∙ ap (λ a. a.queue) vi) i;
      capacity = ap (λ a. a.capacity) vi i;
      conn = (ap (λ u. u.conn) knows ∙ ap (λ a. a.conn) vi) i;
      chronicle = (ap (λ u. u.chronicle) knows ∙ ap (λ a. a.chronicle) vi) i;
      seen = (ap (λ u. u.seen) knows ∙ ap (λ a. a.seen) vi) i;
      taken = (ap (λ u. u.taken) knows ∙ ap (λ a. a.taken) vi) i;
      empty_finds = (c.absorb.ensures.finds ∙ ap (λ a. a.empty_finds) vi) i;
      last = Some (record { history = c.into_parts-end.ensures.history i; added = (ap (λ u. u.added) knows ∙ ap (λ e. e.added) c.into_parts-end.ensures.end) i; full_finds = (c.into_place-theirs.ensures.finds ∙ ap (λ e. e.full_finds) c.into_parts-end.ensures.end) i; is_lost = c.into_parts-end.ensures.lost i });
    }
