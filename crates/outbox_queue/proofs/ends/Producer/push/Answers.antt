use Rattle.std.proofs.Common.{◌≡◌, ◌<◌, ℕ, ◌+◌, [], ◌∷◌, length, length-append, sym, ap, ◌∙◌, subst, arith, Some}
use Rattle.std.specs.Prelude.{slice_get}
use Rattle.crossbeam_queue.specs.Passes.{view}
use Rattle.outbox_queue.specs.Rule.{Grows, Belongs, with_added, adding}
use Rattle.outbox_queue.specs.Ends.{Owes, IsOf}
use Rattle.outbox_queue.specs.declared.rule.OutboxView.{OutboxView}
use Rattle.outbox_queue.proofs.RuleSteps.{adds, learns_full}
use Rattle.outbox_queue.proofs.OwedBeginnings.{owes_next}
use Rattle.outbox_queue.proofs.ends.Producer.push.Goals as goal

pub push_counted-requires-clause-rule : goal.push_counted-requires-clause-rule
push_counted-requires-clause-rule g c =
    let o = g.H.Owed in let is = sym c.self.view_is in let may = ap (λ v. v.adds) c.self.invariant.adds in let x = c.args.item in (
      adds o.begins o.is_of o.begins_itself o.begins_on _ _ _ _ may (c.requires.conn ∙ ap (λ a. a.conn) is) (c.requires.place ∙ ap (λ a. length a.added) is) (subst (λ h. Grows o.begins h (Some x.history)) (ap (λ a. a.history) is) c.requires.history) (subst (λ k. Belongs o.is_of x.history k) (ap (λ a. a.chronicle) is) c.requires.chronicle),
      learns_full o.begins o.is_of o.begins_itself o.begins_on _ _ may,
    )

pub invariant_of-self : goal.invariant_of-self
invariant_of-self g c =
    let o = g.H.Owed in let is = sym c.self.view_is in let old = c.self.invariant in let x = c.args.item in let v = view c.self.inside.place.pass in
    let same = c.in-Ok.ensures.queue in let eq = c.in-Ok.ensures.rule.0 in
    let conn : x.conn ≡ v.conn = c.requires.conn ∙ ap (λ a. a.conn) is in
    let place : x.place ≡ length v.added = c.requires.place ∙ ap (λ a. length a.added) is in
    let owes : slice_get (o.owed x.history v.conn) (length v.added) ≡ Some x.item = subst (λ (y : ℕ × ℕ). slice_get (o.owed x.history y.0) y.1 ≡ Some x.item) (λ i. (conn i, place i)) c.shows.ensures in
    let P : OutboxView g.row.T.Denot g.row.H.Denot → Type 0 = λ u. u ≡ adding u.conn u.chronicle u.history u.added in
    let Q : OutboxView g.row.T.Denot g.row.H.Denot → Type 0 = λ u. Owes o.owed u.history u.conn u.added in
    let C : OutboxView g.row.T.Denot g.row.H.Denot → Type 0 = λ u. IsOf o.is_of u.history u.chronicle in
    record {
      is_pass = (same.0 ∙ old.is_pass.0, same.2 ∙ old.is_pass.1);
      adds = subst P (sym eq) (ap (λ u. with_added u x) old.adds);
      capacity = old.capacity;
      nothing_yet = λ none. absurd (omega (arith, ap length (sym (ap (λ u. u.added) eq) ∙ none), length-append v.added (x.item ∷ [])));
      room = λ rose. omega (arith, old.room (subst (λ n. 0 < n) c.in-Ok.ensures.rule.1 rose), length-append v.added (x.item ∷ []), ap (λ u. length u.added) eq);
      full = λ is. subst (λ n. 0 < n) (sym c.in-Ok.ensures.rule.1) (old.full is);
      never = λ is. c.in-Ok.ensures.rule.1 ∙ old.never is;
      owes = subst Q (sym eq) (owes_next o.begins o.owed o.owes_on v.history v.conn v.added x.history x.item old.owes (subst (λ h. Grows o.begins h (Some x.history)) (ap (λ a. a.history) is) c.requires.history) owes);
      is_of = subst C (sym eq) (subst (λ k. Belongs o.is_of x.history k) (ap (λ a. a.chronicle) is) c.requires.chronicle);
      conn = old.conn ∙ sym (ap (λ u. u.conn) eq);
      added = c.tick.ensures ∙ ap (λ k. k + 1) old.added ∙ sym (length-append v.added (x.item ∷ [])) ∙ sym (ap (λ u. length u.added) eq);
    }
