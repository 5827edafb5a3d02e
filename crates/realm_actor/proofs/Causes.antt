-- Nobody is cut for nothing.
use Rattle.std.proofs.Common.{◌≡◌, ◌<◌, ℕ, Bool, true, false, eqb, sym, ap, ◌∙◌, subst, inl, inr, ⊎_elim, arith}
use Rattle.std.specs.Prelude.{Option, Some, None, option_map}
use Rattle.std.proofs.lemmas.Bool.{eqb-true, or_cases, or_left, or_right}
use Rattle.realm.specs.declared.entry.Entry.{Entry}
use Rattle.realm.specs.declared.entry.Entry.TheVariants.{Cut}
use Rattle.realm.specs.History.{History, ◌▷◌}
use Rattle.realm.proofs.Lemmas.{clash}
use Rattle.realm_inbox.specs.Over.{was_cut}
use Rattle.realm_actor.specs.declared.row.Row.{Row}
use Rattle.realm_actor.specs.OutboxHistory.{Box}
use Rattle.realm_actor.specs.Rows.{box_in}
use Rattle.realm_actor.specs.Tables.{Accounts, BoxWent, CutsNobody, HasCause, RowMarked, RowWent}
use Rattle.realm_actor.specs.Cuts.{IsFull}

-- a cause stays one
cause_went : (b d : Bool) (o p : Option Box) → (b ≡ true → d ≡ true) → BoxWent o p → HasCause b o → HasCause d p
cause_went b d o None lost w cause = tt
cause_went b d None (Some p) lost w cause = absurd w
cause_went b d (Some o) (Some p) lost w cause = ⊎_elim
    (λ (full : 0 < o.full_finds). inl (let m = w.finds in omega (arith, full, m)))
    (λ (is : b ≡ true). inr (lost is))
    cause

cause_more : (b d : Bool) (o : Option Box) → (b ≡ true → d ≡ true) → HasCause b o → HasCause d o
cause_more b d None lost cause = tt
cause_more b d (Some o) lost cause = ⊎_elim (λ (full : 0 < o.full_finds). inl full) (λ (is : b ≡ true). inr (lost is)) cause

cause_full : (b : Bool) (o : Option Box) → IsFull o → HasCause b o
cause_full b None full = tt
cause_full b (Some o) full = inl full.0

cause_lost : (b : Bool) (o : Option Box) → b ≡ true → HasCause b o
cause_lost b None is = tt
cause_lost b (Some o) is = inr is

module _ {S : Type 0} where
  -- the row o became p
  pub accounts_on : (h : History) (o p : Row S) → p.conn ≡ o.conn → p.was_lost ≡ o.was_lost → (HasCause o.was_lost (box_in o) → HasCause p.was_lost (box_in p)) → Accounts h o → Accounts h p
  accounts_on h o p conn lost cause a = record {
    cut = λ is. cause (a.cut (sym (ap (was_cut h) conn) ∙ is));
    lost = λ is. ap (was_cut h) conn ∙ a.lost (sym lost ∙ is);
  }

  pub accounts_went : (h : History) (o p : Row S) → RowWent o p → Accounts h o → Accounts h p
  accounts_went h o p w = accounts_on h o p w.conn w.was_lost (cause_went o.was_lost p.was_lost (box_in o) (box_in p) (λ is. w.was_lost ∙ is) w.box)

  pub accounts_same : (h : History) (o p : Row S) → p.conn ≡ o.conn → p.held ≡ o.held → p.was_lost ≡ o.was_lost → Accounts h o → Accounts h p
  accounts_same h o p conn held lost = accounts_on h o p conn lost
      (λ cause. cause_more o.was_lost p.was_lost (box_in p) (λ is. lost ∙ is) (subst (λ x. HasCause o.was_lost (option_map (λ e. e.outbox) x)) (sym held) cause))

  -- it holds no outbox any more
  pub accounts_emptied : (h : History) (o p : Row S) → p.conn ≡ o.conn → p.held ≡ None → p.was_lost ≡ o.was_lost → Accounts h o → Accounts h p
  accounts_emptied h o p conn none lost = accounts_on h o p conn lost (λ _. subst (λ x. HasCause p.was_lost (option_map (λ e. e.outbox) x)) (sym none) tt)

  -- who was never cut, and wasn't lost
  pub accounts_new : (h : History) (r : Row S) → was_cut h r.conn ≡ false → r.was_lost ≡ false → Accounts h r
  accounts_new h r never kept = record { cut = λ is. clash (was_cut h r.conn) is never; lost = λ is. clash r.was_lost is kept }

  -- an entry that cuts nobody
  pub accounts_uncut : (h : History) (e : Entry) (r : Row S) → CutsNobody h e → Accounts h r → Accounts (h ▷ e) r
  accounts_uncut h e r uncut a = record { cut = λ is. a.cut (sym (uncut r.conn) ∙ is); lost = λ is. uncut r.conn ∙ a.lost is }

  -- a Cut of c, where the row of c is full
  pub accounts_full : (h : History) (c : ℕ) (word : Option ℕ) (r : Row S) → (r.conn ≡ c → IsFull (box_in r)) → Accounts h r → Accounts (h ▷ Cut c word) r
  accounts_full h c word r full a = record {
    cut = λ is. ⊎_elim
        (λ (here : eqb c r.conn ≡ true). cause_full r.was_lost (box_in r) (full (sym (eqb-true c r.conn here))))
        (λ (before : was_cut h r.conn ≡ true). a.cut before)
        (or_cases (eqb c r.conn) (was_cut h r.conn) is);
    lost = λ is. or_right (eqb c r.conn) (was_cut h r.conn) (a.lost is);
  }

  -- a Cut of c, where the row of c was marked as lost
  pub accounts_marked : (h : History) (c : ℕ) (word : Option ℕ) (o p : Row S) → RowMarked c o p → Accounts h o → Accounts (h ▷ Cut c word) p
  accounts_marked h c word o p m a = record {
    cut = λ is. ⊎_elim
        (λ (here : eqb c p.conn ≡ true). cause_lost p.was_lost (box_in p) (m.was_lost ∙ or_right o.was_lost (eqb c o.conn) (sym (ap (eqb c) m.conn) ∙ here)))
        (λ (before : was_cut h p.conn ≡ true).
        let cause = subst (λ x. HasCause o.was_lost (option_map (λ e. e.outbox) x)) (sym m.held) (a.cut (sym (ap (was_cut h) m.conn) ∙ before)) in
        cause_more o.was_lost p.was_lost (box_in p) (λ gone. m.was_lost ∙ or_left o.was_lost (eqb c o.conn) gone) cause)
        (or_cases (eqb c p.conn) (was_cut h p.conn) is);
    lost = λ is. ⊎_elim
        (λ (gone : o.was_lost ≡ true). or_right (eqb c p.conn) (was_cut h p.conn) (ap (was_cut h) m.conn ∙ a.lost gone))
        (λ (here : eqb c o.conn ≡ true). or_left (eqb c p.conn) (was_cut h p.conn) (ap (eqb c) m.conn ∙ here))
        (or_cases o.was_lost (eqb c o.conn) (sym m.was_lost ∙ is));
  }
