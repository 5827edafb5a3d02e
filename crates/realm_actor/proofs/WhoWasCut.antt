-- Whom a history cut.
use Rattle.std.proofs.Common.{◌≡◌, ℕ, true, false, ◌||◌, eqb, refl, sym, ap, ◌∙◌, subst}
use Rattle.std.proofs.lemmas.Bool.{or_from, or_left, ne_eqb}
use Rattle.realm.specs.declared.entry.Entry.{Entry}
use Rattle.realm.specs.declared.entry.Entry.TheVariants.{Join, Cut}
use Rattle.realm.specs.History.{History, begun, ◌▷◌, Begins, same, longer}
use Rattle.realm.specs.Sessions.{live, conn_of, may_join, may_come, IsHistory}
use Rattle.realm.proofs.Lemmas.{clash, live-elsewhere, live-joined}
use Rattle.realm_inbox.specs.Over.{was_cut}
use Rattle.realm_actor.specs.Tables.{has_joined, CutsNobody}
use Rattle.realm_actor.proofs.EntryLemmas.{joined_after, not_joined}

-- who never joined was never cut
pub never_cut : (h : History) (c : ℕ) → IsHistory h → (has_joined h c ≡ true → ⊥) → was_cut h c ≡ false
never_cut (begun grants) c legal n = refl
never_cut (h ▷ Cut d word) c legal n = or_from (eqb d c) (was_cut h c)
    (ne_eqb d c (λ same_conn. n (subst (λ x. has_joined h x ≡ true) same_conn (live-joined h d legal.1))))
    (never_cut h c legal.0 n)
never_cut (h ▷ e) c legal n = never_cut h c legal.0 (λ y. n (joined_after h e c legal.1 (or_left (has_joined h c) (eqb (conn_of e) c) y)))

-- the entry of a connection that may join cuts nobody
pub join_cuts_nobody : (h : History) (e : Entry) (c : ℕ) → conn_of e ≡ c → may_join h c ≡ true → may_come h e ≡ true → CutsNobody h e
join_cuts_nobody h (Cut d word) c own may come x = absurd (not_joined h c may (live-joined h c (sym (ap (live h) own) ∙ come)))
join_cuts_nobody h e c own may come x = refl

-- an entry of another connection doesn't cut c
cut_elsewhere : (h : History) (e : Entry) (c : ℕ) → eqb (conn_of e) c ≡ false → was_cut (h ▷ e) c ≡ was_cut h c
cut_elsewhere h (Cut d word) c away = ap (λ b. b || was_cut h c) away
cut_elsewhere h e c away = refl

-- who has joined and isn't live has no entry any more
no_entry : (h : History) (e : Entry) (c : ℕ) → has_joined h c ≡ true → live h c ≡ false → may_come h e ≡ true → eqb (conn_of e) c ≡ false
no_entry h (Join d word authid) c has dead come = ne_eqb d c (λ same_conn. not_joined h d come (subst (λ x. has_joined h x ≡ true) (sym same_conn) has))
no_entry h e c has dead come = ne_eqb (conn_of e) c (λ same_conn. clash (live h c) (sym (ap (live h) same_conn) ∙ come) dead)

over_on : (h k : History) (c : ℕ) → has_joined h c ≡ true → live h c ≡ false → Begins h k → IsHistory k → (has_joined k c ≡ true) × (live k c ≡ false) × (was_cut k c ≡ was_cut h c)
over_on h k c has dead same legal = (has, dead, refl)
over_on h (k ▷ e) c has dead (longer begins) legal =
    let before = over_on h k c has dead begins legal.0 in
    let away : eqb (conn_of e) c ≡ false = no_entry k e c before.0 before.1 legal.1 in (
      joined_after k e c legal.1 (or_left (has_joined k c) (eqb (conn_of e) c) before.0),
      live-elsewhere k e c away ∙ before.1,
      cut_elsewhere k e c away ∙ before.2,
    )

-- so it is cut no more
pub cut_over : (h k : History) (c : ℕ) → has_joined h c ≡ true → live h c ≡ false → Begins h k → IsHistory k → was_cut k c ≡ was_cut h c
cut_over h k c has dead begins legal = (over_on h k c has dead begins legal).2
