-- Who is live is held through a run, and who was closed by it.
use Rattle.std.proofs.Common.{◌≡◌, ◌⊎◌, ℕ, Bool, true, false, cond, ◌||◌, eqb, is_some, List, refl, sym, ap, ◌∙◌, inl, inr, ⊎_elim}
use Rattle.std.specs.Prelude.{Option, Some, None}
use Rattle.std.proofs.lemmas.Bool.{eqb-true}
use Rattle.eligibility.specs.declared.who.Who.{Who}
use Rattle.realm.specs.History.{History, ◌▷◌}
use Rattle.realm.specs.Sessions.{who, live, ends}
use Rattle.realm.proofs.Lemmas.{clash, some-before, none-since}
use Rattle.realm_inbox.specs.declared.joining.Joining.{Joining}
use Rattle.realm_inbox.specs.declared.act.Act as the
use Rattle.realm_inbox.specs.declared.act.Act.TheVariants.{Join, Said, Ping, Spoilt, Gone}
use Rattle.realm_inbox.specs.declared.letter.Letter.{Letter}
use Rattle.realm_inbox.specs.declared.letter.Post.{Post}
use Rattle.realm_inbox.specs.declared.letter.Post.TheVariants.{Act}
use Rattle.realm_actor.specs.declared.outcome.Outcome.{Outcome}
use Rattle.realm_actor.specs.declared.outcome.Outcome.TheVariants.{Applied, Dropped, NoMemory}
use Rattle.realm_actor.specs.ActorView.{Acting, Working}
use Rattle.realm_actor.specs.OutboxHistory.{Box}
use Rattle.realm_actor.specs.LastCut.{outbox_of}
use Rattle.realm_actor.specs.Handle.{entry_of, Loses}
use Rattle.realm_actor.specs.Handle as handling
use Rattle.realm_actor.specs.Settle.{Sweeps}
use Rattle.realm_actor.specs.HistoryGrowth.{AfterClosing, was_closed}
use Rattle.realm_actor.specs.HistoryGrowth as of
use Rattle.realm_actor.specs.Run.{Handles, Runs, Ran, KeepsHeld}
use Rattle.realm_actor.specs.Run as running
use Rattle.realm_actor.proofs.StopLemmas.{cuts_dead, still_dead}
use Rattle.realm_actor.proofs.RunHistory.{stop_closing, closed_runs}

by_bool : (b : Bool) (P : Type 0) → (b ≡ true → P) → (b ≡ false → P) → P
by_bool true P f g = f refl
by_bool false P f g = g refl

of_cond : (b : Bool) (x o : Option Who) → is_some o ≡ false → is_some (cond b x o) ≡ true → b ≡ true
of_cond true x o dead is = refl
of_cond false x o dead is = clash (is_some o) is dead

closing_dead : (h k : History) (c : ℕ) → AfterClosing h k → live h c ≡ false → live k c ≡ false
unfolding who
closing_dead h k c of.AfterClosing.none dead = dead
closing_dead h _ c (of.AfterClosing.closed {k = k} d word is more) dead = none-since (eqb d c) (who k c) (closing_dead h k c more dead)
closing_dead h _ c (of.AfterClosing.cut {k = k} d word more) dead = none-since (eqb d c) (who k c) (closing_dead h k c more dead)

-- who was closed was live
closing_live : (h k : History) (c : ℕ) → AfterClosing h k → was_closed c h ≡ false → was_closed c k ≡ true → live h c ≡ true
closing_live h k c of.AfterClosing.none unshut shut = clash (was_closed c h) shut unshut
closing_live h _ c (of.AfterClosing.closed {k = k} d word is more) unshut shut = at (eqb d c) refl shut (λ e. closing_live h k c more unshut e)
  where
    at : (b : Bool) → eqb d c ≡ b → b || was_closed c k ≡ true → (was_closed c k ≡ true → live h c ≡ true) → live h c ≡ true
    at true here e on =
        let now : live k c ≡ true = ap (live k) (sym (eqb-true d c here)) ∙ is in
        by_bool (live h c) _ (λ y. y) (λ dead. clash (live k c) now (closing_dead h k c more dead))
    at false away e on = on e
closing_live h _ c (of.AfterClosing.cut {k = k} d word more) unshut shut = closing_live h k c more unshut shut

module _ {S : Type 0} where
  -- an entry by which c becomes live is its Join
  entry_live : (h : History) (d : ℕ) (act : the.Act S) (word c : ℕ) → live h c ≡ false → live (h ▷ entry_of d act word) c ≡ true → (joining : Joining S) × (act ≡ Join joining) × (d ≡ c)
  unfolding who
  entry_live h d (Join joining) word c dead is = (joining, refl, eqb-true d c (of_cond (eqb d c) _ (who h c) dead is))
  entry_live h d (Said said) word c dead is = clash (live h c) (some-before (ends (entry_of {S = S} d (Said said) word) c) (who h c) is) dead
  entry_live h d (Ping payload) word c dead is = clash (live h c) (some-before (ends (entry_of {S = S} d (Ping payload) word) c) (who h c) is) dead
  entry_live h d Spoilt word c dead is = clash (live h c) (some-before (ends (entry_of {S = S} d Spoilt word) c) (who h c) is) dead
  entry_live h d Gone word c dead is = clash (live h c) (some-before (ends (entry_of {S = S} d Gone word) c) (who h c) is) dead

  loses_dead : {d : ℕ} {act : the.Act S} {old new : Working S} (c : ℕ) → Loses d act old new → live old.history c ≡ false → live new.history c ≡ false
  loses_dead c (handling.Loses.not_live lost gone told few) dead = dead
  loses_dead c (handling.Loses.nothing_drawn gone) dead = dead
  loses_dead {d = d} {old = old} c (handling.Loses.cut lost word drawn e marked few is marks accepted words) dead = cuts_dead c accepted.cuts (still_dead old.history word d e is c dead)

  -- a post by which c becomes live is its Join, and applied
  act_live : (result : Outcome) (l : Letter S) (old new : Acting S) → Handles result (Act l) old new → (c : ℕ) → live old.history c ≡ false → live new.history c ≡ true
      → (joining : Joining S) × (l.act ≡ Join joining) × (result ≡ Applied) × (l.conn ≡ c)
  act_live Applied l old new h c dead is =
      let a = h.does.acts in
      let entered : live (old.history ▷ entry_of l.conn l.act a.word) c ≡ true =
      by_bool (live (old.history ▷ entry_of l.conn l.act a.word) c) _ (λ e. e) (λ e. clash (live new.history c) is (cuts_dead c a.accepted.cuts e)) in
      let t = entry_live old.history l.conn l.act a.word c dead entered in
      (t.0, t.1, refl, t.2)
  act_live Dropped l old new h c dead is = clash (live new.history c) is (ap (λ k. live k c) h.does.acts.0.0 ∙ dead)
  act_live NoMemory l old new h c dead is = clash (live new.history c) is (loses_dead c h.does.acts dead)

  -- held, or it was live and not held at the start
  abbrev HeldOutbox : Acting S → Acting S → ℕ → Type 0
  HeldOutbox a b c = ((live a.history c ≡ true) × (outbox_of a.rows c ≡ None)) ⊎ (is_some (outbox_of b.rows c) ≡ true)

  held_on : (a b d : Acting S) (c : ℕ) → ((o : Box) → outbox_of b.rows c ≡ Some o → (p : Box) × (outbox_of d.rows c ≡ Some p)) → HeldOutbox a b c → HeldOutbox a d c
  held_on a b d c on h = ⊎_elim (λ t. inl t) (λ (is : is_some (outbox_of b.rows c) ≡ true). inr (at (outbox_of b.rows c) refl is)) h
    where
      at : (o : Option Box) → outbox_of b.rows c ≡ o → is_some o ≡ true → is_some (outbox_of d.rows c) ≡ true
      at None e is = absurd (cc)
      at (Some o) e is = ap is_some (on o e).1

  swept_held : (a b d : Acting S) (c : ℕ) → Sweeps b d → live b.history c ≡ true → HeldOutbox a b c → HeldOutbox a d c
  swept_held a b d c s is h = held_on a b d c (λ o e. (o, s.lives c is ∙ e)) h

  at_start : (a : Acting S) (c : ℕ) → live a.history c ≡ true → HeldOutbox a a c
  at_start a c is = at (outbox_of a.rows c) refl
    where
      at : (o : Option Box) → outbox_of a.rows c ≡ o → HeldOutbox a a c
      at None e = inl (is, e)
      at (Some o) e = inr (ap is_some e)

  runs_hold : {a b : Acting S} {came : List (Post S)} → Runs a came b → (c : ℕ) → live b.history c ≡ true → HeldOutbox a b c
  runs_hold {a = a} running.Runs.none c is = at_start a c is
  runs_hold {a = a} (running.Runs.one_more {came} {b} {c = m} {d} {result} l runs swept handles) c is = by_bool (live m.history c) _
      (λ now.
      let before : live b.history c ≡ true = ap (λ h. live h c) (sym swept.history) ∙ now in
      held_on a m d c (λ o e. let t = handles.does.held c o e in (t.0, t.1)) (swept_held a b m c swept before (runs_hold runs c before)))
      (λ dead.
      let t = act_live result l m d handles c dead is in
      let u = handles.does.joined t.0 t.1 t.2 in
      inr (ap is_some (ap (outbox_of d.rows) (sym t.3) ∙ u.1)))

  pub ran_holds : {a z : Acting S} {came : List (Post S)} → Ran a came z → KeepsHeld a z
  ran_holds {a = a} (running.Ran.left {came} {b} {c = z} runs swept) c either = ⊎_elim
      (λ (is : live z.history c ≡ true).
      let before : live b.history c ≡ true = ap (λ h. live h c) (sym swept.history) ∙ is in
      swept_held a b z c swept before (runs_hold runs c before))
      (λ (is : (was_closed c a.history ≡ false) × (was_closed c z.history ≡ true)).
      clash (was_closed c z.history) is.1 (ap (was_closed c) swept.history ∙ closed_runs c runs ∙ is.0))
      either
  ran_holds {a = a} (running.Ran.stopped {came} {b} {c = m} {d = z} {result} halt runs swept handles) c either = ⊎_elim
      (λ (is : live z.history c ≡ true). clash (live z.history c) is (handles.does.none_live c))
      (λ (is : (was_closed c a.history ≡ false) × (was_closed c z.history ≡ true)).
      let after = stop_closing result halt m z handles in
      let was : live m.history c ≡ true = closing_live m.history z.history c after (ap (was_closed c) swept.history ∙ closed_runs c runs ∙ is.0) is.1 in
      let before : live b.history c ≡ true = ap (λ h. live h c) (sym swept.history) ∙ was in
      held_on a m z c (λ o e. let t = handles.does.held c o e in (t.0, t.1)) (swept_held a b m c swept before (runs_hold runs c before)))
      either
