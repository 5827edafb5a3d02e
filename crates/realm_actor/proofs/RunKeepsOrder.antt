-- A run keeps the order of the posts.
use Rattle.std.proofs.Common.{◌≡◌, ℕ, refl, Bool, true, false, true≢false, ◌||◌, eqb, List, [], ◌∷◌, ◌++◌, sym, ap, subst, ◌∙◌, ⊎_elim, append_assoc}
use Rattle.std.proofs.lemmas.Bool.{eqb-true}
use Rattle.realm.specs.declared.entry.Entry.{Entry}
use Rattle.realm.specs.declared.entry.Entry.TheVariants as entry
use Rattle.realm.specs.Grants.{Grants}
use Rattle.realm.specs.History.{History, begun}
use Rattle.realm.specs.Sessions.{live}
use Rattle.realm.specs.PostedOrder.{posts_of, said_by, joins_first_alone, Ordered}
use Rattle.realm.proofs.Lemmas.{said-kept}
use Rattle.realm_inbox.specs.declared.letter.Post.{Post}
use Rattle.realm_inbox.specs.declared.letter.Post.TheVariants.{Stop}
use Rattle.realm_actor.specs.ActorView.{Acting}
use Rattle.realm_actor.specs.HistoryGrowth.{AfterClosing, was_closed, MakesAll}
use Rattle.realm_actor.specs.HistoryGrowth as of
use Rattle.realm_actor.specs.Run.{Ran}
use Rattle.realm_actor.specs.Run as running
use Rattle.realm_actor.specs.PostedOrder.{acts_of, KeepsOrderSince, RunKeepsOrder}
use Rattle.realm_actor.proofs.HistoryKeepsOrder.{Kept, kept-begun, entries-of, a_stop, after-closing}
use Rattle.realm_actor.proofs.RunHistory.{makes_on, runs_make, ran_makes, stop_closing, closed_runs}

-- who is closed was live, and all that it said has entered
closing_all : (h k : History) (es : List Entry) (c : ℕ) → Ordered h es → AfterClosing h k → was_closed c h ≡ false → was_closed c k ≡ true → joins_first_alone (posts_of c es) ≡ true → said_by c k ≡ posts_of c es
closing_all h k es c o of.AfterClosing.none unshut shut joins = absurd (true≢false (sym shut ∙ unshut))
closing_all h _ es c o (of.AfterClosing.closed {k = k} d word is_live more) unshut shut joins = said-kept c k (entry.Closed d word) refl ∙ at (eqb d c) refl shut (λ e. closing_all h k es c o more unshut e joins)
  where
    at : (b : Bool) → eqb d c ≡ b → b || was_closed c k ≡ true → (was_closed c k ≡ true → said_by c k ≡ posts_of c es) → said_by c k ≡ posts_of c es
    at true here e on = (after-closing h k es o more).all c joins (ap (live k) (sym (eqb-true d c here)) ∙ is_live)
    at false away e on = on e
closing_all h _ es c o (of.AfterClosing.cut {k = k} d word more) unshut shut joins = said-kept c k (entry.Cut d word) refl ∙ closing_all h k es c o more unshut shut joins

module _ {S : Type 0} where
  since : (from h : History) (ps : List (Post S)) (c : ℕ) (kept : Kept ps h)
      → (joins_first_alone (posts_of c kept.entries) ≡ true → was_closed c from ≡ false → was_closed c h ≡ true → said_by c h ≡ posts_of c kept.entries) → KeepsOrderSince from c (acts_of c ps) h
  since from h ps c kept all = record {
    entries = posts_of c kept.entries;
    are = entries-of c ps kept.entries kept.are;
    some_of = kept.ordered.some c;
    begins = kept.ordered.begins c;
    all = λ joins either. ⊎_elim
        (λ (is : live h c ≡ true). kept.ordered.all c joins is)
        (λ (is : (was_closed c from ≡ false) × (was_closed c h ≡ true)). all joins is.0 is.1)
        either;
  }

  pub ran_keeps : (grants : Grants) (before : List (Post S)) {a z : Acting S} {came : List (Post S)} → MakesAll (begun grants) before a.history → Ran a came z → (c : ℕ)
      → KeepsOrderSince a.history c (acts_of c (before ++ came)) z.history
  ran_keeps grants before {a = a} all (running.Ran.left {came} {b} {c = z} runs swept) c =
      let kept = kept-begun grants (before ++ came) z.history (makes_on all (ran_makes (running.Ran.left runs swept))) in
      since a.history z.history (before ++ came) c kept
      (λ joins before after. absurd (true≢false (sym after ∙ ap (was_closed c) swept.history ∙ closed_runs c runs ∙ before)))
  ran_keeps grants before {a = a} all (running.Ran.stopped {came} {b} {c = m} {d = z} {result} halt runs swept handles) c =
      let kept = kept-begun grants (before ++ came) m.history (subst (λ h. MakesAll (begun grants) (before ++ came) h) (sym swept.history) (makes_on all (runs_make runs))) in
      let after = stop_closing result halt m z handles in
      let more : Kept ((before ++ came) ++ Stop halt ∷ []) z.history = record { entries = kept.entries; are = a_stop (before ++ came) kept.entries halt kept.are; ordered = after-closing m.history z.history kept.entries kept.ordered after } in
      subst (λ ps. KeepsOrderSince a.history c (acts_of c ps) z.history) (append_assoc before came (Stop halt ∷ []))
      (since a.history z.history ((before ++ came) ++ Stop halt ∷ []) c more
      (λ joins unshut shut. closing_all m.history z.history kept.entries c kept.ordered after (ap (was_closed c) swept.history ∙ closed_runs c runs ∙ unshut) shut joins))

pub run_keeps : (S : Type 0) → RunKeepsOrder S
run_keeps S grants before came a z all ran = (makes_on all (ran_makes ran), ran_keeps grants before all ran)
