-- What a run makes of the history.
use Rattle.std.proofs.Common.{◌≡◌, ℕ, Bool, true, false, List, [], ◌∷◌, ◌++◌, refl, sym, ap, subst, ◌∙◌, ⊎_elim, append-nil, append_assoc}
use Rattle.std.specs.Prelude.{Some, None}
use Rattle.realm.specs.declared.entry.Entry.TheVariants as entry
use Rattle.realm.specs.History.{History, ◌▷◌, Begins, same, longer}
use Rattle.realm_inbox.specs.declared.act.Act as the
use Rattle.realm_inbox.specs.declared.act.Act.TheVariants.{Join, Said, Ping, Spoilt, Gone}
use Rattle.realm_inbox.specs.declared.letter.Halt.{Halt}
use Rattle.realm_inbox.specs.declared.letter.Letter.{Letter}
use Rattle.realm_inbox.specs.declared.letter.Post.{Post}
use Rattle.realm_inbox.specs.declared.letter.Post.TheVariants.{Act, Stop}
use Rattle.realm_inbox.specs.HistoryBeginnings.{begins_longer}
use Rattle.realm_actor.specs.declared.outcome.Outcome.{Outcome}
use Rattle.realm_actor.specs.declared.outcome.Outcome.TheVariants.{Applied, Dropped, NoMemory}
use Rattle.realm_actor.specs.ActorView.{Acting, Working}
use Rattle.realm_actor.specs.Tables.{Standing}
use Rattle.realm_actor.specs.Cuts.{Cuts}
use Rattle.realm_actor.specs.Cuts as cutting
use Rattle.realm_actor.specs.Handle.{entry_of, is_dropped, Loses}
use Rattle.realm_actor.specs.Handle as handling
use Rattle.realm_actor.specs.Stop.{Closes, ClosesOne}
use Rattle.realm_actor.specs.Stop as closing
use Rattle.realm_actor.specs.Run.{Handles, Runs, Ran}
use Rattle.realm_actor.specs.Run as running
use Rattle.realm_actor.specs.HistoryGrowth.{AfterCuts, AfterClosing, was_closed, Makes, MakesAll}
use Rattle.realm_actor.specs.HistoryGrowth as of

not_dropped : (result : Outcome) (b : Bool) → (b ≡ true → result ≡ Dropped) → (result ≡ Dropped → ⊥) → b ≡ false
not_dropped result true to n = absurd (n (to refl))
not_dropped result false to n = refl

closing_cuts : (h k l : History) → AfterClosing h k → AfterCuts k l → AfterClosing h l
closing_cuts h k l first of.AfterCuts.none = first
closing_cuts h k l first (of.AfterCuts.one_more c word more) = of.AfterClosing.cut c word (closing_cuts h k _ first more)

begins_cuts : (h k : History) → AfterCuts h k → Begins h k
begins_cuts h k of.AfterCuts.none = same
begins_cuts h k (of.AfterCuts.one_more c word more) = longer (begins_cuts h _ more)

begins_closing : (h k : History) → AfterClosing h k → Begins h k
begins_closing h k of.AfterClosing.none = same
begins_closing h k (of.AfterClosing.closed c word is more) = longer (begins_closing h _ more)
begins_closing h k (of.AfterClosing.cut c word more) = longer (begins_closing h _ more)

closed_cuts : (h k : History) (c : ℕ) → AfterCuts h k → was_closed c k ≡ was_closed c h
closed_cuts h k c of.AfterCuts.none = refl
closed_cuts h k c (of.AfterCuts.one_more d word more) = closed_cuts h _ c more

module _ {S : Type 0} where
  cuts_after : {old new : Standing S} {drawn : List ℕ} → Cuts old drawn new → AfterCuts old.history new.history
  cuts_after cutting.Cuts.none = of.AfterCuts.none
  cuts_after {old = old} (cutting.Cuts.one_more {mid = mid} c word so_far sound least cut is went) = ⊎_elim
      (λ (one : _ ≡ entry.Cut c (Some word)). subst (λ l. AfterCuts old.history l) (sym (is ∙ ap (λ e. mid.history ▷ e) one)) (of.AfterCuts.one_more c (Some word) (cuts_after so_far)))
      (λ (two : _ ≡ entry.Cut c None). subst (λ l. AfterCuts old.history l) (sym (is ∙ ap (λ e. mid.history ▷ e) two)) (of.AfterCuts.one_more c None (cuts_after so_far)))
      cut

  loses_makes : {old new : Working S} (letter : Letter S) → Loses letter.conn letter.act old new → Makes old.history (Act letter) new.history
  loses_makes letter (handling.Loses.not_live lost dead told few) = of.Makes.lost letter dead
  loses_makes letter (handling.Loses.nothing_drawn dead) = of.Makes.lost letter dead
  loses_makes {old = old} {new = new} letter (handling.Loses.cut lost word drawn e marked few is marks accepted words) = ⊎_elim
      (λ (one : e ≡ entry.Cut letter.conn (Some word)). of.Makes.cut letter (Some word) (subst (λ f. AfterCuts (old.history ▷ f) new.history) one (cuts_after accepted.cuts)))
      (λ (two : e ≡ entry.Cut letter.conn None). of.Makes.cut letter None (subst (λ f. AfterCuts (old.history ▷ f) new.history) two (cuts_after accepted.cuts)))
      is

  pub act_makes : (result : Outcome) (l : Letter S) (old new : Acting S) → Handles result (Act l) old new → Makes old.history (Act l) new.history
  act_makes Applied l old new h =
      let a = h.does.acts in
      of.Makes.applied l a.word (not_dropped Applied (is_dropped old.history l.conn l.act) h.dropped (λ e. absurd (cc))) (cuts_after a.accepted.cuts)
  act_makes Dropped l old new h =
      let a = h.does.acts in
      subst (λ k. Makes old.history (Act l) k) (sym a.0.0) (of.Makes.dropped l a.1)
  act_makes NoMemory l old new h = loses_makes l h.does.acts

  -- a stop

  one_closing : {i : ℕ} {old new : Standing S} {words lost : List ℕ} (from : History) → AfterClosing from old.history → ClosesOne i old words lost new → AfterClosing from new.history
  one_closing from before (closing.ClosesOne.passed r at dead) = before
  one_closing {old = old} {new = new} from before (closing.ClosesOne.closed r word drawn at is accepted) =
      closing_cuts from (old.history ▷ entry.Closed r.conn word) new.history (of.AfterClosing.closed r.conn word is before) (cuts_after accepted.cuts)
  one_closing {old = old} {new = new} from before (closing.ClosesOne.refused r gone word drawn e marked at is cut marks accepted) =
      let h = old.history in
      let l = new.history in
      ⊎_elim
      (λ (one : e ≡ entry.Cut r.conn (Some word)). closing_cuts from (h ▷ entry.Cut r.conn (Some word)) l (of.AfterClosing.cut r.conn (Some word) before) (subst (λ f. AfterCuts (h ▷ f) l) one (cuts_after accepted.cuts)))
      (λ (two : e ≡ entry.Cut r.conn None). closing_cuts from (h ▷ entry.Cut r.conn None) l (of.AfterClosing.cut r.conn None before) (subst (λ f. AfterCuts (h ▷ f) l) two (cuts_after accepted.cuts)))
      cut

  closes_closing : {old : Standing S} {i : ℕ} {new : Standing S} {words lost : List ℕ} → Closes old i words lost new → AfterClosing old.history new.history
  closes_closing closing.Closes.first = of.AfterClosing.none
  closes_closing {old = old} (closing.Closes.one_more so_far one) = one_closing old.history (closes_closing so_far) one

  pub stop_closing : (result : Outcome) (halt : Halt) (old new : Acting S) → Handles result (Stop halt) old new → AfterClosing old.history new.history
  stop_closing result halt old new h = closes_closing h.does.closes

  -- a run

  pub runs_make : {a b : Acting S} {came : List (Post S)} → Runs a came b → MakesAll a.history came b.history
  runs_make running.Runs.none = of.MakesAll.none
  runs_make {a = a} (running.Runs.one_more {came} {b} {c} {d} {result} l runs swept handles) =
      of.MakesAll.one_more (Act l) (runs_make runs) (subst (λ h. Makes h (Act l) d.history) swept.history (act_makes result l c d handles))

  pub ran_makes : {a z : Acting S} {came : List (Post S)} → Ran a came z → MakesAll a.history came z.history
  ran_makes {a = a} (running.Ran.left {came} {b} {c} runs swept) = subst (λ h. MakesAll a.history came h) (sym swept.history) (runs_make runs)
  ran_makes {a = a} (running.Ran.stopped {came} {b} {c} {d} {result} halt runs swept handles) =
      of.MakesAll.one_more (Stop halt) (runs_make runs) (of.Makes.stopped halt (subst (λ h. AfterClosing h d.history) swept.history (stop_closing result halt c d handles)))

  pub makes_on : {h k l : History} {ps qs : List (Post S)} → MakesAll h ps k → MakesAll k qs l → MakesAll h (ps ++ qs) l
  makes_on {h = h} {l = l} {ps = ps} first of.MakesAll.none = subst (λ t. MakesAll h t l) (sym (append-nil ps)) first
  makes_on {h = h} {l = l} {ps = ps} first (of.MakesAll.one_more {ps = qs} p before last) =
      subst (λ t. MakesAll h t l) (append_assoc ps qs (p ∷ [])) (of.MakesAll.one_more p (makes_on first before) last)

  -- the history that comes back begins with the one that went in

  begins_made : (h k : History) (p : Post S) → Makes h p k → Begins h k
  begins_made h k p (of.Makes.applied l word comes cuts) = begins_longer h (h ▷ entry_of l.conn l.act word) k (longer same) (begins_cuts _ k cuts)
  begins_made h k p (of.Makes.dropped l is) = same
  begins_made h k p (of.Makes.lost l dead) = same
  begins_made h k p (of.Makes.cut l word cuts) = begins_longer h (h ▷ entry.Cut l.conn word) k (longer same) (begins_cuts _ k cuts)
  begins_made h k p (of.Makes.stopped halt after) = begins_closing h k after

  begins_all : (h k : History) (ps : List (Post S)) → MakesAll h ps k → Begins h k
  begins_all h k ps of.MakesAll.none = same
  begins_all h k ps (of.MakesAll.one_more p before last) = begins_longer h _ k (begins_all h _ _ before) (begins_made _ k p last)

  pub ran_begins : {a z : Acting S} {came : List (Post S)} → Ran a came z → Begins a.history z.history
  ran_begins {a = a} {z = z} {came = came} ran = begins_all a.history z.history came (ran_makes ran)

  -- who was closed

  not_closed_by : (h : History) (c : ℕ) (l : Letter S) (word : ℕ) → was_closed c (h ▷ entry_of l.conn l.act word) ≡ was_closed c h
  not_closed_by h c l word = at l.act
    where
      at : (act : the.Act S) → was_closed c (h ▷ entry_of l.conn act word) ≡ was_closed c h
      at (Join joining) = refl
      at (Said said) = refl
      at (Ping payload) = refl
      at Spoilt = refl
      at Gone = refl

  closed_act : (h k : History) (c : ℕ) (letter : Letter S) (p : Post S) → p ≡ Act letter → Makes h p k → was_closed c k ≡ was_closed c h
  closed_act h k c letter p is (of.Makes.applied l word comes cuts) = closed_cuts _ k c cuts ∙ not_closed_by h c l word
  closed_act h k c letter p is (of.Makes.dropped l gone) = refl
  closed_act h k c letter p is (of.Makes.lost l dead) = refl
  closed_act h k c letter p is (of.Makes.cut l word cuts) = closed_cuts _ k c cuts
  closed_act h k c letter p is (of.Makes.stopped halt after) = absurd (cc)

  pub closed_runs : {a b : Acting S} {came : List (Post S)} (c : ℕ) → Runs a came b → was_closed c b.history ≡ was_closed c a.history
  closed_runs c running.Runs.none = refl
  closed_runs c (running.Runs.one_more {came} {b} {c = m} {d} {result} l runs swept handles) =
      closed_act m.history d.history c l (Act l) refl (act_makes result l m d handles) ∙ ap (was_closed c) swept.history ∙ closed_runs c runs
