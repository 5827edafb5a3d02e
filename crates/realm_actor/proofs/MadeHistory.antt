-- The history is what the acts that were handled made of it.
use Rattle.std.proofs.Common.{◌≡◌, ℕ, cond, eqb, List, [], ◌∷◌, ◌++◌, refl, sym, ap, subst, ◌∙◌, append-nil, append_assoc}
use Rattle.std.proofs.lemmas.List.Elements.{filter-append}
use Rattle.wamp_ids.specs.Numbers.{seat_of}
use Rattle.realm.specs.Grants.{Grants}
use Rattle.realm.specs.History.{History, begun}
use Rattle.realm_inbox.specs.declared.act.Act as the
use Rattle.realm_inbox.specs.declared.letter.Post.{Post}
use Rattle.realm_inbox.specs.declared.letter.Post.TheVariants.{Act, Stop}
use Rattle.realm_inbox.specs.Seats.{adds_at, at_seat}
use Rattle.realm_inbox.proofs.Lemmas.{at_seat_append}
use Rattle.realm_actor.specs.declared.outcome.Outcome.{Outcome}
use Rattle.realm_actor.specs.ActorView.{Acting}
use Rattle.realm_actor.specs.HistoryGrowth.{Makes, MakesAll, IsMade, said_of, acts_in}
use Rattle.realm_actor.specs.HistoryGrowth as of
use Rattle.realm_actor.specs.PostedOrder.{acts_of, acts_for, KeepsOrderSince}
use Rattle.realm_actor.specs.Run.{Handles, Runs, Ran, SameAtSeats, stands_at}
use Rattle.realm_actor.specs.Run as running
use Rattle.realm_actor.proofs.RunLemmas.{Ends, stands_said}
use Rattle.realm_actor.proofs.RunHistory.{act_makes, stop_closing}
use Rattle.realm_actor.proofs.RunKeepsOrder.{ran_keeps}

module _ {S : Type 0} where
  -- the acts of posts

  acts_in_append : (ps qs : List (Post S)) → acts_in (ps ++ qs) ≡ acts_in ps ++ acts_in qs
  acts_in_append [] qs = refl
  acts_in_append (p ∷ ps) qs = ap (λ t. said_of p ++ t) (acts_in_append ps qs) ∙ sym (append_assoc (said_of p) (acts_in ps) (acts_in qs))

  acts_in_snoc : (ps : List (Post S)) (p : Post S) → acts_in (ps ++ p ∷ []) ≡ acts_in ps ++ said_of p
  acts_in_snoc ps p = acts_in_append ps (p ∷ []) ∙ ap (λ t. acts_in ps ++ t) (append-nil (said_of p))

  -- at a seat
  stands_in : (k : ℕ) (ps : List (Post S)) → stands_at k (acts_in ps) ≡ at_seat k ps
  stands_in k [] = refl
  stands_in k (p ∷ ps) =
      filter-append (λ (x : ℕ × the.Act S). eqb (seat_of x.0) k) (said_of p) (acts_in ps)
      ∙ ap (λ t. t ++ stands_at k (acts_in ps)) (stands_said k p)
      ∙ ap (λ t. adds_at k p ++ t) (stands_in k ps)

  -- of one connection
  acts_for_in : (c : ℕ) (ps : List (Post S)) → acts_for c (acts_in ps) ≡ acts_of c ps
  acts_for_in c [] = refl
  acts_for_in c (Act l ∷ ps) = ap (λ t. cond (eqb l.conn c) (l.act ∷ t) t) (acts_for_in c ps)
  acts_for_in c (Stop halt ∷ ps) = acts_for_in c ps

  -- from the beginning on, and post by post

  pub made_new : (h : History) (grants : Grants) (acts : List (ℕ × the.Act S)) → h ≡ begun grants → acts ≡ [] → IsMade h acts
  made_new h grants acts is none =
      let nothing : List (Post S) = [] in
      record {
        grants = grants;
        posts = nothing;
        acts_are = none;
        made = subst (λ k. MakesAll (begun grants) nothing k) (sym is) of.MakesAll.none;
      }

  pub made_kept : (h k : History) (acts bs : List (ℕ × the.Act S)) → k ≡ h → bs ≡ acts → IsMade h acts → IsMade k bs
  made_kept h k acts bs history same m = record {
    grants = m.grants;
    posts = m.posts;
    acts_are = same ∙ m.acts_are;
    made = subst (λ l. MakesAll (begun m.grants) m.posts l) (sym history) m.made;
  }

  handles_makes : (result : Outcome) (p : Post S) (old new : Acting S) → Handles result p old new → Makes old.history p new.history
  handles_makes result (Act l) old new h = act_makes result l old new h
  handles_makes result (Stop halt) old new h = of.Makes.stopped halt (stop_closing result halt old new h)

  pub made_on : (result : Outcome) (p : Post S) (old new : Acting S) → IsMade old.history old.handled → Handles result p old new → IsMade new.history new.handled
  made_on result p old new m h = record {
    grants = m.grants;
    posts = m.posts ++ p ∷ [];
    acts_are = h.handled ∙ ap (λ t. t ++ said_of p) m.acts_are ∙ sym (acts_in_snoc m.posts p);
    made = of.MakesAll.one_more p m.made (handles_makes result p old new h);
  }

  -- through a run

  handled_on : (a b c d : Acting S) (came : List (Post S)) (p : Post S) → b.handled ≡ a.handled ++ acts_in came → c.handled ≡ b.handled → d.handled ≡ c.handled ++ said_of p
      → d.handled ≡ a.handled ++ acts_in (came ++ p ∷ [])
  handled_on a b c d came p so_far same more =
      more ∙ ap (λ t. t ++ said_of p) (same ∙ so_far) ∙ append_assoc a.handled (acts_in came) (said_of p) ∙ ap (λ t. a.handled ++ t) (sym (acts_in_snoc came p))

  runs_handled : {a b : Acting S} {came : List (Post S)} → Runs a came b → b.handled ≡ a.handled ++ acts_in came
  runs_handled {a = a} running.Runs.none = sym (append-nil a.handled)
  runs_handled {a = a} (running.Runs.one_more {came} {b} {c} {d} {result} l runs swept handles) = handled_on a b c d came (Act l) (runs_handled runs) swept.handled handles.handled

  ran_handled : {a z : Acting S} {came : List (Post S)} → Ran a came z → z.handled ≡ a.handled ++ acts_in came
  ran_handled (running.Ran.left runs swept) = swept.handled ∙ runs_handled runs
  ran_handled {a = a} (running.Ran.stopped {came} {b} {c} {d} {result} halt runs swept handles) = handled_on a b c d came (Stop halt) (runs_handled runs) swept.handled handles.handled

  -- what a run's actor handled is, seat by seat, what its inbox gave
  pub run_same : (a z : Acting S) (front got : List (Post S)) → SameAtSeats a.handled front → Ends a z front got → SameAtSeats z.handled got
  run_same a z front got same e k =
      let came = e.0 in
      ap (λ t. stands_at k t) (ran_handled e.3)
      ∙ filter-append (λ (x : ℕ × the.Act S). eqb (seat_of x.0) k) a.handled (acts_in came)
      ∙ ap (λ t. t ++ stands_at k (acts_in came)) (same k)
      ∙ ap (λ t. at_seat k front ++ t) (stands_in k came)
      ∙ sym (at_seat_append k front came)
      ∙ ap (λ t. at_seat k t) (sym e.1)

  -- and the history keeps its order
  pub run_order : (a z : Acting S) (came : List (Post S)) → IsMade a.history a.handled → Ran a came z → (c : ℕ) → KeepsOrderSince a.history c (acts_for c z.handled) z.history
  run_order a z came m ran c =
      let all : acts_in (m.posts ++ came) ≡ z.handled = acts_in_append m.posts came ∙ ap (λ t. t ++ acts_in came) (sym m.acts_are) ∙ sym (ran_handled ran) in
      subst (λ acts. KeepsOrderSince a.history c acts z.history) (sym (acts_for_in c (m.posts ++ came)) ∙ ap (λ t. acts_for c t) all)
      (ran_keeps m.grants m.posts m.made ran c)
