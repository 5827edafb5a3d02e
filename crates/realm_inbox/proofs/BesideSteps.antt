-- A receive with a seat's view beside the reader's: what each pass knows, step by step.
use Rattle.std.proofs.Common.{◌≡◌, ℕ, true, List, [], ◌∷◌, ◌++◌, length, length-append, sym, ap, ◌∙◌, subst, arith, Ok, Err, MatchResult}
use Rattle.std.proofs.lemmas.List.{append-nil, nil_from_length}
use Rattle.std.specs.declared.result.Result.{Result}
use Rattle.std.specs.Result.{IfErr}
use mathlib.Core.List.{IsPrefix}
use Rattle.crossbeam_channel.specs.Fifo.{Pops, Forks, Merges, Learns, Held}
use Rattle.realm_inbox.specs.declared.act.Act as the
use Rattle.realm_inbox.specs.declared.letter.Post.{Post}
use Rattle.realm_inbox.specs.declared.rule.InboxView.{InboxView}
use Rattle.realm_inbox.specs.declared.rule.InboxView.TheVariants.{Seat, Both}
use Rattle.realm_inbox.specs.Seats.{at_seat}
use Rattle.realm_inbox.specs.InTurn.{nobody, beside, without_lent, lent_in, AgreesWith, Receipt, Keeps}
use Rattle.realm_inbox.specs.Ends.{home_in, posted_in, received_in, number_in, reads_any, posts_any}
use Rattle.realm_inbox.proofs.PostLists.{at_seat_append}
use Rattle.realm_inbox.proofs.RuleSteps.{seat_lent, forks_seat, returns, learns_rest, receives_both}
use Rattle.realm_inbox.proofs.StepEffects.{any_reader, any_seat, both_are}

module _ {S : Type 0} where
  -- what a receive told of the view of both
  abbrev Found : {E : Type 0} → InboxView S → InboxView S → Result (Post S) E → Type 0
  Found b n result = MatchResult result (λ x. Receipt b x n) (λ e. (n ≡ b) × Held 0 (λ items. AgreesWith b items))

  module _ (v w m b : InboxView S) (reads : reads_any v ≡ true) (posts : posts_any w ≡ true) (lent : m ≡ lent_in w) (is : b ≡ beside v m) where
    abbrev knowing : List (Post S) → InboxView S
    knowing got = Both (home_in v) (any_reader v reads).0 got (home_in w) (number_in w) (posted_in w)

    knows : b ≡ knowing (received_in v)
    knows = let r = any_reader v reads in both_are v w m b r.0 r.1 posts lent is

    pub receives_beside : (pass : ℕ) → Pops Keeps pass b (λ x n. Receipt b x n) × Learns Keeps pass b (λ items. AgreesWith b items)
    receives_beside pass =
        let r = any_reader v reads in (
          subst (λ (u : InboxView S). Pops Keeps pass u (λ x n. Receipt u x n)) (sym knows) (receives_both (home_in v) pass r.0 (received_in v) (home_in w) (number_in w) (posted_in w)),
          subst (λ (u : InboxView S). Learns Keeps pass u (λ items. AgreesWith u items)) (sym knows) (learns_rest (home_in v) pass r.0 (received_in v) (home_in w) (number_in w) (posted_in w)),
        )

    -- whatever was found, the view is that of both
    still_both : {E : Type 0} (n : InboxView S) (result : Result (Post S) E) → Found b n result → (got : List (Post S)) × (n ≡ knowing got)
    still_both n (Ok x) t = (received_in v ++ x ∷ [], (subst (λ u. Receipt u x n) knows t).0)
    still_both n (Err e) t = (received_in v, t.0 ∙ knows)

    pub forks_after : {E : Type 0} (pass : ℕ) (n : InboxView S) (result : Result (Post S) E) → Found b n result → Forks Keeps pass n (without_lent n) (lent_in n)
    forks_after pass n result t =
        let after = still_both n result t in
        subst (λ (u : InboxView S). Forks Keeps pass u (without_lent u) (lent_in u)) (sym after.1) (forks_seat (home_in v) pass (any_reader v reads).0 after.0 (home_in w) (number_in w) (posted_in w))

    module _ {E : Type 0} (n empty back : InboxView S) (result : Result (Post S) E) (t : Found b n result) (left : empty ≡ without_lent w) (gone : back ≡ lent_in n) where
      none_left : empty ≡ nobody
      none_left = left ∙ ap (λ u. without_lent u) (any_seat w posts)

      seat_gone : back ≡ Seat (home_in w) (number_in w) (posted_in w)
      seat_gone = gone ∙ ap (λ u. lent_in u) (still_both n result t).1

      pub returns_after : (pass other : ℕ) → Merges Keeps pass empty other back (beside empty back) nobody
      returns_after pass other =
          subst (λ (u : InboxView S). Merges Keeps pass u other back (beside u back) nobody) (sym none_left)
          (subst (λ (u : InboxView S). Merges Keeps pass nobody other u u nobody) (sym seat_gone) (returns pass other (number_in w) (Seat (home_in w) (number_in w) (posted_in w)) (seat_lent (home_in w) (number_in w) (posted_in w))))

      pub seat_after : (new : InboxView S) → new ≡ beside empty back → new ≡ w
      seat_after new come = come ∙ (λ i. beside (none_left i) (seat_gone i)) ∙ sym (any_seat w posts)

    -- the reader's own view is one post longer, or as before
    pub reader_after : {E : Type 0} (n new : InboxView S) (result : Result (Post S) E) → Found b n result → new ≡ without_lent n → MatchResult result (λ x. Receipt v x new) (λ e. new ≡ v)
    reader_after n new (Ok x) t left =
        let r = any_reader v reads in
        let told = subst (λ u. Receipt u x n) knows t in
        subst (λ u. Receipt u x new) (sym r.1) (left ∙ ap (λ u. without_lent u) told.0, told.1, told.2, told.3)
    reader_after n new (Err e) t left = let r = any_reader v reads in left ∙ ap (λ u. without_lent u) (t.0 ∙ knows) ∙ sym r.1

    -- where nothing was there, all that was posted had been received
    pub all_received : {E : Type 0} (n : InboxView S) (result : Result (Post S) E) → Found b n result → IfErr result (λ e. at_seat (number_in w) (received_in v) ≡ posted_in w)
    all_received n (Ok x) t = tt
    all_received n (Err e) t =
        let held = t.1 in
        let agrees : posted_in w ≡ at_seat (number_in w) (received_in v) ++ at_seat (number_in w) held.0 = subst (λ u. AgreesWith u held.0) knows held.2 in
        sym (agrees ∙ ap (λ xs. at_seat (number_in w) (received_in v) ++ at_seat (number_in w) xs) (nil_from_length held.0 held.1) ∙ append-nil (at_seat (number_in w) (received_in v)))

  -- all that was posted at a seat stays received, where what is received later begins what was posted
  pub still_all : (k : ℕ) (was now : List (Post S)) (posted : List (ℕ × the.Act S)) → at_seat k was ≡ posted → IsPrefix was now → IsPrefix (at_seat k now) posted → at_seat k now ≡ posted
  still_all k was now posted all more begins =
      let grown : at_seat k now ≡ posted ++ at_seat k more.0 = ap (λ ps. at_seat k ps) (sym more.1) ∙ at_seat_append k was more.0 ∙ ap (λ l. l ++ at_seat k more.0) all in
      let none : at_seat k more.0 ≡ [] = nil_from_length (at_seat k more.0) (omega (arith, ap length grown, length-append posted (at_seat k more.0), ap length begins.1, length-append (at_seat k now) begins.0)) in
      grown ∙ ap (λ l. posted ++ l) none ∙ append-nil posted
