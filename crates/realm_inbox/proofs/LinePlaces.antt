-- The line of a place, as lines are put in and looked up.
use Rattle.std.proofs.Common.{◌≡◌, ◌≢◌, ℕ, zero, suc, ◌+◌, ◌<◌, ◌≤◌, Bool, true, false, cond, eqb, eq-eqb, eqb-true, ne_eqb, ltb, ltb-true, ltb-false, List, [], ◌∷◌, ◌++◌, length, length-append, set, get_or, refl, sym, ap, ◌∙◌, subst, append_assoc, arith}
use Rattle.std.specs.Prelude.{Option, Some, None, IfNone, MatchOption, option_to_list}
use Rattle.std.proofs.lemmas.Bool.{eqb-false}
use Rattle.std.proofs.lemmas.List.{append-nil, nil_from_length}
use Rattle.realm_inbox.specs.declared.letter.Post.{Post}
use Rattle.realm_inbox.specs.declared.seat_line.SeatLine.{SeatLine}
use Rattle.realm_inbox.specs.SeatLines.{place_of_post, own_part, first_part, line_at, aside_at, waiting_in}

-- what was popped of a list
pub popped : {A : Type 0} (r : Option A) (old new : List A) (a b : ℕ) → old ≡ option_to_list r ++ new → MatchOption r ((a ≡ 0) × (b ≡ 0)) (λ x. b + 1 ≡ a) → b ≡ length new → MatchOption r ((old ≡ []) × (new ≡ [])) (λ p. old ≡ p ∷ new)
popped None old new a b is few count = let none : new ≡ [] = nil_from_length new (sym count ∙ few.1) in (is ∙ none, none)
popped (Some p) old new a b is few count = is

-- the same, where what is left keeps its items
pub popped_kept : {A : Type 0} (r : Option A) (old new kept : List A) (a b : ℕ) → old ≡ option_to_list r ++ new → MatchOption r ((a ≡ 0) × (b ≡ 0)) (λ x. b + 1 ≡ a) → b ≡ length new → kept ≡ new
    → MatchOption r ((old ≡ []) × (kept ≡ [])) (λ p. old ≡ p ∷ kept)
popped_kept {A} r old new kept a b is few count same = subst (λ (items : List A). MatchOption r ((old ≡ []) × (items ≡ [])) (λ p. old ≡ p ∷ items)) (sym same) (popped r old new a b is few count)

-- what can't be but 0
pub only_zero : (n place : ℕ) → place ≡ 0 → ¬ (n ≢ 0) → n ≡ place
only_zero n place none not = by (eqb n 0) refl
  where
    by : (b : Bool) → eqb n 0 ≡ b → n ≡ place
    by true e = eqb-true n 0 e ∙ sym none
    by false e = absurd (not (eqb-false n 0 e))

-- what holds anyhow holds where nothing was found
pub anyhow : {A B : Type 0} (r : Option A) → B → IfNone r B
anyhow None b = b
anyhow (Some a) b = tt

module _ {S : Type 0} where
  pub line_is : (ls : List (SeatLine S)) (i : ℕ) (d : SeatLine S) → i < length ls → line_at ls i ≡ (get_or ls i d).posts.items
  line_is [] i d below = absurd (omega (arith, below))
  line_is (l ∷ ls) zero d below = refl
  line_is (l ∷ ls) (suc i) d below = line_is ls i d (omega (arith, below))

  -- one line more at the end, with nobody in it
  pub empty_snoc : (ls : List (SeatLine S)) (y : SeatLine S) → ((k : ℕ) → line_at ls k ≡ []) → y.posts.items ≡ [] → (k : ℕ) → line_at (ls ++ y ∷ []) k ≡ []
  empty_snoc [] y none e zero = e
  empty_snoc [] y none e (suc k) = refl
  empty_snoc (l ∷ ls) y none e zero = none zero
  empty_snoc (l ∷ ls) y none e (suc k) = empty_snoc ls y (λ j. none (suc j)) e k

  set_here : (ls : List (SeatLine S)) (i : ℕ) (y : SeatLine S) → i < length ls → line_at (set ls i y) i ≡ y.posts.items
  set_here [] i y below = absurd (omega (arith, below))
  set_here (l ∷ ls) zero y below = refl
  set_here (l ∷ ls) (suc i) y below = set_here ls i y (omega (arith, below))

  set_elsewhere : (ls : List (SeatLine S)) (i k : ℕ) (y : SeatLine S) → i ≢ k → line_at (set ls i y) k ≡ line_at ls k
  set_elsewhere [] i k y other = refl
  set_elsewhere (l ∷ ls) zero zero y other = absurd (other refl)
  set_elsewhere (l ∷ ls) zero (suc k) y other = refl
  set_elsewhere (l ∷ ls) (suc i) zero y other = refl
  set_elsewhere (l ∷ ls) (suc i) (suc k) y other = set_elsewhere ls i k y (λ e. other (ap suc e))

  -- a line grows at its end
  pub line_longer : (ls : List (SeatLine S)) (i : ℕ) (y : SeatLine S) (part : List (Post S)) → i < length ls → y.posts.items ≡ line_at ls i ++ part
      → (k : ℕ) → line_at (set ls i y) k ≡ line_at ls k ++ cond (eqb i k) part []
  line_longer ls i y part below e k = by (eqb i k) refl
    where
      by : (b : Bool) → eqb i k ≡ b → line_at (set ls i y) k ≡ line_at ls k ++ cond b part []
      by true t = subst (λ n. line_at (set ls i y) n ≡ line_at ls n ++ part) (eqb-true i k t) (set_here ls i y below ∙ e)
      by false t = set_elsewhere ls i k y (eqb-false i k t) ∙ sym (append-nil (line_at ls k))

  -- a line loses its front
  pub line_shorter : (ls : List (SeatLine S)) (i : ℕ) (y : SeatLine S) (part : List (Post S)) → i < length ls → line_at ls i ≡ part ++ y.posts.items
      → (k : ℕ) → line_at ls k ≡ cond (eqb i k) part [] ++ line_at (set ls i y) k
  line_shorter ls i y part below e k = by (eqb i k) refl
    where
      by : (b : Bool) → eqb i k ≡ b → line_at ls k ≡ cond b part [] ++ line_at (set ls i y) k
      by true t = subst (λ n. line_at ls n ≡ part ++ line_at (set ls i y) n) (eqb-true i k t) (e ∙ ap (λ l. part ++ l) (sym (set_here ls i y below)))
      by false t = sym (set_elsewhere ls i k y (eqb-false i k t))

  pub line_same : (ls : List (SeatLine S)) (i : ℕ) (y : SeatLine S) → i < length ls → y.posts.items ≡ line_at ls i → (k : ℕ) → line_at (set ls i y) k ≡ line_at ls k
  line_same ls i y below e k = by (eqb i k) refl
    where
      by : (b : Bool) → eqb i k ≡ b → line_at (set ls i y) k ≡ line_at ls k
      by true t = subst (λ n. line_at (set ls i y) n ≡ line_at ls n) (eqb-true i k t) (set_here ls i y below ∙ e)
      by false t = set_elsewhere ls i k y (eqb-false i k t)

  pub line_none : (ls : List (SeatLine S)) (i : ℕ) → length ls ≤ i → line_at ls i ≡ []
  line_none [] i beyond = refl
  line_none (l ∷ ls) zero beyond = absurd (omega (arith, beyond))
  line_none (l ∷ ls) (suc i) beyond = line_none ls i (omega (arith, beyond))

  -- nobody waits in the lines of seats below a place, nor at that
  pub none_below : (ls : List (SeatLine S)) (place : ℕ) → ((k : ℕ) → k ≢ 0 → k < place → line_at ls k ≡ []) → line_at ls place ≡ [] → (k : ℕ) → k ≢ 0 → k < place + 1 → line_at ls k ≡ []
  none_below ls place none here k seat below = by (eqb k place) refl
    where
      by : (b : Bool) → eqb k place ≡ b → line_at ls k ≡ []
      by true e = ap (λ n. line_at ls n) (eqb-true k place e) ∙ here
      by false e = none k seat (let apart = eqb-false k place e in search (apart, below, arith))

  -- nor anywhere else, where those are all lines
  pub none_anywhere : (ls : List (SeatLine S)) (place : ℕ) → ((k : ℕ) → k ≢ 0 → k < place → line_at ls k ≡ []) → length ls ≤ place → (k : ℕ) → k ≢ 0 → line_at ls k ≡ []
  none_anywhere ls place none all k seat = by (ltb k place) refl
    where
      by : (b : Bool) → ltb k place ≡ b → line_at ls k ≡ []
      by true e = none k seat (ltb-true k place e)
      by false e = let beyond = ltb-false k place e in line_none ls k (omega (arith, beyond, all))

  -- a post was popped of a line
  pub popped_from : (ls : List (SeatLine S)) (i : ℕ) (old y : SeatLine S) (r : Option (Post S)) → i < length ls → line_at ls i ≡ old.posts.items
      → MatchOption r ((old.posts.items ≡ []) × (y.posts.items ≡ [])) (λ p. old.posts.items ≡ p ∷ y.posts.items)
      → MatchOption r ((line_at ls i ≡ []) × ((k : ℕ) → line_at (set ls i y) k ≡ line_at ls k)) (λ p. (k : ℕ) → line_at ls k ≡ first_part i k p ++ line_at (set ls i y) k)
  popped_from ls i old y None below is e = (is ∙ e.0, line_same ls i y below (e.1 ∙ sym (is ∙ e.0)))
  popped_from ls i old y (Some p) below is e = line_shorter ls i y (p ∷ []) below (is ∙ e)

  -- a post was pushed into a line, or came back
  pub pushed_into : (ls : List (SeatLine S)) (i : ℕ) (old y : SeatLine S) (p : Post S) (r : Option (Post S)) → i ≡ place_of_post p → i < length ls → line_at ls i ≡ old.posts.items
      → MatchOption r (y.posts.items ≡ old.posts.items ++ p ∷ []) (λ back. (back ≡ p) × (y.posts.items ≡ old.posts.items))
      → MatchOption r ((k : ℕ) → line_at (set ls i y) k ≡ line_at ls k ++ own_part k p) (λ back. (back ≡ p) × ((k : ℕ) → line_at (set ls i y) k ≡ line_at ls k))
  pushed_into ls i old y p None place below is e = λ k.
      line_longer ls i y (p ∷ []) below (e ∙ ap (λ l. l ++ p ∷ []) (sym is)) k ∙ ap (λ n. line_at ls k ++ cond (eqb n k) (p ∷ []) []) place
  pushed_into ls i old y p (Some back) place below is e = (e.0, line_same ls i y below (e.1 ∙ sym is))

  -- where nothing stood aside, a post is added to what waits
  pub added : (ls ls' : List (SeatLine S)) (before after : Option (Post S)) (p : Post S) → before ≡ None
      → MatchOption after ((k : ℕ) → line_at ls' k ≡ line_at ls k ++ own_part k p) (λ back. (back ≡ p) × ((k : ℕ) → line_at ls' k ≡ line_at ls k))
      → (k : ℕ) → waiting_in ls' after k ≡ waiting_in ls before k ++ own_part k p
  added ls ls' before None p none e = λ k.
      append-nil (line_at ls' k) ∙ e k ∙ ap (λ l. l ++ own_part k p) (sym (ap (λ a. line_at ls k ++ aside_at k a) none ∙ append-nil (line_at ls k)))
  added ls ls' before (Some back) p none e = λ k.
      ap (λ l. l ++ own_part k back) (e.1 k) ∙ ap (λ b. line_at ls k ++ own_part k b) e.0 ∙ ap (λ l. l ++ own_part k p) (sym (ap (λ a. line_at ls k ++ aside_at k a) none ∙ append-nil (line_at ls k)))

  -- the first post that waits, of a line
  pub first_in_line : (ls ls' : List (SeatLine S)) (a : Option (Post S)) (place : ℕ) (p : Post S) → ((k : ℕ) → line_at ls k ≡ first_part place k p ++ line_at ls' k)
      → (k : ℕ) → waiting_in ls a k ≡ first_part place k p ++ waiting_in ls' a k
  first_in_line ls ls' a place p e k = ap (λ l. l ++ aside_at k a) (e k) ∙ append_assoc (first_part place k p) (line_at ls' k) (aside_at k a)

  aside_by : (ls ls' : List (SeatLine S)) (place : ℕ) (p : Post S) → (line_at ls place ≡ []) × ((k : ℕ) → line_at ls' k ≡ line_at ls k)
      → (k : ℕ) (b : Bool) → eqb place k ≡ b → line_at ls k ++ cond b (p ∷ []) [] ≡ cond b (p ∷ []) [] ++ (line_at ls' k ++ [])
  aside_by ls ls' place p none k true t =
      let here : line_at ls k ≡ [] = subst (λ n. line_at ls n ≡ []) (eqb-true place k t) none.0 in
      ap (λ l. l ++ p ∷ []) here ∙ ap (λ l. p ∷ l) (sym (append-nil (line_at ls' k) ∙ (none.1 k ∙ here)))
  aside_by ls ls' place p none k false t = append-nil (line_at ls k) ∙ sym (append-nil (line_at ls' k) ∙ none.1 k)

  -- and of what stands aside, where the line has none
  pub first_aside : (ls ls' : List (SeatLine S)) (a a' : Option (Post S)) (place : ℕ) (r : Option (Post S)) → (line_at ls place ≡ []) × ((k : ℕ) → line_at ls' k ≡ line_at ls k)
      → MatchOption r (a' ≡ a) (λ p. (a ≡ Some p) × (place_of_post p ≡ place) × (a' ≡ None))
      → MatchOption r ((k : ℕ) → waiting_in ls' a' k ≡ waiting_in ls a k) (λ p. (k : ℕ) → waiting_in ls a k ≡ first_part place k p ++ waiting_in ls' a' k)
  first_aside ls ls' a a' place None none e = λ k. ap (λ l. l ++ aside_at k a') (none.1 k) ∙ ap (λ x. line_at ls k ++ aside_at k x) e
  first_aside ls ls' a a' place (Some p) none e = λ k.
      ap (λ x. line_at ls k ++ aside_at k x) e.0
      ∙ (ap (λ n. line_at ls k ++ cond (eqb n k) (p ∷ []) []) e.1
      ∙ (aside_by ls ls' place p none k (eqb place k) refl
      ∙ ap (λ x. first_part place k p ++ (line_at ls' k ++ aside_at k x)) (sym e.2)))

  -- nobody waits at a place where nobody does in its line, and nothing stands aside
  pub free : (ls : List (SeatLine S)) (a : Option (Post S)) (k : ℕ) → a ≡ None → line_at ls k ≡ [] → waiting_in ls a k ≡ []
  free ls a k none line = ap (λ l. l ++ aside_at k a) line ∙ ap (λ x. aside_at k x) none

  -- nobody waits where nobody does in the line, nor aside; and the other way round
  pub nowhere : (ls : List (SeatLine S)) (a : Option (Post S)) (k : ℕ) → line_at ls k ≡ [] → aside_at k a ≡ [] → waiting_in ls a k ≡ []
  nowhere ls a k line aside = ap (λ l. l ++ aside_at k a) line ∙ aside

  pub not_in_line : (ls : List (SeatLine S)) (a : Option (Post S)) (k : ℕ) → waiting_in ls a k ≡ [] → line_at ls k ≡ []
  not_in_line ls a k none = nil_from_length (line_at ls k) (omega (arith, ap length none, length-append (line_at ls k) (aside_at k a)))

  pub not_aside : (ls : List (SeatLine S)) (a : Option (Post S)) (k : ℕ) → waiting_in ls a k ≡ [] → aside_at k a ≡ []
  not_aside ls a k none = nil_from_length (aside_at k a) (omega (arith, ap length none, length-append (line_at ls k) (aside_at k a)))

  own_here : (k : ℕ) (p : Post S) → place_of_post p ≡ k → own_part k p ≡ p ∷ []
  own_here k p e = ap (λ b. cond b (p ∷ []) []) (eq-eqb (place_of_post p) k e)

  -- somebody waits where a post was added
  pub not_free : {B : Type 0} (line : List (Post S)) (k : ℕ) (p : Post S) → place_of_post p ≡ k → line ++ own_part k p ≡ [] → B
  not_free line k p here none = absurd (omega (arith, ap length none, length-append line (own_part k p), ap length (own_here k p here)))

  pub not_free_aside : {B : Type 0} (ls : List (SeatLine S)) (a : Option (Post S)) (k : ℕ) (p : Post S) → a ≡ Some p → place_of_post p ≡ k → waiting_in ls a k ≡ [] → B
  not_free_aside ls a k p is here none = not_free (line_at ls k) k p here (ap (λ x. line_at ls k ++ aside_at k x) (sym is) ∙ none)

  -- somebody stands aside where the post that does has its place, and nowhere else
  pub stands_aside : (k : ℕ) (p : Post S) → place_of_post p ≡ k → own_part k p ≢ []
  stands_aside k p here none = absurd (omega (arith, ap length none, ap length (own_here k p here)))

  pub own_elsewhere : (k : ℕ) (p : Post S) → place_of_post p ≢ k → own_part k p ≡ []
  own_elsewhere k p other = ap (λ b. cond b (p ∷ []) []) (ne_eqb (place_of_post p) k other)
