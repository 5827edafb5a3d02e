-- Marked rows are named one after another.
use Rattle.std.proofs.Common.{◌≡◌, ◌≢◌, ℕ, zero, suc, ◌+◌, ◌<◌, ◌≤◌, Bool, true, false, cond, ◌||◌, List, [], ◌∷◌, ◌++◌, length, take, set, get_or, refl, sym, ap, ◌∙◌, subst, ⊎_elim, add-one, arith}
use Rattle.std.specs.Prelude.{Some, slice_get}
use Rattle.std.proofs.Math.ListN.{length-set}
use Rattle.realm_actor.specs.declared.row.Row.{Row}
use Rattle.realm_actor.specs.Handle.{Unmarked, EachUnmarked}
use Rattle.realm_actor.specs.LastCut.{is_named, named_conns, NoMarks}
use Rattle.realm_actor.proofs.RowPlaces.{read, within, same_place, written, beside}

take_next : {A : Type 0} (xs : List A) (i : ℕ) (r : A) → slice_get xs i ≡ Some r → take (suc i) xs ≡ take i xs ++ r ∷ []
take_next [] i r e = absurd (cc e)
take_next (x ∷ xs) zero r e = let same : x ≡ r = cc in ap (λ y. y ∷ []) same
take_next (x ∷ xs) (suc i) r e = ap (λ l. x ∷ l) (take_next xs i r e)

take_whole : {A : Type 0} (n : ℕ) (xs : List A) → length xs ≤ n → take n xs ≡ xs
take_whole zero [] h = refl
take_whole (suc n) [] h = refl
take_whole zero (x ∷ xs) h = absurd (omega (arith, h))
take_whole (suc n) (x ∷ xs) h = ap (λ l. x ∷ l) (take_whole n xs (omega (arith, h)))

step_append : (b : Bool) (c : ℕ) (xs ys : List ℕ) → cond b (c ∷ (xs ++ ys)) (xs ++ ys) ≡ cond b (c ∷ xs) xs ++ ys
step_append true c xs ys = refl
step_append false c xs ys = refl

added_length : (xs : List ℕ) (b : Bool) (c : ℕ) → length (xs ++ cond b (c ∷ []) []) ≤ length xs + 1
added_length [] true c = omega arith
added_length [] false c = omega arith
added_length (x ∷ xs) b c = let h = added_length xs b c in omega (arith, h)

module _ {S : Type 0} where
  conns_append : (xs ys : List (Row S)) → named_conns (xs ++ ys) ≡ named_conns xs ++ named_conns ys
  conns_append [] ys = refl
  conns_append (x ∷ xs) ys = ap (λ l. cond (is_named x) (x.conn ∷ l) l) (conns_append xs ys) ∙ step_append (is_named x) x.conn (named_conns xs) (named_conns ys)

  conns_next : (rows : List (Row S)) (i : ℕ) (r : Row S) → slice_get rows i ≡ Some r → named_conns (take (i + 1) rows) ≡ named_conns (take i rows) ++ cond (is_named r) (r.conn ∷ []) []
  conns_next rows i r e = ap (λ n. named_conns (take n rows)) (add-one i) ∙ ap (named_conns) (take_next rows i r e) ∙ conns_append (take i rows) (r ∷ [])

  -- the first rows are named and have no mark any more, the others are as they were
  pub record Named (firsts rows : List (Row S)) (named : List ℕ) (i : ℕ) : Type 0 where
    pub conns : named ≡ named_conns (take i firsts)
    pub short : length named ≤ i
    pub same_length : length rows ≡ length firsts
    pub done : (k : ℕ) (o p : Row S) → k < i → slice_get firsts k ≡ Some o → slice_get rows k ≡ Some p → Unmarked o p
    pub todo : (k : ℕ) (p : Row S) → i ≤ k → slice_get rows k ≡ Some p → slice_get firsts k ≡ Some p

  pub named_first : (rows : List (Row S)) → Named rows rows [] 0
  named_first [] = record { conns = refl; short = omega arith; same_length = refl; done = λ k o p h e f. absurd (omega arith); todo = λ k p h e. e }
  named_first (x ∷ rows) = record { conns = refl; short = omega arith; same_length = refl; done = λ k o p h e f. absurd (omega arith); todo = λ k p h e. e }

  pub named_next : (firsts rows : List (Row S)) (named : List ℕ) (i : ℕ) (d s : Row S) → i < length rows → Named firsts rows named i → Unmarked (get_or rows i d) s
      → Named firsts (set rows i s) (named ++ cond (is_named (get_or rows i d)) ((get_or rows i d).conn ∷ []) []) (i + 1)
  named_next firsts rows named i d s h n u =
      let r : Row S = get_or rows i d in
      let here = n.todo i r (omega arith) (read rows i d h) in
      record {
        conns = ap (λ l. l ++ cond (is_named r) (r.conn ∷ []) []) n.conns ∙ sym (conns_next firsts i r here);
        short = let a = added_length named (is_named r) r.conn in let b = n.short in omega (arith, a, b);
        same_length = length-set rows i s ∙ n.same_length;
        done = λ k o p less eo ep. ⊎_elim
            (λ (at : (k ≡ i) × (s ≡ p)).
            let one : r ≡ o = same_place firsts i r o here (sym (ap (slice_get firsts) at.0) ∙ eo) in
            subst (λ p. Unmarked o p) at.1 (subst (λ o. Unmarked o s) one u))
            (λ (at : (k ≢ i) × (slice_get rows k ≡ Some p)). let m = at.0 in n.done k o p (omega (arith, less, m)) eo at.1)
            (written rows i k s p ep);
        todo = λ k p less ep. ⊎_elim
            (λ (at : (k ≡ i) × (s ≡ p)). absurd (omega (arith, less, at.0)))
            (λ (at : (k ≢ i) × (slice_get rows k ≡ Some p)). n.todo k p (omega (arith, less)) at.1)
            (written rows i k s p ep);
      }

  pub named_last : (firsts rows : List (Row S)) (named : List ℕ) (i : ℕ) → length rows ≤ i → Named firsts rows named i → (named ≡ named_conns firsts) × EachUnmarked firsts rows
  named_last firsts rows named i h n =
      let l = n.same_length in (
        n.conns ∙ ap (named_conns) (take_whole i firsts (omega (arith, h, l))),
        (n.same_length, λ k o p eo ep. let w = within rows k p ep in n.done k o p (omega (arith, w, h)) eo ep),
      )

  -- where no row is marked

  pub unmarked_names : (rows : List (Row S)) → NoMarks rows → named_conns rows ≡ []
  unmarked_names [] n = refl
  unmarked_names (x ∷ rows) n =
      let first = n 0 x refl in
      let none : is_named x ≡ false = ap (λ b. b || x.is_lost) first.0 ∙ first.1 in
      ap (λ b. cond b (x.conn ∷ named_conns rows) (named_conns rows)) none ∙ unmarked_names rows (λ k r e. n (suc k) r e)

  pub unmarked_same : (rows : List (Row S)) → NoMarks rows → EachUnmarked rows rows
  unmarked_same rows n = (
    refl,
    λ k o p e f. let t = n k o e in subst (λ q. Unmarked o q) (same_place rows k o p e f) (record { conn = refl; held = refl; is_cut = t.0; is_lost = t.1; was_lost = refl }),
  )

  pub unmarked_after : (olds news : List (Row S)) → EachUnmarked olds news → NoMarks news
  unmarked_after olds news u k p e =
      let eo = beside news olds k p (sym u.0) e in
      let t = u.1 k (get_or olds k p) p eo e in
      (t.is_cut, t.is_lost)
