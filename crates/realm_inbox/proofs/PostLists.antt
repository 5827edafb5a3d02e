-- Of lists of posts: what they are at a seat, what their stops tell, and what comes behind what.
use Rattle.std.proofs.Common.{◌≡◌, ◌≢◌, ℕ, zero, suc, ◌+◌, ◌≤◌, cond, eqb, eq-eqb, ne_eqb, List, [], ◌∷◌, ◌++◌, length, length-append, sym, refl, ap, ◌∙◌, subst, arith, append_assoc}
use Rattle.std.proofs.lemmas.List.{append-nil}
use Rattle.std.proofs.Math.Nat.{add_assoc, add-zero}
use Rattle.std.specs.Prelude.{Option}
use Rattle.atomic_table.specs.Seated.{TableId}
use Rattle.wamp_ids.specs.Numbers.{seat_of}
use Rattle.realm_inbox.specs.declared.letter.Letter.{Letter}
use Rattle.realm_inbox.specs.declared.letter.Post.{Post}
use Rattle.realm_inbox.specs.declared.letter.Post.TheVariants.{Act, Stop}
use Rattle.realm_inbox.specs.Seats.{said, adds_at, at_seat, adds_stops, stops_of, IsNext, InOrder, IsHomed, EachHomed}
use Rattle.realm_inbox.specs.Behind.{behind, HasAll, IsBehind, EachBehind, AllBehind, adds_told, told_by}

module _ {S : Type 0} where
  -- what was posted at a seat, of posts and then of others
  pub at_seat_append : (k : ℕ) (xs ys : List (Post S)) → at_seat k (xs ++ ys) ≡ at_seat k xs ++ at_seat k ys
  at_seat_append k [] ys = refl
  at_seat_append k (x ∷ xs) ys = ap (λ t. adds_at k x ++ t) (at_seat_append k xs ys) ∙ sym (append_assoc (adds_at k x) (at_seat k xs) (at_seat k ys))

  pub at_seat_snoc : (k : ℕ) (xs : List (Post S)) (p : Post S) → at_seat k (xs ++ p ∷ []) ≡ at_seat k xs ++ adds_at k p
  at_seat_snoc k xs p = at_seat_append k xs (p ∷ []) ∙ ap (λ t. at_seat k xs ++ t) (append-nil (adds_at k p))

  pub stops_append : (xs ys : List (Post S)) → stops_of (xs ++ ys) ≡ stops_of xs + stops_of ys
  stops_append [] ys = omega arith
  stops_append (x ∷ xs) ys = ap (λ n. adds_stops x + n) (stops_append xs ys) ∙ sym (add_assoc (adds_stops x) (stops_of xs) (stops_of ys))

  pub stops_snoc : (xs : List (Post S)) (p : Post S) → stops_of (xs ++ p ∷ []) ≡ stops_of xs + adds_stops p
  stops_snoc xs p = stops_append xs (p ∷ []) ∙ ap (λ n. stops_of xs + n) (add-zero (adds_stops p))

  pub adds_here : (k : ℕ) (l : Letter S) → seat_of l.conn ≡ k → adds_at k (Act l) ≡ said l ∷ []
  adds_here k l e = ap (λ b. cond b (said l ∷ []) []) (eq-eqb (seat_of l.conn) k e)

  pub adds_elsewhere : (k : ℕ) (l : Letter S) → seat_of l.conn ≢ k → adds_at k (Act l) ≡ []
  adds_elsewhere k l n = ap (λ b. cond b (said l ∷ []) []) (ne_eqb (seat_of l.conn) k n)

  pub in_order_snoc : (front ps : List (Post S)) (p : Post S) → InOrder front ps → IsNext (front ++ ps) p → InOrder front (ps ++ p ∷ [])
  in_order_snoc front [] p o h = (subst (λ t. IsNext t p) (append-nil front) h, tt)
  in_order_snoc front (x ∷ ps) p o h = (o.0, in_order_snoc (front ++ x ∷ []) ps p o.1 (subst (λ t. IsNext t p) (sym (append_assoc front (x ∷ []) ps)) h))

  pub homed_snoc : (home : Option TableId) (ps : List (Post S)) (p : Post S) → EachHomed home ps → IsHomed home p → EachHomed home (ps ++ p ∷ [])
  homed_snoc home [] p all one = (one, tt)
  homed_snoc home (x ∷ ps) p all one = (all.0, homed_snoc home ps p all.1 one)

  -- at each seat the second posts have as many acts as the first
  abbrev pub HasMore : List (Post S) → List (Post S) → Type 0
  HasMore ps qs = (k : ℕ) → length (at_seat k ps) ≤ length (at_seat k qs)

  pub more_append : (ps qs : List (Post S)) → HasMore ps (ps ++ qs)
  more_append ps qs k = omega (arith, ap length (at_seat_append k ps qs), length-append (at_seat k ps) (at_seat k qs))

  pub has_more : (ps qs : List (Post S)) (seats : List (ℕ × ℕ)) → HasMore ps qs → HasAll ps seats → HasAll qs seats
  has_more ps qs [] more all = tt
  has_more ps qs (s ∷ seats) more all = (omega (arith, all.0, more s.0), has_more ps qs seats more all.1)

  -- one seat more
  pub has_snoc : (ps : List (Post S)) (seats : List (ℕ × ℕ)) (s : ℕ × ℕ) → HasAll ps seats → s.1 ≤ length (at_seat s.0 ps) → HasAll ps (seats ++ s ∷ [])
  has_snoc ps [] s all one = (one, tt)
  has_snoc ps (x ∷ seats) s all one = (all.0, has_snoc ps seats s all.1 one)

  pub behind_more : (ps qs : List (Post S)) (p : Post S) → HasMore ps qs → IsBehind ps p → IsBehind qs p
  behind_more ps qs (Act l) more is = tt
  behind_more ps qs (Stop halt) more is = has_more ps qs (behind halt) more is

  pub each_behind_snoc : (front ps : List (Post S)) (p : Post S) → EachBehind front ps → IsBehind (front ++ ps) p → EachBehind front (ps ++ p ∷ [])
  each_behind_snoc front [] p each is = (subst (λ t. IsBehind t p) (append-nil front) is, tt)
  each_behind_snoc front (x ∷ ps) p each is = (each.0, each_behind_snoc (front ++ x ∷ []) ps p each.1 (subst (λ t. IsBehind t p) (sym (append_assoc front (x ∷ []) ps)) is))

  pub all_behind_more : (ps qs line : List (Post S)) → HasMore ps qs → AllBehind ps line → AllBehind qs line
  all_behind_more ps qs [] more all = tt
  all_behind_more ps qs (p ∷ line) more all = (behind_more ps qs p more all.0, all_behind_more ps qs line more all.1)

  pub all_behind_snoc : (taken line : List (Post S)) (p : Post S) → AllBehind taken line → IsBehind taken p → AllBehind taken (line ++ p ∷ [])
  all_behind_snoc taken [] p all one = (one, tt)
  all_behind_snoc taken (x ∷ line) p all one = (all.0, all_behind_snoc taken line p all.1 one)

  pub told_append : (xs ys : List (Post S)) → told_by (xs ++ ys) ≡ told_by xs ++ told_by ys
  told_append [] ys = refl
  told_append (x ∷ xs) ys = ap (λ t. adds_told x ++ t) (told_append xs ys) ∙ sym (append_assoc (adds_told x) (told_by xs) (told_by ys))

  pub told_snoc : (xs : List (Post S)) (p : Post S) → told_by (xs ++ p ∷ []) ≡ told_by xs ++ adds_told p
  told_snoc xs p = told_append xs (p ∷ []) ∙ ap (λ t. told_by xs ++ t) (append-nil (adds_told p))

  -- each stop tells once
  pub told_length : (ps : List (Post S)) → length (told_by ps) ≡ stops_of ps
  told_length [] = refl
  told_length (Act l ∷ ps) = omega (arith, told_length ps)
  told_length (Stop halt ∷ ps) = omega (arith, told_length ps)
