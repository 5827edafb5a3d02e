-- A SUBSCRIBE: what the index answers is what the history says.
use Rattle.std.proofs.Common.{◌≡◌, ℕ, suc, ◌+◌, ◌<◌, Bool, true, false, cond, ◌&&◌, ◌||◌, eqb, ltb, List, ◌∷◌, ◌++◌, length, refl, sym, ap, ◌∙◌, None, Some, Ok, Err, is_some, arith}
use Rattle.std.specs.declared.option.Option.{Option}
use Rattle.std.specs.List.{list_any}
use Rattle.std.proofs.lemmas.Bool.{eqb-true, eq-eqb, ltb-true, and_parts, false_from_ne_true}
use Rattle.wamp_messages.specs.declared.subscribe_options.SubscribeOptions.{SubscribeOptions}
use Rattle.wamp_ids.proofs.Lemmas.{same_pattern-refl, same_pattern-true}
use Rattle.wamp_ids.specs.Pattern.{PatternText, same_pattern}
use Rattle.subscription_index.specs.Index.{Held, IsIndex, number_held, number_of, count_of, insert_row, subscribed_by, joined_or_opened, subscribed as answered}
use Rattle.subscription_index.specs.Members.{has_row, rows_of}
use Rattle.subscription_index.proofs.Lemmas.{has_row-insert, has_row-number_held, has_row-not_held, has_row-number_of, has_row-no_number, length-rows_of, joined as joins, opened_anew}
use Rattle.wamp_messages.specs.declared.said.Said.TheVariants.{Subscribe}
use Rattle.wamp_messages.specs.declared.item.Reason.{Reason}
use Rattle.realm.specs.declared.entry.Entry.TheVariants.{Said}
use Rattle.realm.specs.declared.state.State.{State}
use Rattle.realm.specs.History.{History, ◌▷◌}
use Rattle.realm.specs.Sessions.{joined, IsHistory}
use Rattle.realm.specs.Subscriptions.{holds, opened, held_among, has_room, number_among, number, subscribed, if_new, is_of}
use Rattle.realm.specs.body.Refinement.{Agrees}
use Rattle.realm.proofs.Conditionals.{clash}
use Rattle.realm.proofs.Numbers.{list_any-true, held-number}
use Rattle.realm.proofs.EventsFollowSubscribed.{holder-joined, any-here}
use Rattle.realm.proofs.Holdings.{rows-held}

some-pair : (k n : ℕ) (x u : Held) → ◌≡◌ {A = Option (ℕ × Held)} (Some (k, x)) (Some (n, u)) → (k ≡ n) × (x ≡ u)
some-pair k n x u e = let same : ◌≡◌ {A = ℕ × Held} (k, x) (n, u) = cc in (ap (λ p. p.0) same, ap (λ p. p.1) same)

-- the index agrees with the history
pub record Ties (h : History) (v : Held) : Type 0 where
  pub is_history : IsHistory h
  pub index : IsIndex v
  pub rows : (c n : ℕ) (p : PatternText) → has_row v.rows ((c, n), p) ≡ (holds h c p && eqb (number_among (opened h) p) n)
  pub openings : v.opened ≡ length (opened h)

pub ties : (h : History) (s : State) → Agrees h s → Ties h s.index
ties h s agrees = record { is_history = agrees.is_history; index = agrees.index; rows = agrees.rows; openings = agrees.openings }

-- what the rows of c are
pub held-rows : (h : History) (v : Held) (c : ℕ) → Ties h v → rows_of c v.rows ≡ held_among (holds h c) (opened h)
held-rows h v c t = rows-held v.rows (opened h) (holds h c) c t.index.ascending (λ p held. held-number h c p held) (λ n p. t.rows c n p)

abbrev somebody : History → PatternText → Bool
somebody h p = list_any (λ d. holds h d p) (joined h)

module _ (h : History) (v : Held) (t : Ties h v) (c : ℕ) (p : PatternText) where
  here-holds : (d n : ℕ) → has_row v.rows ((d, n), p) ≡ true → (holds h d p ≡ true) × (number h p ≡ n)
  here-holds d n there =
      let both = and_parts (holds h d p) (eqb (number h p) n) (sym (t.rows d n p) ∙ there) in
      (both.0, eqb-true (number h p) n both.1)

  holds-here : (d : ℕ) → holds h d p ≡ true → has_row v.rows ((d, number h p), p) ≡ true
  holds-here d held = t.rows d (number h p) p ∙ rw (held, eq-eqb (number h p) (number h p) refl) refl

  somebody-holds : (d : ℕ) → holds h d p ≡ true → somebody h p ≡ true
  somebody-holds d held = any-here (λ x. holds h x p) (joined h) d (holder-joined h d p t.is_history held) held

  nobody-holds : (d : ℕ) → somebody h p ≡ false → holds h d p ≡ false
  nobody-holds d free = false_from_ne_true (holds h d p) (λ held. clash (somebody h p) (somebody-holds d held) free)

  not-held : number_held v.rows c p ≡ None → holds h c p ≡ false
  not-held is = false_from_ne_true (holds h c p) (λ held. clash (has_row v.rows ((c, number h p), p)) (holds-here c held) (has_row-not_held v.rows c p is (number h p)))

  no-one : number_of v.rows p ≡ None → somebody h p ≡ false
  no-one is = false_from_ne_true (somebody h p) (λ some.
      let s = list_any-true (λ d. holds h d p) (joined h) some in
      clash (has_row v.rows ((s.one, number h p), p)) (holds-here s.one s.is) (has_row-no_number v.rows p is s.one (number h p)))

  some-one : (n : ℕ) → number_of v.rows p ≡ Some n → (somebody h p ≡ true) × (number h p ≡ n)
  some-one n is =
      let found = has_row-number_of v.rows p n is in
      let here = here-holds found.0 n found.1 in
      (somebody-holds found.0 here.0, here.1)

  count-held : count_of v.rows c ≡ length (held_among (holds h c) (opened h))
  count-held = sym (length-rows_of c v.rows) ∙ ap length (held-rows h v c t)

  -- there is room exactly where the index answers
  pub room : has_room (holds h) (opened h) (joined h) c p ≡ is_some (answered v c p)
  room = at (number_held v.rows c p) refl
    where
      opened_at : (o : Option ℕ) → number_of v.rows p ≡ o → somebody h p || ltb (length (opened h)) 9007199254740992 ≡ is_some (joined_or_opened v c p o)
      opened_at None is = rw (no-one is, ← t.openings) (small (ltb v.opened 9007199254740992))
        where
          small : (b : Bool) → b ≡ is_some {T = ℕ × Held} (cond b (Some (v.opened + 1, record { rows = insert_row ((c, v.opened + 1), p) v.rows; opened = v.opened + 1 })) None)
          small true = refl
          small false = refl
      opened_at (Some n) is = rw ((some-one n is).0) refl

      counted : (b : Bool) → b && (somebody h p || ltb (length (opened h)) 9007199254740992) ≡ is_some (cond b (joined_or_opened v c p (number_of v.rows p)) None)
      counted true = opened_at (number_of v.rows p) refl
      counted false = refl

      at : (o : Option ℕ) → number_held v.rows c p ≡ o → has_room (holds h) (opened h) (joined h) c p ≡ is_some (subscribed_by v c p o)
      at (Some n) is = rw ((here-holds c n (has_row-number_held v.rows c p n is)).0) refl
      at None is = rw (not-held is, ← count-held) (counted (ltb (count_of v.rows c) 256))

-- after a SUBSCRIBE the index and the number are those of the history
pub record Follows (h : History) (d w request : ℕ) (options : SubscribeOptions) (topic : List ℕ) (p : PatternText) (n : ℕ) (v : Held) : Type 0 where
  pub index : IsIndex v
  pub rows : (c m : ℕ) (q : PatternText) → has_row v.rows ((c, m), q) ≡ (holds (h ▷ Said d w (Subscribe request options topic)) c q && eqb (number_among (opened (h ▷ Said d w (Subscribe request options topic))) q) m)
  pub openings : v.opened ≡ length (opened (h ▷ Said d w (Subscribe request options topic)))
  pub number : number (h ▷ Said d w (Subscribe request options topic)) p ≡ n

holds-next : (h : History) (d w request : ℕ) (options : SubscribeOptions) (topic : List ℕ) (c : ℕ) (q : PatternText)
    → holds (h ▷ Said d w (Subscribe request options topic)) c q ≡ (holds h c q || (eqb d c && is_of q (subscribed h d options topic)))
unfolding holds
holds-next h d w request options topic c q = refl

opened-next : (h : History) (d w request : ℕ) (options : SubscribeOptions) (topic : List ℕ)
    → opened (h ▷ Said d w (Subscribe request options topic)) ≡ if_new (somebody h) (subscribed h d options topic) ++ opened h
unfolding opened
opened-next h d w request options topic = refl

-- refused: nothing changes
pub refused-holds : (h : History) (d w request : ℕ) (options : SubscribeOptions) (topic : List ℕ) (reason : Reason) → subscribed h d options topic ≡ Err reason
    → (c : ℕ) (q : PatternText) → holds (h ▷ Said d w (Subscribe request options topic)) c q ≡ holds h c q
refused-holds h d w request options topic reason is c q = holds-next h d w request options topic c q ∙ rw is (at (eqb d c) (holds h c q))
  where
    at : (b x : Bool) → x || (b && false) ≡ x
    at true true = refl
    at true false = refl
    at false true = refl
    at false false = refl

pub refused-opened : (h : History) (d w request : ℕ) (options : SubscribeOptions) (topic : List ℕ) (reason : Reason) → subscribed h d options topic ≡ Err reason
    → opened (h ▷ Said d w (Subscribe request options topic)) ≡ opened h
refused-opened h d w request options topic reason is = opened-next h d w request options topic ∙ rw is refl

module _ (h : History) (v : Held) (t : Ties h v) (d w request : ℕ) (options : SubscribeOptions) (topic : List ℕ) (p : PatternText) (accepted : subscribed h d options topic ≡ Ok p) where
  holds-after : (c : ℕ) (q : PatternText) → holds (h ▷ Said d w (Subscribe request options topic)) c q ≡ (holds h c q || (eqb d c && same_pattern p q))
  holds-after c q = holds-next h d w request options topic c q ∙ rw accepted refl

  opened-held : somebody h p ≡ true → opened (h ▷ Said d w (Subscribe request options topic)) ≡ opened h
  opened-held some = opened-next h d w request options topic ∙ rw (accepted, some) refl

  opened-new : somebody h p ≡ false → opened (h ▷ Said d w (Subscribe request options topic)) ≡ p ∷ opened h
  opened-new none = opened-next h d w request options topic ∙ rw (accepted, none) refl

  same-rows : (x a b : Bool) → (a ≡ true → b ≡ true → x ≡ true) → x || (a && b) ≡ x
  same-rows true a b f = refl
  same-rows false true true f = sym (f refl refl)
  same-rows false true false f = refl
  same-rows false false b f = refl

  -- held already
  again : (n : ℕ) → number_held v.rows d p ≡ Some n → Follows h d w request options topic p n v
  again n is =
      let here = here-holds h v t d p d n (has_row-number_held v.rows d p n is) in
      let os = opened-held (somebody-holds h v t d p d here.0) in
      record {
        index = t.index;
        rows = λ c m q. t.rows c m q ∙ rw (os, holds-after c q) (ap (λ b. b && eqb (number_among (opened h) q) m)
            (sym (same-rows (holds h c q) (eqb d c) (same_pattern p q)
            (λ own same. ap (λ x. holds h x q) (sym (eqb-true d c own)) ∙ (ap (holds h d) (sym (same_pattern-true p q same)) ∙ here.0)))));
        openings = t.openings ∙ ap length (sym os);
        number = rw os here.1;
      }

  joint : (x y own same one : Bool) → (same ≡ true → one ≡ y) → (own && one) && same || (x && y) ≡ (x || (own && same)) && y
  joint true true own true one f = at own one (f refl)
    where
      at : (a b : Bool) → b ≡ true → (a && b) && true || true ≡ true
      at true true e = refl
      at true false e = refl
      at false true e = refl
      at false false e = refl
  joint true true own false one f = at own one
    where
      at : (a b : Bool) → (a && b) && false || true ≡ true
      at true true = refl
      at true false = refl
      at false true = refl
      at false false = refl
  joint true false own true one f = at own one (f refl)
    where
      at : (a b : Bool) → b ≡ false → (a && b) && true || false ≡ false
      at true true e = e
      at true false e = refl
      at false b e = refl
  joint true false own false one f = at own one
    where
      at : (a b : Bool) → (a && b) && false || false ≡ false
      at true true = refl
      at true false = refl
      at false true = refl
      at false false = refl
  joint false y own true one f = at own one y (f refl)
    where
      at : (a b z : Bool) → b ≡ z → (a && b) && true || false ≡ (a && true) && z
      at true true true e = refl
      at true true false e = e
      at true false true e = e
      at true false false e = refl
      at false b z e = refl
  joint false y own false one f = at own one y
    where
      at : (a b z : Bool) → (a && b) && false || false ≡ (a && false) && z
      at true true z = refl
      at true false z = refl
      at false b z = refl

  -- somebody else holds it
  shared : (n : ℕ) → number_held v.rows d p ≡ None → number_of v.rows p ≡ Some n
      → Follows h d w request options topic p n (record { rows = insert_row ((d, n), p) v.rows; opened = v.opened })
  shared n free is =
      let some = some-one h v t d p n is in
      let os = opened-held some.0 in
      record {
        index = joins v d p n t.index free is;
        rows = λ c m q. has_row-insert ((d, n), p) v.rows ((c, m), q) ∙ rw (t.rows c m q, os, holds-after c q)
            (joint (holds h c q) (eqb (number_among (opened h) q) m) (eqb d c) (same_pattern p q) (eqb n m)
            (λ same. ap (λ x. eqb x m) (sym some.1 ∙ ap (number_among (opened h)) (same_pattern-true p q same))));
        openings = t.openings ∙ ap length (sym os);
        number = rw os some.1;
      }

  -- nobody holds it
  anew : number_of v.rows p ≡ None → v.opened < 9007199254740992
      → Follows h d w request options topic p (v.opened + 1) (record { rows = insert_row ((d, v.opened + 1), p) v.rows; opened = v.opened + 1 })
  anew is small =
      let none = no-one h v t d p is in
      let os = opened-new none in
      let n_is : v.opened + 1 ≡ length (opened h) + 1 = ap (λ x. x + 1) t.openings in
      record {
        index = opened_anew v d p t.index is small;
        rows = λ c m q. has_row-insert ((d, v.opened + 1), p) v.rows ((c, m), q) ∙ rw (t.rows c m q, os, holds-after c q, n_is)
            (at c m q (same_pattern p q) refl none);
        openings = n_is ∙ (one_more (length (opened h)) ∙ ap length (sym os));
        number = rw (os, same_pattern-refl p) (sym n_is);
      }
    where
      one_more : (k : ℕ) → k + 1 ≡ suc k
      one_more k = omega arith

      at : (c m : ℕ) (q : PatternText) (same : Bool) → same_pattern p q ≡ same → somebody h p ≡ false
          → (eqb d c && eqb (length (opened h) + 1) m) && same || (holds h c q && eqb (number_among (opened h) q) m)
          ≡ (holds h c q || (eqb d c && same)) && eqb (cond same (length (opened h) + 1) (number_among (opened h) q)) m
      at c m q true is_same free =
          let nobody : holds h c q ≡ false = ap (holds h c) (sym (same_pattern-true p q is_same)) ∙ nobody-holds h v t d p c free in
          rw nobody (bools (eqb d c) (eqb (length (opened h) + 1) m))
        where
          bools : (a b : Bool) → (a && b) && true || false ≡ (a && true) && b
          bools true true = refl
          bools true false = refl
          bools false b = refl
      at c m q false is_same free = bools (eqb d c) (eqb (length (opened h) + 1) m) (holds h c q) (eqb (number_among (opened h) q) m)
        where
          bools : (a b x y : Bool) → (a && b) && false || (x && y) ≡ (x || (a && false)) && y
          bools true true true y = refl
          bools true true false y = refl
          bools true false true y = refl
          bools true false false y = refl
          bools false b true y = refl
          bools false b false y = refl

  -- what the index answers is what the history says
  pub follows : (n : ℕ) (u : Held) → answered v d p ≡ Some (n, u) → Follows h d w request options topic p n u
  follows n u is = at (number_held v.rows d p) refl is
    where
      opens : (b : Bool) → ltb v.opened 9007199254740992 ≡ b → number_of v.rows p ≡ None
          → cond {A = Option (ℕ × Held)} b (Some (v.opened + 1, record { rows = insert_row ((d, v.opened + 1), p) v.rows; opened = v.opened + 1 })) None ≡ Some (n, u) → Follows h d w request options topic p n u
      opens true small free e =
          let both = some-pair (v.opened + 1) n (record { rows = insert_row ((d, v.opened + 1), p) v.rows; opened = v.opened + 1 }) u e in
          rw (← both.0, ← both.1) (anew free (ltb-true v.opened 9007199254740992 small))
      opens false small free e = absurd (cc)

      by_number : (o : Option ℕ) → number_of v.rows p ≡ o → number_held v.rows d p ≡ None → joined_or_opened v d p o ≡ Some (n, u) → Follows h d w request options topic p n u
      by_number (Some k) some free e =
          let both = some-pair k n (record { rows = insert_row ((d, k), p) v.rows; opened = v.opened }) u e in
          rw (← both.0, ← both.1) (shared k free some)
      by_number None none free e = opens (ltb v.opened 9007199254740992) refl none e

      counted : (b : Bool) → number_held v.rows d p ≡ None → cond b (joined_or_opened v d p (number_of v.rows p)) None ≡ Some (n, u) → Follows h d w request options topic p n u
      counted true free e = by_number (number_of v.rows p) refl free e
      counted false free e = absurd (cc)

      at : (o : Option ℕ) → number_held v.rows d p ≡ o → subscribed_by v d p o ≡ Some (n, u) → Follows h d w request options topic p n u
      at (Some k) held e =
          let both = some-pair k n v u e in
          rw (← both.0, ← both.1) (again k held)
      at None free e = counted (ltb (count_of v.rows d) 256) free e
