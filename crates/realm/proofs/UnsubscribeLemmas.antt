-- An UNSUBSCRIBE: what the index answers is what the history says.
use Rattle.std.proofs.Common.{◌≡◌, ℕ, Bool, true, false, cond, not, ◌&&◌, ◌||◌, eqb, List, [], ◌∷◌, length, refl, sym, ap, ◌∙◌, Some}
use Rattle.std.specs.List.{list_any}
use Rattle.std.proofs.lemmas.Bool.{eqb-true}
use Rattle.wamp_ids.specs.Pattern.{PatternText}
use Rattle.subscription_index.specs.Index.{Held, Row, IsIndex, without, holds_number as is_held}
use Rattle.subscription_index.specs.Members.{has_row, rows_of}
use Rattle.subscription_index.proofs.Lemmas.{has_row-left, has_row-holds_no_number, left_over}
use Rattle.wamp_messages.specs.declared.said.Said.TheVariants.{Unsubscribe}
use Rattle.realm.specs.declared.entry.Entry.TheVariants.{Said}
use Rattle.realm.specs.History.{History, ◌▷◌}
use Rattle.realm.specs.Subscriptions.{holds, opened, number_among, number, holds_number}
use Rattle.realm.proofs.LiveList.{eqb-comm}
use Rattle.realm.proofs.SubscribeLemmas.{Ties, held-rows}

-- the index without the number n of c, where it is held
abbrev pub left_by : Held → ℕ → ℕ → Bool → Held
left_by v c n true = record { rows = without v.rows c n; opened = v.opened }
left_by v c n false = v

pub record After (h : History) (c w request n : ℕ) (v : Held) : Type 0 where
  pub index : IsIndex v
  pub rows : (d m : ℕ) (p : PatternText) → has_row v.rows ((d, m), p) ≡ (holds (h ▷ Said c w (Unsubscribe request n)) d p && eqb (number_among (opened (h ▷ Said c w (Unsubscribe request n))) p) m)
  pub openings : v.opened ≡ length (opened (h ▷ Said c w (Unsubscribe request n)))

holds-after : (h : History) (c w request n d : ℕ) (p : PatternText)
    → holds (h ▷ Said c w (Unsubscribe request n)) d p ≡ (holds h d p && not (eqb c d && eqb (number_among (opened h) p) n))
unfolding holds
holds-after h c w request n d p = refl

opened-after : (h : History) (c w request n : ℕ) → opened (h ▷ Said c w (Unsubscribe request n)) ≡ opened h
unfolding opened
opened-after h c w request n = refl

-- the rows of c with the number
any-number : (rows : List Row) (c n : ℕ) → is_held rows c n ≡ list_any (λ s. eqb s.0 n) (rows_of c rows)
any-number [] c n = refl
any-number (r ∷ rs) c n = at (eqb r.0.0 c) (any-number rs c n)
  where
    at : (own : Bool) → is_held rs c n ≡ list_any (λ s. eqb s.0 n) (rows_of c rs)
        → (own && eqb r.0.1 n) || is_held rs c n ≡ list_any (λ s. eqb s.0 n) (cond own ((r.0.1, r.1) ∷ rows_of c rs) (rows_of c rs))
    at true rest = ap (λ b. eqb r.0.1 n || b) rest
    at false rest = rest

pub number-held : (h : History) (v : Held) → Ties h v → (c n : ℕ) → is_held v.rows c n ≡ holds_number h c n
number-held h v t c n = any-number v.rows c n ∙ ap (list_any (λ s. eqb s.0 n)) (held-rows h v c t)

module _ (h : History) (v : Held) (t : Ties h v) (c w request n : ℕ) where
  number-same : (p : PatternText) (m : ℕ) → eqb (number h p) m ≡ true → eqb m n ≡ eqb (number h p) n
  number-same p m is = ap (λ x. eqb x n) (sym (eqb-true (number h p) m is))

  taken : (x y own gone away : Bool) → (y ≡ true → gone ≡ away) → not (own && gone) && (x && y) ≡ (x && not (own && away)) && y
  taken x true own gone away same = rw (same refl) (at x (not (own && away)))
    where
      at : (a b : Bool) → b && (a && true) ≡ (a && b) && true
      at true true = refl
      at true false = refl
      at false true = refl
      at false false = refl
  taken x false own gone away same = at x (not (own && gone)) (not (own && away))
    where
      at : (a b d : Bool) → b && (a && false) ≡ (a && d) && false
      at true true true = refl
      at true true false = refl
      at true false true = refl
      at true false false = refl
      at false true d = refl
      at false false d = refl

  -- the number is held
  gone : After h c w request n (left_by v c n true)
  gone = record {
    index = left_over v c (Some n) t.index;
    rows = λ d m p. has_row-left v.rows c (Some n) ((d, m), p)
        ∙ (rw (t.rows d m p, opened-after h c w request n, holds-after h c w request n d p, eqb-comm d c)
        (taken (holds h d p) (eqb (number_among (opened h) p) m) (eqb c d) (eqb m n) (eqb (number_among (opened h) p) n) (number-same p m)));
    openings = t.openings ∙ ap length (sym (opened-after h c w request n));
  }

  -- it isn't
  untouched : is_held v.rows c n ≡ false → (d : ℕ) (p : PatternText) → (holds h d p && not (eqb c d && eqb (number_among (opened h) p) n)) ≡ holds h d p
  untouched free d p = at (holds h d p) refl (eqb c d) refl (eqb (number_among (opened h) p) n) refl
    where
      at : (x : Bool) → holds h d p ≡ x → (own : Bool) → eqb c d ≡ own → (away : Bool) → eqb (number_among (opened h) p) n ≡ away → x && not (own && away) ≡ x
      at true held true own_is true away_is =
          let here : has_row v.rows ((c, n), p) ≡ true = t.rows c n p ∙ rw (ap (λ x. holds h x p) (eqb-true c d own_is) ∙ held, away_is) refl in
          absurd (let e = sym here ∙ has_row-holds_no_number v.rows c n free p in cc)
      at true held true own_is false away_is = refl
      at true held false own_is away away_is = refl
      at false held own own_is away away_is = refl

  kept : is_held v.rows c n ≡ false → After h c w request n (left_by v c n false)
  kept free = record {
    index = t.index;
    rows = λ d m p. t.rows d m p ∙ rw (opened-after h c w request n, holds-after h c w request n d p) (ap (λ b. b && eqb (number_among (opened h) p) m) (sym (untouched free d p)));
    openings = t.openings ∙ ap length (sym (opened-after h c w request n));
  }

  pub unsubscribed : After h c w request n (left_by v c n (is_held v.rows c n))
  unsubscribed = at (is_held v.rows c n) refl
    where
      at : (b : Bool) → is_held v.rows c n ≡ b → After h c w request n (left_by v c n b)
      at true is = gone
      at false is = kept is
