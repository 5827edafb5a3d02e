-- Each change leaves an index.
use Rattle.std.proofs.Common.{◌≡◌, ℕ, cond, ◌+◌, ◌<◌, nat_lt, not, List, Some, None, Option, sym, ap, ◌∙◌, subst, arith}
use Rattle.std.proofs.lemmas.Bool.{ltb-true}
use Rattle.std.proofs.lemmas.Option.{cond_some}
use Rattle.wamp_ids.specs.Pattern.{PatternText}
use Rattle.subscription_index.specs.Index.{Row, Held, NamesInAll, IsIndex, number_held, number_of, insert_row, is_meant, left}
use Rattle.subscription_index.proofs.Keys.{ascending-insert, ascending-filter}
use Rattle.subscription_index.proofs.NumbersNamePatterns.{names_held, names_next, absent_joined, absent_next, named-insert, named-filter, numbered-insert, numbered-filter, numbered_more, numbered_held}

pub joined : (v : Held) (c : ℕ) (p : PatternText) (n : ℕ) → IsIndex v → number_held v.rows c p ≡ None → number_of v.rows p ≡ Some n → IsIndex (record { rows = insert_row ((c, n), p) v.rows; opened = v.opened })
joined v c p n is free e =
    let all : NamesInAll n p v.rows = names_held v.rows p n is.named e in
    record {
      ascending = ascending-insert ((c, n), p) v.rows (absent_joined v.rows c p n all free) is.ascending;
      named = named-insert ((c, n), p) v.rows all is.named;
      numbered = numbered-insert v.opened ((c, n), p) v.rows (numbered_held v.opened v.rows p n is.numbered e) is.numbered;
      bounded = is.bounded;
    }

pub opened_anew : (v : Held) (c : ℕ) (p : PatternText) → IsIndex v → number_of v.rows p ≡ None → v.opened < 9007199254740992 → IsIndex (record { rows = insert_row ((c, v.opened + 1), p) v.rows; opened = v.opened + 1 })
opened_anew v c p is e room =
    record {
      ascending = ascending-insert ((c, v.opened + 1), p) v.rows (absent_next v.rows c v.opened is.numbered) is.ascending;
      named = named-insert ((c, v.opened + 1), p) v.rows (names_next v.rows p v.opened is.numbered e) is.named;
      numbered = numbered-insert (v.opened + 1) ((c, v.opened + 1), p) v.rows (omega arith, omega arith) (numbered_more v.opened v.rows is.numbered);
      bounded = omega arith;
    }

pub given : (v : Held) (n : ℕ) → cond (nat_lt v.opened 9007199254740992) (Some (v.opened + 1)) None ≡ Some n → (v.opened < 9007199254740992) × (v.opened + 1 ≡ n)
given v n e =
    let k = cond_some (nat_lt v.opened 9007199254740992) (v.opened + 1) n e in
    (ltb-true v.opened 9007199254740992 k.0, k.1)

-- the rows that the code leaves where somebody held p
pub joined_by : (v : Held) (c : ℕ) (p : PatternText) (n : ℕ) (rows : List Row) → IsIndex v → number_held v.rows c p ≡ None → number_of v.rows p ≡ Some n → rows ≡ insert_row ((c, n), p) v.rows → IsIndex (record { rows = rows; opened = v.opened })
joined_by v c p n rows is free held e = subst (λ r. IsIndex (record { rows = r; opened = v.opened })) (sym e) (joined v c p n is free held)

-- and where nobody did
pub opened_by : (v : Held) (c : ℕ) (p : PatternText) (n : ℕ) (rows : List Row) → IsIndex v → number_of v.rows p ≡ None → cond (nat_lt v.opened 9007199254740992) (Some (v.opened + 1)) None ≡ Some n → rows ≡ insert_row ((c, n), p) v.rows → IsIndex (record { rows = rows; opened = v.opened + 1 })
opened_by v c p n rows is none next e =
    let k = given v n next in
    subst (λ r. IsIndex (record { rows = r; opened = v.opened + 1 })) (ap (λ m. insert_row ((c, m), p) v.rows) k.1 ∙ sym e) (opened_anew v c p is none k.0)

pub left_over : (v : Held) (c : ℕ) (number : Option ℕ) → IsIndex v → IsIndex (record { rows = left v.rows c number; opened = v.opened })
left_over v c number is =
    record {
      ascending = ascending-filter (λ r. not (is_meant c number r)) v.rows is.ascending;
      named = named-filter (λ r. not (is_meant c number r)) v.rows is.named;
      numbered = numbered-filter v.opened (λ r. not (is_meant c number r)) v.rows is.numbered;
      bounded = is.bounded;
    }
