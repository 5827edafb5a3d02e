-- What is given, connection by connection.
use Rattle.std.proofs.Common.{◌≡◌, ℕ, ◌≤◌, Bool, true, false, cond, eqb, ltb, List, [], ◌∷◌, ◌++◌, refl, sym, ap, ◌∙◌, append-nil, arith}
use Rattle.std.proofs.lemmas.Bool.{eqb-true}
use Rattle.std.proofs.lemmas.Bool.Decides.{nat_tests}
use Rattle.wamp_messages.specs.declared.item.Item.{Item}
use Rattle.realm.specs.declared.entry.Entry.{Entry}
use Rattle.realm.specs.History.{History}
use Rattle.realm.specs.Sessions.{conn_of}
use Rattle.realm.specs.Yield.{yield, reply, events}
use Rattle.realm.specs.Given.{items_for, StartsAbove, IsAscending, GivesEach, GivesExactly}
use Rattle.realm.specs.body.Outputs.{all_for, put_before}
use Rattle.realm.proofs.Conditionals.{cond-same}

-- items for one connection
pub items_for-all : (c d : ℕ) (items : List Item) → items_for d (all_for c items) ≡ cond (eqb c d) items []
items_for-all c d [] = sym (cond-same (eqb c d) [])
items_for-all c d (i ∷ items) = at (eqb c d) (items_for-all c d items)
  where
    at : (b : Bool) → items_for d (all_for c items) ≡ cond b items [] → cond b (i ∷ items_for d (all_for c items)) (items_for d (all_for c items)) ≡ cond b (i ∷ items) []
    at true is = ap (λ l. i ∷ l) is
    at false is = is

ascending-all : (c : ℕ) (items : List Item) → IsAscending (all_for c items)
ascending-all c [] = tt
ascending-all c (i ∷ []) = (tt, tt)
ascending-all c (i ∷ j ∷ items) = (omega arith, ascending-all c (j ∷ items))

-- an entry that gives its own connection alone
pub gives-own : (h : History) (e : Entry) (given : List (ℕ × Item)) (own : List Item)
    → given ≡ all_for (conn_of e) (reply h e ++ own) → ((c : ℕ) → events h e c ≡ cond (eqb (conn_of e) c) own []) → GivesExactly h e given
unfolding yield
gives-own h e given own is no_others = record {
  each = λ c. rw (is, items_for-all (conn_of e) c (reply h e ++ own), no_others c) (at (eqb (conn_of e) c));
  ascending = rw is (ascending-all (conn_of e) (reply h e ++ own));
}
  where
    at : (b : Bool) → cond b (reply h e ++ own) [] ≡ cond b (reply h e) [] ++ cond b own []
    at true = refl
    at false = refl

-- an entry whose own connection gets its reply, and nobody anything else
pub gives-reply : (h : History) (e : Entry) (given : List (ℕ × Item)) → given ≡ all_for (conn_of e) (reply h e) → ((c : ℕ) → events h e c ≡ []) → GivesExactly h e given
gives-reply h e given is no_events =
    gives-own h e given [] (is ∙ ap (all_for (conn_of e)) (sym (append-nil (reply h e)))) (λ c. no_events c ∙ sym (cond-same {A = List Item} (eqb (conn_of e) c) []))

-- one item before those of a connection
items_for-put : (c d : ℕ) (i : Item) (xs : List (ℕ × Item)) → items_for d (put_before c i xs) ≡ cond (eqb c d) (i ∷ []) [] ++ items_for d xs
items_for-put c d i [] = at (eqb c d)
  where
    at : (b : Bool) → cond b (i ∷ []) [] ≡ cond b (i ∷ []) [] ++ []
    at true = refl
    at false = refl
items_for-put c d i (x ∷ xs) = at (ltb x.0 c) refl (eqb c d) refl (eqb x.0 d) refl (items_for-put c d i xs)
  where
    at : (less : Bool) → ltb x.0 c ≡ less → (own : Bool) → eqb c d ≡ own → (here : Bool) → eqb x.0 d ≡ here
        → items_for d (put_before c i xs) ≡ cond own (i ∷ []) [] ++ items_for d xs
        → items_for d (cond less (x ∷ put_before c i xs) ((c, i) ∷ x ∷ xs)) ≡ cond own (i ∷ []) [] ++ cond here (x.1 ∷ items_for d xs) (items_for d xs)
    at false less_is true own_is here here_is rest = rw (own_is, here_is) refl
    at false less_is false own_is here here_is rest = rw (own_is, here_is) refl
    at true less_is true own_is true here_is rest =
        let a : c ≡ d = eqb-true c d own_is in
        let b : x.0 ≡ d = eqb-true x.0 d here_is in
        absurd (grind (arith, nat_tests))
    at true less_is true own_is false here_is rest = rw here_is rest
    at true less_is false own_is true here_is rest = rw here_is (ap (λ l. x.1 ∷ l) rest)
    at true less_is false own_is false here_is rest = rw here_is rest

starts-put : (b c : ℕ) (i : Item) (xs : List (ℕ × Item)) → b ≤ c → StartsAbove b xs → StartsAbove b (put_before c i xs)
starts-put b c i [] small starts = small
starts-put b c i (x ∷ xs) small starts = at (ltb x.0 c)
  where
    at : (less : Bool) → StartsAbove b (cond less (x ∷ put_before c i xs) ((c, i) ∷ x ∷ xs))
    at true = starts
    at false = small

ascending-put : (c : ℕ) (i : Item) (xs : List (ℕ × Item)) → IsAscending xs → IsAscending (put_before c i xs)
ascending-put c i [] ascending = (tt, tt)
ascending-put c i (x ∷ xs) ascending = at (ltb x.0 c) refl (ascending-put c i xs ascending.1)
  where
    at : (less : Bool) → ltb x.0 c ≡ less → IsAscending (put_before c i xs) → IsAscending (cond less (x ∷ put_before c i xs) ((c, i) ∷ x ∷ xs))
    at true is rest = (starts-put x.0 c i xs (grind (arith, nat_tests)) ascending.0, rest)
    at false is rest = (grind (arith, nat_tests), ascending)

pub gives-put : (gift : ℕ → List Item) (c : ℕ) (i : Item) (xs : List (ℕ × Item)) → GivesEach gift xs → GivesEach (λ d. cond (eqb c d) (i ∷ []) [] ++ gift d) (put_before c i xs)
gives-put gift c i xs gives = record {
  each = λ d. items_for-put c d i xs ∙ ap (λ l. cond (eqb c d) (i ∷ []) [] ++ l) (gives.each d);
  ascending = ascending-put c i xs gives.ascending;
}

-- the same gifts
pub gives-same : (gift other : ℕ → List Item) (xs : List (ℕ × Item)) → ((c : ℕ) → gift c ≡ other c) → GivesEach gift xs → GivesEach other xs
gives-same gift other xs same gives = record { each = λ c. gives.each c ∙ same c; ascending = gives.ascending }
