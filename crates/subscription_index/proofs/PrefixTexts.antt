-- The texts that begin a topic, one length after another.
use Rattle.std.proofs.Common.{◌≡◌, ℕ, ◌≤◌, ◌<◌, Bool, true, false, cond, List, [], ◌∷◌, length, take, Option, Some, None, Less, ◌⊎◌, inl, inr, refl, sym, ap, ◌∙◌, arith, nat_eq, length-take}
use Rattle.std.specs.List.{starts_with, AllByRecursion}
use Rattle.std.specs.List.Sorted.{IsStrictlySortedBy}
use Rattle.std.specs.Map.{keys_of, lookup}
use Rattle.std.specs.BTreeMap.{is_at}
use Rattle.std.specs.Ordering.{nat_cmp, is_eq}
use Rattle.std.specs.Str.{bytes_eq}
use Rattle.std.proofs.lemmas.Bool.Decides.{nat_tests}
use Rattle.std.proofs.lemmas.Option.{none-some}
use Rattle.wamp_ids.proofs.Lemmas.{bytes_eq-true}
use Rattle.subscription_index.specs.body.Found.{has, Adds}
use Rattle.subscription_index.specs.body.Tables.{Endings, number_by_ending, number_under}
use Rattle.subscription_index.proofs.Texts.{bytes_either, length_is, order_itself}
use Rattle.subscription_index.proofs.FoundLemmas.{adds_none}

-- tables for a length
abbrev pub Sized : Type 0
Sized = ℕ × Endings

-- the number of the text, in the tables of its length
abbrev pub number_among : List Sized → List ℕ → Option ℕ
number_among es text = number_under (lookup (is_at (nat_cmp (length text))) es) text

-- what these tables add now is what all of them were to add
abbrev pub LeadsTo : (all rest : List Sized) (topic old now : List ℕ) → Type 0
LeadsTo all rest topic old now = IsStrictlySortedBy nat_cmp (keys_of rest)
    × ((new : List ℕ) → Adds (number_among rest) (λ q. starts_with nat_eq topic q) now new → Adds (number_among all) (λ q. starts_with nat_eq topic q) old new)

-- numbers below the keys
pub absent : {T : Type 0} (l n : ℕ) (es : List (ℕ × T)) → l ≤ n → AllByRecursion (λ y. nat_cmp n y ≡ Less) (keys_of es) → lookup (is_at (nat_cmp l)) es ≡ None
absent {T} l n [] h below = refl
absent {T} l n (e ∷ es) h below = ap (λ b. cond b (Some e.1) (lookup (is_at (nat_cmp l)) es)) other ∙ absent l n es h below.1
  where
    other : is_eq (nat_cmp l e.0) ≡ false
    other = let m = below.0 in grind (arith, nat_tests)

-- what begins the topic is no longer than it, and is its beginning
begins : (topic text : List ℕ) → starts_with nat_eq topic text ≡ true → text ≡ take (length text) topic
begins topic text h = bytes_eq-true text (take (length text) topic) h

within : (topic text : List ℕ) → starts_with nat_eq topic text ≡ true → length text ≤ length topic
within topic text h =
    let e : length text ≡ length (take (length text) topic) = ap length (begins topic text h) in
    omega (arith, length-take (length text) topic)

pub begun_none : (es : List Sized) (topic old : List ℕ) → IsStrictlySortedBy nat_cmp (keys_of es) → LeadsTo es es topic old old
begun_none es topic old up = (up, λ new f. f)

pub begun_all : (all : List Sized) (topic old now : List ℕ) → LeadsTo all [] topic old now → Adds (number_among all) (λ q. starts_with nat_eq topic q) old now
begun_all all topic old now l = l.1 now (adds_none (number_among []) (λ q. starts_with nat_eq topic q) now (λ q n e h. none-some n e))

-- the other lengths are greater than the topic's
pub begun_enough : (all es : List Sized) (n : ℕ) (tables : Endings) (topic old now : List ℕ) → length topic < n → LeadsTo all ((n, tables) ∷ es) topic old now → Adds (number_among all) (λ q. starts_with nat_eq topic q) old now
unfolding IsStrictlySortedBy
begun_enough all es n tables topic old now longer l = l.1 now (adds_none (number_among ((n, tables) ∷ es)) (λ q. starts_with nat_eq topic q) now nothing)
  where
    nothing : (q : List ℕ) (m : ℕ) → number_among ((n, tables) ∷ es) q ≡ Some m → starts_with nat_eq topic q ≡ true → ⊥
    nothing q m e h = none-some m (sym (ap (λ o. number_under o q) (ap (λ b. cond b (Some tables) (lookup (is_at (nat_cmp (length q))) es)) other ∙ absent (length q) n es shorter l.0.0)) ∙ e)
      where
        shorter : length q ≤ n
        shorter = let w = within topic q h in omega arith

        other : is_eq (nat_cmp (length q) n) ≡ false
        other = let w = within topic q h in grind (arith, nat_tests)

-- one length more
pub begun_more : (all es : List Sized) (n : ℕ) (tables : Endings) (topic old now next : List ℕ) → n ≤ length topic → LeadsTo all ((n, tables) ∷ es) topic old now
    → Adds (number_by_ending tables) (λ q. bytes_eq (take n topic) q) now next → LeadsTo all es topic old next
unfolding IsStrictlySortedBy
begun_more all es n tables topic old now next inside l f = (l.0.1, λ new g. l.1 new (both new g))
  where
    found_here : (q : List ℕ) → is_eq (nat_cmp (length q) n) ≡ true → starts_with nat_eq topic q ≡ true → bytes_eq (take n topic) q ≡ true
    found_here q e h = bytes_either (take n topic) q ∙ ap (λ m. bytes_eq q (take m topic)) (length_is (length q) n e) ∙ h

    as_long : (q : List ℕ) → bytes_eq (take n topic) q ≡ true → length q ≡ n
    as_long q h =
        let e : length (take n topic) ≡ length q = ap length (bytes_eq-true (take n topic) q h) in
        omega (arith, length-take n topic)

    here : (q : List ℕ) → bytes_eq (take n topic) q ≡ true → number_among ((n, tables) ∷ es) q ≡ number_by_ending tables q
    here q h = ap (λ b. number_under (cond b (Some tables) (lookup (is_at (nat_cmp (length q))) es)) q) (ap (λ m. is_eq (nat_cmp m n)) (as_long q h) ∙ order_itself n)

    begins_here : (q : List ℕ) → bytes_eq (take n topic) q ≡ true → starts_with nat_eq topic q ≡ true
    begins_here q h = ap (λ m. bytes_eq q (take m topic)) (as_long q h) ∙ bytes_either q (take n topic) ∙ h

    later : (q : List ℕ) (m : ℕ) → number_among es q ≡ Some m → number_among ((n, tables) ∷ es) q ≡ Some m
    later q m e = by_value (is_eq (nat_cmp (length q) n)) refl
      where
        by_value : (b : Bool) → is_eq (nat_cmp (length q) n) ≡ b → number_under (cond b (Some tables) (lookup (is_at (nat_cmp (length q))) es)) q ≡ Some m
        by_value false k = e
        by_value true k =
            let none : number_among es q ≡ None = ap (λ o. number_under o q) (absent (length q) n es (let w = length_is (length q) n k in omega arith) l.0.0) in
            absurd (none-some m (sym none ∙ e))

    both : (new : List ℕ) → Adds (number_among es) (λ q. starts_with nat_eq topic q) next new → Adds (number_among ((n, tables) ∷ es)) (λ q. starts_with nat_eq topic q) now new
    both new g = record {
      kept = λ m h. g.kept m (f.kept m h);
      found = λ q m e h. by_value q m h (is_eq (nat_cmp (length q) n)) refl e;
      only = λ m h. elim (g.only m h) [
        | inl k ↦ from_first m (f.only m k)
        | inr r ↦ inr (r.0, later r.0 m r.1, r.2)
      ];
    }
      where
        by_value : (q : List ℕ) (m : ℕ) → starts_with nat_eq topic q ≡ true → (b : Bool) → is_eq (nat_cmp (length q) n) ≡ b → number_under (cond b (Some tables) (lookup (is_at (nat_cmp (length q))) es)) q ≡ Some m → has new m ≡ true
        by_value q m h true k e = g.kept m (f.found q m e (found_here q k h))
        by_value q m h false k e = g.found q m e h

        from_first : (m : ℕ) → (has now m ≡ true) ⊎ ((q : List ℕ) × (number_by_ending tables q ≡ Some m) × (bytes_eq (take n topic) q ≡ true))
            → (has now m ≡ true) ⊎ ((q : List ℕ) × (number_among ((n, tables) ∷ es) q ≡ Some m) × (starts_with nat_eq topic q ≡ true))
        from_first m (inl k) = inl k
        from_first m (inr r) = inr (r.0, here r.0 r.2 ∙ r.1, begins_here r.0 r.2)
