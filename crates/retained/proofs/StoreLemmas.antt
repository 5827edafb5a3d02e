-- Lists of publications in ascending order of topics, each topic once.
use Rattle.std.proofs.Common.{◌≡◌, ℕ, suc, Bool, true, false, cond, not, ◌||◌, ◌&&◌, List, [], ◌∷◌, length, take, refl, sym, ap, ◌∙◌}
use Rattle.std.proofs.Math.Bool.{or_assoc, or_comm}
use Rattle.std.proofs.lemmas.Bool.{true≢false, or_parts}
use Rattle.std.proofs.lemmas.Cmp.{nat_list_cmp_total}
use Rattle.std.proofs.lemmas.Map.Text.{is_eq-slice_cmp}
use Rattle.std.specs.Prelude.{⊤, nat_lt}
use Rattle.std.specs.List.{filter}
use Rattle.std.specs.Ordering.{nat_cmp, is_lt, is_eq, ordering_reverse}
use Rattle.std.specs.declared.cmp.Ordering.{Ordering}
use Rattle.std.specs.declared.cmp.Ordering.TheVariants.{Less, Equal, Greater}
use Rattle.std.specs.Cmp.Lexicographic.{slice_cmp}
use Rattle.std.specs.Str.{bytes_eq}
use Rattle.wamp_ids.proofs.Lemmas.{bytes_eq-true}
use Rattle.wamp_messages.specs.declared.item.Publication.{Publication}
use Rattle.retained.specs.Store.{of_topic, without_topic, last_of_each, is_before, put_by_topic, by_topic, retained_of, has_topic, may_be_retained, has_room, set_topic, IsBeforeAll, AreByTopic}

-- ---- the order of topics

less : (o : Ordering) → is_lt o ≡ true → o ≡ Less
less Less e = refl
less Equal e = absurd (true≢false (sym e))
less Greater e = absurd (true≢false (sym e))

abbrev compare : List ℕ → List ℕ → Ordering
compare a b = slice_cmp nat_cmp a b

flip : (a b : List ℕ) → compare a b ≡ Less → compare b a ≡ Greater
flip a b e = nat_list_cmp_total.antisymm b a ∙ ap ordering_reverse e

pub before-differs : (a b : List ℕ) → is_before a b ≡ true → bytes_eq a b ≡ false
before-differs a b e = sym (is_eq-slice_cmp a b) ∙ ap is_eq (less (compare a b) e)

pub before-differs-back : (a b : List ℕ) → is_before a b ≡ true → bytes_eq b a ≡ false
before-differs-back a b e = sym (is_eq-slice_cmp b a) ∙ ap is_eq (flip a b (less (compare a b) e))

pub before-not_back : (a b : List ℕ) → is_before a b ≡ true → is_before b a ≡ false
before-not_back a b e = ap is_lt (flip a b (less (compare a b) e))

pub before-trans : (a b c : List ℕ) → is_before a b ≡ true → is_before b c ≡ true → is_before a c ≡ true
before-trans a b c e f = ap is_lt (nat_list_cmp_total.trans a b c (less (compare a b) e) (less (compare b c) f))

-- of two different topics one is before the other
before-either : (a b : List ℕ) → is_before a b ≡ false → bytes_eq b a ≡ false → is_before b a ≡ true
before-either a b e f = by (compare b a) refl
  where
    by : (o : Ordering) → compare b a ≡ o → is_lt o ≡ true
    by Less is = refl
    by Equal is = absurd (true≢false (sym (ap is_eq is) ∙ (is_eq-slice_cmp b a ∙ f)))
    by Greater is = absurd (true≢false (sym (ap is_lt (nat_list_cmp_total.antisymm a b ∙ ap ordering_reverse is)) ∙ e))

-- ---- what is before all

pub IsBeforeAll-more : (a b : List ℕ) (ps : List Publication) → is_before a b ≡ true → IsBeforeAll b ps → IsBeforeAll a ps
IsBeforeAll-more a b [] e all = tt
IsBeforeAll-more a b (p ∷ ps) e all = (before-trans a b p.topic e all.0, IsBeforeAll-more a b ps e all.1)

IsBeforeAll-filter : (f : Publication → Bool) (a : List ℕ) (ps : List Publication) → IsBeforeAll a ps → IsBeforeAll a (filter f ps)
IsBeforeAll-filter f a [] all = tt
IsBeforeAll-filter f a (p ∷ ps) all = elim (f p) as (λ b. IsBeforeAll a (cond b (p ∷ filter f ps) (filter f ps))) [
  | true ↦ (all.0, IsBeforeAll-filter f a ps all.1)
  | false ↦ IsBeforeAll-filter f a ps all.1
]

pub AreByTopic-filter : (f : Publication → Bool) (ps : List Publication) → AreByTopic ps → AreByTopic (filter f ps)
AreByTopic-filter f [] all = tt
AreByTopic-filter f (p ∷ ps) all = elim (f p) as (λ b. AreByTopic (cond b (p ∷ filter f ps) (filter f ps))) [
  | true ↦ (IsBeforeAll-filter f p.topic ps all.0, AreByTopic-filter f ps all.1)
  | false ↦ AreByTopic-filter f ps all.1
]

IsBeforeAll-put : (a : List ℕ) (p : Publication) (qs : List Publication) → is_before a p.topic ≡ true → IsBeforeAll a qs → IsBeforeAll a (put_by_topic p qs)
IsBeforeAll-put a p [] e all = (e, tt)
IsBeforeAll-put a p (q ∷ qs) e all = elim (is_before p.topic q.topic) as (λ b. IsBeforeAll a (cond b (p ∷ q ∷ qs) (q ∷ put_by_topic p qs))) [
  | true ↦ (e, all)
  | false ↦ (all.0, IsBeforeAll-put a p qs e all.1)
]

AreByTopic-put : (p : Publication) (qs : List Publication) → AreByTopic qs → has_topic p.topic qs ≡ false → AreByTopic (put_by_topic p qs)
AreByTopic-put p [] all new = (tt, tt)
AreByTopic-put p (q ∷ qs) all new =
    let other = or_parts (bytes_eq q.topic p.topic) (has_topic p.topic qs) new in
    elim (is_before p.topic q.topic) as (λ b. is_before p.topic q.topic ≡ b → AreByTopic (cond b (p ∷ q ∷ qs) (q ∷ put_by_topic p qs))) [
      | true ↦ λ e. ((e, IsBeforeAll-more p.topic q.topic qs e all.0), all)
      | false ↦ λ e. (IsBeforeAll-put q.topic p qs (before-either p.topic q.topic e other.0) all.0, AreByTopic-put p qs all.1 other.1)
    ] refl

has-without : (t : List ℕ) (ps : List Publication) → has_topic t (without_topic t ps) ≡ false
has-without t [] = refl
has-without t (p ∷ ps) = elim (bytes_eq p.topic t) as (λ b. bytes_eq p.topic t ≡ b → has_topic t (cond (not b) (p ∷ without_topic t ps) (without_topic t ps)) ≡ false) [
  | true ↦ λ e. has-without t ps
  | false ↦ λ e. rw e (has-without t ps)
] refl

-- a publication put in the place of what its topic had
pub AreByTopic-set_topic : (p : Publication) (ps : List Publication) → AreByTopic ps → AreByTopic (set_topic p ps)
AreByTopic-set_topic p ps all = AreByTopic-put p (without_topic p.topic ps) (AreByTopic-filter (λ q. not (bytes_eq q.topic p.topic)) ps all) (has-without p.topic ps)

pub put-front : (p : Publication) (qs : List Publication) → IsBeforeAll p.topic qs → put_by_topic p qs ≡ p ∷ qs
put-front p [] all = refl
put-front p (q ∷ qs) all = rw all.0

-- ---- a filter of what is in order

filter-put : (f : Publication → Bool) (p : Publication) (qs : List Publication) → AreByTopic qs → filter f (put_by_topic p qs) ≡ cond (f p) (put_by_topic p (filter f qs)) (filter f qs)
filter-put f p [] all = refl
filter-put f p (q ∷ qs) all = elim (is_before p.topic q.topic) as (λ b. is_before p.topic q.topic ≡ b → filter f (cond b (p ∷ q ∷ qs) (q ∷ put_by_topic p qs)) ≡ cond (f p) (put_by_topic p (filter f (q ∷ qs))) (filter f (q ∷ qs))) [
  | true ↦ λ e.
      let front = put-front p (filter f (q ∷ qs)) (IsBeforeAll-filter f p.topic (q ∷ qs) (e, IsBeforeAll-more p.topic q.topic qs e all.0)) in
      ap (λ r. cond (f p) r (filter f (q ∷ qs))) (sym front)
  | false ↦ λ e. ap (λ r. cond (f q) (q ∷ r) r) (filter-put f p qs all.1) ∙ later e (f p) (f q)
] refl
  where
    later : is_before p.topic q.topic ≡ false → (b c : Bool) → cond c (q ∷ cond b (put_by_topic p (filter f qs)) (filter f qs)) (cond b (put_by_topic p (filter f qs)) (filter f qs)) ≡ cond b (put_by_topic p (cond c (q ∷ filter f qs) (filter f qs))) (cond c (q ∷ filter f qs) (filter f qs))
    later e true true = rw e
    later e true false = refl
    later e false true = refl
    later e false false = refl

-- ---- each topic once

abbrev AreApart : List Publication → Type 0
AreApart [] = ⊤
AreApart (p ∷ ps) = (has_topic p.topic ps ≡ false) × AreApart ps

has-filter : (f : Publication → Bool) (t : List ℕ) (ps : List Publication) → has_topic t ps ≡ false → has_topic t (filter f ps) ≡ false
has-filter f t [] e = refl
has-filter f t (p ∷ ps) e =
    let other = or_parts (bytes_eq p.topic t) (has_topic t ps) e in
    elim (f p) as (λ b. has_topic t (cond b (p ∷ filter f ps) (filter f ps)) ≡ false) [
      | true ↦ rw other.0 (has-filter f t ps other.1)
      | false ↦ has-filter f t ps other.1
    ]

AreApart-filter : (f : Publication → Bool) (ps : List Publication) → AreApart ps → AreApart (filter f ps)
AreApart-filter f [] all = tt
AreApart-filter f (p ∷ ps) all = elim (f p) as (λ b. AreApart (cond b (p ∷ filter f ps) (filter f ps))) [
  | true ↦ (has-filter f p.topic ps all.0, AreApart-filter f ps all.1)
  | false ↦ AreApart-filter f ps all.1
]

AreApart-last : (kept : List Publication) → AreApart (last_of_each kept)
AreApart-last [] = tt
AreApart-last (p ∷ older) = (has-without p.topic (last_of_each older), AreApart-filter (λ q. not (bytes_eq q.topic p.topic)) (last_of_each older) (AreApart-last older))

has-put : (t : List ℕ) (p : Publication) (qs : List Publication) → has_topic t (put_by_topic p qs) ≡ bytes_eq p.topic t || has_topic t qs
has-put t p [] = refl
has-put t p (q ∷ qs) = elim (is_before p.topic q.topic) as (λ b. has_topic t (cond b (p ∷ q ∷ qs) (q ∷ put_by_topic p qs)) ≡ bytes_eq p.topic t || has_topic t (q ∷ qs)) [
  | true ↦ refl
  | false ↦ ap (λ b. bytes_eq q.topic t || b) (has-put t p qs) ∙ sym (or_assoc (bytes_eq q.topic t) (bytes_eq p.topic t) (has_topic t qs))
      ∙ ap (λ b. b || has_topic t qs) (or_comm (bytes_eq q.topic t) (bytes_eq p.topic t)) ∙ or_assoc (bytes_eq p.topic t) (bytes_eq q.topic t) (has_topic t qs)
]

has-by_topic : (t : List ℕ) (ps : List Publication) → has_topic t (by_topic ps) ≡ has_topic t ps
has-by_topic t [] = refl
has-by_topic t (p ∷ ps) = has-put t p (by_topic ps) ∙ ap (λ b. bytes_eq p.topic t || b) (has-by_topic t ps)

AreByTopic-by_topic : (ps : List Publication) → AreApart ps → AreByTopic (by_topic ps)
AreByTopic-by_topic [] all = tt
AreByTopic-by_topic (p ∷ ps) all = AreByTopic-put p (by_topic ps) (AreByTopic-by_topic ps all.1) (has-by_topic p.topic ps ∙ all.0)

-- what is retained is in strictly ascending order of topics
pub ascending-retained : (kept : List Publication) → AreByTopic (retained_of kept)
ascending-retained kept = AreByTopic-by_topic (last_of_each kept) (AreApart-last kept)

filter-by_topic : (f : Publication → Bool) (ps : List Publication) → AreApart ps → filter f (by_topic ps) ≡ by_topic (filter f ps)
filter-by_topic f [] all = refl
filter-by_topic f (p ∷ ps) all =
    filter-put f p (by_topic ps) (AreByTopic-by_topic ps all.1)
    ∙ ap (λ r. cond (f p) (put_by_topic p r) r) (filter-by_topic f ps all.1)
    ∙ by (f p)
  where
    by : (b : Bool) → cond b (put_by_topic p (by_topic (filter f ps))) (by_topic (filter f ps)) ≡ by_topic (cond b (p ∷ filter f ps) (filter f ps))
    by true = refl
    by false = refl

-- one more that is to be retained
pub retained-more : (p : Publication) (older : List Publication) → retained_of (p ∷ older) ≡ set_topic p (retained_of older)
retained-more p older = ap (put_by_topic p) (sym (filter-by_topic (λ q. not (bytes_eq q.topic p.topic)) (last_of_each older) (AreApart-last older)))

-- ---- which topics there are

has-without_other : (s t : List ℕ) (ps : List Publication) → bytes_eq s t ≡ false → has_topic t (without_topic s ps) ≡ has_topic t ps
has-without_other s t [] e = refl
has-without_other s t (p ∷ ps) e = elim (bytes_eq p.topic s) as (λ b. bytes_eq p.topic s ≡ b → has_topic t (cond (not b) (p ∷ without_topic s ps) (without_topic s ps)) ≡ bytes_eq p.topic t || has_topic t ps) [
  | true ↦ λ is.
      let same : p.topic ≡ s = bytes_eq-true p.topic s is in
      let other : bytes_eq p.topic t ≡ false = ap (λ q. bytes_eq q t) same ∙ e in
      rw other (has-without_other s t ps e)
  | false ↦ λ is. ap (λ b. bytes_eq p.topic t || b) (has-without_other s t ps e)
] refl

has-last : (t : List ℕ) (kept : List Publication) → has_topic t (last_of_each kept) ≡ has_topic t kept
has-last t [] = refl
has-last t (p ∷ older) = elim (bytes_eq p.topic t) as (λ b. bytes_eq p.topic t ≡ b → b || has_topic t (without_topic p.topic (last_of_each older)) ≡ b || has_topic t older) [
  | true ↦ λ e. refl
  | false ↦ λ e. has-without_other p.topic t (last_of_each older) e ∙ has-last t older
] refl

-- a topic is retained where it was to be
pub has-retained : (topic : List ℕ) (kept : List Publication) → has_topic topic (retained_of kept) ≡ has_topic topic kept
has-retained topic kept = has-by_topic topic (last_of_each kept) ∙ has-last topic kept

length-put : (p : Publication) (qs : List Publication) → length (put_by_topic p qs) ≡ suc (length qs)
length-put p [] = refl
length-put p (q ∷ qs) = elim (is_before p.topic q.topic) as (λ b. length (cond b (p ∷ q ∷ qs) (q ∷ put_by_topic p qs)) ≡ suc (suc (length qs))) [
  | true ↦ refl
  | false ↦ ap suc (length-put p qs)
]

pub length-by_topic : (ps : List Publication) → length (by_topic ps) ≡ length ps
length-by_topic [] = refl
length-by_topic (p ∷ ps) = length-put p (by_topic ps) ∙ ap suc (length-by_topic ps)

-- the store has room exactly where one more may be retained
pub has_room-retained : (kept : List Publication) (topic : List ℕ) → has_room (retained_of kept) topic ≡ may_be_retained kept topic
has_room-retained kept topic = λ i. has-retained topic kept i || nat_lt (length-by_topic (last_of_each kept) i) 1000

-- ---- the last of each topic alone

of-without : (t : List ℕ) (ps : List Publication) → of_topic t (without_topic t ps) ≡ []
of-without t [] = refl
of-without t (p ∷ ps) = elim (bytes_eq p.topic t) as (λ b. bytes_eq p.topic t ≡ b → of_topic t (cond (not b) (p ∷ without_topic t ps) (without_topic t ps)) ≡ []) [
  | true ↦ λ e. of-without t ps
  | false ↦ λ e. rw e (of-without t ps)
] refl

of-without_other : (s t : List ℕ) (ps : List Publication) → bytes_eq s t ≡ false → of_topic t (without_topic s ps) ≡ of_topic t ps
of-without_other s t [] e = refl
of-without_other s t (p ∷ ps) e = elim (bytes_eq p.topic s) as (λ b. bytes_eq p.topic s ≡ b → of_topic t (cond (not b) (p ∷ without_topic s ps) (without_topic s ps)) ≡ cond (bytes_eq p.topic t) (p ∷ of_topic t ps) (of_topic t ps)) [
  | true ↦ λ is.
      let same : p.topic ≡ s = bytes_eq-true p.topic s is in
      let other : bytes_eq p.topic t ≡ false = ap (λ q. bytes_eq q t) same ∙ e in
      rw other (of-without_other s t ps e)
  | false ↦ λ is. ap (λ r. cond (bytes_eq p.topic t) (p ∷ r) r) (of-without_other s t ps e)
] refl

of-last : (t : List ℕ) (kept : List Publication) → of_topic t (last_of_each kept) ≡ take 1 (of_topic t kept)
of-last t [] = refl
of-last t (p ∷ older) = elim (bytes_eq p.topic t) as (λ b. bytes_eq p.topic t ≡ b → cond b (p ∷ of_topic t (without_topic p.topic (last_of_each older))) (of_topic t (without_topic p.topic (last_of_each older))) ≡ take 1 (cond b (p ∷ of_topic t older) (of_topic t older))) [
  | true ↦ λ e.
      let same : p.topic ≡ t = bytes_eq-true p.topic t e in
      ap (λ r. p ∷ r) (ap (λ s. of_topic t (without_topic s (last_of_each older))) same ∙ of-without t (last_of_each older))
  | false ↦ λ e. of-without_other p.topic t (last_of_each older) e ∙ of-last t older
] refl

by_topic-one : (ps : List Publication) → by_topic (take 1 ps) ≡ take 1 ps
by_topic-one [] = refl
by_topic-one (p ∷ ps) = refl

pub last_alone : (kept : List Publication) (topic : List ℕ) → of_topic topic (retained_of kept) ≡ take 1 (of_topic topic kept)
last_alone kept topic =
    filter-by_topic (λ p. bytes_eq p.topic topic) (last_of_each kept) (AreApart-last kept)
    ∙ ap by_topic (of-last topic kept)
    ∙ by_topic-one (of_topic topic kept)

-- ---- two tests

-- one test after another is both at once
pub filter_twice : (p q : Publication → Bool) (ps : List Publication) → filter (λ x. p x && q x) ps ≡ filter q (filter p ps)
filter_twice p q [] = refl
filter_twice p q (x ∷ xs) = by_value (filter_twice p q xs) (p x)
  where
    by_value : filter (λ y. p y && q y) xs ≡ filter q (filter p xs) → (b : Bool)
        → cond (b && q x) (x ∷ filter (λ y. p y && q y) xs) (filter (λ y. p y && q y) xs) ≡ filter q (cond b (x ∷ filter p xs) (filter p xs))
    by_value rest true = ap (λ ys. cond (q x) (x ∷ ys) ys) rest
    by_value rest false = rest
