-- A publication put in its place.
use Rattle.std.proofs.Common.{◌≡◌, ℕ, zero, suc, ◌<◌, ◌≤◌, true, false, ◌||◌, List, [], ◌∷◌, length, get_or, take, drop, set, refl, sym, ap, ◌∙◌, subst, arith, add-one, ltb, Ok, Err, is_ok}
use Rattle.std.specs.Prelude.{MatchResult}
use Rattle.std.specs.declared.result.Result.{Result}
use Rattle.std.proofs.lemmas.Bool.{le-ltb, lt-ltb, or_left, or_right}
use Rattle.std.proofs.lemmas.List.Sorted.{searchable_from_sorted}
use Rattle.std.proofs.lemmas.Map.Text.{is_eq-slice_cmp}
use Rattle.std.specs.Cmp.Lexicographic.{slice_cmp}
use Rattle.std.specs.List.{filter, insert}
use Rattle.std.specs.List.Sorted.{IsSearchInRange, IsBinarySearchResult}
use Rattle.std.specs.Ordering.{nat_cmp, is_eq, is_lt, ordering_reverse}
use Rattle.std.proofs.lemmas.Cmp.{nat_list_cmp_total}
use Rattle.std.specs.Str.{bytes_eq}
use Rattle.std.proofs.Math.Bool.{or-false}
use Rattle.wamp_ids.proofs.Lemmas.{bytes_eq-true, bytes_eq-refl}
use Rattle.wamp_ids.specs.Pattern.{PatternText, matches}
use Rattle.wamp_ids.specs.declared.pattern.Policy.{Policy}
use Rattle.wamp_ids.specs.declared.pattern.Policy.TheVariants.{Exact, Prefix, Wildcard}
use Rattle.wamp_messages.specs.declared.item.Publication.{Publication}
use Rattle.retained.specs.Store.{without_topic, is_before, put_by_topic, has_topic, has_room, set_topic, IsBeforeAll, AreByTopic}
use Rattle.retained.specs.body.Places.{FirstAreBefore, IsAt, GoesAt}
use Rattle.retained.proofs.StoreLemmas.{before-differs, before-differs-back, before-not_back, IsBeforeAll-more, put-front}

-- a topic before all is that of none
without-all : (t : List ℕ) (ps : List Publication) → IsBeforeAll t ps → without_topic t ps ≡ ps
without-all t [] all = refl
without-all t (p ∷ ps) all = rw (before-differs-back t p.topic all.0) (ap (λ r. p ∷ r) (without-all t ps all.1))

has-none : (t : List ℕ) (ps : List Publication) → IsBeforeAll t ps → has_topic t ps ≡ false
has-none t [] all = refl
has-none t (p ∷ ps) all = rw (before-differs-back t p.topic all.0) (has-none t ps all.1)

at-before : (t : List ℕ) (ps : List Publication) (k : ℕ) (d : Publication) → IsBeforeAll t ps → k < length ps → is_before t (get_or ps k d).topic ≡ true
at-before t [] k d all small = absurd (omega arith)
at-before t (p ∷ ps) zero d all small = all.0
at-before t (p ∷ ps) (suc k) d all small = at-before t ps k d all.1 (omega arith)

-- past one that is before
past : (x p : Publication) (xs : List Publication) → is_before x.topic p.topic ≡ true → set_topic p (x ∷ xs) ≡ x ∷ set_topic p xs
past x p xs e = rw (before-differs x.topic p.topic e) (rw (before-not_back x.topic p.topic e))

set-place : (ps : List Publication) (i : ℕ) (p : Publication) → AreByTopic ps → i < length ps → ((d : Publication) → (get_or ps i d).topic ≡ p.topic) → set ps i p ≡ set_topic p ps
set-place [] i p all small is = absurd (omega arith)
set-place (x ∷ xs) zero p all small is =
    let same : x.topic ≡ p.topic = is x in
    let before : IsBeforeAll p.topic xs = subst (λ t. IsBeforeAll t xs) same all.0 in
    let equal : bytes_eq x.topic p.topic ≡ true = ap (λ t. bytes_eq t p.topic) same ∙ bytes_eq-refl p.topic in
    rw equal (rw (without-all p.topic xs before) (sym (put-front p xs before)))
set-place (x ∷ xs) (suc i) p all small is =
    let e : is_before x.topic p.topic ≡ true = subst (λ t. is_before x.topic t ≡ true) (is x) (at-before x.topic xs i x all.0 (omega arith)) in
    ap (λ r. x ∷ r) (set-place xs i p all.1 (omega arith) is) ∙ sym (past x p xs e)

pub set-at : (ps : List Publication) (i : ℕ) (p : Publication) → AreByTopic ps → IsAt ps i p.topic → set ps i p ≡ set_topic p ps
set-at ps i p all at = set-place ps i p all at.within at.is

has-place : (ps : List Publication) (i : ℕ) (t : List ℕ) → i < length ps → ((d : Publication) → (get_or ps i d).topic ≡ t) → has_topic t ps ≡ true
has-place [] i t small is = absurd (omega arith)
has-place (x ∷ xs) zero t small is = rw (is x) (rw (bytes_eq-refl t))
has-place (x ∷ xs) (suc i) t small is = or_right (bytes_eq x.topic t) (has_topic t xs) (has-place xs i t (omega arith) is)

pub has-at : (ps : List Publication) (i : ℕ) (t : List ℕ) → IsAt ps i t → has_topic t ps ≡ true
has-at ps i t at = has-place ps i t at.within at.is

insert-place : (ps : List Publication) (i : ℕ) (p : Publication) → AreByTopic ps → FirstAreBefore ps i p.topic → i ≤ length ps
    → ((d : Publication) → i < length ps → is_before p.topic (get_or ps i d).topic ≡ true) → insert ps i p ≡ set_topic p ps
insert-place [] zero p all before within after = refl
insert-place [] (suc i) p all before within after = absurd (omega arith)
insert-place (x ∷ xs) zero p all before within after =
    let e : is_before p.topic x.topic ≡ true = after x (omega arith) in
    let every : IsBeforeAll p.topic (x ∷ xs) = (e, IsBeforeAll-more p.topic x.topic xs e all.0) in
    sym (ap (put_by_topic p) (without-all p.topic (x ∷ xs) every) ∙ put-front p (x ∷ xs) every)
insert-place (x ∷ xs) (suc i) p all before within after =
    let e : is_before x.topic p.topic ≡ true = before zero x (omega arith) in
    ap (λ r. x ∷ r) (insert-place xs i p all.1 (λ k d small. before (suc k) d (omega arith)) (omega arith) (λ d small. after d (omega arith)))
    ∙ sym (past x p xs e)

pub insert-at : (ps : List Publication) (i : ℕ) (p : Publication) → AreByTopic ps → GoesAt ps i p.topic → insert ps i p ≡ set_topic p ps
insert-at ps i p all goes = insert-place ps i p all goes.before goes.within goes.after

none-place : (ps : List Publication) (i : ℕ) (t : List ℕ) → AreByTopic ps → FirstAreBefore ps i t → i ≤ length ps
    → ((d : Publication) → i < length ps → is_before t (get_or ps i d).topic ≡ true) → has_topic t ps ≡ false
none-place [] i t all before within after = refl
none-place (x ∷ xs) zero t all before within after =
    let e : is_before t x.topic ≡ true = after x (omega arith) in
    has-none t (x ∷ xs) (e, IsBeforeAll-more t x.topic xs e all.0)
none-place (x ∷ xs) (suc i) t all before within after =
    rw (before-differs x.topic t (before zero x (omega arith)))
    (none-place xs i t all.1 (λ k d small. before (suc k) d (omega arith)) (omega arith) (λ d small. after d (omega arith)))

pub none-at : (ps : List Publication) (i : ℕ) (t : List ℕ) → AreByTopic ps → GoesAt ps i t → has_topic t ps ≡ false
none-at ps i t all goes = none-place ps i t all goes.before goes.within goes.after

-- ---- a search by halves

-- no topic is before the one that stands before it
in-order : (ps : List Publication) (k : ℕ) (d : Publication) → AreByTopic ps → suc k < length ps → is_before (get_or ps (suc k) d).topic (get_or ps k d).topic ≡ false
in-order [] k d all small = absurd (omega arith)
in-order (p ∷ ps) zero d all small = before-not_back p.topic (get_or ps 0 d).topic (at-before p.topic ps 0 d all.0 (omega arith))
in-order (p ∷ ps) (suc k) d all small = in-order ps k d all.1 (omega arith)

pub found-place : (ps : List Publication) (t : List ℕ) (r : Result ℕ ℕ) → AreByTopic ps → IsSearchInRange r (length ps) → IsBinarySearchResult (λ p. slice_cmp nat_cmp p.topic t) ps r
    → MatchResult r (λ i. IsAt ps i t) (λ i. GoesAt ps i t)
found-place ps t (Ok i) all range equal = record {
  within = range;
  is = λ d. bytes_eq-true (get_or ps i d).topic t (sym (is_eq-slice_cmp (get_or ps i d).topic t) ∙ ap is_eq (equal d));
}
found-place ps t (Err i) all range parted =
    let sides = parted (searchable_from_sorted nat_list_cmp_total (λ p. p.topic) ps t (λ k d low small. rw add-one (in-order ps k d all (omega arith)))) in
    record {
      before = λ k d less. ap is_lt (sides.0 k d (omega arith) less);
      within = range;
      after = λ d small. ap is_lt (nat_list_cmp_total.antisymm t (get_or ps i d).topic ∙ ap ordering_reverse (sides.1 i d (omega arith) small));
    }

-- ---- room

pub room-full : (ps : List Publication) (t : List ℕ) → 1000 ≤ length ps → has_room ps t ≡ has_topic t ps
room-full ps t full = ap (λ b. has_topic t ps || b) (le-ltb (length ps) 1000 full) ∙ or-false (has_topic t ps)

pub room-left : (ps : List Publication) (t : List ℕ) → length ps < 1000 → has_room ps t ≡ true
room-left ps t left = or_right (has_topic t ps) (ltb (length ps) 1000) (lt-ltb (length ps) 1000 left)

pub room-has : (ps : List Publication) (t : List ℕ) → has_topic t ps ≡ true → has_room ps t ≡ true
room-has ps t has = or_left (has_topic t ps) (ltb (length ps) 1000) has

-- what the place says of the topic
pub is_found : (ps : List Publication) (t : List ℕ) (place : Result ℕ ℕ) → AreByTopic ps → MatchResult place (λ i. IsAt ps i t) (λ i. GoesAt ps i t) → is_ok place ≡ has_topic t ps
is_found ps t (Ok i) all at = sym (has-at ps i t at)
is_found ps t (Err i) all goes = sym (none-at ps i t all goes)

-- ---- the only publication that an exact pattern can match

abbrev pub named : List ℕ → List Publication → List Publication
named t ps = filter (λ p. bytes_eq t p.topic) ps

none_named-before : (t : List ℕ) (ps : List Publication) → IsBeforeAll t ps → named t ps ≡ []
none_named-before t [] all = refl
none_named-before t (p ∷ ps) all = rw (before-differs t p.topic all.0) (none_named-before t ps all.1)

named-place : (ps : List Publication) (i : ℕ) (t : List ℕ) → AreByTopic ps → i < length ps → ((d : Publication) → (get_or ps i d).topic ≡ t)
    → named t (take 1 (drop i ps)) ≡ named t ps
named-place [] i t all small is = absurd (omega arith)
named-place (x ∷ xs) zero t all small is =
    let before : IsBeforeAll t xs = subst (λ s. IsBeforeAll s xs) (is x) all.0 in
    rw (none_named-before t xs before) refl
named-place (x ∷ xs) (suc i) t all small is =
    let e : is_before x.topic t ≡ true = subst (λ s. is_before x.topic s ≡ true) (is x) (at-before x.topic xs i x all.0 (omega arith)) in
    rw (before-differs-back x.topic t e) (named-place xs i t all.1 (omega arith) is)

none_named-place : (ps : List Publication) (i : ℕ) (t : List ℕ) → AreByTopic ps → FirstAreBefore ps i t → i ≤ length ps
    → ((d : Publication) → i < length ps → is_before t (get_or ps i d).topic ≡ true) → named t ps ≡ []
none_named-place [] i t all before within after = refl
none_named-place (x ∷ xs) zero t all before within after =
    let e : is_before t x.topic ≡ true = after x (omega arith) in
    none_named-before t (x ∷ xs) (e, IsBeforeAll-more t x.topic xs e all.0)
none_named-place (x ∷ xs) (suc i) t all before within after =
    rw (before-differs-back x.topic t (before zero x (omega arith)))
    (none_named-place xs i t all.1 (λ k d small. before (suc k) d (omega arith)) (omega arith) (λ d small. after d (omega arith)))

exact_at : (policy : Policy) (text : List ℕ) → policy ≡ Exact → (ps : List Publication) (i : ℕ) → AreByTopic ps → IsAt ps i text
    → filter (λ q. matches (record { policy = policy; text = text }) q.topic) (take 1 (drop i ps)) ≡ filter (λ q. matches (record { policy = policy; text = text }) q.topic) ps
exact_at Exact text is ps i all at = named-place ps i text all at.within at.is
exact_at Prefix text is ps i all at = cc
exact_at Wildcard text is ps i all at = cc

exact_none : (policy : Policy) (text : List ℕ) → policy ≡ Exact → (ps : List Publication) (i : ℕ) → AreByTopic ps → GoesAt ps i text
    → [] ≡ filter (λ q. matches (record { policy = policy; text = text }) q.topic) ps
exact_none Exact text is ps i all goes = sym (none_named-place ps i text all goes.before goes.within goes.after)
exact_none Prefix text is ps i all goes = cc
exact_none Wildcard text is ps i all goes = cc

-- what an exact pattern matches is at its text's place
pub exact-at : (p : PatternText) (ps : List Publication) (i : ℕ) → p.policy ≡ Exact → AreByTopic ps → IsAt ps i p.text
    → filter (λ q. matches p q.topic) (take 1 (drop i ps)) ≡ filter (λ q. matches p q.topic) ps
exact-at p ps i is all at = exact_at p.policy p.text is ps i all at

pub exact-none : (p : PatternText) (ps : List Publication) (i : ℕ) → p.policy ≡ Exact → AreByTopic ps → GoesAt ps i p.text
    → [] ≡ filter (λ q. matches p q.topic) ps
exact-none p ps i is all goes = exact_none p.policy p.text is ps i all goes
