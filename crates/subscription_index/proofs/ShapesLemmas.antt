-- Masks and shapes of wildcards, and the one wildcard of a shape that may fit a topic.
use Rattle.std.proofs.Common.{◌≡◌, ℕ, zero, suc, ◌+◌, ◌*◌, ◌/◌, ◌%◌, ◌<◌, ◌≤◌, Bool, true, false, cond, eqb, nat_lt, not, ◌&&◌, ◌||◌, List, [], ◌∷◌, ◌++◌, map, drop, length, get_or, Option, Some, None, ◌⊎◌, inl, inr, refl, sym, ap, ◌∙◌, subst, arith, append_assoc, length-append, add-one, mul-add, mul_assoc}
use Rattle.std.specs.List.{join_with_byte}
use Rattle.std.specs.List.Sorted.{IsStrictlySortedBy}
use Rattle.std.specs.Map.{keys_of, lookup}
use Rattle.std.specs.BTreeMap.{is_at}
use Rattle.std.specs.Ordering.{nat_cmp, is_eq}
use Rattle.std.specs.Str.{bytes_eq}
use Rattle.std.proofs.lemmas.List.{append-nil}
use Rattle.std.proofs.lemmas.Bool.Decides.{nat_tests}
use Rattle.std.proofs.lemmas.Bool.{false≢true, and_parts, or_right, eqb-true, eq-eqb}
use Rattle.std.proofs.lemmas.Option.{none-some, same_Some}
use Rattle.wamp_ids.proofs.Lemmas.{bytes_eq-true, bytes_eq-refl}
use Rattle.wamp_ids.specs.Uri.{components, is_empty}
use Rattle.wamp_ids.specs.Pattern.{fits}
use Rattle.subscription_index.specs.body.Found.{has, Adds}
use Rattle.subscription_index.specs.body.Tables.{Table, number_at, number_in}
use Rattle.subscription_index.specs.body.Shapes.{AreDotless, digit_of, dotted, is_deep, mask_of, named, shape_of, size_of}
use Rattle.subscription_index.proofs.Texts.{length_is, order_itself}
use Rattle.subscription_index.proofs.PrefixTexts.{absent}
use Rattle.subscription_index.proofs.FoundLemmas.{adds_none, adds_append, has_first, one_more}
use Rattle.subscription_index.proofs.PiecesLemmas.{drop-at}
use Rattle.subscription_index.proofs.Components.{Joined, component_count, as_long, fitting_text, some_component}

digit_small : (p : List ℕ) → digit_of p ≤ 1
digit_small [] = omega arith
digit_small (c ∷ cs) = omega arith

lowest : (m : ℕ) (p : List ℕ) → (2 * m + digit_of p) % 2 ≡ digit_of p
lowest m p = let d = digit_small p in omega (arith, d)

higher : (m : ℕ) (p : List ℕ) → (2 * m + digit_of p) / 2 ≡ m
higher m p = let d = digit_small p in omega (arith, d)

-- what fits is named by its mask
pub named_fits : (ks ps : List (List ℕ)) → fits ks ps ≡ true → named (mask_of ks) ps ≡ ks
named_fits [] [] h = refl
named_fits [] (p ∷ ps) h = absurd (false≢true h)
named_fits (k ∷ ks) [] h = absurd (false≢true h)
named_fits (k ∷ ks) (p ∷ ps) h =
    let f = and_parts (is_empty k || bytes_eq k p) (fits ks ps) h in
    ap (λ d. cond (eqb d 1) p [] ∷ named ((2 * mask_of ks + digit_of k) / 2) ps) (lowest (mask_of ks) k)
    ∙ (ap (λ m. cond (eqb (digit_of k) 1) p [] ∷ named m ps) (higher (mask_of ks) k)
    ∙ (ap (λ x. x ∷ named (mask_of ks) ps) (first k f.0) ∙ ap (λ xs. k ∷ xs) (named_fits ks ps f.1)))
  where
    first : (x : List ℕ) → is_empty x || bytes_eq x p ≡ true → cond (eqb (digit_of x) 1) p [] ≡ x
    first [] e = refl
    first (c ∷ cs) e = sym (bytes_eq-true (c ∷ cs) p e)

-- what is named fits
pub fits_named : (m : ℕ) (ps : List (List ℕ)) → fits (named m ps) ps ≡ true
fits_named m [] = refl
fits_named m (p ∷ ps) = ap (λ b. b && fits (named (m / 2) ps) ps) (by_digit (eqb (m % 2) 1)) ∙ fits_named (m / 2) ps
  where
    by_digit : (b : Bool) → is_empty (cond b p []) || bytes_eq (cond b p []) p ≡ true
    by_digit true = or_right (is_empty p) (bytes_eq p p) (bytes_eq-refl p)
    by_digit false = refl

-- the masks of what fits a topic are of as many digits as the topic's
pub mask_most : (ks ps : List (List ℕ)) → fits ks ps ≡ true → mask_of ks ≤ mask_of ps
mask_most [] [] h = omega arith
mask_most [] (p ∷ ps) h = absurd (false≢true h)
mask_most (k ∷ ks) [] h = absurd (false≢true h)
mask_most (k ∷ ks) (p ∷ ps) h =
    let f = and_parts (is_empty k || bytes_eq k p) (fits ks ps) h in
    let rest = mask_most ks ps f.1 in
    let d : digit_of k ≤ digit_of p = first k p f.0 in
    omega (arith, rest, d)
  where
    first : (x y : List ℕ) → is_empty x || bytes_eq x y ≡ true → digit_of x ≤ digit_of y
    first [] y e = omega arith
    first (c ∷ cs) [] e = absurd (false≢true e)
    first (c ∷ cs) (d ∷ ds) e = omega arith

pub mask_least : (ks ps : List (List ℕ)) → fits ks ps ≡ true → mask_of ps < 2 * mask_of ks
mask_least [] [] h = omega arith
mask_least [] (p ∷ ps) h = absurd (false≢true h)
mask_least (k ∷ ks) [] h = absurd (false≢true h)
mask_least (k ∷ ks) (p ∷ ps) h =
    let rest = mask_least ks ps (and_parts (is_empty k || bytes_eq k p) (fits ks ps) h).1 in
    let d = digit_small p in
    omega (arith, rest, d)

-- components behind a dot each are their text behind a dot
dotted_text : (k : List ℕ) (ks : List (List ℕ)) → dotted (k ∷ ks) ≡ 46 ∷ join_with_byte 46 (k ∷ ks)
dotted_text k [] = ap (λ t. 46 ∷ t) (append-nil k)
dotted_text k (l ∷ ls) = ap (λ t. 46 ∷ (k ++ t)) (dotted_text l ls)

some_dotted : (ks : List (List ℕ)) → (ks ≡ [] → ⊥) → dotted ks ≡ 46 ∷ join_with_byte 46 ks
some_dotted [] some = absurd (some refl)
some_dotted (k ∷ ks) some = dotted_text k ks

pub dotted_components : Joined → (q : List ℕ) → dotted (components q) ≡ 46 ∷ q
dotted_components joined q = some_dotted (components q) (some_component q) ∙ ap (λ t. 46 ∷ t) (joined q)

size_small : (n : ℕ) → size_of n ≤ 3
size_small n = grind (arith, nat_tests)

-- the parts of a shape
pub mask_in : (q : List ℕ) (s : ℕ) → shape_of q ≡ s → mask_of (components q) ≡ s / 4
unfolding shape_of
mask_in q s e = let z = size_small (length q) in omega (arith, e, z)

pub size_in : (q : List ℕ) (s : ℕ) → shape_of q ≡ s → size_of (length q) ≡ s % 4
unfolding shape_of
size_in q s e = let z = size_small (length q) in omega (arith, e, z)

-- the text that a wildcard of the shape has where it fits
pub text_is : Joined → (q : List ℕ) (s : ℕ) (ps : List (List ℕ)) → shape_of q ≡ s → fits (components q) ps ≡ true → dotted (named (s / 4) ps) ≡ 46 ∷ q
text_is joined q s ps e h =
    ap (λ m. dotted (named m ps)) (sym (mask_in q s e)) ∙ (ap dotted (named_fits (components q) ps h) ∙ dotted_components joined q)

-- wildcards of a shape that fit
abbrev pub is_sought : ℕ → List (List ℕ) → List ℕ → Bool
is_sought s ps q = eqb (shape_of q) s && fits (components q) ps

pub sought_parts : (s : ℕ) (ps : List (List ℕ)) (q : List ℕ) → is_sought s ps q ≡ true → (shape_of q ≡ s) × (fits (components q) ps ≡ true)
sought_parts s ps q h = let k = and_parts (eqb (shape_of q) s) (fits (components q) ps) h in (eqb-true (shape_of q) s k.0, k.1)

-- a shape of other masks
pub adds_other_mask : (table : Table) (s t : ℕ) (ps : List (List ℕ)) (a : List ℕ) → t ≡ mask_of ps → (s / 4 ≤ t → s / 4 ≤ t / 2) → Adds (number_at table) (is_sought s ps) a a
adds_other_mask table s t ps a is other = adds_none (number_at table) (is_sought s ps) a none
  where
    none : (q : List ℕ) (n : ℕ) → number_at table q ≡ Some n → is_sought s ps q ≡ true → ⊥
    none q n e h =
        let k = sought_parts s ps q h in
        let m : mask_of (components q) ≡ s / 4 = mask_in q s k.0 in
        let most = mask_most (components q) ps k.1 in
        let least = mask_least (components q) ps k.1 in
        let below : s / 4 ≤ t / 2 = other (omega (arith, m, most, is)) in
        omega (arith, m, least, is, below)

-- a topic with components that are longer than a wildcard of the shape
pub adds_too_long : Joined → (table : Table) (s most : ℕ) (ps : List (List ℕ)) (a : List ℕ) → ((n : ℕ) → size_of n ≡ s % 4 → n ≤ most) → most + 1 < length (dotted (named (s / 4) ps)) → Adds (number_at table) (is_sought s ps) a a
adds_too_long joined table s most ps a longest long = adds_none (number_at table) (is_sought s ps) a none
  where
    none : (q : List ℕ) (n : ℕ) → number_at table q ≡ Some n → is_sought s ps q ≡ true → ⊥
    none q n e h =
        let k = sought_parts s ps q h in
        let as_many : length (dotted (named (s / 4) ps)) ≡ suc (length q) = ap length (text_is joined q s ps k.0 k.1) in
        let within : length q ≤ most = longest (length q) (size_in q s k.0) in
        omega (arith, as_many, within, long)

same_text : Joined → (q text : List ℕ) (dot s : ℕ) (ps : List (List ℕ)) → dotted (named (s / 4) ps) ≡ dot ∷ text → is_sought s ps q ≡ true → q ≡ text
same_text joined q text dot s ps is h =
    let k = sought_parts s ps q h in
    ap (λ t. drop 1 t) (sym (text_is joined q s ps k.0 k.1) ∙ is)

-- the text has no number
pub adds_unnumbered : Joined → (table : Table) (text : List ℕ) (dot s : ℕ) (ps : List (List ℕ)) (a : List ℕ) → dotted (named (s / 4) ps) ≡ dot ∷ text → number_at table text ≡ None → Adds (number_at table) (is_sought s ps) a a
adds_unnumbered joined table text dot s ps a is none_at = adds_none (number_at table) (is_sought s ps) a none
  where
    none : (q : List ℕ) (n : ℕ) → number_at table q ≡ Some n → is_sought s ps q ≡ true → ⊥
    none q n e h = none-some n (sym none_at ∙ (ap (number_at table) (sym (same_text joined q text dot s ps is h)) ∙ e))

-- what was found under the text has another shape, or is deep
pub adds_other_shape : Joined → (table : Table) (text : List ℕ) (dot s : ℕ) (ps : List (List ℕ)) (a : List ℕ) → length ps ≤ 8 → dotted (named (s / 4) ps) ≡ dot ∷ text → not (is_deep text) && eqb (shape_of text) s ≡ false
    → Adds (number_at table) (is_sought s ps) a a
adds_other_shape joined table text dot s ps a few is other = adds_none (number_at table) (is_sought s ps) a none
  where
    none : (q : List ℕ) (n : ℕ) → number_at table q ≡ Some n → is_sought s ps q ≡ true → ⊥
    none q n e h =
        let same : q ≡ text = same_text joined q text dot s ps is h in
        let k = sought_parts s ps q h in
        let long : length (components text) ≡ length ps = ap (λ x. length (components x)) (sym same) ∙ as_long (components q) ps k.1 in
        let shallow : is_deep text ≡ false = grind (arith, nat_tests, long, few) in
        let here : eqb (shape_of text) s ≡ true = ap (λ x. eqb (shape_of x) s) (sym same) ∙ eq-eqb (shape_of q) s k.0 in
        false≢true (sym other ∙ (ap (λ b. not b && eqb (shape_of text) s) shallow ∙ here))

-- the text has a number, and the shape
pub adds_sought : Joined → (table : Table) (text : List ℕ) (dot s n : ℕ) (ps : List (List ℕ)) (a b : List ℕ) → AreDotless ps → dotted (named (s / 4) ps) ≡ dot ∷ text → number_at table text ≡ Some n → not (is_deep text) && eqb (shape_of text) s ≡ true
    → b ≡ a ++ n ∷ [] → Adds (number_at table) (is_sought s ps) a b
adds_sought joined table text dot s n ps a b dotless is number shape new =
    adds_append (number_at table) (is_sought s ps) a (n ∷ []) b new
    (λ q m e h. subst (λ j. has (n ∷ []) j ≡ true) (same_Some n m (sym number ∙ (ap (number_at table) (sym (same_text joined q text dot s ps is h)) ∙ e))) (has_first n []))
    (λ m k. (text, number ∙ ap (λ j. Some j) (one_more n m k), sought))
  where
    ks : List (List ℕ)
    ks = named (s / 4) ps

    fit : fits ks ps ≡ true
    fit = fits_named (s / 4) ps

    some : ks ≡ [] → ⊥
    some e =
        let f : [] ≡ dot ∷ text = ap dotted (sym e) ∙ is in
        cc

    text_of : text ≡ join_with_byte 46 ks
    text_of = ap (λ t. drop 1 t) (sym is ∙ some_dotted ks some)

    sought : is_sought s ps text ≡ true
    sought =
        let k = and_parts (not (is_deep text)) (eqb (shape_of text) s) shape in
        let parts : components (join_with_byte 46 ks) ≡ ks = fitting_text ks ps (λ e. some (ap (λ qs. named (s / 4) qs) e)) dotless fit in
        let f : fits (components text) ps ≡ true = ap (λ t. fits (components t) ps) text_of ∙ (ap (λ qs. fits qs ps) parts ∙ fit) in
        ap (λ b. b && fits (components text) ps) k.1 ∙ f

-- a component more
pub fill_more : {X : Type 0} (f : X → List ℕ) (ps : List X) (i m : ℕ) (d : X) (whole text more : List ℕ) → whole ≡ text ++ dotted (named m (drop i (map f ps))) → i < length ps → more ≡ cond (eqb (m % 2) 1) (f (get_or ps i d)) []
    → whole ≡ ((text ++ 46 ∷ []) ++ more) ++ dotted (named (m / 2) (drop (i + 1) (map f ps)))
fill_more f ps i m d whole text more is small piece =
    is
    ∙ (ap (λ qs. text ++ dotted (named m qs)) (drop-at f ps i d small)
    ∙ (ap (λ k. text ++ 46 ∷ (cond (eqb (m % 2) 1) (f (get_or ps i d)) [] ++ dotted (named (m / 2) (drop k (map f ps))))) (sym (add-one i))
    ∙ (ap (λ x. text ++ 46 ∷ (x ++ dotted (named (m / 2) (drop (i + 1) (map f ps))))) (sym piece)
    ∙ (sym (append_assoc text (46 ∷ []) (more ++ dotted (named (m / 2) (drop (i + 1) (map f ps)))))
    ∙ sym (append_assoc (text ++ 46 ∷ []) more (dotted (named (m / 2) (drop (i + 1) (map f ps)))))))))

-- tables by shape
abbrev pub Shaped : Type 0
Shaped = ℕ × Table

abbrev pub number_among : List Shaped → List ℕ → Option ℕ
number_among es text = number_in (lookup (is_at (nat_cmp (shape_of text))) es) text

-- what these tables add now is what all of them were to add
abbrev pub ShapesLeadTo : (all rest : List Shaped) (ps : List (List ℕ)) (old now : List ℕ) → Type 0
ShapesLeadTo all rest ps old now = IsStrictlySortedBy nat_cmp (keys_of rest)
    × ((new : List ℕ) → Adds (number_among rest) (λ q. fits (components q) ps) now new → Adds (number_among all) (λ q. fits (components q) ps) old new)

pub shapes_none : (es : List Shaped) (ps : List (List ℕ)) (old : List ℕ) → IsStrictlySortedBy nat_cmp (keys_of es) → ShapesLeadTo es es ps old old
shapes_none es ps old up = (up, λ new f. f)

pub shapes_all : (all : List Shaped) (ps : List (List ℕ)) (old now : List ℕ) → ShapesLeadTo all [] ps old now → Adds (number_among all) (λ q. fits (components q) ps) old now
shapes_all all ps old now l = l.1 now (adds_none (number_among []) (λ q. fits (components q) ps) now (λ q n e h. none-some n e))

-- one shape more
pub shapes_more : (all es : List Shaped) (s : ℕ) (table : Table) (ps : List (List ℕ)) (old now next : List ℕ) → ShapesLeadTo all ((s, table) ∷ es) ps old now → Adds (number_at table) (is_sought s ps) now next → ShapesLeadTo all es ps old next
unfolding IsStrictlySortedBy
shapes_more all es s table ps old now next l f = (l.0.1, λ new g. l.1 new (both new g))
  where
    here : (q : List ℕ) → shape_of q ≡ s → number_among ((s, table) ∷ es) q ≡ number_at table q
    here q e = ap (λ b. number_in (cond b (Some table) (lookup (is_at (nat_cmp (shape_of q))) es)) q) (ap (λ m. is_eq (nat_cmp m s)) e ∙ order_itself s)

    later : (q : List ℕ) (m : ℕ) → number_among es q ≡ Some m → number_among ((s, table) ∷ es) q ≡ Some m
    later q m e = by_value (is_eq (nat_cmp (shape_of q) s)) refl
      where
        by_value : (b : Bool) → is_eq (nat_cmp (shape_of q) s) ≡ b → number_in (cond b (Some table) (lookup (is_at (nat_cmp (shape_of q))) es)) q ≡ Some m
        by_value false k = e
        by_value true k =
            let none : number_among es q ≡ None = ap (λ o. number_in o q) (absent (shape_of q) s es (let w = length_is (shape_of q) s k in omega (arith, w)) l.0.0) in
            absurd (none-some m (sym none ∙ e))

    both : (new : List ℕ) → Adds (number_among es) (λ q. fits (components q) ps) next new → Adds (number_among ((s, table) ∷ es)) (λ q. fits (components q) ps) now new
    both new g = record {
      kept = λ m h. g.kept m (f.kept m h);
      found = λ q m e h. by_value q m h (is_eq (nat_cmp (shape_of q) s)) refl e;
      only = λ m h. elim (g.only m h) [
        | inl k ↦ from_first m (f.only m k)
        | inr r ↦ inr (r.0, later r.0 m r.1, r.2)
      ];
    }
      where
        by_value : (q : List ℕ) (m : ℕ) → fits (components q) ps ≡ true → (b : Bool) → is_eq (nat_cmp (shape_of q) s) ≡ b → number_in (cond b (Some table) (lookup (is_at (nat_cmp (shape_of q))) es)) q ≡ Some m → has new m ≡ true
        by_value q m h true k e = g.kept m (f.found q m e (ap (λ b. b && fits (components q) ps) (eq-eqb (shape_of q) s (sym (length_is (shape_of q) s k))) ∙ h))
        by_value q m h false k e = g.found q m e h

        from_first : (m : ℕ) → (has now m ≡ true) ⊎ ((q : List ℕ) × (number_at table q ≡ Some m) × (is_sought s ps q ≡ true))
            → (has now m ≡ true) ⊎ ((q : List ℕ) × (number_among ((s, table) ∷ es) q ≡ Some m) × (fits (components q) ps ≡ true))
        from_first m (inl k) = inl k
        from_first m (inr r) = let k = sought_parts s ps r.0 r.2 in inr (r.0, here r.0 k.0 ∙ r.1, k.1)

-- the digit of the place
abbrev pub digit_at : ℕ → ℕ
digit_at zero = 1
digit_at (suc n) = 2 * digit_at n

pub digit_bounded : (n : ℕ) → n < 8 → digit_at n ≤ 128
digit_bounded zero h = omega arith
digit_bounded (suc zero) h = omega arith
digit_bounded (suc (suc zero)) h = omega arith
digit_bounded (suc (suc (suc zero))) h = omega arith
digit_bounded (suc (suc (suc (suc zero)))) h = omega arith
digit_bounded (suc (suc (suc (suc (suc zero))))) h = omega arith
digit_bounded (suc (suc (suc (suc (suc (suc zero)))))) h = omega arith
digit_bounded (suc (suc (suc (suc (suc (suc (suc zero))))))) h = omega arith
digit_bounded (suc (suc (suc (suc (suc (suc (suc (suc n)))))))) h = absurd (omega arith)

pub digit_next : (n : ℕ) → digit_at (n + 1) ≡ 2 * digit_at n
digit_next n = ap digit_at (add-one n)

-- the mask, a component more
pub mask_more : (whole mask digit m : ℕ) (p : List ℕ) → whole ≡ mask + digit * (2 * m + digit_of p) → whole ≡ (mask + digit * digit_of p) + (digit * 2) * m
mask_more whole mask digit m p e =
    e ∙ (ap (λ x. mask + x) (mul-add digit (2 * m) (digit_of p)) ∙ (ap (λ x. mask + (x + digit * digit_of p)) (sym (mul_assoc digit 2 m)) ∙ omega arith))

-- one that is longer than so many octets
pub longer : (whole text more rest : List ℕ) (most : ℕ) → whole ≡ ((text ++ 46 ∷ []) ++ more) ++ rest → most < length more → most + 1 < length whole
longer whole text more rest most e h =
    let n : length whole ≡ length (((text ++ 46 ∷ []) ++ more) ++ rest) = ap length e in
    omega (arith, n, h, length-append ((text ++ 46 ∷ []) ++ more) rest, length-append (text ++ 46 ∷ []) more, length-append text (46 ∷ []))

-- the shape by the mask
pub shape_by : (b : Bool) (m k size : ℕ) → Some m ≡ cond b None (Some k) → Some (4 * m + size) ≡ cond b None (Some (4 * k + size))
shape_by false m k size e = ap (λ n. Some (4 * n + size)) (same_Some m k e)
shape_by true m k size e = cc

-- the text behind the first dot
pub dot_first : (m : ℕ) (ps : List (List ℕ)) (whole text : List ℕ) → 1 ≤ length ps → whole ≡ dotted (named m ps) → text ≡ drop 1 whole → dotted (named m ps) ≡ 46 ∷ text
dot_first m [] whole text some e f = absurd (omega arith)
dot_first m (p ∷ ps) whole text some e f = ap (λ t. 46 ∷ t) (sym (f ∙ ap (drop 1) e))

-- a component less
pub depth_more : (all d : ℕ) (whole rest : List (List ℕ)) (front : List ℕ) → all ≡ d + length whole → whole ≡ front ∷ rest → all ≡ d + 1 + length rest
depth_more all d whole rest front e cut =
    let n : length whole ≡ suc (length rest) = ap length cut in
    omega (arith, e, n)

pub mask_behind : (all mask digit more : ℕ) (whole rest : List (List ℕ)) (front : List ℕ) → all ≡ mask + digit * mask_of whole → whole ≡ front ∷ rest → more ≡ digit * digit_of front → all ≡ mask + more + digit * 2 * mask_of rest
mask_behind all mask digit more whole rest front e cut m =
    mask_more all mask digit (mask_of rest) front (e ∙ ap (λ ps. mask + digit * mask_of ps) cut) ∙ ap (λ x. mask + x + digit * 2 * mask_of rest) (sym m)

-- a text whose first 8 components are passed has more
pub is_deeper_than : (all d : ℕ) (rest : List ℕ) → all ≡ d + length (components rest) → 8 ≤ d → nat_lt 8 all ≡ true
is_deeper_than all d rest e h = let k = component_count rest in grind (arith, nat_tests, e, h, k)

pub exceeds : (a b : ℕ) → nat_lt a b ≡ true → a < b
exceeds a b h = grind (arith, nat_tests, h)
