-- How many components a text has, and which patterns can match it.
use Rattle.std.proofs.Common.{◌≡◌, ℕ, suc, ◌+◌, ◌≤◌, Bool, true, false, cond, ◌||◌, ◌==◌, eqb, List, [], ◌∷◌, length, refl, sym, ap, ◌∙◌, arith}
use Rattle.std.proofs.Math.Bool.{and-false}
use Rattle.std.proofs.lemmas.Bool.{true≢false}
use Rattle.std.proofs.lemmas.List.Sums.{count_by-le-length, sum_by-cons}
use Rattle.std.specs.List.{count_by, list_all}
use Rattle.std.specs.Prelude.{Some}
use Rattle.std.specs.Str.{bytes_eq}
use Rattle.wamp_ids.specs.Uri.{components, in_front, is_empty}
use Rattle.wamp_ids.specs.Pattern.{PatternText, fits, matches}
use Rattle.wamp_ids.specs.declared.pattern.Policy.{Policy}
use Rattle.wamp_ids.specs.declared.pattern.Policy.TheVariants.{Exact, Prefix, Wildcard}
use Rattle.wamp_ids.proofs.TopicScan.{Starts, components-Starts}
use Rattle.retained.specs.body.Counts.{component_count, wildcard_count}

length-in_front : (c : ℕ) (parts : List (List ℕ)) → Starts parts → length (in_front c parts) ≡ length parts
length-in_front c parts s = rw s.is refl

-- the dots of a text
abbrev pub dot_count : List ℕ → ℕ
dot_count text = count_by (λ x. x == 46) text

pub count-dots : (text : List ℕ) → dot_count text + 1 ≡ component_count text
count-dots [] = refl
count-dots (c ∷ cs) =
    let rest : dot_count cs + 1 ≡ component_count cs = count-dots cs in
    let more : dot_count (c ∷ cs) ≡ cond (eqb c 46) 1 0 + dot_count cs = sum_by-cons (λ x. cond (eqb x 46) 1 0) c cs in
    let P : Bool → Type 0 = λ b. cond b 1 0 + dot_count cs + 1 ≡ length (cond b ([] ∷ components cs) (in_front c (components cs))) in
    let at_dot : P true = omega (arith, rest) in
    let at_other : P false = omega (arith, rest, length-in_front c (components cs) (components-Starts cs)) in
    ap (λ n. n + 1) more ∙ elim (eqb c 46) as P [ true ↦ at_dot | false ↦ at_other ]

-- components of another number don't fit
fits-other_number : (xs ys : List (List ℕ)) → (length xs ≡ length ys → ⊥) → fits xs ys ≡ false
fits-other_number [] [] other = absurd (other refl)
fits-other_number [] (y ∷ ys) other = refl
fits-other_number (x ∷ xs) [] other = refl
fits-other_number (x ∷ xs) (y ∷ ys) other =
    rw (fits-other_number xs ys (λ same. other (ap suc same))) (and-false (is_empty x || bytes_eq x y))

by_policy : (policy : Policy) (text topic : List ℕ) (n : ℕ) → wildcard_count (record { policy = policy; text = text }) ≡ Some n
    → (n ≡ component_count topic → ⊥) → matches (record { policy = policy; text = text }) topic ≡ false
by_policy Exact text topic n is other = cc
by_policy Prefix text topic n is other = cc
by_policy Wildcard text topic n is other =
    let same : component_count text ≡ n = cc in
    fits-other_number (components text) (components topic) (λ e. other (sym same ∙ e))

-- a wildcard matches no topic of another number of components
pub no_match : (p : PatternText) (topic : List ℕ) (n : ℕ) → wildcard_count p ≡ Some n → (n ≡ component_count topic → ⊥) → matches p topic ≡ false
no_match p topic n is other = by_policy p.policy p.text topic n is other

-- a text of one component more than octets is dots alone, and each of its components is empty
empty-components : (text : List ℕ) → length text + 1 ≡ component_count text → list_all is_empty (components text) ≡ true
empty-components [] e = refl
empty-components (c ∷ cs) e =
    let few : component_count cs ≤ length cs + 1 = omega (arith, count-dots cs, count_by-le-length (λ x. x == 46) cs) in
    let P : Bool → Type 0 = λ b. suc (length cs) + 1 ≡ length (cond b ([] ∷ components cs) (in_front c (components cs))) → list_all is_empty (cond b ([] ∷ components cs) (in_front c (components cs))) ≡ true in
    let at_dot : P true = λ long. empty-components cs (omega (arith, long)) in
    let at_other : P false = λ long. absurd (omega (arith, long, few, length-in_front c (components cs) (components-Starts cs))) in
    (elim (eqb c 46) as P [ true ↦ at_dot | false ↦ at_other ]) e

fits-empty : (xs ys : List (List ℕ)) → list_all is_empty xs ≡ true → length xs ≡ length ys → fits xs ys ≡ true
fits-empty [] [] e same = refl
fits-empty [] (y ∷ ys) e same = absurd (omega (arith, same))
fits-empty (x ∷ xs) [] e same = absurd (omega (arith, same))
fits-empty ([] ∷ xs) (y ∷ ys) e same = fits-empty xs ys e (omega (arith, same))
fits-empty ((c ∷ cs) ∷ xs) (y ∷ ys) e same = absurd (true≢false (sym e))

dots_by_policy : (policy : Policy) (text topic : List ℕ) (n : ℕ) → wildcard_count (record { policy = policy; text = text }) ≡ Some n
    → n ≡ component_count topic → length text + 1 ≡ n → matches (record { policy = policy; text = text }) topic ≡ true
dots_by_policy Exact text topic n is own dots = cc
dots_by_policy Prefix text topic n is own dots = cc
dots_by_policy Wildcard text topic n is own dots =
    let same : component_count text ≡ n = cc in
    fits-empty (components text) (components topic) (empty-components text (dots ∙ sym same)) (same ∙ own)

-- a wildcard of dots alone matches each topic of as many components
pub dots_match : (p : PatternText) (topic : List ℕ) (n : ℕ) → wildcard_count p ≡ Some n → n ≡ component_count topic → length p.text + 1 ≡ n → matches p topic ≡ true
dots_match p topic n is own dots = dots_by_policy p.policy p.text topic n is own dots
