-- Equal texts and equal patterns.
use Rattle.std.proofs.Common.{◌≡◌, ℕ, true, List, refl}
use Rattle.std.specs.Str.{bytes_eq}
use Rattle.std.proofs.lemmas.Slice.Eq.{bytes_eq-Decides}
use Rattle.std.proofs.lemmas.Bool.{and_parts}
use Rattle.wamp_ids.specs.Pattern.{PatternText, same_policy, same_pattern}
use Rattle.wamp_ids.specs.declared.pattern.Policy.{Policy}
use Rattle.wamp_ids.specs.declared.pattern.Policy.TheVariants.{Exact, Prefix, Wildcard}

pub bytes_eq-true : (xs ys : List ℕ) → bytes_eq xs ys ≡ true → xs ≡ ys
bytes_eq-true xs ys = (bytes_eq-Decides xs ys).0

pub bytes_eq-refl : (xs : List ℕ) → bytes_eq xs xs ≡ true
bytes_eq-refl xs = (bytes_eq-Decides xs xs).1 refl

same_policy-true : (p q : Policy) → same_policy p q ≡ true → p ≡ q
same_policy-true Exact Exact e = refl
same_policy-true Exact Prefix e = absurd (cc)
same_policy-true Exact Wildcard e = absurd (cc)
same_policy-true Prefix Exact e = absurd (cc)
same_policy-true Prefix Prefix e = refl
same_policy-true Prefix Wildcard e = absurd (cc)
same_policy-true Wildcard Exact e = absurd (cc)
same_policy-true Wildcard Prefix e = absurd (cc)
same_policy-true Wildcard Wildcard e = refl

same_policy-refl : (p : Policy) → same_policy p p ≡ true
same_policy-refl Exact = refl
same_policy-refl Prefix = refl
same_policy-refl Wildcard = refl

pub same_pattern-true : (p q : PatternText) → same_pattern p q ≡ true → p ≡ q
same_pattern-true p q e =
    let both = and_parts (same_policy p.policy q.policy) (bytes_eq p.text q.text) e in
    let policy : p.policy ≡ q.policy = same_policy-true p.policy q.policy both.0 in
    let text : p.text ≡ q.text = bytes_eq-true p.text q.text both.1 in
    λ i. record { policy = policy i; text = text i }

pub same_pattern-refl : (p : PatternText) → same_pattern p p ≡ true
same_pattern-refl p = rw (same_policy-refl p.policy) (bytes_eq-refl p.text)
