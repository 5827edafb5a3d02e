-- The words that a realm draws go on as counted where they are counted.
use Rattle.std.specs.Prelude.{◌≡◌, ℕ, ◌+◌, ◌%◌, ◌^◌, List, [], ◌∷◌, ◌++◌, true, length}
use Rattle.std.proofs.Common.{sym, ap, ◌∙◌, subst}
use Rattle.std.proofs.Math.Nat.{mod-add-mod}
use Rattle.std.proofs.Math.Numerals.{add-one}
use Rattle.std.proofs.lemmas.List.{length_push}
use Rattle.broker_threads.specs.Words.{counted, is_counting, CountsOn, Draws}
use Rattle.broker_threads.specs.declared.id_words.Origin.{Origin}
use Rattle.broker_threads.specs.declared.id_words.Origin.TheVariants.{Random, Count}

-- one counted word more
counted_push : (given : List ℕ) (word : ℕ) → given ≡ counted (length given) → word ≡ length given % 2 ^ 64 → given ++ word ∷ [] ≡ counted (length (given ++ word ∷ []))
counted_push given word all next = ap (λ l. l ++ word ∷ []) all ∙ ap (λ w. counted (length given) ++ w ∷ []) next ∙ ap counted (sym (add-one (length given)) ∙ sym (length_push given word))

pub counts_on : (old : Origin) (word : ℕ) (new : Origin) (given : List ℕ) → Draws old word new → CountsOn old given → CountsOn new (given ++ word ∷ [])
counts_on (Random _) word (Random _) given draws before = tt
counts_on (Random _) word (Count _) given draws before = absurd (cc)
counts_on (Count next) word new given draws before = subst (λ o. CountsOn o (given ++ word ∷ [])) (sym draws.1)
    (counted_push given word before.0 (draws.0 ∙ before.1), ap (λ n. (n + 1) % 2 ^ 64) before.1 ∙ mod-add-mod (length given) (2 ^ 64) 1 ∙ ap (λ n. n % 2 ^ 64) (sym (length_push given word)))

-- of a source that counts, all words are counted
pub are_counted_words : (origin : Origin) (given : List ℕ) → CountsOn origin given → is_counting origin ≡ true → given ≡ counted (length given)
are_counted_words (Random _) given goes counts = absurd (cc)
are_counted_words (Count next) given goes counts = goes.0

-- it goes on as it began
pub same_kind : (old : Origin) (word : ℕ) (new : Origin) → Draws old word new → is_counting new ≡ is_counting old
same_kind (Random _) word new draws = draws
same_kind (Count next) word new draws = ap is_counting draws.1
