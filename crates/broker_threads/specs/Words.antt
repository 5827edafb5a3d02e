-- The words that a realm draws: counted, or at random.
use Rattle.std.specs.Prelude.{◌≡◌, ⊤, ℕ, zero, suc, ◌+◌, ◌%◌, ◌^◌, List, [], ◌∷◌, ◌++◌, Bool, true, false, length}
use Rattle.broker_config.specs.declared.config.Ids.{Ids}
use Rattle.broker_config.specs.declared.config.Ids.TheVariants as ids
use Rattle.realm_actor.specs.Words.{Words}
use Rattle.broker_threads.specs.declared.id_words.Origin.{Origin}
use Rattle.broker_threads.specs.declared.id_words.Origin.TheVariants.{Random, Count}

-- the first so many words that are counted: 0, 1, 2, .., and 0 again after 2^64 - 1
abbrev pub counted : ℕ → List ℕ
counted zero = []
counted (suc n) = counted n ++ n % 2 ^ 64 ∷ []

-- where they are counted, these words are the first so many
abbrev pub AreInOrder : Words → Type 0
AreInOrder words = words.is_counting ≡ true → words.given ≡ counted (length words.given)

-- whether these ids come from words that are counted
abbrev pub are_counted : Ids → Bool
are_counted ids.Random = false
are_counted ids.Count = true

-- whether the next word is a count
abbrev pub is_counting : Origin → Bool
is_counting (Random _) = false
is_counting (Count _) = true

-- these words were counted, and the next one is the count behind them; of random ones nothing is known
abbrev pub CountsOn : Origin → List ℕ → Type 0
CountsOn (Random _) given = ⊤
CountsOn (Count next) given = (given ≡ counted (length given)) × (next ≡ length given % 2 ^ 64)

-- a word is drawn: the count, and behind it stands the next one
abbrev pub Draws : Origin → ℕ → Origin → Type 0
Draws (Random _) word new = is_counting new ≡ false
Draws (Count next) word new = (word ≡ next) × (new ≡ Count ((next + 1) % 2 ^ 64))
