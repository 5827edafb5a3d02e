-- The words that a source gave.
use Rattle.std.specs.Prelude.{ℕ, Bool, List, ◌++◌}

-- whether they are counted, and those that it gave so far, the oldest first
pub record Words : Type 0 where
  pub is_counting : Bool
  pub given : List ℕ

-- these were given too
abbrev pub ◌⊕◌ : Words → List ℕ → Words
words ⊕ more = record { is_counting = words.is_counting; given = words.given ++ more }

infixl 40 ◌⊕◌
