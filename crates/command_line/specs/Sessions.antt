-- The ids of sessions among words.
use Rattle.std.specs.Prelude.{◌≡◌, ℕ, List}
use Rattle.std.specs.Str.Parse.{IsNumeral, digits_value, without_leading_plus}
use Rattle.wamp_ids.specs.Numbers.{IsId}

-- a text is this number in decimal; a plus may stand first
abbrev pub Spells : List ℕ → ℕ → Type 0
Spells text n = IsNumeral 10 (without_leading_plus text) × (n ≡ digits_value 10 (without_leading_plus text))

-- it is no number that is an id
abbrev pub SpellsNoId : List ℕ → Type 0
SpellsNoId text = (n : ℕ) → Spells text n → IsId n → ⊥
