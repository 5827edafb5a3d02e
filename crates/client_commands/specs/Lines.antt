-- Lines of an input, and what is published of each.
use Rattle.std.specs.Prelude.{◌≡◌, ◌==◌, ◌<◌, ◌⊎◌, ℕ, Bool, false, List, [], ◌∷◌, ◌++◌, length, ⊤, Some}
use Rattle.std.specs.declared.option.Option.{Option}
use Rattle.std.specs.List.{list_any}
use Rattle.message_tree.specs.Data.{Data, list, item, no_items}
use Rattle.wamp_messages.specs.Arguments.{Arguments}
use Rattle.client_commands.specs.Values.{IsValueOf}

-- a line is one argument
pub record IsArgumentsOfLine (kwargs : Option Data) (line : List ℕ) (args : Arguments) : Type 0 where
  pub value : Data
  pub is_value : IsValueOf line value
  pub are : args ≡ record { args = Some (list (item value no_items)); kwargs = kwargs }

abbrev pub has_line_feed : List ℕ → Bool
has_line_feed octets = list_any (λ c. c == 10) octets

-- lines, each ended by LF, the last line first
abbrev pub ended : List (List ℕ) → List ℕ
ended [] = []
ended (line ∷ lines) = ended lines ++ (line ++ 10 ∷ [])

abbrev pub HaveNoLineFeed : List (List ℕ) → Type 0
HaveNoLineFeed [] = ⊤
HaveNoLineFeed (line ∷ lines) = (has_line_feed line ≡ false) × HaveNoLineFeed lines

-- the last line has no LF
abbrev pub EndsOpenly : List ℕ → List (List ℕ) → Type 0
EndsOpenly input [] = ⊥
EndsOpenly input (line ∷ lines) = (input ≡ ended lines ++ line) × (0 < length line)

-- these are the lines of an input, the last line first
pub record AreLines (input : List ℕ) (lines : List (List ℕ)) : Type 0 where
  pub clean : HaveNoLineFeed lines
  pub split : (input ≡ ended lines) ⊎ EndsOpenly input lines
