-- How many components a text has.
use Rattle.std.specs.Prelude.{ℕ, Option, Some, None, List, length}
use Rattle.wamp_ids.specs.Uri.{components}
use Rattle.wamp_ids.specs.Pattern.{PatternText}
use Rattle.wamp_ids.specs.declared.pattern.Policy.{Policy}
use Rattle.wamp_ids.specs.declared.pattern.Policy.TheVariants.{Exact, Prefix, Wildcard}

abbrev pub component_count : List ℕ → ℕ
component_count text = length (components text)

-- as many components as the pattern has where it is a wildcard; the other policies ask for no number of them
abbrev pub wildcard_count : PatternText → Option ℕ
wildcard_count p = count_by_policy p.policy p.text
  where
    count_by_policy : Policy → List ℕ → Option ℕ
    count_by_policy Exact text = None
    count_by_policy Prefix text = None
    count_by_policy Wildcard text = Some (component_count text)
