-- The number of each held pattern: four lookups, by policy.
use Rattle.std.specs.Prelude.{ℕ, cond, List, Option}
use Rattle.wamp_ids.specs.Pattern.{PatternText}
use Rattle.wamp_ids.specs.declared.pattern.Policy.{Policy}
use Rattle.wamp_ids.specs.declared.pattern.Policy.TheVariants.{Exact, Prefix, Wildcard}
use Rattle.subscription_index.specs.declared.names.Names.{Names}
use Rattle.subscription_index.specs.body.Tables.{number_by_length}
use Rattle.subscription_index.specs.body.Pieces.{DeepNumbers, deep_number}
use Rattle.subscription_index.specs.body.Shapes.{Shapes, is_deep, number_by_shape}

-- a wildcard's number: in one table where it has more than 8 components, else in that of its shape
abbrev pub wildcard_number : DeepNumbers → Shapes → List ℕ → Option ℕ
wildcard_number deep shapes text = cond (is_deep text) (deep_number deep text) (number_by_shape shapes text)

abbrev pub number_named : Names → PatternText → Option ℕ
number_named names p = by_policy p.policy names p.text
  where
    by_policy : Policy → Names → List ℕ → Option ℕ
    by_policy Exact names text = number_by_length names.exact text
    by_policy Prefix names text = number_by_length names.prefixes text
    by_policy Wildcard names text = wildcard_number names.deep names.shapes text
