-- Who is to receive what is published to a topic.
use Rattle.std.specs.Prelude.{ℕ, Bool, true, false, List, map, None, Some}
use Rattle.std.specs.declared.option.Option.{Option}
use Rattle.wamp_ids.specs.Pattern.{PatternText}
use Rattle.wamp_ids.specs.declared.pattern.Policy.{Policy}
use Rattle.wamp_ids.specs.declared.pattern.Policy.TheVariants.{Exact, Prefix, Wildcard}
use Rattle.subscription_index.specs.declared.receiver.Receiver.{Receiver}
use Rattle.subscription_index.specs.Index.{Row, pattern_of, matching}

-- an event names its topic where the pattern does not
abbrev pub names_topic : Policy → Bool
names_topic Exact = false
names_topic Prefix = true
names_topic Wildcard = true

abbrev pub is_named : Option PatternText → Bool
is_named None = false
is_named (Some p) = names_topic p.policy

-- the holder and number of a row, and whether the row's pattern leaves the topic to be named
abbrev pub receiver_at : List Row → ℕ × ℕ → Receiver
receiver_at rows k = record { conn = k.0; number = k.1; names_topic = is_named (pattern_of rows k.0 k.1) }

-- what matches the topic, as receivers
abbrev pub receivers : List Row → List ℕ → List Receiver
receivers rows topic = map (receiver_at rows) (matching rows topic)
