-- Who holds the pattern of each number, and how many patterns each connection holds.
use Rattle.std.specs.Prelude.{ℕ, Bool, false, List, Option, Some, None, ◌≡◌}
use Rattle.std.specs.BTreeMap.{BTreeMap, get}
use Rattle.std.specs.Ordering.{nat_cmp}
use Rattle.wamp_ids.specs.Pattern.{PatternText}
use Rattle.subscription_index.specs.body.Found.{has}
use Rattle.subscription_index.specs.Index.{Row, number_of, count_of, holds_number}
use Rattle.subscription_index.specs.declared.names.Names.{Names}
use Rattle.subscription_index.specs.body.Names.{number_named}

abbrev pub Holders : Type 0
Holders = BTreeMap ℕ (List ℕ)

abbrev pub among : Option (List ℕ) → ℕ → Bool
among None c = false
among (Some conns) c = has conns c

-- whether c holds the pattern of number n
abbrev pub is_holder : Holders → ℕ → ℕ → Bool
is_holder holders c n = among (get nat_cmp holders n) c

abbrev pub Counts : Type 0
Counts = BTreeMap ℕ ℕ

abbrev pub count_or_none : Option ℕ → ℕ
count_or_none None = 0
count_or_none (Some count) = count

-- how many patterns c holds
abbrev pub count_at : Counts → ℕ → ℕ
count_at counts c = count_or_none (get nat_cmp counts c)

-- holders and counts are those of the rows
pub record IsShared (rows : List Row) (holders : Holders) (counts : Counts) : Type 0 where
  pub held : (c n : ℕ) → is_holder holders c n ≡ holds_number rows c n
  pub counted : (c : ℕ) → count_at counts c ≡ count_of rows c

-- each pattern has the number that the rows give it
abbrev pub NamesAll : List Row → Names → Type 0
NamesAll rows names = (p : PatternText) → number_named names p ≡ number_of rows p
