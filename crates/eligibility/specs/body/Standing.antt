-- A list that stands in octets, and how it is kept.
use Rattle.std.specs.Prelude.{◌≡◌, ◌<◌, ◌^◌, ◌++◌, ℕ, ℤ, Bool, true, false, List, [], Option, Some, None, unwrap_or, drop}
use Rattle.std.specs.Ordering.{nat_cmp}
use Rattle.std.specs.List.{list_any}
use Rattle.std.specs.List.Sorted.{IsStrictlySortedBy}
use Rattle.std.specs.Str.{bytes_eq}
use Rattle.std.specs.Cmp.Lexicographic.{slice_cmp}
use Rattle.std.specs.declared.cmp.Ordering.{Ordering}
use Rattle.message_tree.specs.Data.{Data, Items, no_items, item}
use Rattle.msgpack_cursor.specs.Standing.{value_in}
use Rattle.eligibility.specs.Options.{list_or_none, text_of}
use Rattle.eligibility.specs.Lists.{has_number, has_text}

-- what is listed; nothing where no list of the kind is given
abbrev pub listed : {X : Type 0} → Option (Option (List X)) → List X
listed None = []
listed (Some None) = []
listed (Some (Some xs)) = xs

-- what the list lists that the octets are
unfoldable pub listed_in : {X : Type 0} → (Data → Option X) → List ℕ → List X
listed_in kind octets = listed (list_or_none kind (Some (value_in 100 octets)))

-- a list has no members
abbrev pub is_bare : Items → Bool
is_bare no_items = true
is_bare (item d ds) = false

-- the test finds each number of a list, and no other
abbrev pub AreHeld : (ℕ → Bool) → Option (List ℤ) → Type 0
AreHeld has None = ⊥
AreHeld has (Some zs) = (q : ℕ) → q < 2 ^ 64 → has_number q zs ≡ has q

-- the text at a place; empty where none stands there
unfoldable pub text_at : List ℕ → ℕ → List ℕ
text_at octets place = unwrap_or (text_of (value_in 0 (drop place octets))) []

-- the order of the texts
abbrev pub place_cmp : List ℕ → ℕ → ℕ → Ordering
place_cmp octets p q = slice_cmp nat_cmp (text_at octets p) (text_at octets q)

-- the texts at the places rise: each stands at one place alone
abbrev pub IsOrdered : List ℕ → List ℕ → Type 0
IsOrdered octets places = IsStrictlySortedBy (place_cmp octets) places

-- a text stands at one of the places
abbrev pub stands : List ℕ → List ℕ → List ℕ → Bool
stands octets places s = list_any (λ p. bytes_eq (text_at octets p) s) places

-- at the places stand the texts that are listed, in their order, each once
pub record IsIndex (octets places : List ℕ) : Type 0 where
  pub ordered : IsOrdered octets places
  pub same : (s : List ℕ) → stands octets places s ≡ has_text s (listed_in text_of octets)

-- the rest stands at the end of the octets
abbrev pub IsBehind : List ℕ → List ℕ → Type 0
IsBehind octets rest = (front : List ℕ) × (octets ≡ front ++ rest)
