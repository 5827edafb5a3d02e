-- What a text of grants says: pairs of an authid and a role, `authid:role`, joined by commas.
use Rattle.std.specs.Prelude.{◌≡◌, ⊤, ℕ, Bool, true, ◌==◌, ◌&&◌, not, nat_le, List, [], ◌∷◌, length, None, Some, if◌then◌else◌, map, String, string_bytes}
use Rattle.std.specs.declared.alloc.Global.{Global}
use Rattle.std.specs.declared.option.Option.{Option}
use Rattle.std.specs.List.{list_any, slice_split}
use Rattle.std.specs.Str.{bytes_eq}
use Rattle.command_line.specs.declared.fault.Fault.{Fault}
use Rattle.command_line.specs.declared.fault.Fault.TheVariants.{NoMemory, Usage}

-- an authid and a role
abbrev pub Pair : Type 0
Pair = List ℕ × List ℕ

-- pairs of texts, by their bytes
abbrev pub bytes_of : List (String Global × String Global) → List Pair
bytes_of pairs = map (λ pair. (string_bytes pair.0, string_bytes pair.1)) pairs

-- two parts, neither of them empty
abbrev pub pair_by : List (List ℕ) → Option Pair
pair_by ((a ∷ authid) ∷ (r ∷ role) ∷ []) = Some (a ∷ authid, r ∷ role)
pair_by _ = None

-- what stands before the one colon (58), and what stands after it
abbrev pub pair_of : List ℕ → Option Pair
pair_of text = pair_by (slice_split (λ c. c == 58) text)

abbrev pub in_front : Option Pair → Option (List Pair) → Option (List Pair)
in_front (Some pair) (Some pairs) = Some (pair ∷ pairs)
in_front _ _ = None

-- each text is a pair
abbrev pub pairs_of : List (List ℕ) → Option (List Pair)
pairs_of [] = Some []
pairs_of (text ∷ texts) = in_front (pair_of text) (pairs_of texts)

abbrev pub names : List ℕ → List Pair → Bool
names authid pairs = list_any (λ pair. bytes_eq pair.0 authid) pairs

-- no authid stands twice
abbrev pub name_each_once : List Pair → Bool
name_each_once [] = true
name_each_once (pair ∷ pairs) = not (names pair.0 pairs) && name_each_once pairs

abbrev pub are_grants : List Pair → Bool
are_grants pairs = nat_le (length pairs) 1000 && name_each_once pairs

abbrev pub if_grants : Option (List Pair) → Option (List Pair)
if_grants None = None
if_grants (Some pairs) = if are_grants pairs then Some pairs else None

-- the grants of a text, in their order; a comma is 44, and the empty text is no grants
abbrev pub grants_of : List ℕ → Option (List Pair)
grants_of [] = Some []
grants_of (c ∷ cs) = if_grants (pairs_of (slice_split (λ c. c == 44) (c ∷ cs)))

-- why a text is refused: for want of memory, or where it says no grants
abbrev pub IsRefused : List ℕ → Fault → Type 0
IsRefused text NoMemory = ⊤
IsRefused text Usage = grants_of text ≡ None
IsRefused text _ = ⊥
