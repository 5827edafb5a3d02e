-- Faults of a text as they stand in its octets, in UTF-8.
use Rattle.std.specs.Prelude.{ℕ, Bool, false, ◌==◌, ◌||◌, ◌&&◌, not, nat_lt, List, [], ◌∷◌}
use Rattle.wamp_ids.specs.Uri.{is_plain}

-- no white space of ASCII and no `#`; and, where dots count, no dot at the end or behind another, or behind the octet before
abbrev pub passes : Bool → ℕ → List ℕ → Bool
passes dots before [] = not (dots && before == 46)
passes dots before (octet ∷ octets) = ((nat_lt 127 octet || is_plain octet) && not (dots && (before == 46 && octet == 46))) && passes dots octet octets

-- white space beyond ASCII begins with 194, 225, 226 or 227
abbrev pub leads_space : ℕ → Bool
leads_space octet = octet == 194 || (nat_lt 224 octet && nat_lt octet 228)

-- two octets are U+0085 or U+00A0
abbrev pub is_space_of_two : ℕ → ℕ → Bool
is_space_of_two before octet = before == 194 && (octet == 133 || octet == 160)

-- two octets behind 226 are one of U+2000 to U+200A, U+2028, U+2029, U+202F and U+205F
abbrev pub is_general_space : ℕ → ℕ → Bool
is_general_space before octet = (before == 128 && ((nat_lt 127 octet && nat_lt octet 139) || (octet == 168 || (octet == 169 || octet == 175)))) || (before == 129 && octet == 159)

-- three octets are one of those, or U+1680 or U+3000
abbrev pub is_space_of_three : ℕ → ℕ → ℕ → Bool
is_space_of_three first before octet =
    (first == 226 && is_general_space before octet)
    || ((first == 225 && (before == 154 && octet == 128)) || (first == 227 && (before == 128 && octet == 128)))

-- an octet, behind the two before it, ends white space beyond ASCII
abbrev pub ends_space : ℕ → ℕ → ℕ → Bool
ends_space first before octet = is_space_of_two before octet || is_space_of_three first before octet

-- behind two octets, one does
abbrev pub has_space : ℕ → ℕ → List ℕ → Bool
has_space first before [] = false
has_space first before (octet ∷ octets) = ends_space first before octet || has_space before octet octets
