-- The values of a line.
use Rattle.std.specs.Prelude.{ℕ, Bool, true, ◌+◌, ◌/◌, ◌%◌, ◌&&◌, ◌==◌, not, nat_le, List, [], ◌∷◌, ◌++◌, if◌then◌else◌, length, min, take}

-- a digit of 0 to 9, a to f
abbrev pub hex_digit : ℕ → ℕ
hex_digit n = if nat_le n 9 then 48 + n else 87 + n

-- an octet of printable ASCII as it stands, unless it is a quote or a backslash; another one by a backslash, `x` and two digits
abbrev pub spelt : ℕ → List ℕ
spelt c = if nat_le 32 c && nat_le c 126 && not (c == 34) && not (c == 92) then c ∷ [] else 92 ∷ 120 ∷ hex_digit (c / 16 % 16) ∷ hex_digit (c % 16) ∷ []

abbrev pub shown : List ℕ → List ℕ
shown [] = []
shown (c ∷ cs) = spelt c ++ shown cs

-- printable ASCII, and no quote
abbrev pub is_plain : ℕ → Bool
is_plain c = nat_le 32 c && nat_le c 126 && not (c == 34)

abbrev pub are_plain : List ℕ → Bool
are_plain [] = true
are_plain (c ∷ cs) = is_plain c && are_plain cs

-- at most 128 octets of a text, from its beginning
abbrev pub beginning : List ℕ → List ℕ
beginning text = take (min (length text) 128) text

-- a text in quotes
abbrev pub quoted : List ℕ → List ℕ
quoted text = 34 ∷ [] ++ shown text ++ 34 ∷ []
