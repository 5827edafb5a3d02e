-- Controls that JSON leaves as they are and a terminal may obey: DEL, and those from U+0080 to U+009F, which UTF-8 spells as 194 and an octet
-- below 160.
use Rattle.std.specs.Prelude.{ℕ, ◌/◌, ◌%◌, ◌==◌, nat_lt, Bool, true, false, List, [], ◌∷◌, ◌++◌, if◌then◌else◌}
use Rattle.std.specs.Char.{digit_char}

-- how JSON may spell a character below 256: a backslash, u, and four digits to the base of 16
abbrev pub escape_of : ℕ → List ℕ
escape_of c = 92 ∷ 117 ∷ 48 ∷ 48 ∷ digit_char (c / 16) ∷ digit_char (c % 16) ∷ []

-- a text with an escape for each of those controls
abbrev mutual
  pub shown : List ℕ → List ℕ
  shown [] = []
  shown (c ∷ more) = if c == 127 then escape_of c ++ shown more else if c == 194 then shown_behind more else c ∷ shown more

  -- behind an octet 194
  pub shown_behind : List ℕ → List ℕ
  shown_behind [] = 194 ∷ []
  shown_behind (c ∷ more) = if nat_lt c 160 then escape_of c ++ shown more else 194 ∷ c ∷ shown more

-- either of them
abbrev pub shown_from : Bool → List ℕ → List ℕ
shown_from false octets = shown octets
shown_from true octets = shown_behind octets
