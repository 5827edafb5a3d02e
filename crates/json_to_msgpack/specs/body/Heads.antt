-- Heads of lists and dictionaries with 16 members or more.
use Rattle.std.specs.Prelude.{◌+◌, ℕ, List, ◌∷◌, nat_lt, if◌then◌else◌}
use Rattle.std.specs.Int.{w16, w32, to_be_bytes}

-- a count behind a mark, in two octets, or in four behind the next mark
abbrev pub counted : ℕ → ℕ → List ℕ
counted mark n = if nat_lt n 65536 then mark ∷ to_be_bytes w16 n else (mark + 1) ∷ to_be_bytes w32 n
