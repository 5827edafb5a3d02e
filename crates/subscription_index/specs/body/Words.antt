-- Octets as one number.
use Rattle.std.specs.Prelude.{ℕ, ◌+◌, ◌*◌, List, [], ◌∷◌}

-- the number of the octets, the first the lowest
abbrev pub worth : List ℕ → ℕ
worth [] = 0
worth (x ∷ xs) = x + 256 * worth xs
