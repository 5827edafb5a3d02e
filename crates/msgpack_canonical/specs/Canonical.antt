-- That octets were written in canonical form: the octets that `encode` writes for the tree that they spell.
use Rattle.std.specs.Prelude.{◌≡◌, ℕ, List, ◌++◌, Bool, true, false}
use Rattle.message_tree.specs.Data as tree
use Rattle.msgpack_codec.specs.Grammar.{Spells}
use Rattle.msgpack_codec.specs.Short.{short, has_short}

-- a front of the octets spells a tree, and the rest follows it; where it was written, what `encode` writes for the tree stands behind what stood before, and otherwise `encode` refuses the tree
pub record IsCanonicalized (room : ℕ) (octets rest : List ℕ) (is_written : Bool) (before after : List ℕ) : Type 0 where
  pub front : List ℕ
  pub meant : tree.Data
  pub parts : octets ≡ front ++ rest
  pub spelled : Spells room front meant
  pub carried : is_written ≡ true → tree.is_carried meant ≡ true
  pub fits : is_written ≡ true → has_short meant ≡ true
  pub written : is_written ≡ true → after ≡ before ++ short meant
  pub refused : is_written ≡ false → tree.is_carried meant ≡ true → has_short meant ≡ true → ⊥

-- the octets are one value, within so many levels
abbrev pub IsValue : ℕ → List ℕ → Type 0
IsValue room octets = (meant : tree.Data) × Spells room octets meant
