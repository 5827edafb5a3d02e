-- Short values with nothing inside that are no texts.
use Rattle.std.specs.Prelude.{◌≡◌, ℕ, List, ◌++◌, true}
use Rattle.message_tree.specs.Data as tree
use Rattle.msgpack_codec.specs.Short.{short}

-- nil, a flag, or a whole number that is carried
abbrev pub IsPlain : tree.Data → Type 0
IsPlain tree.null = Unit {0}
IsPlain (tree.flag b) = Unit {0}
IsPlain (tree.whole z) = tree.fits_codecs z ≡ true
IsPlain (tree.text s) = ⊥
IsPlain (tree.bytes s) = ⊥
IsPlain (tree.list ds) = ⊥
IsPlain (tree.dict es) = ⊥
IsPlain tree.uncarried = ⊥

-- the octets begin with the least spelling of such a value
pub record BeginsPlainly (octets rest : List ℕ) : Type 0 where
  pub meant : tree.Data
  pub plain : IsPlain meant
  pub parts : octets ≡ short meant ++ rest
