-- What a JSON text becomes.
use Rattle.std.specs.Prelude.{ℕ, List, IsUtf8, IsSome, option_and_then}
use Rattle.json.specs.Lex.{tokens}
use Rattle.json.specs.Json.{value, if_last}
use Rattle.message_tree.specs.Data.{Data}
use Rattle.json_codec.specs.Decoder.{Reads, IsUnreadable, IsTooDeep}
use Rattle.msgpack_codec.specs.Grammar.{Spells}
use Rattle.json_to_msgpack.specs.declared.transliteration.Transliteration.{Transliteration}
use Rattle.json_to_msgpack.specs.declared.transliteration.Transliteration.TheVariants.{Octets, NoJson, TooDeep, Undecided}

-- the text is read as a tree, and the octets spell this very tree within 100 levels
pub record SaysTheSame (json octets : List ℕ) : Type 0 where
  pub tree : Data
  pub read : Reads json tree
  pub spelled : Spells 100 octets tree

-- it is one value of up to 127 levels by the grammar, whatever its numbers
abbrev pub IsWellFormed : List ℕ → Type 0
IsWellFormed text = IsUtf8 text × IsSome (option_and_then (λ p. if_last p.0 p.1) (value 127 (tokens text)))

-- it becomes octets that say the same; or it is no JSON text; or its tree is too deep; or it is one, of which nothing else is said
abbrev pub IsTransliterated : List ℕ → Transliteration → Type 0
IsTransliterated json (Octets octets) = SaysTheSame json octets.items
IsTransliterated json NoJson = IsUnreadable json
IsTransliterated json TooDeep = IsTooDeep json
IsTransliterated json Undecided = IsWellFormed json
