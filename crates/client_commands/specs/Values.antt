-- Words as values.
use Rattle.std.specs.Prelude.{◌≡◌, ◌≤◌, ◌⊎◌, ℕ, List}
use Rattle.message_tree.specs.Data.{Data, depth, text}
use Rattle.json_codec.specs.Decoder.{Reads, IsUnreadable, IsTooDeep}

-- the word is no JSON text that a message has room for
abbrev pub IsPlainWord : List ℕ → Type 0
IsPlainWord word = IsUnreadable word ⊎ IsTooDeep word

-- what the word is in JSON, and else a text
abbrev pub IsValueOf : List ℕ → Data → Type 0
IsValueOf word d = (Reads word d × (depth d ≤ 100)) ⊎ (IsPlainWord word × (d ≡ text word))
