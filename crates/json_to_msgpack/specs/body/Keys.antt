-- Keys as octets, and the keys whose value is too deep.
use Rattle.std.specs.Prelude.{ℕ, List, Bool, false, nat_lt, Option, Some, None}
use Rattle.std.specs.Ordering.{nat_cmp}
use Rattle.std.specs.Cmp.Lexicographic.{slice_cmp}
use Rattle.std.specs.BTreeSet.{contains_by}
use Rattle.std.specs.String.{string_bytes}
use Rattle.message_tree.specs.Data.{Data, Entries, depth, find_entry}
use Rattle.json_to_msgpack.specs.declared.deep_keys.Key.{Key}
use Rattle.json_to_msgpack.specs.declared.deep_keys.Key.TheVariants.{Plain, Unescaped}
use Rattle.json_to_msgpack.specs.declared.deep_keys.DeepKeys.{DeepKeys}

-- the octets of a key, without its escapes
abbrev pub key_octets : Key → List ℕ
key_octets (Plain s) = s.now
key_octets (Unescaped s) = string_bytes s

-- whether these keys have one of these octets
abbrev pub has_key : DeepKeys → List ℕ → Bool
has_key deep q = contains_by (λ k. slice_cmp nat_cmp q k.now) deep.keys

-- whether a value is there, and nests deeper
abbrev pub is_deeper : ℕ → Option Data → Bool
is_deeper room None = false
is_deeper room (Some d) = nat_lt room (depth d)

-- whether the value of a key nests deeper
abbrev pub is_deep_at : ℕ → List ℕ → Entries → Bool
is_deep_at room q es = is_deeper room (find_entry q es)
