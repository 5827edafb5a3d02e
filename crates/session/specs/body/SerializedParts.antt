-- Lists and dictionaries in either serialization, part by part.
use Rattle.std.specs.Prelude.{ℕ, List, [], ◌∷◌, ◌++◌, Bool, true, cond}
use Rattle.message_tree.specs.Data.{Data, text, Entries, no_entries, entry}
use Rattle.msgpack_codec.specs.Short.{list_head, dict_head, has_short, entries_have_short}
use Rattle.rawsocket.specs.declared.handshake.Serializer.{Serializer}
use Rattle.rawsocket.specs.declared.handshake.Serializer.TheVariants.{Json, MsgPack}
use Rattle.session.specs.Serializer.{serialized}
-- what stands between two members of a list, further members, and whether they have a spelling
pub use Rattle.arguments.specs.Endings.{separator, further, items_have_spelling}

-- the serialization has a spelling for it: MessagePack counts octets and members in four octets at most
abbrev pub has_spelling : Serializer → Data → Bool
has_spelling Json d = true
has_spelling MsgPack d = has_short d

-- what stands before the first of so many members of a list
abbrev pub list_opening : Serializer → ℕ → List ℕ
list_opening Json n = 91 ∷ []
list_opening MsgPack n = list_head n

-- what stands behind the last member of a list
abbrev pub list_closing : Serializer → List ℕ
list_closing Json = 93 ∷ []
list_closing MsgPack = []

-- what stands before the first of so many entries of a dictionary
abbrev pub dict_opening : Serializer → ℕ → List ℕ
dict_opening Json n = 123 ∷ []
dict_opening MsgPack n = dict_head n

-- what stands behind the last entry
abbrev pub dict_closing : Serializer → List ℕ
dict_closing Json = 125 ∷ []
dict_closing MsgPack = []

-- a key, behind a separator where an entry stands before it
abbrev pub key_text : Serializer → Bool → List ℕ → List ℕ
key_text Json later k = cond later (44 ∷ []) [] ++ (serialized Json (text k) ++ 58 ∷ [])
key_text MsgPack later k = serialized MsgPack (text k)

-- entries, the first perhaps behind others
abbrev pub entries_from : Serializer → Bool → Entries → List ℕ
entries_from s later no_entries = []
entries_from s later (entry k d es) = key_text s later k ++ (serialized s d ++ entries_from s true es)

abbrev pub entries_have_spelling : Serializer → Entries → Bool
entries_have_spelling Json es = true
entries_have_spelling MsgPack es = entries_have_short es
