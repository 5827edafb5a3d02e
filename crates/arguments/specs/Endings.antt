-- What arguments are at the end of a message, in either serialization.
use Rattle.std.specs.Prelude.{◌≡◌, ℕ, List, [], ◌∷◌, ◌++◌, Bool, true, ⊤, None, Some}
use Rattle.std.specs.declared.option.Option.{Option}
use Rattle.message_tree.specs.Data.{Data, Items, no_items, item}
use Rattle.json_codec.specs.Encoder.{json_text}
use Rattle.msgpack_codec.specs.Short.{short, items_have_short}
use Rattle.rawsocket.specs.declared.handshake.Serializer.{Serializer}
use Rattle.rawsocket.specs.declared.handshake.Serializer.TheVariants.{Json, MsgPack}
use Rattle.arguments.specs.Arguments.{Arguments, is_all_carried, last_items}

-- the octets that a value is written as
abbrev pub serialized : Serializer → Data → List ℕ
serialized Json d = json_text d
serialized MsgPack d = short d

-- the serialization has a spelling for them: MessagePack counts octets and members in four octets at most
abbrev pub items_have_spelling : Serializer → Items → Bool
items_have_spelling Json ds = true
items_have_spelling MsgPack ds = items_have_short ds

-- what stands between two members of a list
abbrev pub separator : Serializer → List ℕ
separator Json = 44 ∷ []
separator MsgPack = []

-- further members of a list, each behind a separator
abbrev pub further : Serializer → Items → List ℕ
further s no_items = []
further s (item d ds) = separator s ++ (serialized s d ++ further s ds)

-- the octets are the arguments as they stand at the end of each message that has them
pub record IsEnding (s : Serializer) (a : Arguments) (octets : List ℕ) : Type 0 where
  pub carried : is_all_carried a ≡ true
  pub spelled : items_have_spelling s (last_items a.args a.kwargs) ≡ true
  pub octets_are : octets ≡ further s (last_items a.args a.kwargs)

abbrev pub IsEndingIfAny : Serializer → Arguments → Option (List ℕ) → Type 0
IsEndingIfAny s a None = ⊤
IsEndingIfAny s a (Some octets) = IsEnding s a octets
