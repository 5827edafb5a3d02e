-- What the bodies write of Arguments and ArgumentsKw, one after the other.
use Rattle.std.specs.Prelude.{◌≡◌, ℕ, List, [], ◌∷◌, ◌++◌, Bool, true, false, None, Some, is_some}
use Rattle.std.specs.declared.option.Option.{Option}
use Rattle.message_tree.specs.Data.{Data, is_carried}
use Rattle.msgpack_codec.specs.Grammar.{Spells}
use Rattle.json_codec.specs.Encoder.{json_text}
use Rattle.msgpack_codec.specs.Short.{short, has_short}
use Rattle.msgpack_to_json.specs.Standing.{Stands}
use Rattle.rawsocket.specs.declared.handshake.Serializer.{Serializer}
use Rattle.rawsocket.specs.declared.handshake.Serializer.TheVariants.{Json, MsgPack}
use Rattle.arguments.specs.Endings.{separator, serialized}
use Rattle.arguments.specs.body.KeptArguments.{AreSpelled, AreWritten, IsWritable, written_in}

-- the octets spell a value, which nests so many levels at most
abbrev pub AreValue : ℕ → List ℕ → Type 0
AreValue room octets = (d : Data) × Spells room octets d

-- a value was written behind others, or it can't be carried
abbrev pub IsPut : Data → Bool → List ℕ → List ℕ → Type 0
IsPut d true old new = IsWritable d × (new ≡ old ++ short d)
IsPut d false old new = is_carried d ≡ false

-- what is read of an element, by what its kind is read as, was written, or can't be carried
pub record IsPartPut (read : Option Data) (is_put : Bool) (old new : List ℕ) : Type 0 where
  pub part : Data
  pub is_read : read ≡ Some part
  pub put : IsPut part is_put old new

-- the same, where there is a value
abbrev pub IsPutIfAny : Option Data → List ℕ → List ℕ → Type 0
IsPutIfAny None old new = new ≡ old
IsPutIfAny (Some d) old new = IsPut d true old new

-- the octets hold these, as they are written
pub record IsWrittenFor (args : Data) (kwargs : Option Data) (octets : List ℕ) : Type 0 where
  pub written : AreWritten octets (is_some kwargs)
  pub same : written_in octets (is_some kwargs) ≡ record { args = Some args; kwargs = kwargs }

-- what is read of an element, by what its kind is read as, was put behind others by octets that spell it
pub record IsSpelledPut (read : Option Data) (old new : List ℕ) : Type 0 where
  pub part : Data
  pub is_read : read ≡ Some part
  pub front : List ℕ
  pub spelled : Spells 100 front part
  pub behind : new ≡ old ++ front

-- the octets spell these, one of which is uncarried
pub record IsSpelledFor (args : Data) (kwargs : Option Data) (octets : List ℕ) : Type 0 where
  pub spelled : AreSpelled octets (is_some kwargs)
  pub same : written_in octets (is_some kwargs) ≡ record { args = Some args; kwargs = kwargs }

-- what `encode` writes for a value stands at the front
abbrev pub HasStanding : List ℕ → Type 0
HasStanding octets = (d : Data) × (after : List ℕ) × Stands octets after d

-- the value that stands there is passed over, and its JSON text is written behind a comma
abbrev pub IsJsonPut : List ℕ → List ℕ → List ℕ → List ℕ → Type 0
IsJsonPut octets rest old new = (d : Data) (after : List ℕ) → Stands octets after d → (rest ≡ after) × (new ≡ old ++ (44 ∷ json_text d))

-- one further member of a list
abbrev pub further_one : Serializer → Data → List ℕ
further_one s d = separator s ++ serialized s d

abbrev pub further_if_any : Serializer → Option Data → List ℕ
further_if_any s None = []
further_if_any s (Some d) = further_one s d

abbrev pub has_spelling_one : Serializer → Data → Bool
has_spelling_one Json d = true
has_spelling_one MsgPack d = has_short d

abbrev pub has_spelling_if_any : Serializer → Option Data → Bool
has_spelling_if_any s None = true
has_spelling_if_any s (Some d) = has_spelling_one s d
