-- Arguments as they are held: as trees, as the octets of MessagePack that `encode` writes for them, or as others that spell them.
use Rattle.std.specs.Prelude.{◌≡◌, ℕ, List, [], ◌++◌, Bool, true, false, ⊤, Ok, None, Some, if◌then◌else◌}
use Rattle.std.specs.declared.option.Option.{Option}
use Rattle.message_tree.specs.Data.{Data, is_carried}
use Rattle.msgpack_codec.specs.Grammar.{Spells}
use Rattle.msgpack_codec.specs.Short.{short, has_short}
use Rattle.msgpack_codec.specs.body.Decoder.{value_at}
use Rattle.msgpack_cursor.specs.Standing.{value_in, rest_in}
use Rattle.rawsocket.specs.declared.handshake.Serializer.TheVariants.{Json}
use Rattle.arguments.specs.Arguments.{Arguments, FitMessages, is_all_carried}
use Rattle.arguments.specs.Endings.{IsEndingIfAny}
use Rattle.arguments.specs.declared.held.HeldArguments.{HeldArguments}
use Rattle.arguments.specs.declared.held.HeldArguments.TheVariants.{Spelled, Trees, Written}

-- the first value of octets, and the second
abbrev pub first_in : List ℕ → Data
first_in octets = value_in 100 octets

abbrev pub second_in : List ℕ → Data
second_in octets = value_in 100 (rest_in 100 octets)

abbrev pub written_in : List ℕ → Bool → Arguments
written_in octets has_kwargs = record { args = Some (first_in octets); kwargs = if has_kwargs then Some (second_in octets) else None }

abbrev pub arguments_in : HeldArguments → Arguments
arguments_in (Trees args kwargs) = record { args = Some args; kwargs = kwargs }
arguments_in (Written octets has_kwargs) = written_in octets has_kwargs
arguments_in (Spelled octets has_kwargs) = written_in octets has_kwargs

-- a value stands at the front
abbrev pub HasFirst : List ℕ → Type 0
HasFirst octets = value_at 100 octets ≡ Ok (first_in octets, rest_in 100 octets)

-- one stands there, or two
pub record HasValues (octets : List ℕ) (has_kwargs : Bool) : Type 0 where
  pub args : HasFirst octets
  pub kwargs : has_kwargs ≡ true → HasFirst (rest_in 100 octets)

-- it can be written, and what is written spells it
pub record IsWritable (d : Data) : Type 0 where
  pub carried : is_carried d ≡ true
  pub has_short : has_short d ≡ true
  pub spelled : Spells 99 (short d) d

abbrev pub behind_args : List ℕ → Bool → List ℕ
behind_args octets has_kwargs = if has_kwargs then short (second_in octets) else []

-- the octets are what `encode` writes for one value, or for two
pub record AreWritten (octets : List ℕ) (has_kwargs : Bool) : Type 0 where
  pub args : IsWritable (first_in octets)
  pub kwargs : has_kwargs ≡ true → IsWritable (second_in octets)
  pub octets_are : octets ≡ short (first_in octets) ++ behind_args octets has_kwargs

-- the octets spell one value, or two, and something in them is uncarried
pub record AreSpelled (octets : List ℕ) (has_kwargs : Bool) : Type 0 where
  pub values : HasValues octets has_kwargs
  pub uncarried : is_all_carried (written_in octets has_kwargs) ≡ false

abbrev pub IsGiven : HeldArguments → Type 0
IsGiven (Trees args kwargs) = ⊤
IsGiven (Written octets has_kwargs) = AreWritten octets has_kwargs
IsGiven (Spelled octets has_kwargs) = AreSpelled octets has_kwargs

-- arguments that are there, and what they are in JSON where that is kept
pub record AreHeld (given : HeldArguments) (json : Option (List ℕ)) : Type 0 where
  pub fit : FitMessages (arguments_in given)
  pub is_given : IsGiven given
  pub json_is : IsEndingIfAny Json (arguments_in given) json

-- the arguments that are held, where any are
abbrev pub held_arguments : Option HeldArguments → Arguments
held_arguments None = record { args = None; kwargs = None }
held_arguments (Some given) = arguments_in given

abbrev pub AreHeldIfAny : Option HeldArguments → Option (List ℕ) → Type 0
AreHeldIfAny None json = ⊤
AreHeldIfAny (Some given) json = AreHeld given json
