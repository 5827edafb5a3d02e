-- Messages in either serialization.
use Rattle.std.specs.Prelude.{◌≤◌, ℕ, List}
use Rattle.message_tree.specs.Data.{Data, depth}
use Rattle.json_codec.specs.Decoder.{Reads, IsTooDeep, IsUnreadable}
use Rattle.msgpack_codec.specs.Grammar.{Spells, IsDeep, IsNoMessage}
use Rattle.rawsocket.specs.declared.handshake.Serializer.{Serializer}
use Rattle.rawsocket.specs.declared.handshake.Serializer.TheVariants.{Json, MsgPack}
use Rattle.session.specs.declared.fault.Fault.{Fault}
use Rattle.session.specs.declared.fault.Fault.TheVariants.{TooDeep, Malformed}
-- the octets that a message is written as
pub use Rattle.arguments.specs.Endings.{serialized}

-- the octets are this message
abbrev pub Decodes : Serializer → List ℕ → Data → Type 0
Decodes Json octets d = Reads octets d × (depth d ≤ 100)
Decodes MsgPack octets d = Spells 100 octets d

-- the octets are no message, for this fault
abbrev pub IsUndecodable : Serializer → List ℕ → Fault → Type 0
IsUndecodable Json octets TooDeep = IsTooDeep octets
IsUndecodable Json octets Malformed = IsUnreadable octets
IsUndecodable Json octets _ = ⊥
IsUndecodable MsgPack octets TooDeep = IsDeep 100 octets
IsUndecodable MsgPack octets Malformed = IsNoMessage octets
IsUndecodable MsgPack octets _ = ⊥
