-- Why octets of MessagePack say nothing.
use Rattle.std.specs.Prelude.{ℕ, List}
use Rattle.message_tree.specs.Data.{Data}
use Rattle.msgpack_codec.specs.Grammar.{Spells}
use Rattle.rawsocket.specs.declared.handshake.Serializer.TheVariants.{MsgPack}
use Rattle.session.specs.Serializer.{IsUndecodable}
use Rattle.session.specs.declared.fault.Fault.{Fault}
use Rattle.session.specs.declared.fault.Fault.TheVariants.{Shape}

-- what can be wrong with octets of which it is known that they say nothing: they are no message, or they are one of a wrong shape
abbrev pub IsFaultOf : List ℕ → Fault → Type 0
IsFaultOf octets Shape = (d : Data) × Spells 100 octets d
IsFaultOf octets fault = IsUndecodable MsgPack octets fault
