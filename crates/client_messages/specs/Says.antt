-- What a payload of a broker says.
use Rattle.std.specs.Prelude.{◌≡◌, ℕ, pos, List, None, Some}
use Rattle.message_tree.specs.Data.{Data, whole, list, Items, item}
use Rattle.msgpack_codec.specs.Grammar.{Spells}
use Rattle.rawsocket.specs.declared.handshake.Serializer.{Serializer}
use Rattle.session.specs.Serializer.{Decodes}
use Rattle.client_messages.specs.FromBroker.{heard_of, event}
use Rattle.client_messages.specs.declared.heard.Heard.{Heard}

-- the payload is a message of a broker, which says this
pub record Says (s : Serializer) (payload : List ℕ) (heard : Heard) : Type 0 where
  pub message : Data
  pub decodes : Decodes s payload message
  pub says : heard_of message ≡ Some heard

-- no EVENT of a broker stands in the octets, in MessagePack
abbrev pub IsNoEvent : List ℕ → Type 0
IsNoEvent octets = (ds : Items) → Spells 100 octets (list (item (whole (pos 36)) ds)) → event ds ≡ None
