-- What a payload says.
use Rattle.std.specs.Prelude.{◌≡◌, ℕ, List, None, Some}
use Rattle.message_tree.specs.Data.{Data}
use Rattle.rawsocket.specs.declared.handshake.Serializer.{Serializer}
use Rattle.session.specs.FromClient.{said_of}
use Rattle.session.specs.Serializer.{Decodes, IsUndecodable}
use Rattle.session.specs.declared.fault.Fault.{Fault}
use Rattle.session.specs.declared.fault.Fault.TheVariants.{Shape}
use Rattle.wamp_messages.specs.declared.said.Said.{Said}

-- a payload is a message of a client, which says this
pub record Says (s : Serializer) (payload : List ℕ) (said : Said) : Type 0 where
  pub message : Data
  pub decodes : Decodes s payload message
  pub says : said_of message ≡ Some said

-- it is a message, but of no client
pub record HasNoShape (s : Serializer) (payload : List ℕ) : Type 0 where
  pub message : Data
  pub decodes : Decodes s payload message
  pub says : said_of message ≡ None

-- it says nothing, for this fault
abbrev pub SaysNothing : Serializer → List ℕ → Fault → Type 0
SaysNothing s payload Shape = HasNoShape s payload
SaysNothing s payload fault = IsUndecodable s payload fault
