-- The frames that items are written as.
use Rattle.std.specs.Prelude.{◌≡◌, ◌<◌, ◌≤◌, ◌⊎◌, ℕ, true, false, List, [], length, None, Some}
use Rattle.std.specs.declared.option.Option.{Option}
use Rattle.message_tree.specs.Data.{Data}
use Rattle.rawsocket.specs.Frames.{Content, spelled}
use Rattle.rawsocket.specs.declared.frame.Kind.TheVariants as kind
use Rattle.rawsocket.specs.declared.handshake.Serializer.{Serializer}
use Rattle.session.specs.body.SerializedParts.{has_spelling}
use Rattle.session.specs.Serializer.{serialized}
use Rattle.session.specs.ToClient.{message_of}
use Rattle.wamp_messages.specs.declared.item.Item.{Item}
use Rattle.wamp_messages.specs.declared.item.Item.TheVariants.{Pong}

abbrev pub pong_octets : Item → List ℕ
pong_octets (Pong octets) = octets
pong_octets _ = []

-- a message in the serialization, or else a PONG of these octets
abbrev pub framed : Serializer → List ℕ → Option Data → Content
framed s octets None = record { kind = kind.Pong; payload = octets }
framed s octets (Some message) = record { kind = kind.Message; payload = serialized s message }

-- the frame of an item
abbrev pub frame_of : Serializer → Item → Content
frame_of s item = framed s (pong_octets item) (message_of item)

-- the octets of an item's frame
abbrev pub octets_of : Serializer → Item → List ℕ
octets_of s item = spelled (frame_of s item)

-- a client that takes so many octets in one payload takes the item
abbrev pub Fits : Serializer → ℕ → Item → Type 0
Fits s limit item = length (frame_of s item).payload ≤ limit

-- the serialization has a spelling for the message, if it is one
abbrev pub IsSpelled : Serializer → Option Data → Type 0
IsSpelled s None = Unit {0}
IsSpelled s (Some message) = has_spelling s message ≡ true

-- the serialization has none
abbrev pub IsUnspelled : Serializer → Option Data → Type 0
IsUnspelled s None = ⊥
IsUnspelled s (Some message) = has_spelling s message ≡ false

-- the item can't be written to a client that takes so many octets
abbrev pub IsTooLong : Serializer → ℕ → Item → Type 0
IsTooLong s limit item = (limit < length (frame_of s item).payload) ⊎ IsUnspelled s (message_of item)
