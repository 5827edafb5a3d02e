-- The octets by which a client says something.
use Rattle.std.specs.Prelude.{◌≡◌, ◌<◌, ◌⊎◌, ℕ, List, length, false}
use Rattle.message_tree.specs.Data.{Data, is_carried}
use Rattle.rawsocket.specs.Devices.{GrowsByBeginning}
use Rattle.rawsocket.specs.Frames.{spelled}
use Rattle.rawsocket.specs.declared.handshake.Serializer.{Serializer}
use Rattle.session.specs.Serializer.{serialized}
use Rattle.session.specs.body.SerializedParts.{has_spelling}
use Rattle.client_messages.specs.declared.client_message.ClientMessage.{ClientMessage}
use Rattle.client_messages.specs.ToBroker.{message_for, options_depth}
use Rattle.client_session.specs.Hearing.{Terms, message}
use Rattle.client_session.specs.declared.fault.Fault.{Fault}
use Rattle.client_session.specs.declared.fault.Fault.TheVariants.{NoMemory, Unsayable, TooLongForBroker, WriteFault, TooManyWrites}

-- the payload that says this
abbrev pub payload_of : Serializer → ClientMessage → List ℕ
payload_of s said = serialized s (message_for said)

-- its frame
abbrev pub saying : Serializer → ClientMessage → List ℕ
saying s said = spelled (message (payload_of s said))

-- the serialization can't write the message
abbrev pub IsUnwritten : Serializer → Data → Type 0
IsUnwritten s d = (is_carried d ≡ false) ⊎ (has_spelling s d ≡ false)

-- no message says it
abbrev pub IsUnsayable : Serializer → ClientMessage → Type 0
IsUnsayable s said = (98 < options_depth said) ⊎ IsUnwritten s (message_for said)

-- why nothing is said
abbrev pub IsUnsaid : Terms → ClientMessage → Fault → Type 0
IsUnsaid t said NoMemory = Unit {0}
IsUnsaid t said Unsayable = IsUnsayable t.serializer said
IsUnsaid t said TooLongForBroker = t.limit < length (payload_of t.serializer said)
IsUnsaid t said _ = ⊥

-- why it isn't said, or not whole
abbrev pub IsCutShort : Terms → ClientMessage → List ℕ → List ℕ → Fault → Type 0
IsCutShort t said before now WriteFault = GrowsByBeginning before now (saying t.serializer said)
IsCutShort t said before now TooManyWrites = GrowsByBeginning before now (saying t.serializer said)
IsCutShort t said before now fault = (now ≡ before) × IsUnsaid t said fault
