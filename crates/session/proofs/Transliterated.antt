-- What octets of MessagePack say that a JSON text became, the text says.
use Rattle.std.proofs.Common.{◌≡◌, ◌≢◌, ℕ, List, [], Result, Ok, Err, IfOk, IfErr, refl, subst}
use Rattle.message_tree.specs.Data.{Data}
use Rattle.msgpack_codec.proofs.Lemmas.{one_spelling, spelled-not-deep}
use Rattle.msgpack_codec.proofs.Depth.{depth_within}
use Rattle.json_to_msgpack.specs.Transliteration.{SaysTheSame}
use Rattle.rawsocket.specs.declared.handshake.Serializer.TheVariants.{Json, MsgPack}
use Rattle.session.specs.Says.{Says, SaysNothing, HasNoShape}
use Rattle.session.specs.Serializer.{Decodes}
use Rattle.session.specs.declared.fault.Fault.{Fault}
use Rattle.session.specs.declared.fault.Fault.TheVariants.{NoMemory, TooDeep, Malformed, NotRawSocket, SerializerUnsupported, ReservedBits, FrameTooLong, FrameType, Shape, ReadFault, WriteFault, TooLongForClient, Ended, NoSuchRealm, TooManyTurns}
use Rattle.wamp_messages.specs.declared.said.Said.{Said}

-- the octets are one message alone, which the text is
decodes_too : (json octets : List ℕ) → SaysTheSame json octets → (d : Data) → Decodes MsgPack octets d → Decodes Json json d
decodes_too json octets same d spelled =
    subst (Decodes Json json) ((one_spelling 100 octets octets [] [] same.tree d same.spelled spelled refl).0)
    (same.read, depth_within 100 octets same.tree same.spelled)

says_too : (json octets : List ℕ) → SaysTheSame json octets → (said : Said) → Says MsgPack octets said → Says Json json said
says_too json octets same said x = record { message = x.message; decodes = decodes_too json octets same x.message x.decodes; says = x.says }

shapeless_too : (json octets : List ℕ) → SaysTheSame json octets → HasNoShape MsgPack octets → HasNoShape Json json
shapeless_too json octets same x = record { message = x.message; decodes = decodes_too json octets same x.message x.decodes; says = x.says }

nothing_too : (json octets : List ℕ) → SaysTheSame json octets → (f : Fault) → SaysNothing MsgPack octets f → SaysNothing Json json f
nothing_too json octets same NoMemory x = absurd x
nothing_too json octets same TooDeep x = absurd (spelled-not-deep 100 octets same.tree same.spelled x)
nothing_too json octets same Malformed x = absurd (x.unspelled same.tree same.spelled)
nothing_too json octets same NotRawSocket x = absurd x
nothing_too json octets same SerializerUnsupported x = absurd x
nothing_too json octets same ReservedBits x = absurd x
nothing_too json octets same FrameTooLong x = absurd x
nothing_too json octets same FrameType x = absurd x
nothing_too json octets same Shape x = shapeless_too json octets same x
nothing_too json octets same ReadFault x = absurd x
nothing_too json octets same WriteFault x = absurd x
nothing_too json octets same TooLongForClient x = absurd x
nothing_too json octets same Ended x = absurd x
nothing_too json octets same NoSuchRealm x = absurd x
nothing_too json octets same TooManyTurns x = absurd x

-- the same of what was answered
pub ok_too : (json octets : List ℕ) → SaysTheSame json octets → (r : Result Said Fault) → IfOk r (λ said. Says MsgPack octets said) → IfOk r (λ said. Says Json json said)
ok_too json octets same (Ok said) x = says_too json octets same said x
ok_too json octets same (Err f) x = tt

pub bad_too : (json octets : List ℕ) → SaysTheSame json octets → (r : Result Said Fault) → IfErr r (λ f. f ≢ NoMemory → SaysNothing MsgPack octets f) → IfErr r (λ f. f ≢ NoMemory → SaysNothing Json json f)
bad_too json octets same (Ok said) x = tt
bad_too json octets same (Err f) x = λ other. nothing_too json octets same f (x other)
