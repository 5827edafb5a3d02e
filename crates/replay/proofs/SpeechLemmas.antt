-- What a payload in JSON says, as the text of a line.
use Rattle.std.proofs.Common.{◌≡◌, ◌≢◌, ℕ, List, None, refl, subst, sym, ap, ◌∙◌}
use Rattle.message_tree.specs.Data.{Data}
use Rattle.json_codec.proofs.OneTreeAText.{one-tree, deep-no-other, readable}
use Rattle.rawsocket.specs.declared.handshake.Serializer.TheVariants.{Json}
use Rattle.session.specs.FromClient.{said_of}
use Rattle.session.specs.Says.{Says, SaysNothing}
use Rattle.session.specs.declared.fault.Fault.{Fault}
use Rattle.session.specs.declared.fault.Fault.TheVariants as fault
use Rattle.wamp_messages.specs.declared.said.Said.{Said}
use Rattle.replay.specs.Speech.{IsNoise, IsSaid}

pub said_is_heard : (text : List ℕ) (said : Said) → Says Json text said → IsSaid text said
said_is_heard text said says = record { tree = says.message; message = record { reads = says.decodes.0; shallow = says.decodes.1 }; says = says.says }

pub nothing_is_noise : (text : List ℕ) (of : Fault) → of ≢ fault.NoMemory → SaysNothing Json text of → IsNoise text
nothing_is_noise text fault.Shape known nothing = λ d message. ap said_of (one-tree text d nothing.message message.reads nothing.decodes.0) ∙ nothing.says
nothing_is_noise text fault.TooDeep known nothing = λ d message. absurd (deep-no-other text d message.reads message.shallow nothing)
nothing_is_noise text fault.Malformed known nothing = λ d message. absurd (readable text message.reads.0 message.reads.1 nothing)
nothing_is_noise text fault.NoMemory known nothing = absurd (known refl)
nothing_is_noise text fault.NotRawSocket known nothing = absurd nothing
nothing_is_noise text fault.SerializerUnsupported known nothing = absurd nothing
nothing_is_noise text fault.ReservedBits known nothing = absurd nothing
nothing_is_noise text fault.FrameTooLong known nothing = absurd nothing
nothing_is_noise text fault.FrameType known nothing = absurd nothing
nothing_is_noise text fault.ReadFault known nothing = absurd nothing
nothing_is_noise text fault.WriteFault known nothing = absurd nothing
nothing_is_noise text fault.TooLongForClient known nothing = absurd nothing
nothing_is_noise text fault.Ended known nothing = absurd nothing
nothing_is_noise text fault.NoSuchRealm known nothing = absurd nothing
nothing_is_noise text fault.TooManyTurns known nothing = absurd nothing
