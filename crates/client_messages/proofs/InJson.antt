-- What octets of MessagePack say that a JSON text became, the text says.
use Rattle.std.proofs.Common.{◌≡◌, ℕ, List, [], Result, Ok, Err, IfOk, refl, subst}
use Rattle.msgpack_codec.proofs.Lemmas.{one_spelling}
use Rattle.msgpack_codec.proofs.Depth.{depth_within}
use Rattle.json_to_msgpack.specs.Transliteration.{SaysTheSame}
use Rattle.rawsocket.specs.declared.handshake.Serializer.TheVariants.{Json, MsgPack}
use Rattle.session.specs.Serializer.{Decodes}
use Rattle.client_messages.specs.Says.{Says}
use Rattle.client_messages.specs.declared.fault.Fault.{Fault}
use Rattle.client_messages.specs.declared.heard.Heard.{Heard}

heard_too : (json octets : List ℕ) → SaysTheSame json octets → (heard : Heard) → Says MsgPack octets heard → Says Json json heard
heard_too json octets same heard x = record {
  message = x.message;
  decodes = subst (Decodes Json json) ((one_spelling 100 octets octets [] [] same.tree x.message same.spelled x.decodes refl).0)
      (same.read, depth_within 100 octets same.tree same.spelled);
  says = x.says;
}

-- the same of what was answered
pub answered_too : (json octets : List ℕ) → SaysTheSame json octets → (r : Result Heard Fault) → IfOk r (λ heard. Says MsgPack octets heard) → IfOk r (λ heard. Says Json json heard)
answered_too json octets same (Ok heard) x = heard_too json octets same heard x
answered_too json octets same (Err f) x = tt
