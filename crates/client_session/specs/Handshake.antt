-- The handshake of a client, and what the broker replies to it.
use Rattle.std.specs.Prelude.{◌≡◌, ◌≢◌, ◌<◌, ◌*◌, ◌+◌, ℕ, List, [], ◌∷◌, ◌++◌, length, Result, Ok, Err}
use Rattle.rawsocket.specs.Devices.{GrowsByBeginning}
use Rattle.rawsocket.specs.Handshakes.{answered, refusing, serializer_code}
use Rattle.rawsocket.specs.declared.handshake.Serializer.{Serializer}
use Rattle.rawsocket.specs.declared.handshake.Handshake.TheVariants.{Accept}
use Rattle.session.specs.Opened.{Exchange}
use Rattle.client_session.specs.declared.fault.Fault.{Fault}
use Rattle.client_session.specs.declared.fault.Fault.TheVariants.{NoMemory, Refused, NoBroker, Ended, ReadFault, WriteFault, TooManyReads, TooManyWrites}

-- a client that takes all that the header of a frame can tell, 2 ^ 24 - 1 octets in one payload, so its exponent is 15
abbrev pub asking : Serializer → List ℕ
asking s = 127 ∷ (15 * 16 + serializer_code s) ∷ 0 ∷ 0 ∷ []

-- the reply neither accepts what was asked, nor refuses it
pub record IsNoReply (s : Serializer) (reply : List ℕ) : Type 0 where
  pub accepts : (limit : ℕ) → answered reply ≢ Accept s limit
  pub refuses : (code : ℕ) → reply ≢ refusing code

-- what four octets reply: a broker accepts as a client asks, and by its own limit
abbrev pub IsReply : Serializer → List ℕ → Result ℕ Fault → Type 0
IsReply s reply (Ok limit) = answered reply ≡ Accept s limit
IsReply s reply (Err (Refused code)) = reply ≡ refusing code
IsReply s reply (Err NoBroker) = IsNoReply s reply
IsReply s reply (Err _) = ⊥

-- the handshake was written, and four octets were read that reply this
pub record Replies (s : Serializer) (before now : Exchange) (answer : Result ℕ Fault) : Type 0 where
  pub reply : List ℕ
  pub four : length reply ≡ 4
  pub wrote : now.taken ≡ before.taken ++ asking s
  pub read : now.given ≡ before.given ++ reply
  pub is : IsReply s reply answer

-- fewer than four octets were read
pub record RepliesPartly (s : Serializer) (before now : Exchange) : Type 0 where
  pub part : List ℕ
  pub short : length part < 4
  pub wrote : now.taken ≡ before.taken ++ asking s
  pub read : now.given ≡ before.given ++ part

-- so many that there was no memory for them
pub record IsUnread (s : Serializer) (before now : Exchange) : Type 0 where
  pub lost : List ℕ
  pub wrote : now.taken ≡ before.taken ++ asking s
  pub read : now.given ≡ before.given ++ lost

-- a beginning of the handshake was written, and nothing was read
pub record AsksPartly (s : Serializer) (before now : Exchange) : Type 0 where
  pub wrote : GrowsByBeginning before.taken now.taken (asking s)
  pub read : now.given ≡ before.given

-- how a handshake fails
abbrev pub IsRefused : Serializer → Exchange → Exchange → Fault → Type 0
IsRefused s before now (Refused code) = Replies s before now (Err (Refused code))
IsRefused s before now NoBroker = Replies s before now (Err NoBroker)
IsRefused s before now Ended = RepliesPartly s before now
IsRefused s before now ReadFault = RepliesPartly s before now
IsRefused s before now TooManyReads = RepliesPartly s before now
IsRefused s before now NoMemory = IsUnread s before now
IsRefused s before now WriteFault = AsksPartly s before now
IsRefused s before now TooManyWrites = AsksPartly s before now
IsRefused s before now _ = ⊥

-- how the reading of the reply fails
abbrev pub IsCut : List ℕ → List ℕ → Fault → Type 0
IsCut before now NoMemory = (lost : List ℕ) × (now ≡ before ++ lost)
IsCut before now Ended = (part : List ℕ) × (now ≡ before ++ part) × (length part < 4)
IsCut before now ReadFault = (part : List ℕ) × (now ≡ before ++ part) × (length part < 4)
IsCut before now TooManyReads = (part : List ℕ) × (now ≡ before ++ part) × (length part < 4)
IsCut before now _ = ⊥
