-- What a session did that was served over a stream.
use Rattle.std.specs.Prelude.{◌≡◌, ◌⊎◌, ℕ, true, min, List, [], ◌∷◌, ◌++◌, Some}
use Rattle.atomic_table.specs.Seated.{TableId}
use Rattle.broker_threads.specs.Streams.{Stream, stream}
use Rattle.broker_threads.specs.Talks.{start_of}
use Rattle.connection.specs.Reader.{IsReadBy, ReadsUntil}
use Rattle.connection.specs.Writer.{IsWrittenBy, write_told}
use Rattle.connection.specs.declared.reader.ReadEnd.{ReadEnd}
use Rattle.connection.specs.declared.reader.ReadEnd.TheVariants.{ActorGone, Ended, NoMemory}
use Rattle.connection.specs.declared.writer.WriteEnd.{WriteEnd}
use Rattle.outbox_queue.specs.Outbox.{new_outbox}
use Rattle.rawsocket.specs.Devices.{Reading, Writing}
use Rattle.rawsocket.specs.Steps.{WriteSteps, read_meter}
use Rattle.realm_inbox.specs.declared.act.Act.{Act}
use Rattle.realm_inbox.specs.declared.act.Act.TheVariants.{Join}
use Rattle.realm_inbox.specs.declared.joining.Joining.{Joining}
use Rattle.session.specs.Opened.{Session}
use Rattle.wamp_messages.specs.declared.item.Item.{Item}

-- a stream, of which only its halves count
abbrev pub halves : {I O : Type 0} (S : Type 0) → I × O → Stream I O S
halves S it = stream it.0 it.1 []

module _ {S : Type 0} where
  -- a Join asks for the authid of its HELLO, and brings an outbox: a new one, of this room, of its own connection, and of the chronicle of its realm
  pub record Joins (hello : Session) (room conn : ℕ) (chronicle : TableId) (join : Joining S) : Type 0 where
    pub asks : join.authid ≡ hello.authid
    pub outbox : join.outbox ≡ new_outbox join.outbox.queue room conn (Some chronicle)

module _ {I S : Type 0} (seen : I → Reading) where
  -- the Join was posted, and behind it what the octets say that were read behind the HELLO, up to this end: Ended only where the stream told its end. No failure was passed over, unless
  -- nobody receives any more, and behind one nothing was read
  pub record Says (hello : Session) (join : Joining S) (before after : I) (end : ReadEnd) (posted : List (Act S)) : Type 0 where
    pub octets : List ℕ
    pub acts : List (Act S)
    pub read : (seen after).given ≡ (seen before).given ++ octets
    pub posted_are : posted ≡ Join join ∷ acts
    pub says : IsReadBy (start_of hello) end octets acts
    pub ended : end ≡ Ended → (seen after).is_ended ≡ true
    pub steps : ReadsUntil (read_meter (seen before)) (read_meter (seen after)) end

  -- or nothing was read or posted: the Join came back, as nobody receives any more, or there was no thread for the writer
  abbrev pub SaysSome : Session → Joining S → I → I → ReadEnd → List (Act S) → Type 0
  SaysSome hello join before after end posted = Says hello join before after end posted ⊎ ((after ≡ before) × (posted ≡ []) × ((end ≡ ActorGone) ⊎ (end ≡ NoMemory)))

-- these items were written behind the opening, in the session's serialization and limit, up to this end. No failure was passed over, and behind one nothing was written
pub record IsWritten {O : Type 0} (seen : O → Writing) (hello : Session) (before after : O) (end : WriteEnd) (items : List Item) : Type 0 where
  pub octets : List ℕ
  pub wrote : (seen after).taken ≡ (seen before).taken ++ octets
  pub says : IsWrittenBy hello.serializer (min hello.limit 16777215) end items octets
  pub steps : WriteSteps (seen before) (seen after) (write_told end)
