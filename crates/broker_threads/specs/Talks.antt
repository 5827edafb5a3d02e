-- What became of a session that was opened.
use Rattle.std.specs.Prelude.{◌≡◌, ◌⊎◌, ℕ, Bool, true, min, List, [], ◌∷◌}
use Rattle.connection.specs.Reader.{Start, start, ReadsSince, ReadsUntil, IsReadBy}
use Rattle.connection.specs.declared.reader.ReadEnd.{ReadEnd}
use Rattle.connection.specs.declared.reader.ReadEnd.TheVariants.{ActorGone, Ended, NoMemory}
use Rattle.outbox_queue.specs.Outbox.{new_outbox}
use Rattle.rawsocket.specs.Devices.{Reading}
use Rattle.rawsocket.specs.Steps.{read_meter}
use Rattle.realm_inbox.specs.EndViews.{home_of_poster, posted_by, poster_conn}
use Rattle.realm_inbox.specs.Posted.{with_acts}
use Rattle.realm_inbox.specs.declared.act.Act.TheVariants.{Join}
use Rattle.realm_inbox.specs.declared.ends.Poster.{Poster}
use Rattle.realm_inbox.specs.declared.joining.Joining.{Joining}
use Rattle.session.specs.Opened.{Session}
use Rattle.broker_threads.specs.Sights.{Sight}
use Rattle.broker_threads.specs.Writes.{Writes, IsNewDrain}
use Rattle.broker_threads.specs.declared.course.Course.{Course}
use Rattle.broker_threads.specs.declared.course.Course.TheVariants.{Untouched, NotOpened, OpenedAlone, Served}
use Rattle.broker_threads.specs.declared.writer_thread.Writer.{Writer}
use Rattle.broker_threads.specs.declared.writer_thread.Written.{Written}

-- what a reader begins with, once the session is opened
abbrev pub start_of : Session → Start
start_of session = start session.serializer session.early session.held

-- what is read from, and what posts that
pub record Passage (I S : Type 0) : Type 0 where
  pub source : I
  pub poster : Poster S

abbrev pub passage : {I S : Type 0} → I → Poster S → Passage I S
passage source poster = record { source = source; poster = poster }

-- nothing was read or posted
pub record StandsStill {I S : Type 0} (before now : Passage I S) : Type 0 where
  pub unread : now.source ≡ before.source
  pub unposted : posted_by now.poster ≡ posted_by before.poster

module _ {I S : Type 0} (seen : I → Reading) where
  -- The Join was posted, and behind it what was read, up to this end: Ended only where the stream told its end. No failure was passed over, unless nobody receives any more, and
  -- behind one nothing was read
  pub record ReadsOn (begun : Start) (joining : Joining S) (before now : Passage I S) (end : ReadEnd) : Type 0 where
    pub posted : ReadsSince (seen before.source).given (seen now.source).given (with_acts (posted_by before.poster) (Join joining ∷ [])) (posted_by now.poster) (IsReadBy begun end)
    pub ended : end ≡ Ended → (seen now.source).is_ended ≡ true
    pub reads : ReadsUntil (read_meter (seen before.source)) (read_meter (seen now.source)) end

  -- or the Join came back, as nobody receives any more, and nothing was read
  abbrev pub Converses : Start → Joining S → Passage I S → Passage I S → ReadEnd → Type 0
  Converses begun joining before now end = ReadsOn begun joining before now end ⊎ (StandsStill before now × (end ≡ ActorGone))

module _ {O S : Type 0} where
  -- a writer is made over the other end of the outbox that the Join brings, in the session's realm, serialization and limit; the outbox is a new one of this room, of the poster's connection,
  -- and of the chronicle of its inbox, if one is picked
  pub record Begins (room : ℕ) (session : Session) (sink : O) (poster : Poster S) (joining : Joining S) (writer : Writer O S) : Type 0 where
    pub outbox : joining.outbox ≡ new_outbox writer.drain.queue room (poster_conn poster) (home_of_poster poster)
    pub asks : joining.authid ≡ session.authid
    pub new : IsNewDrain joining.outbox.queue room (poster_conn poster) (home_of_poster poster) writer.drain
    pub in_realm : writer.realm ≡ session.realm
    pub serializer : writer.serializer ≡ session.serializer
    pub limit : writer.limit ≡ min session.limit 16777215
    pub writes_to : writer.sink ≡ sink

module _ {I O S : Type 0} (see : Sight I O) (room : ℕ) where
  -- what was read is posted, or there was no thread for the writer that is made for it, and nothing is read or posted; that writer wrote
  pub record TalksOn (session : Session) (sink : O) (before now : Passage I S) (end : ReadEnd) (written : Written O) : Type 0 where
    pub joining : Joining S
    pub writer : Writer O S
    pub begins : Begins room session sink before.poster joining writer
    pub converses : Converses see.reading (start_of session) joining before now end ⊎ (StandsStill before now × (end ≡ NoMemory))
    pub writes : Writes see.writing writer written

  -- or no writer could be made, and nothing was read, posted or written
  abbrev pub Talks : Session → O → Passage I S → Passage I S → Course O → Type 0
  Talks session sink before now (Untouched closed) = ⊥
  Talks session sink before now (NotOpened closed fault) = ⊥
  Talks session sink before now (OpenedAlone closed) = (now ≡ before) × (closed.last.value ≡ sink)
  Talks session sink before now (Served end written) = TalksOn session sink before now end written
