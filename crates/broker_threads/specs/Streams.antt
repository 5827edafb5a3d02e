-- What became of a stream that had a seat.
use Rattle.std.specs.Prelude.{◌≡◌, ◌⊎◌, ◌<◌, ℕ, Bool, true, List, Option, Some, Ok, Err, set, slice_get}
use Rattle.std.specs.Arc.{arc_value}
use Rattle.connection.specs.declared.reader.ReadEnd.{ReadEnd}
use Rattle.realm_inbox.specs.declared.ends.Poster.{Poster}
use Rattle.session.specs.Opened.{AreUsedUp, BeginsOpening, Exchange, HasCause, OpensSince, Session, exchange, is_decided}
use Rattle.session.specs.declared.fault.Fault.{Fault}
pub use Rattle.broker_threads.specs.Sights.{KeepsNames, Sight, sight}
use Rattle.rawsocket.specs.Bounds.{largest_bound}
use Rattle.rawsocket.specs.Devices.{ReadFails, WriteFails}
use Rattle.broker_threads.specs.Talks.{TalksOn, passage}
use Rattle.broker_threads.specs.declared.closed.Closed.{Closed}
use Rattle.broker_threads.specs.declared.course.Course.{Course}
use Rattle.broker_threads.specs.declared.course.Course.TheVariants.{Untouched, NotOpened, OpenedAlone, Served}
use Rattle.broker_threads.specs.declared.plan.Plan.{Plan}
use Rattle.broker_threads.specs.declared.reader_thread.Ended.{Ended}
use Rattle.broker_threads.specs.declared.reader_thread.Reader.{Reader}
use Rattle.broker_threads.specs.declared.writer_thread.Written.{Written}

-- what a broker offers to each stream: how long its messages may be, its realms, and how many items may wait in an outbox
pub record Offer : Type 0 where
  pub bound : ℕ
  pub names : List (List ℕ)
  pub room : ℕ

abbrev pub offer_within : ℕ → List (List ℕ) → ℕ → Offer
offer_within bound names room = record { bound = bound; names = names; room = room }

-- the same where nobody picked a bound of messages
abbrev pub offer : List (List ℕ) → ℕ → Offer
offer names room = offer_within largest_bound names room

abbrev pub offer_of : Plan → Offer
offer_of plan = offer_within plan.bound plan.realms.items plan.outbox

-- the two halves of a stream, and the posters of its connection, one for each realm
pub record Stream (I O S : Type 0) : Type 0 where
  pub source : I
  pub sink : O
  pub posters : List (Option (Poster S))

abbrev pub stream : {I O S : Type 0} → I → O → List (Option (Poster S)) → Stream I O S
stream source sink posters = record { source = source; sink = sink; posters = posters }

-- nothing was read or written: the half that is written to is what it was
abbrev pub IsUntouched : {O : Type 0} → O → Course O → Type 0
IsUntouched sink (Untouched closed) = closed.last.value ≡ sink
IsUntouched sink (NotOpened closed fault) = ⊥
IsUntouched sink (OpenedAlone closed) = ⊥
IsUntouched sink (Served end written) = ⊥

-- what was read and written so far
abbrev pub exchanged : {I O : Type 0} → Sight I O → I → O → Exchange
exchanged see source sink = exchange (see.reading source).given (see.writing sink).taken

module _ {I O S : Type 0} (see : Sight I O) (offer : Offer) where
  -- a session was opened: what was read up to its HELLO asks for it, and what was written is the answer; the stream is the same
  pub record IsOpened (before : Stream I O S) (source : I) (sink : O) (session : Session) : Type 0 where
    pub opens : OpensSince offer.bound offer.names (exchanged see before.source before.sink) (exchanged see source sink) (Ok session)
    pub same : KeepsNames see (before.source, before.sink) (source, sink)

  -- no session was opened, for this fault: where the octets decide it, what they ask for was written; else a beginning of that, and the fault has its cause
  pub record IsNotOpened (before : Stream I O S) (source : I) (sink : O) (fault : Fault) : Type 0 where
    pub decided : is_decided fault ≡ true → OpensSince offer.bound offer.names (exchanged see before.source before.sink) (exchanged see source sink) (Err fault)
    pub begun : BeginsOpening offer.bound offer.names (exchanged see before.source before.sink) (exchanged see source sink)
    pub cause : HasCause (see.reading source).is_ended (ReadFails (see.reading before.source) (see.reading source)) (WriteFails (see.writing before.sink) (see.writing sink))
        (AreUsedUp (see.reading before.source).calls (see.reading source).calls ⊎ AreUsedUp (see.writing before.sink).calls (see.writing sink).calls) fault
    pub same : KeepsNames see (before.source, before.sink) (source, sink)

  -- a session was opened, and served by the poster of the realm that its HELLO names, and by no other
  pub record IsServed (before : Stream I O S) (source : I) (posters : List (Option (Poster S))) (end : ReadEnd) (written : Written O) : Type 0 where
    pub session : Session
    pub opened_source : I
    pub opened_sink : O
    pub opens : IsOpened before opened_source opened_sink session
    pub poster : Poster S
    pub left : Poster S
    pub named : slice_get before.posters session.realm ≡ Some (Some poster)
    pub posters_are : posters ≡ set before.posters session.realm (Some left)
    pub talks : TalksOn see offer.room session opened_sink (passage opened_source poster) (passage source left) end written

  -- what became of it: what its halves were last, and its posters as they came back
  abbrev pub GoesBy : Stream I O S → Closed I → List (Option (Poster S)) → Course O → Type 0
  GoesBy before source posters (Untouched sink) = (source.last.value ≡ before.source) × (sink.last.value ≡ before.sink) × (posters ≡ before.posters)
  GoesBy before source posters (NotOpened sink fault) = IsNotOpened before source.last.value sink.last.value fault × (posters ≡ before.posters)
  GoesBy before source posters (OpenedAlone sink) = ((session : Session) × IsOpened before source.last.value sink.last.value session) × (posters ≡ before.posters)
  GoesBy before source posters (Served end written) = IsServed before source.last.value posters end written

-- what a reader's thread gives back, beside what it was given: it offers what its plan says
abbrev pub Reads : {I O S : Type 0} → Sight I O → Reader I O S → Ended I O S → Type 0
Reads see r ended = GoesBy see (offer_of (arc_value r.plan)) (stream r.source r.sink r.posters.items) ended.source ended.posters.items ended.course
