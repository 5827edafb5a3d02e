-- How a session begins.
use Rattle.std.specs.Prelude.{◌≡◌, ℕ}
use Rattle.rawsocket.specs.Devices.{Writing}
use Rattle.std.specs.Arc.{arc_value}
use Rattle.connection.specs.declared.reader.ReadEnd.TheVariants.{NoMemory}
use Rattle.realm_inbox.specs.declared.ends.Poster.{Poster}
use Rattle.realm_inbox.specs.declared.joining.Joining.{Joining}
use Rattle.session.specs.Opened.{session as session_of}
use Rattle.broker_threads.specs.Talks.{Begins, start_of}
use Rattle.broker_threads.specs.Writes.{Writes}
use Rattle.broker_threads.specs.declared.course.Course.{Course}
use Rattle.broker_threads.specs.declared.course.Course.TheVariants.{OpenedAlone, Served}
use Rattle.broker_threads.specs.declared.talk.Made.{Made}
use Rattle.broker_threads.specs.declared.talk.Refused.{Refused}
use Rattle.broker_threads.specs.declared.talk.Refused.TheVariants as refused
use Rattle.broker_threads.specs.declared.talk.Session.{Session}
use Rattle.broker_threads.specs.declared.writer_thread.Writer.{Writer}
use Rattle.broker_threads.specs.declared.writer_thread.Written.{Written}

-- what became of a session for which no writer runs
abbrev pub course_of : {O : Type 0} → Refused O → Course O
course_of (refused.Memory closed) = OpenedAlone closed
course_of (refused.Thread written) = Served NoMemory written

-- how many items may wait in the outbox of a session
abbrev pub room_of : {O S : Type 0} → Session O S → ℕ
room_of session = (arc_value session.broker.plan.now).outbox

module _ {O S : Type 0} where
  -- a session is made ready, with its writer: what it reads on from is what its opening left
  pub record IsMade (session : Session O S) (poster : Poster S) (made : Made S) (writer : Writer O S) : Type 0 where
    pub begins : Begins (room_of session) (session_of session.opened) session.sink poster made.joining writer
    pub start : start_of (session_of made.opened) ≡ start_of (session_of session.opened)

module _ {O S : Type 0} (seen : O → Writing) where
  -- it was run, though nobody joins by its outbox
  pub record WritesAlone (session : Session O S) (poster : Poster S) (written : Written O) : Type 0 where
    pub joining : Joining S
    pub writer : Writer O S
    pub begins : Begins (room_of session) (session_of session.opened) session.sink poster joining writer
    pub writes : Writes seen writer written

  -- no writer runs for a session: its sink is let go of as it was, or the writer has written, though nobody joins
  abbrev pub IsRefused : Session O S → Poster S → Refused O → Type 0
  IsRefused session poster (refused.Memory closed) = closed.last.value ≡ session.sink
  IsRefused session poster (refused.Thread written) = WritesAlone session poster written
