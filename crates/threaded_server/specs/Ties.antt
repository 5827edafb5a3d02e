-- What a session was written, and the history of its realm.
use Rattle.std.specs.Prelude.{◌≡◌, ◌≤◌, ◌⊎◌, ◌==◌, ⊤, ℕ, true, false, List, [], Option, None, Some, Contains, length, slice_get}
use Rattle.std.specs.List.{list_any}
use mathlib.Core.List.{IsPrefix}
use Rattle.connection.specs.declared.writer.WriteEnd.TheVariants.{Stopped, Full, Lost}
use Rattle.outbox_queue.specs.Ends.{Owes, TookFull, TookLost, TookWhole, newest}
use Rattle.outbox_queue.specs.Tied.{Kept}
use Rattle.realm.specs.History.{History, begun}
use Rattle.realm.specs.Sessions.{joined}
use Rattle.realm.specs.Yield.{owed}
use Rattle.realm_inbox.specs.EndViews.{inbox_of, inbox_of_poster, received}
use Rattle.realm_inbox.specs.Over.{was_cut}
use Rattle.realm_inbox.specs.declared.ends.Poster.{Poster}
use Rattle.broker_threads.specs.Acts.{Acts}
use Rattle.broker_threads.specs.Words.{are_counted}
use Rattle.broker_threads.specs.declared.actor_thread.ActorThread.{ActorThread}
use Rattle.threaded_server.specs.Histories.{Start, start_of}
use Rattle.threaded_server.specs.Realms.{Shown, inbox_in}
use Rattle.wamp_messages.specs.declared.item.Item.{Item}
use Rattle.broker_threads.specs.Writes.{cut_kept, over_kept, owed_kept}
use Rattle.broker_threads.specs.declared.course.Course.{Course}
use Rattle.broker_threads.specs.declared.course.Course.TheVariants as course
use Rattle.threaded_server.specs.declared.over.Over.{Over}
use Rattle.threaded_server.specs.declared.over.Over.TheVariants.{Seated, TurnedAway, Untouched}
use Rattle.broker_threads.specs.declared.plan.Plan.{Plan}
use Rattle.threaded_server.specs.declared.realm_run.RealmRun.{RealmRun}
use Rattle.broker_threads.specs.declared.writer_thread.Written.{Written}

-- what was seen last, if anything was, is kept
abbrev pub IsKeptIn : List (Kept History) → Option (Kept History) → Type 0
IsKeptIn all None = ⊤
IsKeptIn all (Some kept) = Contains all kept

-- the history that a realm's actor made
abbrev pub history_of : {S : Type 0} → RealmRun S → History
history_of run = run.ended.value.actor.value.history

module _ {O S : Type 0} where
  -- a connection's session was served by the poster of its realm's inbox, and its realm keeps what its writer saw last, which owes the connection what was taken
  pub record IsKept (realms : List (Shown S)) (conn : ℕ) (posters : List (Option (Poster S))) (written : Written O) : Type 0 where
    pub realm : Shown S
    pub at : slice_get realms written.realm ≡ Some realm
    pub poster : Poster S
    pub posts : slice_get posters written.realm ≡ Some (Some poster)
    pub inbox : inbox_of_poster poster ≡ inbox_in realm
    pub own : written.drain.value.conn ≡ conn
    pub owes : Owes owed_kept written.seen written.drain.value.conn written.drain.value.taken
    pub newest_is : written.seen ≡ newest written.drain.value
    pub whole : written.end ≡ Stopped → TookWhole owed_kept over_kept cut_kept written.drain.value
    pub full : written.end ≡ Full → TookFull owed_kept over_kept cut_kept written.drain.value
    pub lost : written.end ≡ Lost → TookLost owed_kept over_kept cut_kept written.drain.value
    pub kept : IsKeptIn realm.seen written.seen

  -- a connection's session was served by the poster of its realm's inbox, on which its realm's actor ran; and what its writer took begins what the history that this actor
  -- made owes the connection. Where the writer stopped it is all of that, and no Cut of the connection stands in that history; where the session was lost it is all of that too, but one
  -- does; where its outbox was found full, it is as many items as that holds, or more. In each of these cases its Join stands in that history, accepted or refused
  pub record IsTied (runs : List (RealmRun S)) (conn : ℕ) (posters : List (Option (Poster S))) (written : Written O) : Type 0 where
    pub run : RealmRun S
    pub at : slice_get runs written.realm ≡ Some run
    pub poster : Poster S
    pub posts : slice_get posters written.realm ≡ Some (Some poster)
    pub inbox : inbox_of_poster poster ≡ inbox_of run.began.value.inbox
    pub own : written.drain.value.conn ≡ conn
    pub owes : IsPrefix written.drain.value.taken (owed (history_of run) written.drain.value.conn)
    pub whole : written.end ≡ Stopped → written.drain.value.taken ≡ owed (history_of run) written.drain.value.conn
    pub uncut : written.end ≡ Stopped → was_cut (history_of run) written.drain.value.conn ≡ false
    pub full : written.end ≡ Full → written.drain.value.capacity ≤ length written.drain.value.taken
    pub asked : (written.end ≡ Stopped) ⊎ ((written.end ≡ Full) ⊎ (written.end ≡ Lost)) → list_any (λ d. d == written.drain.value.conn) (joined (history_of run)) ≡ true
    pub lost : written.end ≡ Lost → (written.drain.value.taken ≡ owed (history_of run) written.drain.value.conn) × (was_cut (history_of run) written.drain.value.conn ≡ true)

  -- of what became of a stream that had a seat, where a session was served
  abbrev pub CourseKept : List (Shown S) → ℕ → List (Option (Poster S)) → Course O → Type 0
  CourseKept realms conn posters (course.Untouched sink) = ⊤
  CourseKept realms conn posters (course.NotOpened sink fault) = ⊤
  CourseKept realms conn posters (course.OpenedAlone sink) = ⊤
  CourseKept realms conn posters (course.Served end written) = IsKept realms conn posters written

  abbrev pub CourseTied : List (RealmRun S) → ℕ → List (Option (Poster S)) → Course O → Type 0
  CourseTied runs conn posters (course.Untouched sink) = ⊤
  CourseTied runs conn posters (course.NotOpened sink fault) = ⊤
  CourseTied runs conn posters (course.OpenedAlone sink) = ⊤
  CourseTied runs conn posters (course.Served end written) = IsTied runs conn posters written

module _ {I O S : Type 0} where
  abbrev pub OverKept : List (Shown S) → Over I O S → Type 0
  OverKept realms (Seated reader ended) = CourseKept realms reader.value.conn reader.value.posters.items ended.value.course
  OverKept realms (TurnedAway halves source sink) = ⊤
  OverKept realms (Untouched halves) = ⊤

  abbrev pub OverTied : List (RealmRun S) → Over I O S → Type 0
  OverTied runs (Seated reader ended) = CourseTied runs reader.value.conn reader.value.posters.items ended.value.course
  OverTied runs (TurnedAway halves source sink) = ⊤
  OverTied runs (Untouched halves) = ⊤

module _ {S : Type 0} where
  -- a realm's actor begins so: nothing has entered, and no word is drawn
  pub record IsBegun (start : Start) (work : ActorThread S) : Type 0 where
    pub history : work.kept ≡ begun start.grants
    pub words : work.words ≡ record { is_counting = are_counted start.ids; given = [] }

  -- as the plan's configuration asks for
  abbrev pub IsBegunBy : Plan → Shown S → Type 0
  IsBegunBy plan realm = IsBegun (start_of plan.config.value) realm.work

  -- a realm began so and ran, and then its inbox was emptied
  pub record IsRun (start : Start) (run : RealmRun S) : Type 0 where
    pub begins : IsBegun start run.began.value
    pub acts : Acts run.began.value run.ended.value
    pub more : IsPrefix (received run.ended.value.inbox) (received run.inbox.value)
