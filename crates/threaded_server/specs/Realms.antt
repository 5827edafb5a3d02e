-- What the accepting thread has of the realms.
use Rattle.std.specs.Prelude.{◌≡◌, ◌<◌, ◌+◌, ℕ, List, [], ◌∷◌, ◌++◌, Option, None, Some, All, map, set, slice_get}
use mathlib.Core.List.{IsPrefix}
use Rattle.chronicle.specs.Recorded.{Reaches}
use Rattle.outbox_queue.specs.Ends.{IsOf}
use Rattle.outbox_queue.specs.Tied.{Kept}
use Rattle.realm.specs.History.{History, Begins}
use Rattle.realm_inbox.specs.Behind.{told_by}
use Rattle.realm_inbox.specs.EndViews.{inbox_of, posted, received, told}
use Rattle.realm_inbox.specs.EndViews.{shown as shown_to}
use Rattle.realm_inbox.specs.Ends.{Place}
use Rattle.realm_inbox.specs.Seats.{at_seat}
use Rattle.realm_inbox.specs.declared.ends.Poster.{Poster}
use Rattle.broker_threads.specs.Acts.{Acts}
use Rattle.threaded_server.specs.Posters.{poster_at}
use Rattle.broker_threads.specs.declared.actor_thread.Acted.{Acted}
use Rattle.broker_threads.specs.declared.actor_thread.ActorThread.{ActorThread}
use Rattle.threaded_server.specs.declared.realm_handle.RealmHandle.{RealmHandle}
use Rattle.threaded_server.specs.declared.realm_run.RealmRun.{RealmRun}
use Rattle.threaded_server.specs.declared.realms.Realms.{Realms}
use Rattle.broker_threads.specs.declared.writer_thread.SeenHistory.{SeenHistory}

-- of a realm: what its actor's thread was given, and what the writers of its sessions saw last of its history, where they are over
pub record Shown (S : Type 0) : Type 0 where
  pub work : ActorThread S
  pub seen : List (Kept History)

module _ {S : Type 0} where
  abbrev pub shown : RealmHandle S → Shown S
  shown handle = record { work = handle.began.value; seen = handle.seen.items }

  abbrev pub realms_of : Realms S → List (Shown S)
  realms_of realms = map shown realms.handles.items

  -- the inbox that its actor runs on
  abbrev pub inbox_in : Shown S → Place S
  inbox_in realm = inbox_of realm.work.inbox

  abbrev pub places_of : List (Shown S) → List (Place S)
  places_of realms = map inbox_in realms

  -- with one that was seen last
  abbrev pub with_seen : Shown S → Kept History → Shown S
  with_seen r kept = record r { seen = r.seen ++ kept ∷ [] }

  -- what was seen is of its realm's chronicle, if one is picked for its inbox
  pub record IsAtHome (realms : List (Shown S)) (seen : SeenHistory) : Type 0 where
    pub realm : Shown S
    pub at : slice_get realms seen.realm ≡ Some realm
    pub of : IsOf (λ (h : Kept History) chronicle. h.chronicle ≡ chronicle) (Some seen.history) (inbox_in realm).2

  -- its realm keeps it
  pub record Keeps (realms : List (Shown S)) (seen : SeenHistory) (now : List (Shown S)) : Type 0 where
    pub realm : Shown S
    pub at : slice_get realms seen.realm ≡ Some realm
    pub kept : now ≡ set realms seen.realm (with_seen realm seen.history)

  -- if there is any
  abbrev pub TakesIn : List (Shown S) → Option SeenHistory → List (Shown S) → Type 0
  TakesIn realms None now = now ≡ realms
  TakesIn realms (Some seen) now = Keeps realms seen now

  -- a realm's actor's thread gave back what it should, and what was seen last of its history begins what its chronicle has
  pub record GivesBack (realm : Shown S) (began : ActorThread S) (done : Acted S) : Type 0 where
    pub given : began ≡ realm.work
    pub acts : Acts began done
    pub begins : All (λ kept. Reaches Begins (Some kept.history) done.chronicle.history) realm.seen

  -- A realm ran: so did its actor's thread, and then its inbox was emptied. What the stops told that the actor's thread received begins what its door's told, the last two of them what
  -- that was shown in the end
  pub record RunsTo (realm : Shown S) (run : RealmRun S) : Type 0 where
    pub back : GivesBack realm run.began.value run.ended.value
    pub stops : IsPrefix (told_by (received run.ended.value.inbox)) (told run.door.value ++ shown_to run.door.value ∷ shown_to run.door.value ∷ [])
    pub more : IsPrefix (received run.ended.value.inbox) (received run.inbox.value)

  -- each of them did, in their order
  abbrev pub EachRuns : List (Shown S) → List (RealmRun S) → Type 0
  EachRuns [] [] = Unit {0}
  EachRuns [] (run ∷ runs) = ⊥
  EachRuns (realm ∷ realms) [] = ⊥
  EachRuns (realm ∷ realms) (run ∷ runs) = RunsTo realm run × EachRuns realms runs

  -- what each realm received of a seat is what was posted there, by the realm's poster of that seat
  abbrev pub AllReceived : List (RealmRun S) → List (Option (List (Option (Poster S)))) → Type 0
  AllReceived runs slots = (realm k : ℕ) (run : RealmRun S) (p : Poster S) → slice_get runs realm ≡ Some run → k < 256 → poster_at slots k realm ≡ Some p → at_seat (k + 1) (received run.inbox.value) ≡ posted p
