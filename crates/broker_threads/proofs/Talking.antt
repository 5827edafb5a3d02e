-- What is read and posted once a session is opened.
use Rattle.std.proofs.Common.{◌≡◌, ◌⊎◌, ℕ, Bool, true, List, [], ◌∷◌, ◌++◌, Ok, Err, refl, sym, ap, subst, inl, inr}
use Rattle.connection.specs.Reader.{Start, ReadsSince, ReadsUntil, IsReadBy}
use Rattle.connection.specs.declared.reader.ReadEnd.{ReadEnd}
use Rattle.connection.specs.declared.reader.ReadEnd.TheVariants.{ActorGone, Ended, NoMemory}
use Rattle.rawsocket.specs.Devices.{Reading}
use Rattle.rawsocket.specs.Steps.{read_meter}
use Rattle.realm_inbox.proofs.PosterLemmas.{posts_on}
use Rattle.realm_inbox.specs.EndViews.{posted, posted_by, poster_conn, inbox_of_poster}
use Rattle.realm_inbox.specs.Posted.{Posted}
use Rattle.realm_inbox.specs.declared.act.Act.{Act}
use Rattle.realm_inbox.specs.declared.act.Act.TheVariants.{Join}
use Rattle.realm_inbox.specs.declared.ends.Poster.{Poster}
use Rattle.realm_inbox.specs.declared.joining.Joining.{Joining}
use Rattle.session.specs.Opened.{session as session_of}
use Rattle.broker_threads.specs.Begun.{IsMade, IsRefused, course_of, room_of}
use Rattle.broker_threads.specs.Sights.{Sight}
use Rattle.broker_threads.specs.Talks.{Passage, passage, Converses, ReadsOn, StandsStill, Talks}
use Rattle.broker_threads.specs.declared.course.Course.{Course}
use Rattle.broker_threads.specs.declared.talk.Made.{Made}
use Rattle.broker_threads.specs.declared.talk.Refused.{Refused}
use Rattle.broker_threads.specs.declared.talk.Refused.TheVariants as refused
use Rattle.broker_threads.specs.declared.talk.Session.{Session as TheSession}
use Rattle.broker_threads.specs.declared.writer_thread.Writer.{Writer}

module _ {I S : Type 0} (seen : I → Reading) where
  -- the Join was posted, and behind it what was read
  pub posted_behind : (begun : Start) (joining : Joining S) (source_before source : I) (before between now : Poster S) (end : ReadEnd)
      → posted between ≡ posted before ++ (poster_conn before, Join joining) ∷ [] → (poster_conn between ≡ poster_conn before) × (inbox_of_poster between ≡ inbox_of_poster before)
      → ReadsSince (seen source_before).given (seen source).given (posted_by between) (posted_by now) (IsReadBy begun end) → (end ≡ Ended → (seen source).is_ended ≡ true)
      → ReadsUntil (read_meter (seen source_before)) (read_meter (seen source)) end
      → Converses seen begun joining (passage source_before before) (passage source now) end
  posted_behind begun joining source_before source before between now end e same h ended reads = inl (record {
    posted = subst (λ (p : Posted S). ReadsSince (seen source_before).given (seen source).given p (posted_by now) (IsReadBy begun end)) (posts_on (Ok tt) (Join joining) before between e same) h;
    ended = ended;
    reads = reads;
  })

  -- the Join came back
  pub came_back : (begun : Start) (joining : Joining S) (source : I) (before now : Poster S) (back : Act S) → (back ≡ Join joining) × (posted now ≡ posted before)
      → (poster_conn now ≡ poster_conn before) × (inbox_of_poster now ≡ inbox_of_poster before)
      → Converses seen begun joining (passage source before) (passage source now) ActorGone
  came_back begun joining source before now back e same = let r = posts_on (Err back) (Join joining) before now e same in inr (record { unread = refl; unposted = r.1 }, refl)

  -- more was read and posted, or nothing
  pub went_on : (begun : Start) (joining : Joining S) (before now : Passage I S) (end : ReadEnd) → Converses seen begun joining before now end ⊎ (StandsStill before now × (end ≡ NoMemory))
      → ReadsOn seen begun joining before now end ⊎ StandsStill before now
  went_on begun joining before now end (inl (inl read)) = inl read
  went_on begun joining before now end (inl (inr back)) = inr back.0
  went_on begun joining before now end (inr none) = inr none.0

  pub from_start : (begun other : Start) (joining : Joining S) (before now : Passage I S) (end : ReadEnd) → begun ≡ other → Converses seen begun joining before now end
      → Converses seen other joining before now end
  from_start begun other joining before now end e h = subst (λ (b : Start). Converses seen b joining before now end) e h

module _ {O S : Type 0} where
  -- the same writer, by another name
  pub made_as : (session : TheSession O S) (poster : Poster S) (made : Made S) (writer same : Writer O S) → same ≡ writer → IsMade session poster made writer → IsMade session poster made same
  made_as session poster made writer same e h = subst (λ (w : Writer O S). IsMade session poster made w) (sym e) h

module _ {I O S : Type 0} (see : Sight I O) where
  -- no writer runs for it
  pub none_begun : (session : TheSession O S) (source : I) (poster now : Poster S) (cause : Refused O) (course : Course O)
      → now ≡ poster → course ≡ course_of cause → IsRefused see.writing session poster cause
      → Talks see (room_of session) (session_of session.opened) session.sink (passage source poster) (passage source now) course
  none_begun session source poster now cause course e f h =
      subst (λ (c : Course O). Talks see (room_of session) (session_of session.opened) session.sink (passage source poster) (passage source now) c) (sym f) (by_cause cause h)
    where
      by_cause : (r : Refused O) → IsRefused see.writing session poster r → Talks see (room_of session) (session_of session.opened) session.sink (passage source poster) (passage source now) (course_of r)
      by_cause (refused.Memory closed) w = (ap (passage source) e, w)
      by_cause (refused.Thread written) w = record { joining = w.joining; writer = w.writer; begins = w.begins; converses = inr (record { unread = refl; unposted = ap posted_by e }, refl); writes = w.writes }
