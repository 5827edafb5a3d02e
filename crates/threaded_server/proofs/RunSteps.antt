-- How the realms ran, and what their histories owe.
use Rattle.std.proofs.Common.{◌≡◌, ◌<◌, ◌≤◌, ◌+◌, ◌==◌, ℕ, zero, suc, Bool, true, false, List, [], ◌∷◌, ◌++◌, Option, None, Some, All, IfSome, length, option_map, remove, slice_get, slice_index_or, refl, sym, ap, ◌∙◌, append_assoc, append-nil, arith, subst}
use mathlib.Core.List.{IsPrefix}
use mathlib.Core.Logic.{◌⊎◌, inl, inr}
use Rattle.std.specs.List.{list_any}
use Rattle.std.proofs.lemmas.Bool.{or_right}
use Rattle.std.proofs.lemmas.List.Elements.{All-contains, All-cons, All-head, All-nil, All-pop, All-tail, All-weaker}
use Rattle.std.proofs.lemmas.Option.{get_or_from_slice_get, none-some, same_Some, slice_get_within}
use Rattle.chronicle.specs.Recorded.{Reaches, Recorded}
use Rattle.outbox_queue.proofs.OwedBeginnings.{prefix-on}
use Rattle.outbox_queue.specs.Ends.{IsVouched, Last, Owes, Taking, TookAll, TookFull, TookOwed, Vouches, came_with, newest, or_else}
use Rattle.outbox_queue.specs.Tied.{Kept}
use Rattle.connection.specs.declared.writer.WriteEnd.TheVariants.{Full, Lost, Stopped}
use Rattle.realm.specs.History.{Begins, History, ◌▷◌}
use Rattle.realm.specs.History as grown
use Rattle.realm.specs.Sessions.{IsHistory, joined}
use Rattle.realm.specs.Yield.{owed}
use Rattle.realm.specs.declared.entry.Entry.{Entry}
use Rattle.realm.specs.declared.entry.Entry.TheVariants as entry
use Rattle.realm_inbox.specs.HistoryBeginnings.{owed_more}
use Rattle.realm_inbox.specs.Behind.{told_by}
use Rattle.realm_inbox.specs.EndViews.{inbox_of, posted, received, told}
use Rattle.realm_inbox.specs.EndViews.{shown as shown_to}
use Rattle.realm_inbox.specs.Ends.{Place}
use Rattle.realm_inbox.specs.Over.{was_cut}
use Rattle.realm_inbox.specs.Seats.{at_seat}
use Rattle.realm_inbox.specs.declared.door.Door.{Door}
use Rattle.realm_inbox.specs.declared.ends.Inbox.{Inbox}
use Rattle.realm_inbox.specs.declared.ends.Poster.{Poster}
use Rattle.wamp_messages.specs.declared.item.Item.{Item}
use Rattle.std.specs.declared.snapshot.Snapshot.{Snapshot}
use Rattle.broker_threads.proofs.Lemmas.{none_left}
use Rattle.threaded_server.proofs.Places.{get_of_map, get_push_cases, get_seam, map_get}
use Rattle.threaded_server.proofs.PosterSteps.{found_poster, found_stands}
use Rattle.threaded_server.proofs.DrainSteps.{traced, traced_home, traced_posted}
use Rattle.broker_threads.specs.Acts.{Acts}
use Rattle.threaded_server.specs.Posters.{IsOfInbox, Stand, lists_at, poster_at, trace_at}
use Rattle.threaded_server.specs.Posts.{AllSay, AreIn, ReceivedPosted, posts_at}
use Rattle.threaded_server.specs.Realms.{AllReceived, EachRuns, GivesBack, RunsTo, Shown, inbox_in, places_of, shown}
use Rattle.threaded_server.specs.Histories.{Start}
use Rattle.threaded_server.specs.Ties.{CourseKept, CourseTied, IsBegun, IsKept, IsKeptIn, IsRun, IsTied, OverKept, OverTied, history_of}
use Rattle.broker_threads.specs.Writes.{cut_kept, over_kept, owed_kept}
use Rattle.broker_threads.specs.declared.actor_thread.Acted.{Acted}
use Rattle.broker_threads.specs.declared.actor_thread.ActorThread.{ActorThread}
use Rattle.threaded_server.specs.declared.realm_handle.RealmHandle.{RealmHandle}
use Rattle.broker_threads.specs.declared.course.Course.{Course}
use Rattle.broker_threads.specs.declared.course.Course.TheVariants.{Untouched, NotOpened, OpenedAlone, Served}
use Rattle.threaded_server.specs.declared.entry.Connection.{Connection}
use Rattle.threaded_server.specs.declared.over.Over.{Over}
use Rattle.threaded_server.specs.declared.over.Over.TheVariants as over
use Rattle.threaded_server.specs.declared.realm_run.RealmRun.{RealmRun}
use Rattle.broker_threads.specs.declared.writer_thread.Written.{Written}

module _ {S : Type 0} where
  -- one realm more ran
  pub one_ran : (realms : List (Shown S)) (runs : List (RealmRun S)) (realm : Shown S) (run : RealmRun S) → EachRuns realms runs → RunsTo realm run → EachRuns (realms ++ realm ∷ []) (runs ++ run ∷ [])
  one_ran [] [] realm run each h = (h, tt)
  one_ran [] (run ∷ runs) realm last each h = absurd each
  one_ran (realm ∷ realms) [] last run each h = absurd each
  one_ran (first ∷ realms) (run ∷ runs) realm last each h = (each.0, one_ran realms runs realm last each.1 h)

  -- the first of them ran
  pub record RunSoFar (all rest : List (Shown S)) (runs : List (RealmRun S)) : Type 0 where
    pub done : List (Shown S)
    pub all_are : all ≡ done ++ rest
    pub each : EachRuns done runs

  pub so_far_none : (all : List (Shown S)) (runs : List (RealmRun S)) → runs ≡ [] → RunSoFar all all runs
  so_far_none all runs e = record { done = []; all_are = refl; each = subst (λ (l : List (RealmRun S)). EachRuns [] l) (sym e) tt }

  pub so_far_on : (all rest left : List (Shown S)) (realm : Shown S) (runs now : List (RealmRun S)) (run : RealmRun S) → RunSoFar all rest runs → rest ≡ realm ∷ left → now ≡ runs ++ run ∷ [] → RunsTo realm run → RunSoFar all left now
  so_far_on all rest left realm runs now run h e f ran = record {
    done = h.done ++ realm ∷ [];
    all_are = h.all_are ∙ ap (λ l. h.done ++ l) e ∙ sym (append_assoc h.done (realm ∷ []) left);
    each = subst (λ (l : List (RealmRun S)). EachRuns (h.done ++ realm ∷ []) l) (sym f) (one_ran h.done runs realm run h.each ran);
  }

  pub so_far_all : (all rest : List (Shown S)) (runs : List (RealmRun S)) → RunSoFar all rest runs → rest ≡ [] → EachRuns all runs
  so_far_all all rest runs h e = subst (λ (l : List (Shown S)). EachRuns l runs) (sym (h.all_are ∙ ap (λ l. h.done ++ l) e ∙ append-nil h.done)) h.each

  pub ran_long : (realms : List (Shown S)) (runs : List (RealmRun S)) → EachRuns realms runs → length realms ≡ length runs
  ran_long [] [] each = refl
  ran_long [] (run ∷ runs) each = absurd each
  ran_long (realm ∷ realms) [] each = absurd each
  ran_long (realm ∷ realms) (run ∷ runs) each = ap suc (ran_long realms runs each.1)

  -- the next that is to run
  next_at : (all rest : List (Shown S)) (realm : Shown S) (runs : List (RealmRun S)) → RunSoFar all (realm ∷ rest) runs → slice_get all (length runs) ≡ Some realm
  next_at all rest realm runs h = ap (λ l. slice_get l (length runs)) h.all_are ∙ ap (slice_get (h.done ++ realm ∷ rest)) (sym (ran_long h.done runs h.each)) ∙ get_seam h.done realm rest

  -- what the next one received is compared with the posters of its inbox
  pub next_stands : (all rest : List (Shown S)) (realm : Shown S) (runs : List (RealmRun S)) (began : ActorThread S) (acted : Acted S) (place : ℕ) (before now : List (Option (List (Option (Poster S))))) → RunSoFar all (realm ∷ rest) runs → length runs ≡ place → GivesBack realm began acted
      → Stand (places_of all) before → ((k : ℕ) → trace_at now k place ≡ trace_at before k place) → (k : ℕ) (p : Poster S) → poster_at now k place ≡ Some p → IsOfInbox (inbox_of acted.inbox) (k + 1) p
  next_stands all rest realm runs began acted place before now h long back stand same k p e =
      let here = map_get inbox_in all place realm (ap (slice_get all) (sym long) ∙ next_at all rest realm runs h) in
      let own : inbox_in realm ≡ inbox_of acted.inbox = ap (λ (w : ActorThread S). inbox_of w.inbox) (sym back.given) ∙ sym back.acts.inbox in
      let was = traced (poster_at before k place) (poster_at now k place) p (same k) e in
      subst (λ (i : Place S). IsOfInbox i (k + 1) p) own (traced_home (inbox_in realm) (k + 1) was.0 p was.2 (found_stands (places_of all) before k place (inbox_in realm) was.0 here stand was.1))

  -- and is what was posted by them
  pub posted_on : (runs now : List (RealmRun S)) (run : RealmRun S) (place : ℕ) (slots left : List (Option (List (Option (Poster S))))) → now ≡ runs ++ run ∷ [] → length runs ≡ place → ((k : ℕ) → trace_at left k place ≡ trace_at slots k place)
      → ((k : ℕ) (p : Poster S) → k < 256 → poster_at left k place ≡ Some p → at_seat (k + 1) (received run.inbox.value) ≡ posted p) → AllReceived runs slots → AllReceived now slots
  posted_on runs now run place slots left e long same drained all realm k other p at less there = by_place (get_push_cases runs run other realm (ap (λ l. slice_get l realm) (sym e) ∙ at))
    where
      by_place : ((realm ≡ length runs) × (run ≡ other)) ⊎ (slice_get runs realm ≡ Some other) → at_seat (k + 1) (received other.inbox.value) ≡ posted p
      by_place (inl w) =
          let here : realm ≡ place = w.0 ∙ long in
          let now = traced (poster_at left k place) (poster_at slots k place) p (sym (same k)) (ap (poster_at slots k) (sym here) ∙ there) in
          ap (λ (r : RealmRun S). at_seat (k + 1) (received r.inbox.value)) (sym w.1) ∙ drained k now.0 less now.1 ∙ traced_posted now.0 p now.2
      by_place (inr w) = all realm k other p w less there

  pub posted_none : (slots : List (Option (List (Option (Poster S))))) (runs : List (RealmRun S)) → runs ≡ [] → AllReceived runs slots
  posted_none slots runs e realm k run p at less there = absurd (none-some run (ap (λ l. slice_get l realm) (sym e) ∙ at))

  ran_at : (realms : List (Shown S)) (runs : List (RealmRun S)) (i : ℕ) (realm : Shown S) → EachRuns realms runs → slice_get realms i ≡ Some realm → (run : RealmRun S) × (slice_get runs i ≡ Some run) × RunsTo realm run
  ran_at [] runs i realm each at = absurd (none-some realm at)
  ran_at (first ∷ realms) [] i realm each at = absurd each
  ran_at (first ∷ realms) (run ∷ runs) zero realm each at = (run, refl, subst (λ (r : Shown S). RunsTo r run) (same_Some first realm at) each.0)
  ran_at (first ∷ realms) (run ∷ runs) (suc i) realm each at = ran_at realms runs i realm each.1 at

  pub all_ran : (start : Start) (realms : List (Shown S)) (runs : List (RealmRun S)) → EachRuns realms runs → All (λ r. IsBegun start r.work) realms → All (λ run. IsRun start run) runs
  all_ran start [] [] each h = All-nil (λ run. IsRun start run)
  all_ran start [] (run ∷ runs) each h = absurd each
  all_ran start (realm ∷ realms) [] each h = absurd each
  all_ran start (realm ∷ realms) (run ∷ runs) each h =
      let P = λ (r : Shown S). IsBegun start r.work in
      let back = each.0.back in
      All-cons (λ x. IsRun start x) run runs (record { begins = subst (λ (w : ActorThread S). IsBegun start w) (sym back.given) (All-head P realm realms h); acts = back.acts; more = each.0.more }) (all_ran start realms runs each.1 (All-tail P realm realms h))

-- of what was seen, what isn't left begins the history
pub record SeenSoFar (own : Option History) (all rest : List (Kept History)) : Type 0 where
  pub gone : List (Kept History)
  pub all_are : all ≡ rest ++ gone
  pub begins : All (λ kept. Reaches Begins (Some kept.history) own) gone

pub seen_none : (own : Option History) (all : List (Kept History)) → SeenSoFar own all all
seen_none own all = record { gone = []; all_are = sym (append-nil all); begins = All-nil (λ kept. Reaches Begins (Some kept.history) own) }

pub seen_on : (own : Option History) (all rest left : List (Kept History)) (last : Kept History) → rest ≡ left ++ last ∷ [] → Reaches Begins (Some last.history) own → SeenSoFar own all rest → SeenSoFar own all left
seen_on own all rest left last e r h = record {
  gone = last ∷ h.gone;
  all_are = h.all_are ∙ ap (λ l. l ++ h.gone) e ∙ append_assoc left (last ∷ []) h.gone;
  begins = All-cons (λ kept. Reaches Begins (Some kept.history) own) last h.gone r h.begins;
}

pub seen_all : (own : Option History) (all rest : List (Kept History)) → rest ≡ [] → SeenSoFar own all rest → All (λ kept. Reaches Begins (Some kept.history) own) all
seen_all own all rest e h = subst (λ l. All (λ kept. Reaches Begins (Some kept.history) own) l) (sym (h.all_are ∙ ap (λ l. l ++ h.gone) e)) h.begins

-- all that is left was seen of this chronicle
pub record Checking (own : Recorded History) (all rest : List (Kept History)) : Type 0 where
  pub here : All (λ kept. kept.chronicle ≡ own.chronicle) rest
  pub so_far : SeenSoFar own.history all rest

pub checking_none : (own : Recorded History) (all : List (Kept History)) → All (λ kept. kept.chronicle ≡ own.chronicle) all → Checking own all all
checking_none own all h = record { here = h; so_far = seen_none own.history all }

pub checking_on : (own new : Recorded History) (all rest left : List (Kept History)) (last : Kept History) → new ≡ own → rest ≡ left ++ last ∷ [] → Reaches Begins (Some last.history) own.history → Checking own all rest → Checking new all left
checking_on own new all rest left last same e r h = subst (λ (c : Recorded History). Checking c all left) (sym same) (record {
  here = (All-pop (λ (kept : Kept History). kept.chronicle ≡ own.chronicle) rest left (Some last) e h.here).0;
  so_far = seen_on own.history all rest left last e r h.so_far;
})

pub checking_all : (own was : Recorded History) (all rest : List (Kept History)) → own ≡ was → length rest ≡ 0 → Checking own all rest → All (λ kept. Reaches Begins (Some kept.history) was.history) all
checking_all own was all rest same none h = subst (λ (c : Recorded History). All (λ kept. Reaches Begins (Some kept.history) c.history) all) same (seen_all own.history all rest (none_left rest none) h.so_far)

-- the first of a list, and the others
pub first_of : {A : Type 0} (xs : List A) (x : A) → 0 < length xs → x ≡ slice_index_or xs 0 x → xs ≡ x ∷ remove xs 0
first_of [] x h e = absurd (omega (arith, h))
first_of (y ∷ ys) x h e = ap (λ z. z ∷ ys) (sym e)

module _ {S : Type 0} where
  -- a realm's actor's thread ended, and what was seen of its history was checked
  pub gave_back : (handle : RealmHandle S) (promised : ActorThread S) (acted : Acted S) (chronicle : Recorded History) (left : Acted S) → promised ≡ handle.began.value → Acts promised acted → chronicle ≡ acted.chronicle
      → left ≡ record acted { chronicle = chronicle } → All (λ kept. Reaches Begins (Some kept.history) acted.chronicle.history) handle.seen.items → GivesBack (shown handle) handle.began.value left
  gave_back handle promised acted chronicle left same acts kept e begins =
      let is : left ≡ acted = e ∙ ap (λ (c : Recorded History). record acted { chronicle = c }) kept in
      record {
        given = refl;
        acts = subst (λ (w : ActorThread S). Acts w left) same (subst (λ (a : Acted S). Acts promised a) (sym is) acts);
        begins = subst (λ (a : Acted S). All (λ kept. Reaches Begins (Some kept.history) a.chronicle.history) handle.seen.items) (sym is) begins;
      }

  -- the same, where its inbox knows more of its door
  pub acts_with : (w : ActorThread S) (acted : Acted S) (inbox : Inbox S) → Acts w acted → inbox_of inbox ≡ inbox_of acted.inbox → received inbox ≡ received acted.inbox → Acts w (record acted { inbox = inbox })
  acts_with w acted inbox h same got = record {
    inbox = same ∙ h.inbox;
    chronicle = h.chronicle;
    came = h.came;
    received = subst (λ l. IsPrefix h.came l) (sym got) h.received;
    in_order = h.in_order;
    ran = h.ran;
    ends = h.ends;
    history = h.history;
    legal = h.legal;
    words = h.words;
  }

  -- and then its inbox was emptied
  pub runs_to : (realm : Shown S) (began : Snapshot (ActorThread S)) (door : Door S) (last : Snapshot (Door S)) (acted : Acted S) (ended : Snapshot (Acted S)) (inbox : Inbox S) (left : Snapshot (Inbox S)) → last.value ≡ door → ended.value ≡ acted → left.value ≡ inbox → GivesBack realm began.value acted
      → IsPrefix (told_by (received acted.inbox)) (told door ++ shown_to door ∷ shown_to door ∷ []) → IsPrefix (received acted.inbox) (received inbox) → RunsTo realm (record { began = began; door = last; ended = ended; inbox = left })
  runs_to realm began door at_last acted ended inbox left seen is last back stops more = record {
    back = subst (λ (a : Acted S). GivesBack realm began.value a) (sym is) back;
    stops = subst (λ (d : Door S). IsPrefix (told_by (received ended.value.inbox)) (told d ++ shown_to d ∷ shown_to d ∷ [])) (sym seen) (subst (λ (a : Acted S). IsPrefix (told_by (received a.inbox)) (told door ++ shown_to door ∷ shown_to door ∷ [])) (sym is) stops);
    more = subst (λ (a : Acted S). IsPrefix (received a.inbox) (received left.value)) (sym is) (subst (λ (i : Inbox S). IsPrefix (received acted.inbox) (received i)) (sym last) more);
  }

-- what begins what a history owes begins what a longer one owes
owed_by : (o : Option (Kept History)) (own : History) (conn : ℕ) (xs : List Item) → IfSome o (λ kept. Reaches Begins (Some kept.history) (Some own)) → Owes owed_kept o conn xs → IsPrefix xs (owed own conn)
owed_by None own conn xs r e = (owed own conn, ap (λ l. l ++ owed own conn) e)
owed_by (Some kept) own conn xs r p = prefix-on xs (owed kept.history conn) (owed own conn) p (owed_more kept.history own conn r)

reached : (own : Option History) (all : List (Kept History)) (o : Option (Kept History)) → All (λ kept. Reaches Begins (Some kept.history) own) all → IsKeptIn all o → IfSome o (λ kept. Reaches Begins (Some kept.history) own)
reached own all None h k = tt
reached own all (Some kept) h k = All-contains (λ x. Reaches Begins (Some x.history) own) all kept h k

-- whose Join stands in a history, its Join stands in a longer one
asked_more : (h k : History) (c : ℕ) → Begins h k → list_any (λ d. d == c) (joined h) ≡ true → list_any (λ d. d == c) (joined k) ≡ true
asked_more h k c grown.Begins.same asked = asked
asked_more h (k ▷ e) c (grown.Begins.longer begins) asked = by_entry e (asked_more h k c begins asked)
  where
    by_entry : (e : Entry) → list_any (λ d. d == c) (joined k) ≡ true → list_any (λ d. d == c) (joined (k ▷ e)) ≡ true
    by_entry (entry.Join d word authid) there = or_right (d == c) (list_any (λ x. x == c) (joined k)) there
    by_entry (entry.Said d word said) there = there
    by_entry (entry.Ping d payload) there = there
    by_entry (entry.Spoilt d word) there = there
    by_entry (entry.Gone d word) there = there
    by_entry (entry.Cut d word) there = there
    by_entry (entry.Closed d word) there = there

-- what vouches for what was taken begins the history that was made, which owes nothing more, and cuts nobody more
vouched_by : (own : History) (kept : Kept History) (conn : ℕ) (items added : List Item) (finds : ℕ) (is_lost : Bool) → Reaches Begins (Some kept.history) (Some own) → IsHistory own → items ≡ added → Vouches owed_kept over_kept cut_kept kept conn added finds is_lost → finds ≡ 0
    → (items ≡ owed own conn) × (was_cut own conn ≡ is_lost)
vouched_by own kept conn items added finds is_lost reaches legal all vouches never = (all ∙ vouches.whole never ∙ sym (vouches.over.owes own reaches legal), vouches.over.cuts own reaches legal ∙ told is_lost vouches)
  where
    told : (b : Bool) → Vouches owed_kept over_kept cut_kept kept conn added finds b → was_cut kept.history conn ≡ b
    told false v = v.uncut never refl
    told true v = v.lost refl

-- the history that came vouches for what was taken, and begins the one that was made
record Came (own : History) (drain : Taking Item (Kept History)) (last : Last Item (Kept History)) (history : Kept History) : Type 0 where
  pub reaches : Reaches Begins (Some history.history) (Some own)
  pub vouches : Vouches owed_kept over_kept cut_kept history drain.conn last.added last.full_finds last.is_lost

came_by : (own : History) (all : List (Kept History)) (o : Option (Kept History)) (drain : Taking Item (Kept History)) (took : TookAll owed_kept over_kept cut_kept drain) (history : Kept History) → All (λ kept. Reaches Begins (Some kept.history) (Some own)) all → IsKeptIn all o → o ≡ newest drain
    → took.last.history ≡ Some history → Came own drain took.last history
came_by own all o drain took history begins kept is brought =
    let came : newest drain ≡ Some history = ap (λ (l : Option (Last Item (Kept History))). or_else (came_with l) drain.seen) took.came ∙ ap (λ (h : Option (Kept History)). or_else h drain.seen) brought in
    record {
      reaches = subst (λ (x : Option (Kept History)). IfSome x (λ k. Reaches Begins (Some k.history) (Some own))) (is ∙ came) (reached (Some own) all o begins kept);
      vouches = subst (λ (h : Option (Kept History)). IsVouched owed_kept over_kept cut_kept h drain.conn took.last.added took.last.full_finds took.last.is_lost) brought took.vouched;
    }

asked_by : (own : History) (drain : Taking Item (Kept History)) (last : Last Item (Kept History)) (history : Kept History) → Came own drain last history → list_any (λ d. d == drain.conn) (joined own) ≡ true
asked_by own drain last history came = asked_more history.history own drain.conn came.reaches came.vouches.over.asked

all_owed : (is_lost : Bool) (own : History) (all : List (Kept History)) (o : Option (Kept History)) (drain : Taking Item (Kept History)) → All (λ kept. Reaches Begins (Some kept.history) (Some own)) all → IsKeptIn all o → o ≡ newest drain → IsHistory own
    → TookOwed owed_kept over_kept cut_kept is_lost drain → (drain.taken ≡ owed own drain.conn) × (was_cut own drain.conn ≡ is_lost)
all_owed is_lost own all o drain begins kept is legal took =
    let last = took.all.last in
    let came : Came own drain last took.history = came_by own all o drain took.all took.history begins kept is took.brought in
    vouched_by own took.history drain.conn drain.taken last.added last.full_finds is_lost came.reaches legal took.all.all (subst (λ b. Vouches owed_kept over_kept cut_kept took.history drain.conn last.added last.full_finds b) took.lost came.vouches) took.never

-- as many items as the outbox holds, or more
room_taken : (drain : Taking Item (Kept History)) → TookFull owed_kept over_kept cut_kept drain → drain.capacity ≤ length drain.taken
room_taken drain took = subst (λ l. drain.capacity ≤ length l) (sym took.all.all) (took.all.room took.full)

module _ {O S : Type 0} where
  tied : (realms : List (Shown S)) (runs : List (RealmRun S)) (conn : ℕ) (posters : List (Option (Poster S))) (written : Written O) → EachRuns realms runs → IsKept realms conn posters written → IsTied runs conn posters written
  tied realms runs conn posters written each k =
      let r = ran_at realms runs written.realm k.realm each k.at in
      let back = r.2.back in
      let own = history_of r.0 in
      let begins : All (λ (kept : Kept History). Reaches Begins (Some kept.history) (Some own)) k.realm.seen = subst (λ (o : Option History). All (λ (kept : Kept History). Reaches Begins (Some kept.history) o) k.realm.seen) back.acts.history back.begins in
      record {
        run = r.0;
        at = r.1;
        poster = k.poster;
        posts = k.posts;
        inbox = k.inbox ∙ ap (λ w. inbox_of w.inbox) (sym back.given);
        own = k.own;
        owes = owed_by written.seen own written.drain.value.conn written.drain.value.taken (reached (Some own) k.realm.seen written.seen begins k.kept) k.owes;
        whole = λ stopped. (all_owed false own k.realm.seen written.seen written.drain.value begins k.kept k.newest_is back.acts.legal (k.whole stopped)).0;
        uncut = λ stopped. (all_owed false own k.realm.seen written.seen written.drain.value begins k.kept k.newest_is back.acts.legal (k.whole stopped)).1;
        full = λ found. room_taken written.drain.value (k.full found);
        asked = asked_how own k (λ took history brought. asked_by own written.drain.value took.last history (came_by own k.realm.seen written.seen written.drain.value took history begins k.kept k.newest_is brought));
        lost = λ is. all_owed true own k.realm.seen written.seen written.drain.value begins k.kept k.newest_is back.acts.legal (k.lost is);
      }
    where
      Asked : History → Type 0
      Asked own = list_any (λ d. d == written.drain.value.conn) (joined own) ≡ true

      asked_how : (own : History) → IsKept realms conn posters written → ((took : TookAll owed_kept over_kept cut_kept written.drain.value) (history : Kept History) → took.last.history ≡ Some history → Asked own)
          → (written.end ≡ Stopped) ⊎ ((written.end ≡ Full) ⊎ (written.end ≡ Lost)) → Asked own
      asked_how own k by (inl stopped) = by (k.whole stopped).all (k.whole stopped).history (k.whole stopped).brought
      asked_how own k by (inr (inl found)) = by (k.full found).all (k.full found).history (k.full found).brought
      asked_how own k by (inr (inr is)) = by (k.lost is).all (k.lost is).history (k.lost is).brought

  course_tied : (realms : List (Shown S)) (runs : List (RealmRun S)) (conn : ℕ) (posters : List (Option (Poster S))) (course : Course O) → EachRuns realms runs → CourseKept realms conn posters course → CourseTied runs conn posters course
  course_tied realms runs conn posters (Untouched sink) each k = tt
  course_tied realms runs conn posters (NotOpened sink fault) each k = tt
  course_tied realms runs conn posters (OpenedAlone sink) each k = tt
  course_tied realms runs conn posters (Served end written) each k = tied realms runs conn posters written each k

module _ {I O S : Type 0} where
  over_tied : (realms : List (Shown S)) (runs : List (RealmRun S)) (o : Over I O S) → EachRuns realms runs → OverKept realms o → OverTied runs o
  over_tied realms runs (over.Seated reader ended) each k = course_tied realms runs reader.value.conn reader.value.posters.items ended.value.course each k
  over_tied realms runs (over.TurnedAway halves source sink) each k = tt
  over_tied realms runs (over.Untouched halves) each k = tt

  pub all_tied : (realms : List (Shown S)) (runs : List (RealmRun S)) (overs : List (Over I O S)) → EachRuns realms runs → All (λ o. OverKept realms o) overs → All (λ o. OverTied runs o) overs
  all_tied realms runs overs each all = All-weaker (λ o. OverKept realms o) (λ o. OverTied runs o) (λ o. over_tied realms runs o each) overs all

  -- at the end all posters are free, and say what the streams posted
  pub received_posted : (whole : ℕ) (realms : List (Shown S)) (runs : List (RealmRun S)) (slots taken : List (Option (List (Option (Poster S))))) (overs : List (Over I O S)) → EachRuns realms runs → AllReceived runs slots → ((k : ℕ) (posters : List (Option (Poster S))) → slice_get taken k ≡ Some (Some posters) → ⊥)
      → AllSay posted whole (length realms) (λ realm number. posts_at realm number overs) slots taken → ReceivedPosted runs overs
  received_posted whole realms runs slots taken overs each all none say realm k run at less = by_table (say k less)
    where
      by_table : AreIn posted whole (length realms) k (λ realm number. posts_at realm number overs) slots taken ⊎ AreIn posted whole (length realms) k (λ realm number. posts_at realm number overs) taken slots → at_seat (k + 1) (received run.inbox.value) ≡ posts_at realm (k + 1) overs
      by_table (inr a) = absurd (none k a.posters a.at)
      by_table (inl a) =
          let p = a.say.each realm (subst (λ (n : ℕ). realm < n) (sym (ran_long realms runs each)) (slice_get_within runs realm run at)) in
          all realm k run p.0 at less (found_poster slots k realm a.posters p.0 a.at p.1) ∙ p.2

  -- nobody is at a place where nobody is anywhere
  pub nobody_there : (entries : List (Option (Connection I O S))) → All (λ slot. slot ≡ None) entries → (k : ℕ) (posters : List (Option (Poster S))) → slice_get (lists_at entries) k ≡ Some (Some posters) → ⊥
  nobody_there entries none k posters e =
      let o = get_of_map (option_map (λ (entry : Connection I O S). entry.began.value.posters.items)) entries k (Some posters) e in
      let free : o.0 ≡ None = sym (get_or_from_slice_get entries k o.0 o.0 o.1) ∙ none k o.0 (slice_get_within entries k o.0 o.1) in
      none-some posters (ap (option_map (λ (entry : Connection I O S). entry.began.value.posters.items)) (sym free) ∙ o.2)
