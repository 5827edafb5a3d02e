-- Each stream that is over keeps its name.
use Rattle.std.proofs.Common.{◌≡◌, List, Option, refl, ap, ◌∙◌}
use mathlib.Core.Logic.{◌⊎◌, inl, inr}
use Rattle.std.specs.Arc.{arc_value}
use Rattle.broker_threads.proofs.Lemmas.{went_on}
use Rattle.broker_threads.specs.Courses.{sink_of}
use Rattle.broker_threads.specs.Streams.{GoesBy, KeepsNames, Offer, Sight, Stream, offer_of, stream}
use Rattle.broker_threads.specs.Talks.{ReadsOn, StandsStill, passage, start_of}
use Rattle.broker_threads.specs.declared.closed.Closed.{Closed}
use Rattle.broker_threads.specs.declared.course.Course.{Course}
use Rattle.broker_threads.specs.declared.course.Course.TheVariants as course
use Rattle.realm_inbox.specs.declared.ends.Poster.{Poster}
use Rattle.threaded_server.specs.Overs.{Went, after_of, before_of}
use Rattle.threaded_server.specs.declared.over.Over.{Over}
use Rattle.threaded_server.specs.declared.over.Over.TheVariants.{Seated, TurnedAway, Untouched}

module _ {I O S : Type 0} (see : Sight I O) (offer : Offer) where
  reader_keeps_names : (before : Stream I O S) (source : Closed I) (back : List (Option (Poster S))) (c : Course O) → GoesBy see offer before source back c → KeepsNames see (before.source, before.sink) (source.last.value, (sink_of c).last.value)
  reader_keeps_names before source back (course.Untouched sink) h = record { read = ap (λ (x : I). (see.reading x).name) h.0; written = ap (λ (x : O). (see.writing x).name) h.1 }
  reader_keeps_names before source back (course.NotOpened sink fault) h = h.0.same
  reader_keeps_names before source back (course.OpenedAlone sink) h = h.0.1.same
  reader_keeps_names before source back (course.Served end written) h = record {
    read = by_talk (went_on see.reading (start_of h.session) h.talks.joining (passage h.opened_source h.poster) (passage source.last.value h.left) end h.talks.converses) ∙ h.opens.same.read;
    written = h.talks.writes.steps.steps.name ∙ ap (λ (o : O). (see.writing o).name) h.talks.begins.writes_to ∙ h.opens.same.written;
  }
    where
      by_talk : ReadsOn see.reading (start_of h.session) h.talks.joining (passage h.opened_source h.poster) (passage source.last.value h.left) end ⊎ StandsStill (passage h.opened_source h.poster) (passage source.last.value h.left) → (see.reading source.last.value).name ≡ (see.reading h.opened_source).name
      by_talk (inl r) = r.reads.steps.steps.name
      by_talk (inr r) = ap (λ (x : I). (see.reading x).name) r.unread

module _ {I O S : Type 0} (see : Sight I O) (offer : Offer) where
  pub over_keeps_names : (over : Over I O S) → Went see offer over → KeepsNames see (before_of over) ((after_of over).source, (after_of over).sink)
  over_keeps_names (Seated reader ended) h =
      let r = reader.value in
      reader_keeps_names see (offer_of (arc_value r.plan)) (stream r.source r.sink r.posters.items) ended.value.source ended.value.posters.items ended.value.course h.1
  over_keeps_names (TurnedAway halves source sink) h = h.same
  over_keeps_names (Untouched halves) h = record { read = refl; written = refl }
