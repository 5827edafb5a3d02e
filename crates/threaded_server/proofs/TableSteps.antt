-- What is left of a stream that goes over.
use Rattle.std.proofs.Common.{◌≡◌, List, [], ◌∷◌, ◌++◌, refl, sym, ap, ◌∙◌}
use Rattle.std.specs.declared.snapshot.Snapshot.{Snapshot}
use Rattle.threaded_server.proofs.RosterSteps.{seated_after}
use Rattle.broker_threads.specs.Courses.{fate_of, sink_of}
use Rattle.broker_threads.specs.declared.stream_fate.StreamFate.{StreamFate}
use Rattle.broker_threads.specs.declared.stream_fate.StreamFate.TheVariants.{NoMemory, NoSeat}
use Rattle.threaded_server.specs.Lending.{returned}
use Rattle.threaded_server.specs.Overs.{Adds, AddsUntouched, after_of}
use Rattle.broker_threads.specs.declared.closed.Closed.{Closed}
use Rattle.threaded_server.specs.declared.over.Over.{Over}
use Rattle.threaded_server.specs.declared.over.Over.TheVariants.{Seated, TurnedAway, Untouched}
use Rattle.broker_threads.specs.declared.reader_thread.Ended.{Ended}
use Rattle.broker_threads.specs.declared.reader_thread.Reader.{Reader}

-- what is left of a stream, each known by itself
each : {I O : Type 0} (source x : I) (sink y : O) (fate z : StreamFate) → source ≡ x → sink ≡ y → fate ≡ z → returned source sink fate ≡ returned x y z
each source x sink y fate z e f g = λ i. returned (e i) (f i) (g i)

-- one more is lent
pub lent_on : {A : Type 0} (old between new : List A) (h k : A) → new ≡ between ++ h ∷ [] → h ≡ k → between ≡ old → new ≡ old ++ k ∷ []
lent_on old between new h k e f g = e ∙ ap (λ x. between ++ x ∷ []) f ∙ ap (λ xs. xs ++ k ∷ []) g

module _ {I O S : Type 0} where
  pub untouched_adds : (before now : List (Over I O S)) (halves : I × O) (source : I) (sink : O) (fate : StreamFate) → AddsUntouched before now halves → source ≡ halves.0 → sink ≡ halves.1 → fate ≡ NoMemory
      → Adds before now (returned source sink fate)
  untouched_adds before now halves source sink fate a g h none =
      record { over = Untouched a.shown; added = a.added; after = ap (λ (x : I × O). returned x.0 x.1 NoMemory) a.shows ∙ sym (each source halves.0 sink halves.1 fate NoMemory g h none) }

  pub turned_adds : (before now : List (Over I O S)) (halves : Snapshot (I × O)) (from : Snapshot I) (to : Snapshot O) (over : Over I O S) (x source : I) (y sink : O) → now ≡ before ++ over ∷ [] → over ≡ TurnedAway halves from to → from.value ≡ x → to.value ≡ y → source ≡ x → sink ≡ y
      → Adds before now (returned source sink NoSeat)
  turned_adds before now halves from to over x source y sink added e f g h k =
      record { over = over; added = added; after = ap after_of e ∙ each from.value x to.value y NoSeat NoSeat f g refl ∙ sym (each source x sink y NoSeat NoSeat h k refl) }

  pub seated_adds : (before now : List (Over I O S)) (began : Snapshot (Reader I O S)) (shown : Snapshot (Ended I O S)) (ended : Ended I O S) (over : Over I O S) (source : Closed I) (sink : Closed O) (fate : StreamFate) → now ≡ before ++ over ∷ [] → over ≡ Seated began shown → shown.value ≡ ended
      → source ≡ ended.source → sink ≡ sink_of ended.course → fate ≡ fate_of ended.course → Adds before now (returned source.last.value sink.last.value fate)
  seated_adds before now began shown ended over source sink fate added e f g h k = record {
    over = over;
    added = added;
    after = seated_after began shown ended over e f ∙ sym (each source.last.value ended.source.last.value sink.last.value (sink_of ended.course).last.value fate (fate_of ended.course) (ap (λ (c : Closed I). c.last.value) g) (ap (λ (c : Closed O). c.last.value) h) k);
  }
