-- What is left where a connection is over.
use Rattle.std.specs.Prelude.{Option, None, option_map}
use Rattle.broker_threads.specs.declared.closed.Closed.{Closed}
use Rattle.broker_threads.specs.declared.course.Course.{Course}
use Rattle.broker_threads.specs.declared.course.Course.TheVariants as course
use Rattle.broker_threads.specs.declared.stream_fate.StreamFate.{StreamFate}
use Rattle.broker_threads.specs.declared.stream_fate.StreamFate.TheVariants.{NoMemory, NotOpened, OpenedAlone, Served}
use Rattle.broker_threads.specs.declared.writer_thread.SeenHistory.{SeenHistory}
use Rattle.broker_threads.specs.declared.writer_thread.Written.{Written}

-- the half of a stream that was written to, as it was let go of
abbrev pub sink_of : {O : Type 0} → Course O → Closed O
sink_of (course.Untouched sink) = sink
sink_of (course.NotOpened sink fault) = sink
sink_of (course.OpenedAlone sink) = sink
sink_of (course.Served end written) = written.sink

-- what a writer saw last of its realm's history, if it took anything
abbrev pub seen_by : {O : Type 0} → Written O → Option SeenHistory
seen_by written = option_map (λ h. record { realm = written.realm; history = h }) written.seen

abbrev pub seen_of : {O : Type 0} → Course O → Option SeenHistory
seen_of (course.Untouched sink) = None
seen_of (course.NotOpened sink fault) = None
seen_of (course.OpenedAlone sink) = None
seen_of (course.Served end written) = seen_by written

-- what its acceptor is told of it
abbrev pub fate_of : {O : Type 0} → Course O → StreamFate
fate_of (course.Untouched sink) = NoMemory
fate_of (course.NotOpened sink fault) = NotOpened fault
fate_of (course.OpenedAlone sink) = OpenedAlone
fate_of (course.Served end written) = Served (record { read = end; write = written.end })
