-- How the reader of a stream is started.
use Rattle.std.specs.Prelude.{◌≡◌, ℕ, List, Option}
use Rattle.std.specs.Arc.{arc_value}
use Rattle.realm_inbox.specs.declared.ends.Poster.{Poster}
use Rattle.broker_threads.specs.Streams.{Reads, Sight}
use Rattle.threaded_server.specs.declared.starting.Started.{Started}
use Rattle.threaded_server.specs.declared.starting.Started.TheVariants as started
use Rattle.broker_threads.specs.declared.plan.Plan.{Plan}
use Rattle.broker_threads.specs.declared.reader_thread.Reader.{Reader}

module _ {I O S : Type 0} (see : Sight I O) where
  -- a reader runs in a thread of its own, or gave back what it had
  abbrev pub Runs : Reader I O S → Started I O S → Type 0
  Runs reader (started.Runs halves entry) = (halves.value ≡ (reader.source, reader.sink)) × (entry.began.value ≡ reader)
  Runs reader (started.Ended halves began ended) = (halves.value ≡ (reader.source, reader.sink)) × (began.value ≡ reader) × Reads see reader ended
  Runs reader (started.Refused halves posters) = ⊥

  -- the reader of a connection has the halves of its stream and these posters, and serves by the plan
  pub record IsReader (plan : Plan) (conn : ℕ) (lent : I × O) (posters : List (Option (Poster S))) (reader : Reader I O S) : Type 0 where
    pub halves : (reader.source, reader.sink) ≡ lent
    pub serves : arc_value reader.plan ≡ plan
    pub number : reader.conn ≡ conn
    pub posts : reader.posters.items ≡ posters

  abbrev pub Starts : Plan → ℕ → I × O → List (Option (Poster S)) → Started I O S → Type 0
  Starts plan conn lent posters (started.Runs halves entry) = (halves.value ≡ lent) × IsReader plan conn lent posters entry.began.value
  Starts plan conn lent posters (started.Ended halves began ended) = (halves.value ≡ lent) × IsReader plan conn lent posters began.value × Reads see began.value ended
  Starts plan conn lent posters (started.Refused halves back) = (halves ≡ lent) × (back.items ≡ posters)
