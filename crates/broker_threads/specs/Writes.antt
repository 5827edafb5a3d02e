-- What a writer's thread gives back, beside what it was given.
use Rattle.std.specs.Prelude.{◌≡◌, ◌<◌, ℕ, Bool, List, [], Option, None}
use Rattle.atomic_table.specs.Seated.{TableId}
use Rattle.connection.specs.Writer.{WritesSince, IsLater, IsWrittenBy, write_told}
use Rattle.connection.specs.declared.writer.WriteEnd.TheVariants.{Stopped, Full, Lost, Dropped}
use Rattle.outbox_queue.specs.Ends.{Taking, TookFull, TookLost, TookUnvouched, TookWhole, Owes, IsOf, newest}
use Rattle.outbox_queue.specs.Tied.{Kept}
use Rattle.rawsocket.specs.Devices.{Writing}
use Rattle.rawsocket.specs.Steps.{WriteSteps}
use Rattle.realm.specs.History.{History, Begins}
use Rattle.realm.specs.Yield.{owed}
use Rattle.realm_inbox.specs.Over.{OwesNoMore, was_cut}
use Rattle.wamp_messages.specs.declared.item.Item.{Item}
use Rattle.broker_threads.specs.declared.writer_thread.Writer.{Writer}
use Rattle.broker_threads.specs.declared.writer_thread.Written.{Written}

-- of two histories as chronicles recorded them: the first begins the second
abbrev pub BeginsKept : Kept History → Kept History → Type 0
BeginsKept h k = Begins h.history k.history

-- what a history that was recorded owes a connection
abbrev pub owed_kept : Kept History → ℕ → List Item
owed_kept h conn = owed h.history conn

-- it owes the connection nothing more, however it goes on
abbrev pub over_kept : Kept History → ℕ → Type 0
over_kept h conn = OwesNoMore h.history conn

-- a Cut of the connection stands in it
abbrev pub cut_kept : Kept History → ℕ → Bool
cut_kept h conn = was_cut h.history conn

-- a drain from which nothing was taken, of this queue, capacity, connection and chronicle, if one is picked
abbrev pub IsNewDrain : TableId → ℕ → ℕ → Option TableId → Taking Item (Kept History) → Type 0
IsNewDrain queue room conn home drain =
    (drain.queue ≡ queue) × (drain.conn ≡ conn) × (drain.chronicle ≡ home) × (drain.taken ≡ []) × (drain.seen ≡ None) × (drain.capacity ≡ room)

module _ {O S : Type 0} (seen_of : O → Writing) where
  -- what the writer took from its drain it wrote to its sink, in its serialization and limit, up to its end. The newest history that the drain knows comes back with it: that
  -- history is of the drain's chronicle, and owes the connection what was taken, or more. Where it stopped, all that was added was taken, and a history came that owes just that
  -- and has no Cut of the connection; where the session was lost, the same came, but has one; where the outbox was found full, as many items as it holds were taken, or more; where it
  -- was dropped, no history came
  pub record Writes (w : Writer O S) (done : Written O) : Type 0 where
    pub realm : done.realm ≡ w.realm
    pub written : WritesSince w.drain.taken done.drain.value.taken (seen_of w.sink).taken (seen_of done.sink.last.value).taken (IsWrittenBy w.serializer w.limit done.end)
    pub later : IsLater BeginsKept w.drain done.drain.value
    pub stopped : done.end ≡ Stopped → w.drain.empty_finds < done.drain.value.empty_finds
    pub steps : WriteSteps (seen_of w.sink) (seen_of done.sink.last.value) (write_told done.end)
    pub whole : done.end ≡ Stopped → TookWhole owed_kept over_kept cut_kept done.drain.value
    pub full : done.end ≡ Full → (w.drain.empty_finds < done.drain.value.empty_finds) × TookFull owed_kept over_kept cut_kept done.drain.value
    pub lost : done.end ≡ Lost → (w.drain.empty_finds < done.drain.value.empty_finds) × TookLost owed_kept over_kept cut_kept done.drain.value
    pub dropped : done.end ≡ Dropped → (w.drain.empty_finds < done.drain.value.empty_finds) × TookUnvouched owed_kept over_kept cut_kept done.drain.value
    pub seen : done.seen ≡ newest done.drain.value
    pub owes : Owes owed_kept (newest done.drain.value) done.drain.value.conn done.drain.value.taken
    pub of : IsOf (λ h chronicle. h.chronicle ≡ chronicle) (newest done.drain.value) done.drain.value.chronicle
