-- What a writer's thread gives back, by what its writer wrote.
use Rattle.std.proofs.Common.{◌≡◌, ◌<◌, ℕ, List, sym, subst}
use Rattle.connection.specs.Writer.{WritesSince, IsLater, IsWrittenBy, write_told}
use Rattle.connection.specs.declared.writer.WriteEnd.TheVariants.{Stopped, Full, Lost, Dropped}
use Rattle.outbox_queue.specs.Ends.{Taking, TookFull, TookLost, TookUnvouched, TookWhole, Owes, IsOf, newest}
use Rattle.outbox_queue.specs.Tied.{Kept}
use Rattle.rawsocket.specs.Devices.{Writing}
use Rattle.rawsocket.specs.Steps.{WriteSteps}
use Rattle.realm.specs.History.{History}
use Rattle.wamp_messages.specs.declared.item.Item.{Item}
use Rattle.broker_threads.specs.Writes.{BeginsKept, Writes, cut_kept, over_kept, owed_kept}
use Rattle.broker_threads.specs.declared.writer_thread.Writer.{Writer}
use Rattle.broker_threads.specs.declared.writer_thread.Written.{Written}

module _ {O S : Type 0} (seen_of : O → Writing) where
  -- the drain and the sink as they were left, and what is known of them
  pub wrote : (w : Writer O S) (done : Written O) (drain : Taking Item (Kept History)) (sink : O) → done.drain.value ≡ drain → done.sink.last.value ≡ sink → done.realm ≡ w.realm
      → WritesSince w.drain.taken drain.taken (seen_of w.sink).taken (seen_of sink).taken (IsWrittenBy w.serializer w.limit done.end) → IsLater BeginsKept w.drain drain
      → (done.end ≡ Stopped → w.drain.empty_finds < drain.empty_finds) → WriteSteps (seen_of w.sink) (seen_of sink) (write_told done.end)
      → (done.end ≡ Stopped → TookWhole owed_kept over_kept cut_kept drain) → (done.end ≡ Full → (w.drain.empty_finds < drain.empty_finds) × TookFull owed_kept over_kept cut_kept drain)
      → (done.end ≡ Lost → (w.drain.empty_finds < drain.empty_finds) × TookLost owed_kept over_kept cut_kept drain)
      → (done.end ≡ Dropped → (w.drain.empty_finds < drain.empty_finds) × TookUnvouched owed_kept over_kept cut_kept drain)
      → done.seen ≡ newest drain → Owes owed_kept (newest drain) drain.conn drain.taken → IsOf (λ h chronicle. h.chronicle ≡ chronicle) (newest drain) drain.chronicle
      → Writes seen_of w done
  wrote w done drain sink e f realm written later stopped steps whole full lost dropped seen owes of =
      let D : Type 0 = Taking Item (Kept History) in
      let here : done.drain.value ≡ drain = e in
      record {
        realm = realm;
        written = subst (λ (d : D). WritesSince w.drain.taken d.taken (seen_of w.sink).taken (seen_of done.sink.last.value).taken (IsWrittenBy w.serializer w.limit done.end)) (sym here)
            (subst (λ (o : O). WritesSince w.drain.taken drain.taken (seen_of w.sink).taken (seen_of o).taken (IsWrittenBy w.serializer w.limit done.end)) (sym f) written);
        later = subst (λ (d : D). IsLater BeginsKept w.drain d) (sym here) later;
        stopped = subst (λ (d : D). done.end ≡ Stopped → w.drain.empty_finds < d.empty_finds) (sym here) stopped;
        steps = subst (λ (o : O). WriteSteps (seen_of w.sink) (seen_of o) (write_told done.end)) (sym f) steps;
        whole = subst (λ (d : D). done.end ≡ Stopped → TookWhole owed_kept over_kept cut_kept d) (sym here) whole;
        full = subst (λ (d : D). done.end ≡ Full → (w.drain.empty_finds < d.empty_finds) × TookFull owed_kept over_kept cut_kept d) (sym here) full;
        lost = subst (λ (d : D). done.end ≡ Lost → (w.drain.empty_finds < d.empty_finds) × TookLost owed_kept over_kept cut_kept d) (sym here) lost;
        dropped = subst (λ (d : D). done.end ≡ Dropped → (w.drain.empty_finds < d.empty_finds) × TookUnvouched owed_kept over_kept cut_kept d) (sym here) dropped;
        seen = subst (λ (d : D). done.seen ≡ newest d) (sym here) seen;
        owes = subst (λ (d : D). Owes owed_kept (newest d) d.conn d.taken) (sym here) owes;
        of = subst (λ (d : D). IsOf (λ (h : Kept History) chronicle. h.chronicle ≡ chronicle) (newest d) d.chronicle) (sym here) of;
      }
