-- What always holds of the two ends.
use Rattle.std.specs.Prelude.{◌≡◌, ◌<◌, ◌≤◌, ℕ, Bool, true, false, Option, None, Some, List, [], length}
use mathlib.Core.List.{IsPrefix}
use Rattle.std.specs.Arc.{arc_value}
use Rattle.atomic_table.specs.Seated.{TableId}
use Rattle.crossbeam_queue.specs.Passes.{view, IsPassOf, ruled_capacity}
use Rattle.outbox_queue.specs.declared.ends.Producer.TheInside.{Inside as Producer}
use Rattle.outbox_queue.specs.declared.ends.Consumer.TheInside.{Inside as Consumer}
use Rattle.outbox_queue.specs.declared.ends.Came.{Came}
use Rattle.outbox_queue.specs.declared.rule.OutboxView.{OutboxView}
use Rattle.outbox_queue.specs.Rule.{adding}
use Rattle.outbox_queue.specs.Ends.{Owes, IsOf, Last}
use Rattle.outbox_queue.specs.body.Vouching.{VouchesFor}

module _ {T H : Type 0} (owed : H → ℕ → List T) (belongs : H → TableId → Type 0) where
  -- the adding end has a pass of its queue that adds alone; what was added begins what its history, which is of the chronicle,
  -- owes the connection, and where nothing was added there is no history, and no step found the queue full; where one did, as many items were added as it holds, or more,
  -- and it says so; the connection and the count are those of the pass
  pub record IsAdding (e : Producer T H) : Type 0 where
    pub is_pass : IsPassOf (arc_value e.queue) e.place.pass
    pub adds : view e.place.pass ≡ adding (view e.place.pass).conn (view e.place.pass).chronicle (view e.place.pass).history (view e.place.pass).added
    pub capacity : 0 < ruled_capacity (arc_value e.queue)
    pub nothing_yet : (view e.place.pass).added ≡ [] → (e.place.finds ≡ 0) × ((view e.place.pass).history ≡ None)
    pub room : 0 < e.place.finds → ruled_capacity (arc_value e.queue) ≤ length (view e.place.pass).added
    pub full : e.was_full ≡ true → 0 < e.place.finds
    pub never : e.was_full ≡ false → e.place.finds ≡ 0
    pub owes : Owes owed (view e.place.pass).history (view e.place.pass).conn (view e.place.pass).added
    pub is_of : IsOf belongs (view e.place.pass).history (view e.place.pass).chronicle
    pub conn : e.conn ≡ (view e.place.pass).conn
    pub added : e.added ≡ length (view e.place.pass).added

-- what came with the end that added, as contracts see it
abbrev pub last_of : {T H : Type 0} → Option (Came H) → List T → Option (Last T H)
last_of None added = None
last_of (Some came) added = Some (record { history = came.history; added = added; full_finds = came.finds.count; is_lost = came.is_lost })

module _ {T H : Type 0} (owed : H → ℕ → List T) (is_over : H → ℕ → Type 0) (was_cut : H → ℕ → Bool) (belongs : H → TableId → Type 0) where
  -- the other end came over: its pass is one with this one's; what was taken begins what was added, and the history that came, if one did, vouches for that;
  -- where a step found the queue full, as many items were added as it holds, or more, and it says so
  pub record CameOver (capacity : ℕ) (v : OutboxView T H) (came : Came H) : Type 0 where
    pub adds : v.adds ≡ true
    pub begins : IsPrefix v.taken v.added
    pub vouches : VouchesFor owed is_over was_cut belongs came.history v.conn v.chronicle v.added came.finds.count came.is_lost
    pub room : 0 < came.finds.count → capacity ≤ length v.added
    pub full : came.was_full ≡ true → 0 < came.finds.count
    pub never : came.was_full ≡ false → came.finds.count ≡ 0

  abbrev pub MayHaveCome : ℕ → OutboxView T H → Option (Came H) → Type 0
  MayHaveCome capacity v None = Unit {0}
  MayHaveCome capacity v (Some came) = CameOver capacity v came

  -- the taking end has a pass of its queue that takes; what was taken begins what the history seen, which is of the chronicle,
  -- owes the connection, which is that of the pass
  pub record IsTaking (e : Consumer T H) : Type 0 where
    pub is_pass : IsPassOf (arc_value e.queue) e.place.pass
    pub takes : (view e.place.pass).takes ≡ true
    pub capacity : 0 < ruled_capacity (arc_value e.queue)
    pub owes : Owes owed (view e.place.pass).seen (view e.place.pass).conn (view e.place.pass).taken
    pub is_of : IsOf belongs (view e.place.pass).seen (view e.place.pass).chronicle
    pub conn : e.conn ≡ (view e.place.pass).conn
    pub last : MayHaveCome (ruled_capacity (arc_value e.queue)) (view e.place.pass) e.came
