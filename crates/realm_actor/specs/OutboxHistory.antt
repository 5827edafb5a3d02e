-- Outboxes that follow a realm's history.
use Rattle.std.specs.Prelude.{◌≡◌, ◌<◌, ◌≤◌, length, true, List, [], ◌++◌, Some}
use mathlib.Core.List.{IsPrefix}
use Rattle.outbox_queue.specs.Ends.{Sending}
use Rattle.outbox_queue.specs.Rule.{Grows}
use Rattle.outbox_queue.specs.Tied.{Kept, history_of}
use Rattle.atomic_table.specs.Seated.{TableId}
use Rattle.wamp_messages.specs.declared.item.Item.{Item}
use Rattle.realm.specs.History.{History, Begins}
use Rattle.realm.specs.Yield.{owed}

-- what contracts see of a session's outbox
abbrev pub Box : Type 0
Box = Sending Item (Kept History)

-- o follows h, but for the items `due`, which are still to be added: what was added begins what h owes its connection,
-- and with `due` it is all of that, where no step found o full; where one did, nothing was added since; nothing is due to a
-- closed one
pub record Follows (h : History) (due : List Item) (o : Box) : Type 0 where
  pub begins : IsPrefix o.added (owed h o.conn)
  pub whole : o.full_finds ≡ 0 → o.added ++ due ≡ owed h o.conn
  pub stood : 0 < o.full_finds → length o.added ≡ o.added_at_find
  pub seen : Grows Begins (history_of o.history) (Some h)
  pub closed : o.is_closed ≡ true → due ≡ []

-- where a chronicle is picked for the outbox, it is this one
abbrev pub IsHome : TableId → Box → Type 0
IsHome own o = (picked : TableId) → o.chronicle ≡ Some picked → own ≡ picked

-- p is o after items were offered to it: it is the same queue, what was added only grows, not at all where o was found full before,
-- and it is found full only where at least its capacity was added
pub record Goes (o p : Box) : Type 0 where
  pub queue : p.queue ≡ o.queue
  pub capacity : p.capacity ≡ o.capacity
  pub conn : p.conn ≡ o.conn
  pub chronicle : p.chronicle ≡ o.chronicle
  pub is_closed : p.is_closed ≡ o.is_closed
  pub added : IsPrefix o.added p.added
  pub finds : o.full_finds ≤ p.full_finds
  pub marked : 0 < o.full_finds → (p.added ≡ o.added) × (p.full_finds ≡ o.full_finds)
  pub room : o.full_finds < p.full_finds → o.capacity ≤ length p.added
