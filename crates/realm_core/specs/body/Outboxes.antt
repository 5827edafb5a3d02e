-- The queues of the sessions: for each connection what was added for it and not taken yet.
use Rattle.std.specs.Prelude.{ℕ, ◌==◌, ◌≡◌, ◌≢◌, ◌<◌, false, ⊤, List, [], Option, None, Some}
use Rattle.std.specs.VecDeque.{deque_len, deque_capacity}
use Rattle.std.specs.BTreeMap.{BTreeMap, get}
use Rattle.std.specs.Ordering.{nat_cmp}
use Rattle.wamp_messages.specs.declared.item.Item.{Item}
use Rattle.realm_core.specs.declared.outboxes.SessionQueue.{SessionQueue}

abbrev pub Outboxes : Type 0
Outboxes = BTreeMap ℕ SessionQueue

abbrev pub items_in : Option SessionQueue → List Item
items_in None = []
items_in (Some outbox) = outbox.items.items

-- what waits for c, the oldest first
abbrev pub outbox_of : Outboxes → ℕ → List Item
outbox_of outboxes c = items_in (get nat_cmp outboxes c)

abbrev pub IsFilled : Option SessionQueue → Type 0
IsFilled None = ⊤
IsFilled (Some outbox) = outbox.items.items ≢ []

-- no queue that is kept is empty
abbrev pub AreFilled : Outboxes → Type 0
AreFilled outboxes = (c : ℕ) → IsFilled (get nat_cmp outboxes c)

-- none but perhaps that of c
abbrev pub AreFilledBut : ℕ → Outboxes → Type 0
AreFilledBut c outboxes = (d : ℕ) → (c == d) ≡ false → IsFilled (get nat_cmp outboxes d)

abbrev pub HasPlace : Option SessionQueue → Type 0
HasPlace None = ⊥
HasPlace (Some outbox) = deque_len outbox.items < deque_capacity outbox.items

-- there is a queue for c, with memory for one more item
abbrev pub HasRoom : Outboxes → ℕ → Type 0
HasRoom outboxes c = HasPlace (get nat_cmp outboxes c)
