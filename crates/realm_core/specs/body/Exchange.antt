-- How what an Exchange keeps is what is seen of it.
use Rattle.std.specs.Prelude.{ℕ, ◌≡◌, List, map, ◌++◌}
use Rattle.wamp_messages.specs.declared.item.Item.{Item}
use Rattle.realm_core.specs.declared.exchange.Exchange.TheInside.{Inside}
use Rattle.realm.specs.Given.{items_for}
use Rattle.realm_core.specs.Worlds.{Course}
use Rattle.realm_core.specs.body.Outboxes.{Outboxes, outbox_of, AreFilled}
use Rattle.realm_core.specs.body.Marks.{MarksAgree}

abbrev pub course_of : Inside → Course
course_of e = record {
  history = e.realm;
  inbox_cap = e.inbox_cap;
  outbox_cap = e.outbox_cap;
  posted = map (λ s. s.value) e.posted.items;
  inbox = e.inbox.items;
  lost = map (λ s. s.value) e.lost.items;
  pushing = e.pushing.items;
  full = map (λ s. s.value) e.full.items;
  added = map (λ s. s.value) e.added.items;
  taken = map (λ s. s.value) e.taken.items;
}

-- what was added is what was taken, and then what waits
abbrev pub AreBetween : List (ℕ × Item) → List (ℕ × Item) → Outboxes → Type 0
AreBetween added taken outboxes = (c : ℕ) → items_for c added ≡ items_for c taken ++ outbox_of outboxes c

pub record AgreesWith (e : Inside) : Type 0 where
  pub between : AreBetween (map (λ s. s.value) e.added.items) (map (λ s. s.value) e.taken.items) e.outboxes
  pub filled : AreFilled e.outboxes
  pub marked : MarksAgree e.realm e.pushing.items (map (λ s. s.value) e.full.items) e.marks.items
