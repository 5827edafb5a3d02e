-- Where a topic is among publications in order, and where it goes.
use Rattle.std.specs.Prelude.{◌≡◌, ℕ, true, ◌<◌, ◌≤◌, List, length, slice_index_or}
use Rattle.wamp_messages.specs.declared.item.Publication.{Publication}
use Rattle.retained.specs.Store.{is_before}

-- the first i are before the topic
abbrev pub FirstAreBefore : List Publication → ℕ → List ℕ → Type 0
FirstAreBefore ps i topic = (k : ℕ) (d : Publication) → k < i → is_before (slice_index_or ps k d).topic topic ≡ true

pub record IsAt (ps : List Publication) (i : ℕ) (topic : List ℕ) : Type 0 where
  pub within : i < length ps
  pub is : (d : Publication) → (slice_index_or ps i d).topic ≡ topic

-- the topic isn't there, and goes to place i
pub record GoesAt (ps : List Publication) (i : ℕ) (topic : List ℕ) : Type 0 where
  pub before : FirstAreBefore ps i topic
  pub within : i ≤ length ps
  pub after : (d : Publication) → i < length ps → is_before topic (slice_index_or ps i d).topic ≡ true
