-- What was posted enters the history of a world in the order in which it was posted, for each connection.
use Rattle.std.specs.Prelude.{ℕ, true, ◌≡◌}
use Rattle.realm.specs.Laws.{BeginsList}
use Rattle.realm.specs.PostedOrder.{posts_of, said_by, AreSome, joins_first_alone}
use Rattle.realm_core.specs.Worlds.{Course}

-- Cut and Closed left aside, the entries of c are some of what was posted for c, in that order, each once; where c's first post is its Join, and no later one is a Join, they are a beginning of it
pub record KeepsPostedOrder (w : Course) : Type 0 where
  pub some : (c : ℕ) → AreSome (said_by c w.history) (posts_of c w.posted)
  pub begins : (c : ℕ) → joins_first_alone (posts_of c w.posted) ≡ true → BeginsList (said_by c w.history) (posts_of c w.posted)
