-- What one session publishes reaches each other in the order in which it was published, whatever the topics.
-- (WAMP, "Ordering Guarantees for Publish & Subscribe".)
use Rattle.std.specs.Prelude.{ℕ, false, cond, ◌==◌, ◌≡◌, List, [], ◌∷◌, ◌++◌, Some}
use Rattle.std.specs.Option.{option_to_list}
use Rattle.wamp_messages.specs.declared.item.Publication.{Publication}
use Rattle.wamp_messages.specs.declared.item.Item.{Item}
use Rattle.wamp_messages.specs.declared.item.Item.TheVariants.{Event}
use Rattle.realm.specs.declared.entry.Entry.{Entry}
use Rattle.realm.specs.History.{History, begun, ◌▷◌}
use Rattle.realm.specs.Sessions.{conn_of}
use Rattle.realm.specs.Yield.{owed, publication_of}
use Rattle.realm.specs.Laws.{BeginsList}

-- e, coming after h, is an entry of c that publishes p
abbrev pub IsOwnPublish : ℕ → History → Entry → Publication → Type 0
IsOwnPublish c h e p = (conn_of e ≡ c) × (publication_of h e ≡ Some p)

-- what an entry publishes has the session of its own connection as the publisher
abbrev pub PublishersAreOwn : Type 0
PublishersAreOwn = (h : History) (e : Entry) (p : Publication) → publication_of h e ≡ Some p → IsOwnPublish p.publisher.conn h e p

-- what e, coming after h, publishes, if it is an entry of c
abbrev pub own_publish : ℕ → History → Entry → List Publication
own_publish c h e = cond (conn_of e == c) (option_to_list (publication_of h e)) []

-- what the entries of c publish, the oldest first
abbrev pub publications_of : ℕ → History → List Publication
publications_of c (begun grants) = []
publications_of c (h ▷ e) = publications_of c h ++ own_publish c h e

-- of these items the EVENTs of what c published, by their publications; what is marked as retained is left aside: it is given by topic
abbrev pub events_by : ℕ → List Item → List Publication
events_by c [] = []
events_by c (Event n p with_topic false ∷ xs) = cond (p.publisher.conn == c) (p ∷ events_by c xs) (events_by c xs)
events_by c (x ∷ xs) = events_by c xs

-- xs are some of ys in their order, each as often as need be, on end: a session gets one EVENT for each of its patterns that match
pub data IsInOrderOf : List Publication → List Publication → Type 0 where
  at_end : IsInOrderOf [] []
  passed : {xs ys : List Publication} (y : Publication) → IsInOrderOf xs ys → IsInOrderOf xs (y ∷ ys)
  again : {xs ys : List Publication} (y : Publication) → IsInOrderOf xs (y ∷ ys) → IsInOrderOf (y ∷ xs) (y ∷ ys)

-- the EVENTs that d is owed of what c published stand in the order in which c published, and so in each beginning of what d is owed
abbrev pub PublishersKeepOrder : Type 0
PublishersKeepOrder =
    (h : History) (c d : ℕ) (items : List Item) → BeginsList items (owed h d) → IsInOrderOf (events_by c items) (publications_of c h)
