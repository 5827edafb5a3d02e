-- What is given by what the realm keeps.
use Rattle.std.specs.Prelude.{ℕ, Bool, ◌≡◌, ⊤, false, cond, nat_lt, List, [], ◌∷◌, map, None, Some}
use Rattle.std.specs.declared.option.Option.{Option}
use Rattle.std.specs.List.{flat_map}
use Rattle.subscription_index.specs.declared.receiver.Receiver.{Receiver}
use Rattle.subscription_index.specs.Index.{Row}
use Rattle.subscription_index.specs.Receiver.{receivers}
use Rattle.eligibility.specs.declared.who.Who.{Who}
use Rattle.wamp_messages.specs.declared.item.Publication.{Publication}
use Rattle.wamp_messages.specs.declared.item.Item.{Item}
use Rattle.wamp_messages.specs.declared.item.Item.TheVariants.{Event}
use Rattle.realm.specs.Yield.{admits_who}
use Rattle.realm.specs.body.LiveSessions.{session_of}

-- these items, all for c
abbrev pub all_for : ℕ → List Item → List (ℕ × Item)
all_for c items = map (λ i. (c, i)) items

-- an item for c, before what c is given
abbrev pub put_before : ℕ → Item → List (ℕ × Item) → List (ℕ × Item)
put_before c i [] = (c, i) ∷ []
put_before c i (x ∷ xs) = cond (nat_lt x.0 c) (x ∷ put_before c i xs) ((c, i) ∷ x ∷ xs)

-- an item for c, where there is one, before what c is given
abbrev pub put_first : ℕ → Option Item → List (ℕ × Item) → List (ℕ × Item)
put_first c None xs = xs
put_first c (Some i) xs = put_before c i xs

abbrev pub event_for : Publication → Receiver → Item
event_for p r = Event r.number p r.names_topic false

-- the EVENT of p for a receiver, where that is admitted
abbrev pub event_to : List Who → Publication → Receiver → List Item
event_to sessions p r = cond (admits_who p (session_of sessions r.conn)) (event_for p r ∷ []) []

-- an answer that was given before: whether p admits the session of a connection
abbrev pub IsAnswer : List Who → Publication → Option (ℕ × Bool) → Type 0
IsAnswer sessions p None = ⊤
IsAnswer sessions p (Some asked) = asked.1 ≡ admits_who p (session_of sessions asked.0)

abbrev pub events_to : List Who → Publication → List Receiver → List (ℕ × Item)
events_to sessions p rs = flat_map (λ r. all_for r.conn (event_to sessions p r)) rs

-- the EVENTs of p for all whose subscriptions match
abbrev pub all_events : List Who → List Row → Publication → List (ℕ × Item)
all_events sessions rows p = events_to sessions p (receivers rows p.topic)
