-- The EVENTs that an entry owes each session: all that are due are given, once, and no other.
use Rattle.std.specs.Prelude.{ℕ, Bool, true, false, ◌≡◌, ◌⊎◌, List, ◌∷◌, ◌++◌, Some, Ok}
use Rattle.wamp_messages.specs.declared.subscribe_options.SubscribeOptions.{SubscribeOptions}
use Rattle.wamp_ids.specs.Pattern.{PatternText, matches}
use Rattle.wamp_messages.specs.declared.said.Said.TheVariants.{Subscribe}
use Rattle.wamp_messages.specs.declared.item.Publication.{Publication}
use Rattle.wamp_messages.specs.declared.item.Item.{Item}
use Rattle.wamp_messages.specs.declared.item.Item.TheVariants.{Event}
use Rattle.realm.specs.declared.entry.Entry.{Entry}
use Rattle.realm.specs.declared.entry.Entry.TheVariants.{Said}
use Rattle.realm.specs.History.{History, ◌▷◌}
use Rattle.realm.specs.Sessions.{who}
use Rattle.realm.specs.Subscriptions.{held, number, subscribed}
use Rattle.realm.specs.Publications.{retained}
use Rattle.realm.specs.Yield.{yield, publication_of, names_topic, admits_who}
use Rattle.realm.specs.Laws.{IsAmong}

-- p is due to c after h by the number n: c holds the pattern by it, the pattern matches, and p admits the session of c
pub record IsDue (h : History) (c n : ℕ) (pattern : PatternText) (p : Publication) : Type 0 where
  pub is_held : IsAmong (n, pattern) (held h c)
  pub fits : matches pattern p.topic ≡ true
  pub is_admitted : admits_who p (who h c) ≡ true

-- x is the EVENT of what e, coming after h, publishes, for one of the patterns that c holds when e comes
pub record IsSent (h : History) (e : Entry) (c : ℕ) (x : Item) : Type 0 where
  pub n : ℕ
  pub pattern : PatternText
  pub publication : Publication
  pub publishes : publication_of h e ≡ Some publication
  pub due : IsDue h c n pattern publication
  pub is : x ≡ Event n publication (names_topic pattern.policy) false

-- e, coming after h, is an accepted SUBSCRIBE of c that asks for what is retained, and x is the EVENT of one of the retained publications,
-- for its pattern
pub record IsAskedFor (h : History) (e : Entry) (c : ℕ) (x : Item) : Type 0 where
  pub word : ℕ
  pub request : ℕ
  pub options : SubscribeOptions
  pub topic : List ℕ
  pub pattern : PatternText
  pub publication : Publication
  pub entry : e ≡ Said c word (Subscribe request options topic)
  pub asks : options.get_retained ≡ Some true
  pub accepted : subscribed h c options topic ≡ Ok pattern
  pub is_retained : IsAmong publication (retained h)
  pub due : IsDue (h ▷ e) c (number (h ▷ e) pattern) pattern publication
  pub is : x ≡ Event (number (h ▷ e) pattern) publication (names_topic pattern.policy) true

-- x is an EVENT that e, coming after h, owes c
abbrev pub IsOwedEvent : History → Entry → ℕ → Item → Type 0
IsOwedEvent h e c x = IsSent h e c x ⊎ IsAskedFor h e c x

-- Each EVENT that an entry gives c it owes c: it is of what the entry publishes, or of what is retained where a SUBSCRIBE of c asks for it;
-- it matches the pattern that c holds by its number, and admits c.
abbrev pub EventsAreDue : Type 0
EventsAreDue =
    (h : History) (e : Entry) (c n : ℕ) (p : Publication) (with_topic marked : Bool)
    → IsAmong (Event n p with_topic marked) (yield h e c) → IsOwedEvent h e c (Event n p with_topic marked)

-- x stands in xs, once
pub record StandsOnce (x : Item) (xs : List Item) : Type 0 where
  pub before : List Item
  pub after : List Item
  pub is : xs ≡ before ++ x ∷ after
  pub not_before : IsAmong x before → ⊥
  pub not_after : IsAmong x after → ⊥

-- each EVENT that an entry owes c it gives c, once
abbrev pub DueEventsAreGiven : Type 0
DueEventsAreGiven = (h : History) (e : Entry) (c : ℕ) (x : Item) → IsOwedEvent h e c x → StandsOnce x (yield h e c)
