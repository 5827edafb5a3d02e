-- What is published of sessions: its topics are topics, and who is given it.
use Rattle.std.proofs.Common.{◌≡◌, ℕ, true, List, [], ◌∷◌, length, codes, refl, sym, ap, ◌∙◌, arith}
use Rattle.std.specs.Str.{chars}
use Rattle.wamp_ids.specs.Uri.{is_topic}
use Rattle.subscription_index.specs.declared.receiver.Receiver.{Receiver}
use Rattle.subscription_index.specs.Index.{Row}
use Rattle.subscription_index.specs.Receiver.{receivers}
use Rattle.eligibility.specs.declared.who.Who.{Who}
use Rattle.wamp_messages.specs.declared.item.Publication.{Publication}
use Rattle.wamp_messages.specs.declared.item.Item.{Item}
use Rattle.realm.specs.body.Outputs.{events_to, all_events}

pub on_join-topic : is_topic (codes "wamp.session.on_join") ≡ true
unfolding is_topic chars
on_join-topic = refl

pub on_leave-topic : is_topic (codes "wamp.session.on_leave") ≡ true
unfolding is_topic chars
on_leave-topic = refl

-- the EVENTs of a publication for those whose subscriptions match its topic
pub told-all : (ws : List Who) (rows : List Row) (p made : Publication) (found : List Receiver) → made ≡ p → found ≡ receivers rows p.topic
    → events_to ws made found ≡ all_events ws rows p
told-all ws rows p made found made_is found_are = ap (λ m. events_to ws m found) made_is ∙ ap (events_to ws p) found_are

-- where none matches, nobody is given anything
none-there : (found : List Receiver) → length found ≡ 0 → found ≡ []
none-there [] empty = refl
none-there (r ∷ rs) empty = absurd (omega (arith, empty))

pub told-nobody : (ws : List Who) (rows : List Row) (p : Publication) (found : List Receiver) (given : List (ℕ × Item)) → given ≡ [] → length found ≡ 0
    → found ≡ receivers rows p.topic → given ≡ all_events ws rows p
told-nobody ws rows p found given none empty found_are = none ∙ ap (events_to ws p) (sym (none-there found empty) ∙ found_are)
