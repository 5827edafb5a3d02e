-- Of one entry each subscription gets one EVENT at most.
use Rattle.std.proofs.Common.{◌≡◌, ℕ, Bool, true, false, cond, ◌&&◌, eqb, List, [], ◌∷◌, ◌++◌, map, refl, None, Some, Ok, Err}
use Rattle.std.specs.declared.option.Option.{Option}
use Rattle.std.specs.declared.result.Result.{Result}
use Rattle.std.specs.List.{filter}
use Rattle.wamp_ids.specs.Pattern.{PatternText, matches}
use Rattle.subscription_index.specs.Members.{AscendsByNumber, IsBelowAll as IsBelowNamed}
use Rattle.eligibility.specs.declared.who.Who.{Who}
use Rattle.wamp_messages.specs.declared.said.Said.TheVariants.{Subscribe}
use Rattle.wamp_messages.specs.declared.item.Publication.{Publication}
use Rattle.wamp_messages.specs.declared.item.Item.{Item}
use Rattle.wamp_messages.specs.declared.item.Item.TheVariants.{Event}
use Rattle.wamp_messages.specs.declared.item.Reason.{Reason}
use Rattle.realm.specs.declared.entry.Entry.{Entry}
use Rattle.realm.specs.declared.entry.Entry.TheVariants.{Said}
use Rattle.realm.specs.History.{History, ◌▷◌}
use Rattle.realm.specs.Sessions.{who, conn_of}
use Rattle.realm.specs.Subscriptions.{holds, opened, held, number, number_among, numbered, subscribed}
use Rattle.realm.specs.Publications.{retained}
use Rattle.realm.specs.Yield.{yield, reply, events, publication_of, sent_events, asked_events, names_topic, admits_who}
use Rattle.realm.specs.Laws.{EachEvent, sent_numbers, IsBelowAll, IsStrictlyAscending, EachSubscriptionOnce}
use Rattle.realm.proofs.EventsAreAdmitted.{each-if, reply-none}
use Rattle.realm.proofs.Holdings.{ascends-filter, ascends-numbered}

-- items without an EVENT
no-numbers : (xs ys : List Item) → EachEvent (λ p. ⊥) xs → sent_numbers (xs ++ ys) ≡ sent_numbers ys
no-numbers [] ys none = refl
no-numbers (Event n p with_topic retained ∷ xs) ys none = absurd none.0
no-numbers (x ∷ xs) ys none = no-numbers xs ys none.1

-- EVENTs by ascending number
below-sent : (p : Publication) (n : ℕ) (ss : List (ℕ × PatternText)) → IsBelowNamed n ss → IsBelowAll n (sent_numbers (map (λ s. Event s.0 p (names_topic s.1.policy) false) ss))
below-sent p n [] below = tt
below-sent p n (s ∷ ss) below = (below.0, below-sent p n ss below.1)

ascending-sent : (p : Publication) (ss : List (ℕ × PatternText)) → AscendsByNumber ss → IsStrictlyAscending (sent_numbers (map (λ s. Event s.0 p (names_topic s.1.policy) false) ss))
ascending-sent p [] ascends = tt
ascending-sent p (s ∷ ss) ascends = (below-sent p s.0 ss ascends.0, ascending-sent p ss ascends.1)

sent-once : (h : History) (c : ℕ) (o : Option Publication) → IsStrictlyAscending (sent_numbers (sent_events o (who h c) (held h c)))
sent-once h c None = tt
sent-once h c (Some p) = at (admits_who p (who h c))
  where
    at : (b : Bool) → IsStrictlyAscending (sent_numbers (cond b (map (λ s. Event s.0 p (names_topic s.1.policy) false) (filter (λ s. matches s.1 p.topic) (held h c))) []))
    at true =
        ascending-sent p (filter (λ s. matches s.1 p.topic) (held h c))
        (ascends-filter (λ s. matches s.1 p.topic) (held h c) (ascends-filter (λ s. holds h c s.1 && eqb (number_among (opened h) s.1) s.0) (numbered (opened h)) (ascends-numbered (opened h))))
    at false = tt

-- retained ones are marked
retained-marked : (ps : List Publication) (n : ℕ) (pattern : PatternText) → sent_numbers (map (λ p. Event n p (names_topic pattern.policy) true) ps) ≡ []
retained-marked [] n pattern = refl
retained-marked (p ∷ ps) n pattern = retained-marked ps n pattern

asked-marked : (flag : Option Bool) (r : Result PatternText Reason) (num : PatternText → ℕ) (ps : List Publication) (receiver : Option Who) → sent_numbers (asked_events flag r num ps receiver) ≡ []
asked-marked None (Ok p) num ps receiver = refl
asked-marked None (Err reason) num ps receiver = refl
asked-marked (Some false) (Ok p) num ps receiver = refl
asked-marked (Some false) (Err reason) num ps receiver = refl
asked-marked (Some true) (Err reason) num ps receiver = refl
asked-marked (Some true) (Ok p) num ps receiver = retained-marked (filter (λ q. matches p q.topic && admits_who q receiver) ps) (num p) p

events-once : (h : History) (e : Entry) (c : ℕ) → IsStrictlyAscending (sent_numbers (events h e c))
events-once h (Said d word (Subscribe request options topic)) c = at (eqb d c)
  where
    num : PatternText → ℕ
    num = number (h ▷ Said d word (Subscribe request options topic))

    at : (b : Bool) → IsStrictlyAscending (sent_numbers (cond b (asked_events options.get_retained (subscribed h d options topic) num (retained h) (who h c)) []))
    at true = rw (asked-marked options.get_retained (subscribed h d options topic) num (retained h) (who h c)) tt
    at false = tt
events-once h e c = sent-once h c (publication_of h e)

pub once : EachSubscriptionOnce
unfolding yield
once h e c =
    rw (no-numbers (cond (eqb (conn_of e) c) (reply h e) []) (events h e c) (each-if (λ p. ⊥) (eqb (conn_of e) c) (reply h e) (reply-none (λ p. ⊥) h e))) (events-once h e c)
