-- The EVENTs of an entry are those that are due, each once.
use Rattle.std.proofs.Common.{◌≡◌, ℕ, ◌<◌, Bool, true, false, true≢false, cond, ◌&&◌, eqb, List, [], ◌∷◌, ◌++◌, map, take, refl, sym, ap, subst, ◌∙◌, append_assoc, None, Some, Ok, Err, ◌⊎◌, inl, inr, ⊎_elim, arith}
use Rattle.std.specs.declared.option.Option.{Option}
use Rattle.std.specs.declared.result.Result.{Result}
use Rattle.std.specs.List.{filter}
use Rattle.std.specs.Str.{bytes_eq}
use Rattle.std.proofs.lemmas.Bool.{eqb-true, eq-eqb, and_parts, or_right}
use Rattle.std.proofs.Math.Bool.{and-false}
use Rattle.wamp_messages.specs.declared.subscribe_options.SubscribeOptions.{SubscribeOptions}
use Rattle.wamp_ids.proofs.Lemmas.{same_pattern-refl, bytes_eq-refl}
use Rattle.wamp_ids.specs.Pattern.{PatternText, matches}
use Rattle.wamp_ids.specs.declared.pattern.Policy.{Policy}
use Rattle.retained.specs.Store.{of_topic}
use Rattle.wamp_messages.specs.declared.said.Said.TheVariants.{Subscribe}
use Rattle.wamp_messages.specs.declared.item.Publication.{Publication}
use Rattle.wamp_messages.specs.declared.item.Item.{Item}
use Rattle.wamp_messages.specs.declared.item.Item.TheVariants.{Event}
use Rattle.wamp_messages.specs.declared.item.Reason.{Reason}
use Rattle.realm.specs.declared.entry.Entry.{Entry}
use Rattle.realm.specs.declared.entry.Entry.TheVariants.{Said}
use Rattle.realm.specs.History.{History, ◌▷◌}
use Rattle.realm.specs.Sessions.{who, conn_of}
use Rattle.realm.specs.Subscriptions.{holds, held, number, subscribed, is_of}
use Rattle.realm.specs.Publications.{kept, retained}
use Rattle.realm.specs.Yield.{yield, reply, events, publication_of, sent_events, asked_events, names_topic, admits_who}
use Rattle.realm.specs.Laws.{IsAmong, IsFor, EachEvent, sent_numbers, IsBelowAll, IsStrictlyAscending}
use Rattle.realm.specs.DueEvents.{IsDue, IsSent, IsAskedFor, IsOwedEvent, EventsAreDue, StandsOnce, DueEventsAreGiven}
use Rattle.realm.proofs.AmongLemmas.{among-second, among-either, among-kept, made-of, among-held}
use Rattle.realm.proofs.EventsAreAdmitted.{each-if, reply-none}
use Rattle.realm.proofs.EachSubscriptionOnce.{once}
use Rattle.realm.proofs.LastIsRetained.{last, among-events}

-- a reply is no EVENT
no-event : (P : Publication → Type 0) (xs : List Item) (n : ℕ) (p : Publication) (with_topic marked : Bool) → EachEvent P xs
    → IsAmong (Event n p with_topic marked) xs → P p
no-event P [] n p with_topic marked each among = absurd among
no-event P (y ∷ ys) n p with_topic marked each (inl here) = subst (IsFor P) (sym here) each.0
no-event P (y ∷ ys) n p with_topic marked each (inr there) = no-event P ys n p with_topic marked each.1 there

reply-silent : (h : History) (e : Entry) (c : ℕ) → EachEvent (λ q. ⊥) (cond (eqb (conn_of e) c) (reply h e) [])
reply-silent h e c = each-if (λ q. ⊥) (eqb (conn_of e) c) (reply h e) (reply-none (λ q. ⊥) h e)

-- an EVENT of what is published
sent-due : (h : History) (e : Entry) (c : ℕ) (x : Item) (o : Option Publication) → publication_of h e ≡ o
    → IsAmong x (sent_events o (who h c) (held h c)) → IsSent h e c x
sent-due h e c x None publishes among = absurd among
sent-due h e c x (Some p) publishes among = at (admits_who p (who h c)) refl among
  where
    event : ℕ × PatternText → Item
    event s = Event s.0 p (names_topic s.1.policy) false

    at : (b : Bool) → admits_who p (who h c) ≡ b → IsAmong x (cond b (map event (filter (λ s. matches s.1 p.topic) (held h c))) [])
        → IsSent h e c x
    at true admits there =
        let source = made-of (ℕ × PatternText) (λ s. matches s.1 p.topic) event x (held h c) there in
        record {
          n = source.0.0;
          pattern = source.0.1;
          publication = p;
          publishes = publishes;
          due = record { is_held = source.1; fits = source.2; is_admitted = admits };
          is = source.3;
        }
    at false admits there = absurd there

-- a SUBSCRIBE leaves its session, which holds the pattern then
who-kept : (h : History) (c word request : ℕ) (options : SubscribeOptions) (topic : List ℕ)
    → who (h ▷ Said c word (Subscribe request options topic)) c ≡ who h c
unfolding who
who-kept h c word request options topic = ap (λ b. cond b None (who h c)) (and-false (eqb c c))

holds-asked : (h : History) (c word request : ℕ) (options : SubscribeOptions) (topic : List ℕ) (pattern : PatternText)
    → subscribed h c options topic ≡ Ok pattern
    → holds (h ▷ Said c word (Subscribe request options topic)) c pattern ≡ true
unfolding holds
holds-asked h c word request options topic pattern accepted =
    let own : (eqb c c && is_of pattern (subscribed h c options topic)) ≡ true =
    ap (λ b. b && is_of pattern (subscribed h c options topic)) (eq-eqb c c refl) ∙ ap (is_of pattern) accepted
    ∙ same_pattern-refl pattern in
    or_right (holds h c pattern) (eqb c c && is_of pattern (subscribed h c options topic)) own

-- an EVENT of what is retained
asked-due : (h : History) (c word request : ℕ) (options : SubscribeOptions) (topic : List ℕ) (x : Item)
    → IsAmong x (asked_events options.get_retained (subscribed h c options topic)
    (number (h ▷ Said c word (Subscribe request options topic))) (retained h) (who h c))
    → IsAskedFor h (Said c word (Subscribe request options topic)) c x
asked-due h c word request options topic x among = at options.get_retained refl (subscribed h c options topic) refl among
  where
    e : Entry
    e = Said c word (Subscribe request options topic)

    at : (flag : Option Bool) → options.get_retained ≡ flag → (r : Result PatternText Reason) → subscribed h c options topic ≡ r
        → IsAmong x (asked_events flag r (number (h ▷ e)) (retained h) (who h c))
        → IsAskedFor h (Said c word (Subscribe request options topic)) c x
    at None asks (Ok pattern) accepted there = absurd there
    at None asks (Err reason) accepted there = absurd there
    at (Some false) asks (Ok pattern) accepted there = absurd there
    at (Some false) asks (Err reason) accepted there = absurd there
    at (Some true) asks (Err reason) accepted there = absurd there
    at (Some true) asks (Ok pattern) accepted there =
        let n = number (h ▷ e) pattern in
        let source = made-of Publication (λ p. matches pattern p.topic && admits_who p (who h c))
        (λ p. Event n p (names_topic pattern.policy) true) x (retained h) there in
        let both = and_parts (matches pattern source.0.topic) (admits_who source.0 (who h c)) source.2 in
        record {
          word = word;
          request = request;
          options = options;
          topic = topic;
          pattern = pattern;
          publication = source.0;
          entry = refl;
          asks = asks;
          accepted = accepted;
          is_retained = source.1;
          due = record {
            is_held = among-held (h ▷ e) c pattern (holds-asked h c word request options topic pattern accepted);
            fits = both.0;
            is_admitted = ap (admits_who source.0) (who-kept h c word request options topic) ∙ both.1;
          };
          is = source.3;
        }

events-due : (h : History) (e : Entry) (c : ℕ) (x : Item) → IsAmong x (events h e c) → IsOwedEvent h e c x
events-due h (Said d word (Subscribe request options topic)) c x among = inr (at (eqb d c) refl among)
  where
    asked : ℕ → List Item
    asked k = asked_events options.get_retained (subscribed h k options topic)
        (number (h ▷ Said k word (Subscribe request options topic))) (retained h) (who h c)

    at : (b : Bool) → eqb d c ≡ b → IsAmong x (cond b (asked d) []) → IsAskedFor h (Said d word (Subscribe request options topic)) c x
    at true own there =
        let moved : IsAmong x (asked d) → IsAskedFor h (Said d word (Subscribe request options topic)) c x =
        subst (λ k. IsAmong x (asked k) → IsAskedFor h (Said k word (Subscribe request options topic)) c x) (sym (eqb-true d c own))
        (asked-due h c word request options topic x) in
        moved there
    at false own there = absurd there
events-due h e c x among = inl (sent-due h e c x (publication_of h e) refl among)

pub due : EventsAreDue
unfolding yield
due h e c n p with_topic marked among =
    ⊎_elim
    (λ said. absurd (no-event (λ q. ⊥) (cond (eqb (conn_of e) c) (reply h e) []) n p with_topic marked (reply-silent h e c) said))
    (λ there. events-due h e c (Event n p with_topic marked) there)
    (among-either (Event n p with_topic marked) (cond (eqb (conn_of e) c) (reply h e) []) (events h e c) among)

-- of what is published, each number once
below-tail : (n : ℕ) (y : Item) (ys : List Item) → IsBelowAll n (sent_numbers (y ∷ ys)) → IsBelowAll n (sent_numbers ys)
below-tail n (Event m q with_topic false) ys below = below.1
below-tail n (Event m q with_topic true) ys below = below
below-tail n y ys below = below

ascends-tail : (y : Item) (ys : List Item) → IsStrictlyAscending (sent_numbers (y ∷ ys)) → IsStrictlyAscending (sent_numbers ys)
ascends-tail (Event m q with_topic false) ys ascends = ascends.1
ascends-tail (Event m q with_topic true) ys ascends = ascends
ascends-tail y ys ascends = ascends

not-below : (n : ℕ) (p : Publication) (with_topic : Bool) (xs : List Item) → IsBelowAll n (sent_numbers xs)
    → IsAmong (Event n p with_topic false) xs → ⊥
not-below n p with_topic [] below among = among
not-below n p with_topic (y ∷ ys) below (inl here) =
    let own : IsBelowAll n (sent_numbers (Event n p with_topic false ∷ ys)) = subst (λ z. IsBelowAll n (sent_numbers (z ∷ ys)))
    (sym here) below in
    let less : n < n = own.0 in
    let clash : ⊥ = omega arith in
    clash
not-below n p with_topic (y ∷ ys) below (inr there) = not-below n p with_topic ys (below-tail n y ys below) there

once-sent : (n : ℕ) (p : Publication) (with_topic : Bool) (xs : List Item) → IsStrictlyAscending (sent_numbers xs)
    → IsAmong (Event n p with_topic false) xs
    → StandsOnce (Event n p with_topic false) xs
once-sent n p with_topic [] ascends among = absurd among
once-sent n p with_topic (y ∷ ys) ascends among = at among (once-sent n p with_topic ys (ascends-tail y ys ascends))
  where
    own : Event n p with_topic false ≡ y → IsAmong (Event n p with_topic false) ys → ⊥
    own here there =
        let first : IsStrictlyAscending (sent_numbers (Event n p with_topic false ∷ ys)) = subst
        (λ z. IsStrictlyAscending (sent_numbers (z ∷ ys))) (sym here) ascends in
        not-below n p with_topic ys first.0 there

    at : (Event n p with_topic false ≡ y) ⊎ IsAmong (Event n p with_topic false) ys
        → (IsAmong (Event n p with_topic false) ys → StandsOnce (Event n p with_topic false) ys)
        → StandsOnce (Event n p with_topic false) (y ∷ ys)
    at (inl here) later = record
        { before = []; after = ys; is = ap (λ z. z ∷ ys) (sym here); not_before = λ none. none; not_after = own here }
    at (inr there) later =
        let rest = later there in
        record {
          before = y ∷ rest.before;
          after = rest.after;
          is = ap (λ zs. y ∷ zs) rest.is;
          not_before = λ among. ⊎_elim (λ here. own here there) rest.not_before among;
          not_after = rest.not_after;
        }

events-sent : (h : History) (e : Entry) (c : ℕ) (p : Publication) → publication_of h e ≡ Some p
    → events h e c ≡ sent_events (Some p) (who h c) (held h c)
events-sent h (Said d word (Subscribe request options topic)) c p publishes = absurd (cc)
events-sent h e c p publishes = ap (λ o. sent_events o (who h c) (held h c)) publishes

among-sent : (h : History) (c n : ℕ) (pattern : PatternText) (p : Publication) → IsDue h c n pattern p
    → IsAmong (Event n p (names_topic pattern.policy) false) (sent_events (Some p) (who h c) (held h c))
among-sent h c n pattern p d =
    subst (λ b. IsAmong (event (n, pattern)) (cond b (map event (filter (λ s. matches s.1 p.topic) (held h c))) [])) (sym d.is_admitted)
    (among-events p n pattern (held h c) d.is_held d.fits)
  where
    event : ℕ × PatternText → Item
    event s = Event s.0 p (names_topic s.1.policy) false

sent-given : (h : History) (e : Entry) (c : ℕ) (x : Item) → IsSent h e c x → StandsOnce x (yield h e c)
unfolding yield
sent-given h e c x s =
    let event = Event s.n s.publication (names_topic s.pattern.policy) false in
    let there : IsAmong event (events h e c) =
    subst (λ xs. IsAmong event xs) (sym (events-sent h e c s.publication s.publishes)) (among-sent h c s.n s.pattern s.publication s.due) in
    subst (λ z. StandsOnce z (yield h e c)) (sym s.is)
    (once-sent s.n s.publication (names_topic s.pattern.policy) (yield h e c) (once h e c)
    (among-second event (cond (eqb (conn_of e) c) (reply h e) []) (events h e c) there))

-- of what is retained, each topic once
abbrev Alone : List Publication → Type 0
Alone [] = Unit {0}
Alone (p ∷ ps) = ps ≡ []

alone-take : (ps : List Publication) → Alone (take 1 ps)
alone-take [] = tt
alone-take (p ∷ []) = refl
alone-take (p ∷ q ∷ ps) = refl

alone-rest : (topic : List ℕ) (q : Publication) (qs : List Publication) → Alone (of_topic topic (q ∷ qs)) → Alone (of_topic topic qs)
alone-rest topic q qs alone = at (bytes_eq q.topic topic) alone
  where
    at : (b : Bool) → Alone (cond b (q ∷ of_topic topic qs) (of_topic topic qs)) → Alone (of_topic topic qs)
    at true none = subst Alone (sym none) tt
    at false rest = rest

not-twice : (p : Publication) (qs : List Publication) → Alone (of_topic p.topic (p ∷ qs)) → IsAmong p qs → ⊥
not-twice p qs alone there =
    let own : bytes_eq p.topic p.topic ≡ true = bytes_eq-refl p.topic in
    let none : of_topic p.topic qs ≡ [] = subst (λ b. Alone (cond b (p ∷ of_topic p.topic qs) (of_topic p.topic qs))) own alone in
    subst (λ l. IsAmong p l) none (among-kept (λ q. bytes_eq q.topic p.topic) p qs there own)

the-same : (n : ℕ) (with_topic : Bool) (p q : Publication) → Event n p with_topic true ≡ Event n q with_topic true → p ≡ q
the-same n with_topic p q is = cc

once-asked : (n : ℕ) (policy : Policy) (f : Publication → Bool) (p : Publication) (ps : List Publication) → Alone (of_topic p.topic ps)
    → IsAmong p ps → f p ≡ true
    → StandsOnce (Event n p (names_topic policy) true) (map (λ q. Event n q (names_topic policy) true) (filter f ps))
once-asked n policy f p [] alone among passes = absurd among
once-asked n policy f p (q ∷ qs) alone among passes = at (f q) refl among (once-asked n policy f p qs (alone-rest p.topic q qs alone))
  where
    event : Publication → Item
    event r = Event n r (names_topic policy) true

    other : IsAmong p qs → event p ≡ event q → ⊥
    other there same = not-twice p qs
        (subst (λ r. Alone (of_topic p.topic (r ∷ qs))) (sym (the-same n (names_topic policy) p q same)) alone) there

    found : IsAmong (event p) (map event (filter f qs)) → IsAmong p qs
    found there =
        let source = made-of Publication f event (event p) qs there in
        subst (λ r. IsAmong r qs) (sym (the-same n (names_topic policy) p source.0 source.3)) source.1

    at : (b : Bool) → f q ≡ b → (p ≡ q) ⊎ IsAmong p qs → (IsAmong p qs → f p ≡ true → StandsOnce (event p) (map event (filter f qs)))
        → StandsOnce (event p) (map event (cond b (q ∷ filter f qs) (filter f qs)))
    at true is (inl here) later = record {
      before = [];
      after = map event (filter f qs);
      is = ap (λ r. event r ∷ map event (filter f qs)) (sym here);
      not_before = λ none. none;
      not_after = λ there. other (found there) (ap event here);
    }
    at true is (inr there) later =
        let rest = later there passes in
        record {
          before = event q ∷ rest.before;
          after = rest.after;
          is = ap (λ l. event q ∷ l) rest.is;
          not_before = λ among. ⊎_elim (λ here. other there here) rest.not_before among;
          not_after = rest.not_after;
        }
    at false is (inl here) later = absurd (true≢false (sym passes ∙ ap f here ∙ is))
    at false is (inr there) later = later there passes

once-behind : (n : ℕ) (p : Publication) (with_topic marked : Bool) (xs ys : List Item) → EachEvent (λ q. ⊥) xs
    → StandsOnce (Event n p with_topic marked) ys
    → StandsOnce (Event n p with_topic marked) (xs ++ ys)
once-behind n p with_topic marked xs ys none s = record {
  before = xs ++ s.before;
  after = s.after;
  is = ap (λ l. xs ++ l) s.is ∙ sym (append_assoc xs s.before (Event n p with_topic marked ∷ s.after));
  not_before = λ among. ⊎_elim (λ said. no-event (λ q. ⊥) xs n p with_topic marked none said) s.not_before
      (among-either (Event n p with_topic marked) xs s.before among);
  not_after = s.not_after;
}

asked-once : (h : History) (c word request : ℕ) (options : SubscribeOptions) (topic : List ℕ) (pattern : PatternText) (p : Publication)
    → options.get_retained ≡ Some true → subscribed h c options topic ≡ Ok pattern → IsAmong p (retained h)
    → (matches pattern p.topic && admits_who p (who h c)) ≡ true
    → StandsOnce (Event (number (h ▷ Said c word (Subscribe request options topic)) pattern) p (names_topic pattern.policy) true)
    (yield h (Said c word (Subscribe request options topic)) c)
unfolding yield
asked-once h c word request options topic pattern p asks accepted among passes =
    once-behind n p (names_topic pattern.policy) true (cond (eqb c c) (reply h e) []) (events h e c) (reply-silent h e c)
    (subst (λ b. StandsOnce event (cond b (asked options.get_retained (subscribed h c options topic)) [])) (sym (eq-eqb c c refl))
    (subst (λ flag. StandsOnce event (asked flag (subscribed h c options topic))) (sym asks)
    (subst (λ r. StandsOnce event (asked (Some true) r)) (sym accepted)
    (once-asked n pattern.policy (λ q. matches pattern q.topic && admits_who q (who h c)) p (retained h)
    (subst Alone (sym (last h p.topic)) (alone-take (of_topic p.topic (kept h)))) among passes))))
  where
    e : Entry
    e = Said c word (Subscribe request options topic)

    n : ℕ
    n = number (h ▷ e) pattern

    event : Item
    event = Event n p (names_topic pattern.policy) true

    asked : Option Bool → Result PatternText Reason → List Item
    asked flag r = asked_events flag r (number (h ▷ e)) (retained h) (who h c)

asked-given : (h : History) (e : Entry) (c : ℕ) (x : Item) → IsAskedFor h e c x → StandsOnce x (yield h e c)
asked-given h e c x a =
    let same : who (h ▷ e) c ≡ who h c = ap (λ k. who (h ▷ k) c) a.entry ∙ who-kept h c a.word a.request a.options a.topic in
    let admits : admits_who a.publication (who h c) ≡ true = sym (ap (admits_who a.publication) same) ∙ a.due.is_admitted in
    let passes : (matches a.pattern a.publication.topic && admits_who a.publication (who h c)) ≡ true =
    ap (λ b. b && admits_who a.publication (who h c)) a.due.fits ∙ admits in
    subst (λ z. StandsOnce z (yield h e c)) (sym a.is)
    (subst (λ k. StandsOnce (Event (number (h ▷ k) a.pattern) a.publication (names_topic a.pattern.policy) true) (yield h k c))
    (sym a.entry)
    (asked-once h c a.word a.request a.options a.topic a.pattern a.publication a.asks a.accepted a.is_retained passes))

pub given : DueEventsAreGiven
given h e c x is = ⊎_elim (sent-given h e c x) (asked-given h e c x) is
