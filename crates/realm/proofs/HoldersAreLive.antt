-- Who holds a pattern is live, and so is who receives what is published.
use Rattle.std.proofs.Common.{◌≡◌, ℕ, suc, zero, ◌+◌, ◌<◌, Bool, true, false, cond, not, ◌&&◌, ◌||◌, eqb, List, [], ◌∷◌, ◌++◌, map, take, length, get_or, refl, sym, ap, ◌∙◌, Option, None, Some, is_some, append-nil, ⊎_elim, arith}
use Rattle.std.specs.List.{filter}
use Rattle.std.proofs.Math.Bool.{and-false}
use Rattle.std.proofs.lemmas.Bool.{eqb-true, not-true, and_parts, or_cases, or_right}
use Rattle.std.proofs.lemmas.Grind.{flat_map-append}
use Rattle.std.proofs.lemmas.List.{take_more}
use Rattle.wamp_ids.specs.Pattern.{PatternText, matches}
use Rattle.subscription_index.specs.declared.receiver.Receiver.{Receiver}
use Rattle.subscription_index.specs.Index.{Row, keys}
use Rattle.subscription_index.specs.Members.{has_row, same_row}
use Rattle.subscription_index.specs.Receiver.{receiver_at, receivers}
use Rattle.subscription_index.proofs.Lemmas.{same_row_self}
use Rattle.eligibility.specs.Lists.{admits as eligible}
use Rattle.eligibility.specs.declared.who.Who.{Who}
use Rattle.wamp_messages.specs.declared.said.Said.TheVariants.{Subscribe, Unsubscribe}
use Rattle.wamp_messages.specs.declared.item.Publication.{Publication}
use Rattle.wamp_messages.specs.declared.item.Item.{Item}
use Rattle.realm.specs.declared.entry.Entry.TheVariants.{Join, Said}
use Rattle.realm.specs.declared.state.State.{State}
use Rattle.realm.specs.History.{History, begun, ◌▷◌}
use Rattle.realm.specs.Sessions.{who, live, ends, IsHistory}
use Rattle.realm.specs.Subscriptions.{holds, opened, number_among, is_of, subscribed}
use Rattle.realm.specs.Yield.{admits_who}
use Rattle.realm.specs.body.LiveSessions.{session_of, AreHeld, AreLive}
use Rattle.realm.specs.body.Outputs.{all_for, event_for, event_to, events_to}
use Rattle.realm.specs.body.Refinement.{Agrees}
use Rattle.realm.proofs.Refinement.{none-joined}

-- ---- in a history

still : (h : History) (c : ℕ) (b : Bool) → b ≡ false → live h c ≡ true → is_some (cond b None (who h c)) ≡ true
still h c b kept lives = ap (λ e. is_some (cond e None (who h c))) kept ∙ lives

holder-lives : (h : History) (c : ℕ) (p : PatternText) → IsHistory h → holds h c p ≡ true → live h c ≡ true
unfolding holds who
holder-lives (begun grants) c p is_history held = absurd (cc)
holder-lives (h ▷ Said d word (Subscribe request options topic)) c p is_history held =
    still h c (eqb d c && false) (and-false (eqb d c))
    (⊎_elim
    (λ before. holder-lives h c p is_history.0 before)
    (λ new. let own : d ≡ c = eqb-true d c (and_parts (eqb d c) (is_of p (subscribed h d options topic)) new).0 in sym (ap (live h) own) ∙ is_history.1)
    (or_cases (holds h c p) (eqb d c && is_of p (subscribed h d options topic)) held))
holder-lives (h ▷ Said d word (Unsubscribe request n)) c p is_history held =
    still h c (eqb d c && false) (and-false (eqb d c))
    (holder-lives h c p is_history.0 (and_parts (holds h c p) (not (eqb d c && eqb (number_among (opened h) p) n)) held).0)
holder-lives (h ▷ Join d word authid) c p is_history held =
    let before : live h c ≡ true = holder-lives h c p is_history.0 (and_parts (holds h c p) true held).0 in
    at _ (eqb d c) refl before
  where
    at : (o : Option Who) (b : Bool) → eqb d c ≡ b → live h c ≡ true → is_some (cond b o (who h c)) ≡ true
    at o true own before =
        let none : who h c ≡ None = ap (who h) (sym (eqb-true d c own)) ∙ none-joined h d is_history.1 in
        let clash : true ≡ false = sym before ∙ ap is_some none in
        cc
    at o false own before = before
holder-lives (h ▷ e) c p is_history held =
    let both = and_parts (holds h c p) (not (ends e c)) held in
    still h c (ends e c) (not-true (ends e c) both.1) (holder-lives h c p is_history.0 both.0)

-- ---- in what is kept of it

held-rows : (h : History) (s : State) (rs : List Row) → Agrees h s → ((q : Row) → has_row rs q ≡ true → has_row s.index.rows q ≡ true) → AreHeld s.sessions rs
held-rows h s [] agrees within = tt
held-rows h s (r ∷ rs) agrees within =
    let here : has_row s.index.rows r ≡ true = within r (ap (λ b. b || has_row rs r) (same_row_self r)) in
    let holder = and_parts (holds h r.0.0 r.1) (eqb (number_among (opened h) r.1) r.0.1) (sym (agrees.rows r.0.0 r.0.1 r.1) ∙ here) in (
      ap is_some (agrees.sessions r.0.0) ∙ holder-lives h r.0.0 r.1 agrees.is_history holder.0,
      held-rows h s rs agrees (λ q there. within q (or_right (same_row r q) (has_row rs q) there)),
    )

pub are-held : (h : History) (s : State) → Agrees h s → AreHeld s.sessions s.index.rows
are-held h s agrees = held-rows h s s.index.rows agrees (λ q there. there)

live-among : (ws : List Who) (rows rs : List Row) (topic : List ℕ) → AreHeld ws rs → AreLive ws (map (receiver_at rows) (keys (filter (λ r. matches r.1 topic) rs)))
live-among ws rows [] topic held = tt
live-among ws rows (r ∷ rs) topic held = at (matches r.1 topic) (live-among ws rows rs topic held.1)
  where
    at : (b : Bool) → AreLive ws (map (receiver_at rows) (keys (filter (λ q. matches q.1 topic) rs)))
        → AreLive ws (map (receiver_at rows) (keys (cond b (r ∷ filter (λ q. matches q.1 topic) rs) (filter (λ q. matches q.1 topic) rs))))
    at true rest = (held.0, rest)
    at false rest = rest

pub receivers-live : (ws : List Who) (rows : List Row) (topic : List ℕ) → AreHeld ws rows → AreLive ws (receivers rows topic)
receivers-live ws rows topic held = live-among ws rows rows topic held

pub live-at : (ws : List Who) (rs : List Receiver) (i : ℕ) (r : Receiver) → AreLive ws rs → i < length rs → r ≡ get_or rs i r → is_some (session_of ws r.conn) ≡ true
live-at ws [] i r live small is = absurd (omega arith)
live-at ws (q ∷ rs) zero r live small is = ap (λ (x : Receiver). is_some (session_of ws x.conn)) is ∙ live.0
live-at ws (q ∷ rs) (suc i) r live small is = live-at ws rs i r live.1 (omega arith) is

-- ---- who is admitted where no list is given

session-conn : (ws : List Who) (c : ℕ) (w : Who) → session_of ws c ≡ Some w → w.conn ≡ c
session-conn [] c w is = absurd (cc)
session-conn (v ∷ vs) c w is = at (eqb v.conn c) refl is (λ later. session-conn vs c w later)
  where
    at : (b : Bool) → eqb v.conn c ≡ b → cond b (Some v) (session_of vs c) ≡ Some w → (session_of vs c ≡ Some w → w.conn ≡ c) → w.conn ≡ c
    at true own found later = let same : v ≡ w = cc in sym (ap (λ (x : Who). x.conn) same) ∙ eqb-true v.conn c own
    at false own found later = later found

pub admitted-unlisted : (ws : List Who) (p : Publication) (c : ℕ) (admitted : Bool)
    → ((w by : Who) → w.conn ≡ c → by.conn ≡ p.publisher.conn → eligible p.lists w by ≡ admitted)
    → is_some (session_of ws c) ≡ true → admitted ≡ admits_who p (session_of ws c)
admitted-unlisted ws p c admitted says some = at (session_of ws c) refl some
  where
    at : (o : Option Who) → session_of ws c ≡ o → is_some o ≡ true → admitted ≡ admits_who p o
    at None is lives = absurd (cc)
    at (Some w) is lives = sym (says w p.publisher (session-conn ws c w is) refl)

-- ---- nobody is admitted

pub none-admitted : (ws : List Who) (p : Publication) (rs : List Receiver) → ((w : Who) → eligible p.lists w p.publisher ≡ false) → events_to ws p rs ≡ []
none-admitted ws p [] nobody = refl
none-admitted ws p (r ∷ rs) nobody = at (session_of ws r.conn) (none-admitted ws p rs nobody)
  where
    at : (o : Option Who) → events_to ws p rs ≡ [] → all_for r.conn (cond (admits_who p o) (event_for p r ∷ []) []) ++ events_to ws p rs ≡ []
    at None rest = rest
    at (Some w) rest = rw (nobody w) rest

-- ---- one receiver more

pub events-more : (ws : List Who) (p : Publication) (rs : List Receiver) (i : ℕ) (r : Receiver) (admitted : Bool) (old new : List (ℕ × Item)) → i < length rs → r ≡ get_or rs i r
    → old ≡ events_to ws p (take i rs) → new ≡ old ++ all_for r.conn (cond admitted (event_for p r ∷ []) []) → admitted ≡ admits_who p (session_of ws r.conn)
    → new ≡ events_to ws p (take (i + 1) rs)
events-more ws p rs i r admitted old new small is before more admits =
    more ∙ (ap (λ xs. xs ++ all_for r.conn (cond admitted (event_for p r ∷ []) [])) before
    ∙ (ap (λ b. events_to ws p (take i rs) ++ all_for r.conn (cond b (event_for p r ∷ []) [])) admits
    ∙ sym (ap (events_to ws p) (take_more rs i r small ∙ ap (λ (q : Receiver). take i rs ++ q ∷ []) (sym is))
    ∙ (flat_map-append (λ q. all_for q.conn (event_to ws p q)) (take i rs) (r ∷ [])
    ∙ ap (λ xs. events_to ws p (take i rs) ++ xs) (append-nil (all_for r.conn (event_to ws p r)))))))
