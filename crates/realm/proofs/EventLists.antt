-- The EVENTs of a publication, subscription by subscription.
use Rattle.std.proofs.Common.{◌≡◌, ℕ, ◌≤◌, Bool, true, false, cond, ◌||◌, ◌&&◌, eqb, ltb, List, [], ◌∷◌, ◌++◌, map, refl, sym, ap, ◌∙◌, Some, arith}
use Rattle.std.specs.List.{filter}
use Rattle.std.proofs.lemmas.Bool.{eqb-true, or_right}
use Rattle.std.proofs.lemmas.Bool.Decides.{nat_tests}
use Rattle.wamp_ids.specs.Pattern.{PatternText, matches}
use Rattle.subscription_index.specs.Receiver.{is_named, receiver_at}
use Rattle.subscription_index.specs.Index.{Row, IsStrictlyAscending, IsBeforeAll, keys, pattern_of, matching}
use Rattle.subscription_index.specs.Members.{has_row, same_row, rows_of}
use Rattle.subscription_index.proofs.Lemmas.{pattern_of-has_row, same_row_self, ascending-filter}
use Rattle.eligibility.specs.declared.who.Who.{Who}
use Rattle.wamp_messages.specs.declared.item.Publication.{Publication}
use Rattle.wamp_messages.specs.declared.item.Item.{Item}
use Rattle.wamp_messages.specs.declared.item.Item.TheVariants.{Event}
use Rattle.realm.specs.Yield.{events_of, names_topic, admits_who}
use Rattle.realm.specs.body.LiveSessions.{session_of}
use Rattle.realm.specs.Given.{items_for, StartsAbove, IsAscending, GivesEach}
use Rattle.realm.specs.body.Outputs.{all_for, event_for, event_to, events_to, all_events}
use Rattle.realm.proofs.Conditionals.{cond-same}
use Rattle.realm.proofs.ForEach.{items_for-all}

pub items_for-append : (c : ℕ) (xs ys : List (ℕ × Item)) → items_for c (xs ++ ys) ≡ items_for c xs ++ items_for c ys
items_for-append c [] ys = refl
items_for-append c (x ∷ xs) ys = at (eqb x.0 c) (items_for-append c xs ys)
  where
    at : (b : Bool) → items_for c (xs ++ ys) ≡ items_for c xs ++ items_for c ys
        → cond b (x.1 ∷ items_for c (xs ++ ys)) (items_for c (xs ++ ys)) ≡ cond b (x.1 ∷ items_for c xs) (items_for c xs) ++ items_for c ys
    at true e = ap (λ l. x.1 ∷ l) e
    at false e = e

-- each row is found by its key
abbrev AllFound : List Row → List Row → Type 0
AllFound rows [] = Unit {0}
AllFound rows (r ∷ rs) = (pattern_of rows r.0.0 r.0.1 ≡ Some r.1) × AllFound rows rs

found-among : (rows rs : List Row) → IsStrictlyAscending (keys rows) → ((q : Row) → has_row rs q ≡ true → has_row rows q ≡ true) → AllFound rows rs
found-among rows [] ascending within = tt
found-among rows (r ∷ rs) ascending within = (
  pattern_of-has_row rows r.0.0 r.0.1 r.1 ascending (within r (rw (same_row_self r) refl)),
  found-among rows rs ascending (λ q there. within q (or_right (same_row r q) (has_row rs q) there)),
)

-- each connection is at least b
abbrev AllAtLeast : ℕ → List (ℕ × ℕ) → Type 0
AllAtLeast b [] = Unit {0}
AllAtLeast b (k ∷ ks) = (b ≤ k.0) × AllAtLeast b ks

module _ (ws : List Who) (rows : List Row) (p : Publication) where
  abbrev m : Row → Bool
  m r = matches r.1 p.topic

  abbrev event : ℕ × PatternText → Item
  event s = Event s.0 p (names_topic s.1.policy) false

  abbrev event_at : ℕ × ℕ → List Item
  event_at k = event_to ws p (receiver_at rows k)

  abbrev events_at : List (ℕ × ℕ) → List (ℕ × Item)
  events_at ks = events_to ws p (map (receiver_at rows) ks)

  each-for : (rs : List Row) (c : ℕ) → AllFound rows rs → items_for c (events_at (keys (filter m rs))) ≡ events_of p (session_of ws c) (rows_of c rs)
  each-for [] c found = sym (cond-same (admits_who p (session_of ws c)) [])
  each-for (r ∷ rs) c found = at (each-for rs c found.1) (m r) refl (eqb r.0.0 c) refl
    where
      one : event_at r.0 ≡ cond (admits_who p (session_of ws r.0.0)) (event (r.0.1, r.1) ∷ []) []
      one = ap (λ o. cond (admits_who p (session_of ws r.0.0)) (Event r.0.1 p (is_named o) false ∷ []) []) found.0

      joined : (b : Bool) (xs : List Item) (ys : List Item) → cond b (event (r.0.1, r.1) ∷ []) [] ++ cond b ys [] ≡ cond b (event (r.0.1, r.1) ∷ ys) []
      joined true xs ys = refl
      joined false xs ys = refl

      at : items_for c (events_at (keys (filter m rs))) ≡ events_of p (session_of ws c) (rows_of c rs) → (fits : Bool) → m r ≡ fits → (own : Bool) → eqb r.0.0 c ≡ own
          → items_for c (events_at (keys (cond fits (r ∷ filter m rs) (filter m rs)))) ≡ events_of p (session_of ws c) (cond own ((r.0.1, r.1) ∷ rows_of c rs) (rows_of c rs))
      at rest false fits_is true own_is = rw fits_is rest
      at rest false fits_is false own_is = rest
      at rest true fits_is own own_is =
          items_for-append c (all_for r.0.0 (event_at r.0)) (events_at (keys (filter m rs)))
          ∙ (ap (λ l. l ++ items_for c (events_at (keys (filter m rs)))) (items_for-all r.0.0 c (event_at r.0))
          ∙ own_or_not own own_is)
        where
          own_or_not : (b : Bool) → eqb r.0.0 c ≡ b
              → cond (eqb r.0.0 c) (event_at r.0) [] ++ items_for c (events_at (keys (filter m rs)))
              ≡ events_of p (session_of ws c) (cond b ((r.0.1, r.1) ∷ rows_of c rs) (rows_of c rs))
          own_or_not true is =
              let same : r.0.0 ≡ c = eqb-true r.0.0 c is in
              let here : event_at r.0 ≡ cond (admits_who p (session_of ws c)) (event (r.0.1, r.1) ∷ []) [] =
              one ∙ ap (λ d. cond (admits_who p (session_of ws d)) (event (r.0.1, r.1) ∷ []) []) same in
              rw (is, here, rest, fits_is) (joined (admits_who p (session_of ws c)) [] (map event (filter (λ s. matches s.1 p.topic) (rows_of c rs))))
          own_or_not false is = rw is rest

  -- ascending by connection
  at-least : (k : ℕ × ℕ) (ks : List (ℕ × ℕ)) → IsBeforeAll k ks → AllAtLeast k.0 ks
  at-least k [] before = tt
  at-least k (x ∷ xs) before = (at (ltb k.0 x.0) refl before.0, at-least k xs before.1)
    where
      at : (b : Bool) → ltb k.0 x.0 ≡ b → b || (eqb k.0 x.0 && ltb k.1 x.1) ≡ true → k.0 ≤ x.0
      at true is some = grind (arith, nat_tests)
      at false is some = same (eqb k.0 x.0) refl some
        where
          same : (b : Bool) → eqb k.0 x.0 ≡ b → b && ltb k.1 x.1 ≡ true → k.0 ≤ x.0
          same true e all = let k_is : k.0 ≡ x.0 = eqb-true k.0 x.0 e in omega (arith, k_is)
          same false e all = absurd (cc)

  starts-one : (b c : ℕ) (i : Item) (admitted : Bool) (rest : List (ℕ × Item)) → b ≤ c → StartsAbove b rest → StartsAbove b (all_for c (cond admitted (i ∷ []) []) ++ rest)
  starts-one b c i true rest small starts = small
  starts-one b c i false rest small starts = starts

  ascending-one : (c : ℕ) (i : Item) (admitted : Bool) (rest : List (ℕ × Item)) → StartsAbove c rest → IsAscending rest → IsAscending (all_for c (cond admitted (i ∷ []) []) ++ rest)
  ascending-one c i true rest starts ascending = (starts, ascending)
  ascending-one c i false rest starts ascending = ascending

  starts-events : (b : ℕ) (ks : List (ℕ × ℕ)) → AllAtLeast b ks → StartsAbove b (events_at ks)
  starts-events b [] all = tt
  starts-events b (k ∷ ks) all =
      starts-one b k.0 (event_for p (receiver_at rows k)) (admits_who p (session_of ws k.0)) (events_at ks) all.0 (starts-events b ks all.1)

  ascending-events : (ks : List (ℕ × ℕ)) → IsStrictlyAscending ks → IsAscending (events_at ks)
  ascending-events [] ascending = tt
  ascending-events (k ∷ ks) ascending =
      ascending-one k.0 (event_for p (receiver_at rows k)) (admits_who p (session_of ws k.0)) (events_at ks)
      (starts-events k.0 ks (at-least k ks ascending.0)) (ascending-events ks ascending.1)

  pub gives-events : IsStrictlyAscending (keys rows) → GivesEach (λ c. events_of p (session_of ws c) (rows_of c rows)) (all_events ws rows p)
  gives-events ascending = record {
    each = λ c. each-for rows c (found-among rows rows ascending (λ q there. there));
    ascending = ascending-events (matching rows p.topic) (ascending-filter m rows ascending);
  }
