-- The first of some, and the least of some.
use Rattle.std.proofs.Common.{◌≡◌, ℕ, ◌≤◌, Bool, true, false, cond, eqb, leb, ◌||◌, List, [], ◌∷◌, refl, sym, ap, arith, None, Some, is_some, inl, inr}
use Rattle.std.specs.declared.option.Option.{Option}
use Rattle.std.specs.Option.{MatchOption}
use Rattle.std.specs.Prelude.{◌⊎◌, unwrap_or}
use Rattle.std.proofs.lemmas.Bool.{eqb-true, eq-eqb, or_cases, or_left, or_right}
use Rattle.std.proofs.lemmas.Bool.Decides.{nat_tests}
use Rattle.realm_core.specs.Worlds.{is_in, unless_any, IsLeast}
use Rattle.realm.specs.declared.entry.Entry.{Entry}
use Rattle.realm_core.specs.body.Queues.{FrontIs, least_of}

-- the least of some is there, and is the least
best-of : (best : Option ℕ) (cs : List ℕ) (b : ℕ) → least_of best cs ≡ Some b
    → ((best ≡ Some b) ⊎ (is_in b cs ≡ true)) × (MatchOption best (Unit {0}) (λ a. b ≤ a)) × ((d : ℕ) → is_in d cs ≡ true → b ≤ d)
best-of None [] b e = absurd (cc)
best-of (Some a) [] b e = (inl e, same a b e, λ d here. absurd (cc))
  where
    same : (a b : ℕ) → Some a ≡ Some b → b ≤ a
    same a b e = let is : a ≡ b = ap (λ o. unwrap_or o 0) e in omega arith
best-of None (c ∷ cs) b e =
    let rest = best-of (Some c) cs b e in
    (inr (there rest.0), tt, least c rest.1 rest.2)
  where
    there : (Some c ≡ Some b) ⊎ (is_in b cs ≡ true) → eqb c b || is_in b cs ≡ true
    there o = elim o [ inl e ↦ or_left (eqb c b) (is_in b cs) (eq-eqb c b (ap (λ o. unwrap_or o 0) e)) | inr here ↦ or_right (eqb c b) (is_in b cs) here ]

    least : (c : ℕ) → b ≤ c → ((d : ℕ) → is_in d cs ≡ true → b ≤ d) → (d : ℕ) → eqb c d || is_in d cs ≡ true → b ≤ d
    least c low rest d here = elim (or_cases (eqb c d) (is_in d cs) here) [ inl same ↦ (let is : c ≡ d = eqb-true c d same in omega arith) | inr later ↦ rest d later ]
best-of (Some a) (c ∷ cs) b e = at (leb a c) refl e (λ o f. best-of o cs b f)
  where
    least : (a c : ℕ) → b ≤ a → b ≤ c → ((d : ℕ) → is_in d cs ≡ true → b ≤ d) → (d : ℕ) → eqb c d || is_in d cs ≡ true → b ≤ d
    least a c lo low rest d here = elim (or_cases (eqb c d) (is_in d cs) here) [ inl same ↦ (let is : c ≡ d = eqb-true c d same in omega arith) | inr later ↦ rest d later ]

    old : (Some a ≡ Some b) ⊎ (is_in b cs ≡ true) → (Some a ≡ Some b) ⊎ (eqb c b || is_in b cs ≡ true)
    old o = elim o [ inl e ↦ inl e | inr here ↦ inr (or_right (eqb c b) (is_in b cs) here) ]

    new : (Some c ≡ Some b) ⊎ (is_in b cs ≡ true) → (Some a ≡ Some b) ⊎ (eqb c b || is_in b cs ≡ true)
    new o = elim o [ inl e ↦ inr (or_left (eqb c b) (is_in b cs) (eq-eqb c b (ap (λ o. unwrap_or o 0) e))) | inr here ↦ inr (or_right (eqb c b) (is_in b cs) here) ]

    at : (t : Bool) → leb a c ≡ t → least_of (cond t (Some a) (Some c)) cs ≡ Some b
        → ((o : Option ℕ) → least_of o cs ≡ Some b → ((o ≡ Some b) ⊎ (is_in b cs ≡ true)) × (MatchOption o (Unit {0}) (λ a. b ≤ a)) × ((d : ℕ) → is_in d cs ≡ true → b ≤ d))
        → ((Some a ≡ Some b) ⊎ (eqb c b || is_in b cs ≡ true)) × (b ≤ a) × ((d : ℕ) → eqb c d || is_in d cs ≡ true → b ≤ d)
    at true is f rest =
        let r = rest (Some a) f in
        let low : b ≤ a = r.1 in
        let lower : b ≤ c = grind (arith, nat_tests) in
        (old r.0, low, least a c low lower r.2)
    at false is f rest =
        let r = rest (Some c) f in
        let low : b ≤ c = r.1 in
        let lower : b ≤ a = grind (arith, nat_tests) in
        (new r.0, lower, least a c lower low r.2)

pub least-is : (cs : List ℕ) (b : ℕ) → least_of None cs ≡ Some b → IsLeast b cs
least-is cs b e =
    let r = best-of None cs b e in
    record { among = elim r.0 [ inl never ↦ absurd (let f : false ≡ true = ap is_some never in cc) | inr here ↦ here ]; least = r.2 }

some-stays : (best : ℕ) (cs : List ℕ) → is_some (least_of (Some best) cs) ≡ true
some-stays best [] = refl
some-stays best (c ∷ cs) = at (leb best c) (λ b. some-stays b cs)
  where
    at : (t : Bool) → ((b : ℕ) → is_some (least_of (Some b) cs) ≡ true) → is_some (least_of (cond t (Some best) (Some c)) cs) ≡ true
    at true rest = rest best
    at false rest = rest c

pub least-none : (cs : List ℕ) → least_of None cs ≡ None → cs ≡ []
least-none [] e = refl
least-none (c ∷ cs) e = let some : is_some (least_of (Some c) cs) ≡ true = some-stays c cs in let no : is_some (least_of (Some c) cs) ≡ false = ap is_some e in absurd (cc)

-- where there is a least one, the list isn't empty
pub least-some : {Y : Type 0} (cs : List ℕ) (b : ℕ) (ys : List Y) → least_of None cs ≡ Some b → unless_any cs ys ≡ []
least-some [] b ys e = absurd (cc)
least-some (c ∷ cs) b ys e = refl

pub least-match : (cs : List ℕ) (o : Option ℕ) → o ≡ least_of None cs → MatchOption o (cs ≡ []) (λ c. IsLeast c cs)
least-match cs None e = least-none cs (sym e)
least-match cs (Some b) e = least-is cs b (sym e)

-- the same, unless there are any of those
pub least-unless : {X : Type 0} (xs : List X) (cs : List ℕ) (o : Option ℕ) → xs ≡ [] → o ≡ least_of None cs → MatchOption o (unless_any xs cs ≡ []) (λ c. IsLeast c (unless_any xs cs))
least-unless [] cs o nothing e = least-match cs o e
least-unless (x ∷ xs) cs o nothing e = absurd (cc)

pub front-unless : {X : Type 0} (xs : List X) (cs : List ℕ) (o : Option Entry) (es rest : List Entry) → xs ≡ [] → cs ≡ [] → FrontIs o es rest → FrontIs o (unless_any xs (unless_any cs es)) rest
front-unless [] [] o es rest nothing none front = front
front-unless [] (c ∷ cs) o es rest nothing none front = absurd (cc)
front-unless (x ∷ xs) cs o es rest nothing none front = absurd (cc)
