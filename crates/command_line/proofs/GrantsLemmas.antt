-- The parts of a text of grants.
use Rattle.std.proofs.Common.{◌≡◌, ◌≢◌, ℕ, zero, suc, ◌<◌, Bool, true, false, cond, not, eqb, List, [], ◌∷◌, ◌++◌, length, get_or, refl, ap, ◌∙◌, None, Some, arith}
use Rattle.std.specs.Prelude.{⊤}
use Rattle.std.specs.declared.option.Option.{Option}
use Rattle.std.specs.List.{All, slice_split, onto_first}
use Rattle.std.proofs.lemmas.Bool.{ne_eqb, false≢true}
use Rattle.std.proofs.lemmas.List.{get_or_default}
use Rattle.std.proofs.lemmas.List.Splits.{slice_split_none, slice_split_at}
use Rattle.command_line.specs.Grants.{Pair, pair_by, pair_of, pairs_of, if_grants, grants_of}

abbrev HasNone : ℕ → List ℕ → Type 0
HasNone c xs = (i : ℕ) → i < length xs → get_or xs i 0 ≢ c

all-other : (c : ℕ) (xs : List ℕ) → HasNone c xs → All (λ x. eqb x c ≡ false) xs
all-other c xs none k d small = ne_eqb (get_or xs k d) c (λ e. none k small (get_or_default xs k 0 d small ∙ e))

-- a text without a colon is no pair
pub pair-none : (xs : List ℕ) → HasNone 58 xs → pair_of xs ≡ None
pair-none xs none = ap pair_by (slice_split_none (λ c. eqb c 58) xs (all-other 58 xs none)) ∙ by xs
  where
    by : (xs : List ℕ) → pair_by (xs ∷ []) ≡ None
    by [] = refl
    by (x ∷ xs) = refl

pub pair-at : (xs authid role : List ℕ) → xs ≡ authid ++ (58 ∷ role) → HasNone 58 authid → pair_of xs ≡ pair_by (authid ∷ slice_split (λ c. eqb c 58) role)
pair-at xs authid role e none = ap pair_of e ∙ ap pair_by (slice_split_at (λ c. eqb c 58) authid 58 role (all-other 58 authid none) refl)

pub pair-no_authid : (parts : List (List ℕ)) → pair_by ([] ∷ parts) ≡ None
pair-no_authid [] = refl
pair-no_authid ([] ∷ []) = refl
pair-no_authid ((r ∷ role) ∷ []) = refl
pair-no_authid ([] ∷ part ∷ parts) = refl
pair-no_authid ((r ∷ role) ∷ part ∷ parts) = refl

pub pair-no_role : (authid : List ℕ) → pair_by (authid ∷ [] ∷ []) ≡ None
pair-no_role [] = refl
pair-no_role (a ∷ authid) = refl

abbrev HasTwo : List (List ℕ) → Type 0
HasTwo [] = ⊥
HasTwo (x ∷ []) = ⊥
HasTwo (x ∷ y ∷ more) = ⊤

two-onto : (c : ℕ) (parts : List (List ℕ)) → HasTwo parts → HasTwo (onto_first c parts)
two-onto c [] two = two
two-onto c (x ∷ []) two = two
two-onto c (x ∷ y ∷ more) two = tt

two-after : (xs : List ℕ) → HasTwo ([] ∷ slice_split (λ c. eqb c 58) xs)
two-after [] = tt
two-after (x ∷ xs) = elim (eqb x 58) as (λ b. HasTwo ([] ∷ cond b ([] ∷ slice_split (λ c. eqb c 58) xs) (onto_first x (slice_split (λ c. eqb c 58) xs)))) [
  | true ↦ tt
  | false ↦ by (slice_split (λ c. eqb c 58) xs)
]
  where
    by : (parts : List (List ℕ)) → HasTwo ([] ∷ onto_first x parts)
    by [] = tt
    by (part ∷ parts) = tt

two-at : (xs : List ℕ) (k : ℕ) → k < length xs → get_or xs k 0 ≡ 58 → HasTwo (slice_split (λ c. eqb c 58) xs)
two-at [] k small e = absurd (omega arith)
two-at (x ∷ xs) zero small e = rw e (two-after xs)
two-at (x ∷ xs) (suc k) small e = elim (eqb x 58) as (λ b. HasTwo (cond b ([] ∷ slice_split (λ c. eqb c 58) xs) (onto_first x (slice_split (λ c. eqb c 58) xs)))) [
  | true ↦ two-after xs
  | false ↦ two-onto x (slice_split (λ c. eqb c 58) xs) (two-at xs k (omega arith) e)
]

pair-two : (authid : List ℕ) (parts : List (List ℕ)) → HasTwo parts → pair_by (authid ∷ parts) ≡ None
pair-two authid [] two = absurd two
pair-two authid (x ∷ []) two = absurd two
pair-two [] ([] ∷ y ∷ more) two = refl
pair-two [] ((x ∷ xs) ∷ y ∷ more) two = refl
pair-two (a ∷ authid) ([] ∷ y ∷ more) two = refl
pair-two (a ∷ authid) ((x ∷ xs) ∷ y ∷ more) two = refl

-- a second colon
pub pair-second : (authid role : List ℕ) (k : ℕ) → k < length role → get_or role k 0 ≡ 58 → pair_by (authid ∷ slice_split (λ c. eqb c 58) role) ≡ None
pair-second authid role k small e = pair-two authid (slice_split (λ c. eqb c 58) role) (two-at role k small e)

pub pair-good : (authid role : List ℕ) → 0 < length authid → 0 < length role → HasNone 58 role → pair_by (authid ∷ slice_split (λ c. eqb c 58) role) ≡ Some (authid, role)
pair-good authid role some also none = ap (λ parts. pair_by (authid ∷ parts)) (slice_split_none (λ c. eqb c 58) role (all-other 58 role none)) ∙ by authid role some also
  where
    by : (authid role : List ℕ) → 0 < length authid → 0 < length role → pair_by (authid ∷ role ∷ []) ≡ Some (authid, role)
    by [] role some also = absurd (omega arith)
    by (a ∷ authid) [] some also = absurd (omega arith)
    by (a ∷ authid) (r ∷ role) some also = refl

pub pair-tested : (authid role : List ℕ) (b : Bool) → 0 < length authid → 0 < length role → (b ≡ true → (k : ℕ) × (k < length role) × (get_or role k 0 ≡ 58)) → ((k : ℕ) → k < length role → get_or role k 0 ≡ 58 → b ≡ true)
    → pair_by (authid ∷ slice_split (λ c. eqb c 58) role) ≡ cond (not b) (Some (authid, role)) None
pair-tested authid role true some also has all = let at = has refl in pair-second authid role at.0 at.1 at.2
pair-tested authid role false some also has all = pair-good authid role some also (λ k small e. false≢true (all k small e))

-- pairs, and then those of the other texts
abbrev pub before : List Pair → Option (List Pair) → Option (List Pair)
before pairs None = None
before pairs (Some more) = Some (pairs ++ more)

pub grants-some : (text : List ℕ) → 0 < length text → grants_of text ≡ if_grants (pairs_of (slice_split (λ c. eqb c 44) text))
grants-some [] some = absurd (omega arith)
grants-some (c ∷ text) some = refl
