-- Which keys a set has, after each of its changes.
use Rattle.std.proofs.Common.{◌≡◌, ◌≢◌, ℕ, List, [], ◌∷◌, length, Bool, true, false, cond, nat_cmp, is_eq, Bor, refl, ap, ◌∙◌, arith}
use Rattle.std.specs.Bool.{MatchBool, IsTrue}
use Rattle.std.specs.Cmp.Lexicographic.{slice_cmp}
use Rattle.std.specs.Str.{bytes_eq}
use Rattle.std.specs.BTreeSet as sorted
use Rattle.std.specs.BTreeSet.{BTreeSet, contains_by, btree_set_len}
use Rattle.std.proofs.lemmas.Cmp.{nat_list_cmp_total, tied_itself}
use Rattle.std.proofs.lemmas.Map.Text.{is_eq-slice_cmp}

abbrev Keys : Type 0
Keys = BTreeSet (Bor (List ℕ))

abbrev has : Keys → List ℕ → Bool
has s q = contains_by (λ k. slice_cmp nat_cmp q k.now) s

no_key : (keys : List (Bor (List ℕ))) → length keys ≡ 0 → (q : List ℕ) → has (record { keys = keys }) q ≡ false
no_key [] e q = refl
no_key (k ∷ keys) e q = let never : ⊥ = omega arith in absurd never

same_key : (k : List ℕ) → is_eq (slice_cmp nat_cmp k k) ≡ true
same_key k = ap is_eq (tied_itself nat_list_cmp_total k)

some_key : (keys : List (Bor (List ℕ))) → length keys ≢ 0 → (q : List ℕ) × (has (record { keys = keys }) q ≡ true)
some_key [] e = absurd (e refl)
some_key (k ∷ keys) e = (k.now, rw (same_key k.now) refl)

-- what it says of a set that it is empty, or isn't
pub emptiness : (s : Keys) (b : Bool) → (IsTrue b → btree_set_len s ≡ 0) → (btree_set_len s ≡ 0 → IsTrue b) → MatchBool b ((q : List ℕ) → has s q ≡ false) ((q : List ℕ) × (has s q ≡ true))
emptiness s true h i = no_key s.keys (h refl)
emptiness s false h i = some_key s.keys (λ z. let full : false ≡ true = i z in absurd cc)

-- what a call says that sets a key or takes it out
pub key_updated : (k : Bor (List ℕ)) (s n : Keys) (b : Bool) → sorted.UpdatesBy (λ x y. slice_cmp nat_cmp x.now y.now) (λ y. slice_cmp nat_cmp k.now y.now) s n b
    → (q : List ℕ) → has n q ≡ cond (bytes_eq k.now q) b (has s q)
key_updated k s n b h q = h.0 (record { ref_ptr = (0, 0); now = q }) ∙ ap (λ e. cond e b (has s q)) (is_eq-slice_cmp k.now q)
