-- Entries in their least spelling, put in the order of their keys, are those of a dictionary.
use Rattle.std.proofs.Common.{◌≡◌, ◌^◌, ◌<◌, ◌≤◌, ℕ, ◌+◌, suc, List, [], ◌∷◌, ◌++◌, append_assoc, add-one, drop, drop-cons, get_or, length, map, Bool, true, ◌&&◌, Ordering, Less, Equal, Greater, nat_cmp, refl, sym, ap, ap₂, ◌∙◌}
use Rattle.std.specs.Prelude.{nat_lt}
use Rattle.std.specs.Ordering.{match_ordering}
use Rattle.std.specs.Cmp.Lexicographic.{slice_cmp}
use Rattle.std.proofs.Math.Bool.{and-true}
use Rattle.std.proofs.lemmas.Bool.{and_parts, and_from}
use Rattle.std.proofs.Math.ListN.{drop_of_length-le}
use Rattle.message_tree.specs.Data as tree
use Rattle.message_tree.proofs.Comparisons.{whichever}
use Rattle.msgpack_codec.specs.Short.{short, dict_head, text_head, entries_short}
use Rattle.msgpack_canonical.specs.declared.canonical_entries.CanonicalEntry.{CanonicalEntry}
use Rattle.msgpack_canonical.specs.body.Fitting.{fits, entries_fit}
use Rattle.msgpack_canonical.specs.body.Entries.{Pair, entry_octets}
use Rattle.msgpack_canonical.specs.body.CanonicalEntries.{AreSeen, all_octets, key_cmp, seen, spelled_entries}
use Rattle.msgpack_canonical.specs.body.Sorting.{placed}
use Rattle.msgpack_canonical.proofs.Kept.{equal_keys}

-- ---- an entry more

module _ (e : CanonicalEntry) (k : List ℕ) (d : tree.Data) (key : e.key.now ≡ k) (least : e.octets.now ≡ entry_octets k (short d)) where
  one : seen e ≡ (k, entry_octets k (short d))
  one = ap₂ (λ (x y : List ℕ). (x, y)) key least

  placed-at : (x : CanonicalEntry) (xs : List CanonicalEntry) (l : List ℕ) (f : tree.Data) (es : tree.Entries) (o : Ordering) → slice_cmp nat_cmp k l ≡ o → seen x ≡ (l, entry_octets l (short f))
      → map seen xs ≡ spelled_entries es → map seen (placed key_cmp e xs) ≡ spelled_entries (tree.put k d es)
      → map seen (match_ordering o (e ∷ x ∷ xs) (e ∷ xs) (x ∷ placed key_cmp e xs)) ≡ spelled_entries (match_ordering o (tree.entry k d (tree.entry l f es)) (tree.entry l d es) (tree.entry l f (tree.put k d es)))
  placed-at x xs l f es Less order first others more = ap₂ (λ (p : Pair) ps. p ∷ ps) one (ap₂ (λ (p : Pair) ps. p ∷ ps) first others)
  placed-at x xs l f es Equal order first others more =
      ap₂ (λ (p : Pair) ps. p ∷ ps) (one ∙ ap (λ (n : List ℕ). (n, entry_octets n (short d))) (equal_keys k l order)) others
  placed-at x xs l f es Greater order first others more = ap₂ (λ (p : Pair) ps. p ∷ ps) first more

  placed-put : (xs : List CanonicalEntry) (es : tree.Entries) → map seen xs ≡ spelled_entries es → map seen (placed key_cmp e xs) ≡ spelled_entries (tree.put k d es)
  placed-put [] tree.no_entries same = ap (λ (p : Pair). p ∷ []) one
  placed-put [] (tree.entry l f es) same = absurd cc
  placed-put (x ∷ xs) tree.no_entries same = absurd cc
  placed-put (x ∷ xs) (tree.entry l f es) same =
      let first : seen x ≡ (l, entry_octets l (short f)) = cc in
      let others : map seen xs ≡ spelled_entries es = cc in
      let order : key_cmp e x ≡ slice_cmp nat_cmp k l = ap₂ (slice_cmp nat_cmp) key (ap (λ (p : Pair). p.0) first) in
      ap (λ o. map seen (match_ordering o (e ∷ x ∷ xs) (e ∷ xs) (x ∷ placed key_cmp e xs))) order
      ∙ placed-at x xs l f es (slice_cmp nat_cmp k l) refl first others (placed-put xs es others)

  module _ (small : nat_lt (length k) (2 ^ 32) ≡ true) (fit : fits d ≡ true) where
    put-fits : (es : tree.Entries) → entries_fit es ≡ true → entries_fit (tree.put k d es) ≡ true
    put-fits tree.no_entries all = and_from _ _ small (and_from _ _ fit refl)
    put-fits (tree.entry l f es) all =
        let p = and_parts (nat_lt (length l) (2 ^ 32)) (fits f && entries_fit es) all in
        let q = and_parts (fits f) (entries_fit es) p.1 in
        whichever (λ (x : tree.Entries). entries_fit x ≡ true) (slice_cmp nat_cmp k l) (tree.entry k d (tree.entry l f es)) (tree.entry l d es) (tree.entry l f (tree.put k d es))
        (and_from _ _ small (and_from _ _ fit all))
        (and_from _ _ p.0 (and_from _ _ fit q.1))
        (and_from _ _ p.0 (and_from _ _ q.0 (put-fits es q.1)))

    pub seen-put : (before after : List CanonicalEntry) (es : tree.Entries) → after ≡ placed key_cmp e before → AreSeen before es → AreSeen after (tree.put k d es)
    seen-put before after es is h = record { same = ap (map seen) is ∙ placed-put before es h.same; fit = put-fits es h.fit }

pub seen-none : (entries : List CanonicalEntry) → entries ≡ [] → AreSeen entries tree.no_entries
seen-none entries none = record { same = ap (map seen) none; fit = refl }

-- ---- all of them

seen-count : (xs : List CanonicalEntry) (es : tree.Entries) → map seen xs ≡ spelled_entries es → tree.entry_count es ≡ length xs
seen-count [] tree.no_entries same = refl
seen-count [] (tree.entry l f es) same = absurd cc
seen-count (x ∷ xs) tree.no_entries same = absurd cc
seen-count (x ∷ xs) (tree.entry l f es) same = let others : map seen xs ≡ spelled_entries es = cc in ap suc (seen-count xs es others)

seen-octets : (xs : List CanonicalEntry) (es : tree.Entries) → map seen xs ≡ spelled_entries es → entries_short es ≡ all_octets xs
seen-octets [] tree.no_entries same = refl
seen-octets [] (tree.entry l f es) same = absurd cc
seen-octets (x ∷ xs) tree.no_entries same = absurd cc
seen-octets (x ∷ xs) (tree.entry l f es) same =
    let first : seen x ≡ (l, entry_octets l (short f)) = cc in
    let others : map seen xs ≡ spelled_entries es = cc in
    let here : x.octets.now ≡ text_head (length l) ++ (l ++ short f) = ap (λ (p : Pair). p.1) first in
    sym (ap₂ (λ (o r : List ℕ). o ++ r) here (sym (seen-octets xs es others)) ∙ (append_assoc (text_head (length l)) (l ++ short f) (entries_short es)
    ∙ ap (λ o. text_head (length l) ++ o) (append_assoc l (short f) (entries_short es))))

-- what is put of them, by any names
pub seen-dict : (entries given : List CanonicalEntry) (es : tree.Entries) (b : Bool) (old new : List ℕ) → AreSeen entries es → given ≡ entries → b ≡ nat_lt (length given) (2 ^ 32)
    → (b ≡ true → new ≡ old ++ (dict_head (length given) ++ all_octets given)) → (b ≡ fits (tree.dict es)) × (b ≡ true → new ≡ old ++ short (tree.dict es))
seen-dict entries given es b old new h same fit put =
    let count = seen-count entries es h.same in (
      fit ∙ (ap (λ xs. nat_lt (length xs) (2 ^ 32)) same ∙ (ap (λ n. nat_lt n (2 ^ 32)) (sym count) ∙ (sym (and-true (nat_lt (tree.entry_count es) (2 ^ 32))) ∙ ap (λ x. nat_lt (tree.entry_count es) (2 ^ 32) && x) (sym h.fit)))),
      λ yea. put yea ∙ (ap (λ xs. old ++ (dict_head (length xs) ++ all_octets xs)) same ∙ ap₂ (λ n o. old ++ (dict_head n ++ o)) (sym count) (sym (seen-octets entries es h.same))),
    )

-- ---- one entry more to put

pub octets-step : (xs : List CanonicalEntry) (i : ℕ) (d : CanonicalEntry) → i < length xs → all_octets (drop i xs) ≡ (get_or xs i d).octets.now ++ all_octets (drop (i + 1) xs)
octets-step xs i d lt = ap all_octets (drop-cons xs i d lt) ∙ ap (λ n. (get_or xs i d).octets.now ++ all_octets (drop n xs)) (sym (add-one i))

pub none-left : (xs : List CanonicalEntry) (i : ℕ) → length xs ≤ i → all_octets (drop i xs) ≡ []
none-left xs i le = ap all_octets (drop_of_length-le xs le)
