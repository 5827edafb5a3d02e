-- What is written for a value that fits begins with an octet, and a dictionary's entries are those that stand at places in order.
use Rattle.std.proofs.Common.{◌≡◌, ◌+◌, ◌<◌, ◌≤◌, ◌^◌, ◌==◌, get_or, drop, drop-cons, add-one, ℕ, ℤ, pos, negsuc, suc, List, [], ◌∷◌, ◌++◌, length, Bool, true, false, ◌&&◌, cond, ltb, map, refl, sym, ap, ◌∙◌, subst, append_assoc}
use Rattle.std.specs.List.{All}
use Rattle.std.proofs.lemmas.Bool.{and_parts}
use Rattle.std.proofs.lemmas.List.Elements.{All-head, All-tail}
use Rattle.std.proofs.Math.ListN.{drop_of_length-le}
use Rattle.std.proofs.Math.Dec.{eqb-suc-zero}
use Rattle.message_tree.specs.Data as tree
use Rattle.msgpack_codec.specs.Short.{short, whole_short, from_zero, below_zero, text_head, bytes_head, list_head, dict_head, entries_short}
use Rattle.msgpack_canonical.specs.declared.entries.EntryPlace.{EntryPlace}
use Rattle.msgpack_canonical.specs.body.Fitting.{fits, entries_fit}
use Rattle.msgpack_canonical.specs.body.Entries.{Pair, kept, entry_octets, cut, entry_in, place_cmp, IsStanding, pairs, AreKept, is_some_octets, all_kept, cuts}
use Rattle.msgpack_canonical.specs.body.Sorting.{in_order}
use Rattle.msgpack_canonical.proofs.Kept.{map-in_order}

-- ---- octets that are some

either-some : (b : Bool) (x y : List ℕ) → is_some_octets x ≡ true → is_some_octets y ≡ true → is_some_octets (cond b x y) ≡ true
either-some true x y p q = p
either-some false x y p q = q

before-some : (x y : List ℕ) → is_some_octets x ≡ true → is_some_octets (x ++ y) ≡ true
before-some [] y e = absurd cc
before-some (c ∷ o) y e = refl

from_zero-some : (n : ℕ) → is_some_octets (from_zero n) ≡ true
unfolding from_zero
from_zero-some n = either-some (ltb n 128) _ _ refl (either-some (ltb n 256) _ _ refl (either-some (ltb n 65536) _ _ refl (either-some (ltb n (2 ^ 32)) _ _ refl refl)))

below_zero-some : (n : ℕ) → is_some_octets (below_zero n) ≡ true
unfolding below_zero
below_zero-some n = either-some (ltb n 32) _ _ refl (either-some (ltb n 128) _ _ refl (either-some (ltb n 32768) _ _ refl (either-some (ltb n (2 ^ 31)) _ _ refl refl)))

text_head-some : (n : ℕ) → is_some_octets (text_head n) ≡ true
unfolding text_head
text_head-some n = either-some (ltb n 32) _ _ refl (either-some (ltb n 256) _ _ refl (either-some (ltb n 65536) _ _ refl refl))

bytes_head-some : (n : ℕ) → is_some_octets (bytes_head n) ≡ true
unfolding bytes_head
bytes_head-some n = either-some (ltb n 256) _ _ refl (either-some (ltb n 65536) _ _ refl refl)

list_head-some : (n : ℕ) → is_some_octets (list_head n) ≡ true
unfolding list_head
list_head-some n = either-some (ltb n 16) _ _ refl (either-some (ltb n 65536) _ _ refl refl)

dict_head-some : (n : ℕ) → is_some_octets (dict_head n) ≡ true
unfolding dict_head
dict_head-some n = either-some (ltb n 16) _ _ refl (either-some (ltb n 65536) _ _ refl refl)

whole-some : (z : ℤ) → is_some_octets (whole_short z) ≡ true
whole-some (pos n) = from_zero-some n
whole-some (negsuc n) = below_zero-some n

short-some : (d : tree.Data) → fits d ≡ true → is_some_octets (short d) ≡ true
short-some tree.null e = refl
short-some (tree.flag b) e = refl
short-some (tree.whole z) e = whole-some z
short-some (tree.text s) e = before-some (text_head (length s)) s (text_head-some (length s))
short-some (tree.bytes s) e = before-some (bytes_head (length s)) s (bytes_head-some (length s))
short-some (tree.list ds) e = before-some (list_head _) _ (list_head-some _)
short-some (tree.dict es) e = before-some (dict_head _) _ (dict_head-some _)
short-some tree.uncarried e = absurd cc

kept-at : (d : tree.Data) (b : Bool) → fits d ≡ b → is_some_octets (cond b (short d) []) ≡ b
kept-at d true e = short-some d e
kept-at d false e = refl

-- what is kept of a value is some just where the value fits
kept-some : (d : tree.Data) → is_some_octets (kept d) ≡ fits d
kept-some d = kept-at d (fits d) refl

-- ---- dictionaries

entry_count-pairs : (es : tree.Entries) → tree.entry_count es ≡ length (pairs es)
entry_count-pairs tree.no_entries = refl
entry_count-pairs (tree.entry k d es) = ap suc (entry_count-pairs es)

abbrev AreShort : List Pair → Type 0
AreShort [] = Unit {0}
AreShort (x ∷ xs) = (ltb (length x.0) (2 ^ 32) ≡ true) × AreShort xs

entries_fit-pairs : (es : tree.Entries) → AreShort (pairs es) → entries_fit es ≡ all_kept (pairs es)
entries_fit-pairs tree.no_entries short = refl
entries_fit-pairs (tree.entry k d es) short =
    ap (λ b. b && (fits d && entries_fit es)) short.0 ∙ (ap (λ b. b && entries_fit es) (sym (kept-some d)) ∙ ap (λ b. is_some_octets (kept d) && b) (entries_fit-pairs es short.1))

abbrev octets_of : List Pair → List ℕ
octets_of [] = []
octets_of (x ∷ xs) = entry_octets x.0 x.1 ++ octets_of xs

entries_short-pairs : (es : tree.Entries) → entries_fit es ≡ true → octets_of (pairs es) ≡ entries_short es
entries_short-pairs tree.no_entries e = refl
entries_short-pairs (tree.entry k d es) e =
    let p = and_parts (ltb (length k) (2 ^ 32)) (fits d && entries_fit es) e in
    let q = and_parts (fits d) (entries_fit es) p.1 in
    let value : kept d ≡ short d = ap (λ b. cond b (short d) []) q.0 in
    append_assoc (text_head (length k)) (k ++ kept d) (octets_of (pairs es))
    ∙ (ap (λ o. text_head (length k) ++ o) (append_assoc k (kept d) (octets_of (pairs es)))
    ∙ (ap (λ (v : List ℕ). text_head (length k) ++ (k ++ (v ++ octets_of (pairs es)))) value ∙ ap (λ (o : List ℕ). text_head (length k) ++ (k ++ (short d ++ o))) (entries_short-pairs es q.1)))

module _ (written : List ℕ) where
  cuts-entries : (ps : List EntryPlace) → All (IsStanding written) ps → cuts written ps ≡ octets_of (map (entry_in written) ps)
  cuts-entries [] all = refl
  cuts-entries (p ∷ ps) all =
      let one = All-head (IsStanding written) p ps all in
      ap (λ (o : List ℕ). o ++ cuts written ps) one.parts ∙ ap (λ o. entry_octets (entry_in written p).0 (entry_in written p).1 ++ o) (cuts-entries ps (All-tail (IsStanding written) p ps all))

  short-entries : (ps : List EntryPlace) → All (IsStanding written) ps → AreShort (map (entry_in written) ps)
  short-entries [] all = tt
  short-entries (p ∷ ps) all = let one = All-head (IsStanding written) p ps all in (one.short_key, short-entries ps (All-tail (IsStanding written) p ps all))

  length-map : (ps : List EntryPlace) → length (map (entry_in written) ps) ≡ length ps
  length-map [] = refl
  length-map (p ∷ ps) = ap suc (length-map ps)

  module _ (arrived sorted : List EntryPlace) (es : tree.Entries) (k : AreKept written arrived es) (order : sorted ≡ in_order (place_cmp written) arrived) (stand : All (IsStanding written) sorted) where
    same-pairs : pairs es ≡ map (entry_in written) sorted
    same-pairs = k.same ∙ (sym (map-in_order written arrived) ∙ ap (map (entry_in written)) (sym order))

    count : tree.entry_count es ≡ length sorted
    count = entry_count-pairs es ∙ (ap length same-pairs ∙ length-map sorted)

    pub dict-fits : fits (tree.dict es) ≡ (ltb (length sorted) (2 ^ 32) && all_kept (map (entry_in written) sorted))
    dict-fits =
        ap (λ n. ltb n (2 ^ 32) && entries_fit es) count
        ∙ ap (λ b. ltb (length sorted) (2 ^ 32) && b) (entries_fit-pairs es (subst AreShort (sym same-pairs) (short-entries sorted stand)) ∙ ap all_kept same-pairs)

    pub dict-short : fits (tree.dict es) ≡ true → short (tree.dict es) ≡ dict_head (length sorted) ++ cuts written sorted
    dict-short e =
        let fit = (and_parts (ltb (tree.entry_count es) (2 ^ 32)) (entries_fit es) e).1 in
        ap (λ n. dict_head n ++ entries_short es) count
        ∙ ap (λ o. dict_head (length sorted) ++ o) (sym (entries_short-pairs es fit) ∙ (ap octets_of same-pairs ∙ sym (cuts-entries sorted stand)))

    -- what was put of such places, which may be called otherwise
    pub dict-put : (written' : List ℕ) (sorted' : List EntryPlace) (b : Bool) (old new : List ℕ) → written' ≡ written → sorted' ≡ sorted → b ≡ (ltb (length sorted') (2 ^ 32) && all_kept (map (entry_in written') sorted'))
        → (b ≡ true → new ≡ old ++ (dict_head (length sorted') ++ cuts written' sorted')) → (b ≡ fits (tree.dict es)) × (b ≡ true → new ≡ old ++ short (tree.dict es))
    dict-put written' sorted' b old new w s fit put =
        let is : b ≡ fits (tree.dict es) =
        fit ∙ (ap (λ ps. ltb (length ps) (2 ^ 32) && all_kept (map (entry_in written') ps)) s ∙ (ap (λ (o : List ℕ). ltb (length sorted) (2 ^ 32) && all_kept (map (entry_in o) sorted)) w ∙ sym dict-fits)) in (
          is,
          λ yea. put yea ∙ (ap (λ ps. old ++ (dict_head (length ps) ++ cuts written' ps)) s ∙ (ap (λ (o : List ℕ). old ++ (dict_head (length sorted) ++ cuts o sorted)) w ∙ ap (λ o. old ++ o) (sym (dict-short (sym is ∙ yea))))),
        )

-- ---- one place more

pub cuts-step : (written : List ℕ) (ps : List EntryPlace) (i : ℕ) (d : EntryPlace) → i < length ps → cuts written (drop i ps) ≡ cut written (get_or ps i d) ++ cuts written (drop (i + 1) ps)
cuts-step written ps i d lt = ap (cuts written) (drop-cons ps i d lt) ∙ ap (λ n. cut written (get_or ps i d) ++ cuts written (drop n ps)) (sym (add-one i))

pub all_kept-step : (written : List ℕ) (ps : List EntryPlace) (i : ℕ) (d : EntryPlace) → i < length ps
    → all_kept (map (entry_in written) (drop i ps)) ≡ (is_some_octets (entry_in written (get_or ps i d)).1 && all_kept (map (entry_in written) (drop (i + 1) ps)))
all_kept-step written ps i d lt =
    ap (λ xs. all_kept (map (entry_in written) xs)) (drop-cons ps i d lt)
    ∙ ap (λ n. is_some_octets (entry_in written (get_or ps i d)).1 && all_kept (map (entry_in written) (drop n ps))) (sym (add-one i))

pub none-left : (written : List ℕ) (ps : List EntryPlace) (i : ℕ) → length ps ≤ i → drop i ps ≡ []
none-left written ps i le = drop_of_length-le ps le

pub no-octets : (o : List ℕ) → (length o == 0) ≡ true → is_some_octets o ≡ false
no-octets [] e = refl
no-octets (c ∷ o) e = let nay = eqb-suc-zero (length o) in absurd cc

pub some-octets : (o : List ℕ) → (length o == 0) ≡ false → is_some_octets o ≡ true
some-octets [] e = absurd cc
some-octets (c ∷ o) e = refl
