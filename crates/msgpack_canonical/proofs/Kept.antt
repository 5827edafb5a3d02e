-- Places in what is written, and the entries that stand there.
use Rattle.std.proofs.Common.{◌≡◌, ◌-◌, ◌^◌, ℕ, List, [], ◌∷◌, ◌++◌, length, take, drop, true, false, ltb, Ordering, Less, Equal, Greater, is_eq, nat_cmp, map, reverse, refl, sym, ap, ◌∙◌, subst, arith}
use Rattle.std.specs.Ordering.{match_ordering}
use Rattle.std.specs.List.{All}
use Rattle.std.specs.Cmp.Lexicographic.{slice_cmp}
use Rattle.std.specs.BTreeMap.{insert_entry}
use Rattle.std.proofs.lemmas.List.{reverse-append, length-append, length-drop, drop-append-le, take-append-le}
use Rattle.std.proofs.lemmas.List.Elements.{All-nil, All-cons, All-head, All-tail}
use Rattle.std.proofs.lemmas.Map.Text.{is_eq-slice_cmp}
use Rattle.std.proofs.lemmas.Slice.Eq.{bytes_eq-Decides}
use Rattle.std.proofs.Math.Seq.{drop-append_seam, take-length}
use Rattle.message_tree.specs.Data as tree
use Rattle.message_tree.proofs.Comparisons.{through}
use Rattle.msgpack_canonical.specs.declared.entries.EntryPlace.{EntryPlace}
use Rattle.msgpack_codec.specs.Values.{keep_entry, is_text}
use Rattle.msgpack_canonical.proofs.Dicts.{keep_entry-none}
use Rattle.msgpack_canonical.specs.body.Entries.{IsPlaced, Pair, kept, entry_octets, parted, cut, entry_in, place_cmp, IsStanding, inserted, pairs, AreKept, IsEntry}
use Rattle.msgpack_canonical.specs.body.Sorting.{placed, in_order}

pub equal_keys : (j k : List ℕ) → slice_cmp nat_cmp j k ≡ Equal → j ≡ k
equal_keys j k h = (bytes_eq-Decides j k).0 (sym (is_eq-slice_cmp j k) ∙ ap is_eq h)

-- ---- entries put one by one

pairs-put : (k : List ℕ) (d : tree.Data) (es : tree.Entries) → pairs (tree.put k d es) ≡ insert_entry (slice_cmp nat_cmp) (pairs es) k (kept d)
pairs-put k d tree.no_entries = refl
pairs-put k d (tree.entry l e es) =
    let o = slice_cmp nat_cmp k l in
    sym (through pairs o (tree.entry k d (tree.entry l e es)) (tree.entry l d es) (tree.entry l e (tree.put k d es)))
    ∙ ap (λ ps. match_ordering o ((k, kept d) ∷ (l, kept e) ∷ pairs es) ((l, kept d) ∷ pairs es) ((l, kept e) ∷ ps)) (pairs-put k d es)

module _ (written : List ℕ) where
  placed-at : (p q : EntryPlace) (qs : List EntryPlace) (r : Ordering) → place_cmp written p q ≡ r
      → map (entry_in written) (placed (place_cmp written) p qs) ≡ insert_entry (slice_cmp nat_cmp) (map (entry_in written) qs) (entry_in written p).0 (entry_in written p).1
      → map (entry_in written) (match_ordering r (p ∷ q ∷ qs) (p ∷ qs) (q ∷ placed (place_cmp written) p qs))
      ≡ match_ordering r (entry_in written p ∷ entry_in written q ∷ map (entry_in written) qs) (((entry_in written q).0, (entry_in written p).1) ∷ map (entry_in written) qs)
      (entry_in written q ∷ insert_entry (slice_cmp nat_cmp) (map (entry_in written) qs) (entry_in written p).0 (entry_in written p).1)
  placed-at p q qs Less e more = refl
  placed-at p q qs Equal e more = ap (λ (k : List ℕ). (k, (entry_in written p).1) ∷ map (entry_in written) qs) (equal_keys (entry_in written p).0 (entry_in written q).0 e)
  placed-at p q qs Greater e more = ap (λ xs. entry_in written q ∷ xs) more

  map-placed : (p : EntryPlace) (qs : List EntryPlace) → map (entry_in written) (placed (place_cmp written) p qs) ≡ insert_entry (slice_cmp nat_cmp) (map (entry_in written) qs) (entry_in written p).0 (entry_in written p).1
  map-placed p [] = refl
  map-placed p (q ∷ qs) = placed-at p q qs (place_cmp written p q) refl (map-placed p qs)

  pub map-in_order : (ps : List EntryPlace) → map (entry_in written) (in_order (place_cmp written) ps) ≡ inserted (map (entry_in written) ps)
  map-in_order [] = refl
  map-in_order (p ∷ ps) = map-placed p (in_order (place_cmp written) ps) ∙ ap (λ es. insert_entry (slice_cmp nat_cmp) es (entry_in written p).0 (entry_in written p).1) (map-in_order ps)

  -- ---- more is written behind

  module _ (more : List ℕ) where
    cut-more : (p : EntryPlace) → IsStanding written p → cut (written ++ more) p ≡ cut written p
    cut-more p h =
        let within = h.within in
        let ordered = h.ordered in
        ap (take (p.end - p.start)) (drop-append-le p.start written more (omega arith))
        ∙ take-append-le (p.end - p.start) (drop p.start written) more (omega (arith, length-drop p.start written))

    standing-more : (p : EntryPlace) → IsStanding written p → IsStanding (written ++ more) p
    standing-more p h =
        let same = cut-more p h in
        let entry : entry_in (written ++ more) p ≡ entry_in written p = ap parted same in
        let within = h.within in
        record {
          ordered = h.ordered;
          within = omega (arith, length-append written more);
          parts = same ∙ (h.parts ∙ ap (λ (x : Pair). entry_octets x.0 x.1) (sym entry));
          short_key = ap (λ (x : Pair). ltb (length x.0) (2 ^ 32)) entry ∙ h.short_key;
        }

    entries-more : (ps : List EntryPlace) → All (IsStanding written) ps → map (entry_in (written ++ more)) ps ≡ map (entry_in written) ps
    entries-more [] all = refl
    entries-more (p ∷ ps) all =
        ap (λ (x : Pair). x ∷ map (entry_in (written ++ more)) ps) (ap parted (cut-more p (All-head (IsStanding written) p ps all)))
        ∙ ap (λ xs. entry_in written p ∷ xs) (entries-more ps (All-tail (IsStanding written) p ps all))

    pub kept-more : (ps : List EntryPlace) (es : tree.Entries) → AreKept written ps es → AreKept (written ++ more) ps es
    kept-more ps es h = record {
      same = h.same ∙ ap inserted (sym (entries-more ps h.stand));
      stand = λ k d lt. standing-more _ (h.stand k d lt);
    }

    cut-last : (p : EntryPlace) → p.start ≡ length written → p.end ≡ length (written ++ more) → cut (written ++ more) p ≡ more
    cut-last p starts ends =
        let long : p.end - p.start ≡ length more = omega (arith, length-append written more) in
        ap (λ n. take n (drop p.start (written ++ more))) long
        ∙ (ap (λ n. take (length more) (drop n (written ++ more))) starts ∙ (ap (take (length more)) (drop-append_seam written more) ∙ take-length more))

    pub kept-put : (ps : List EntryPlace) (es : tree.Entries) (k : List ℕ) (d : tree.Data) (p : EntryPlace) → AreKept written ps es → IsEntry k (kept d) more → p.start ≡ length written → p.end ≡ length (written ++ more)
        → AreKept (written ++ more) (p ∷ ps) (tree.put k d es)
    kept-put ps es k d p h entry starts ends =
        let after = kept-more ps es h in
        let here = cut-last p starts ends in
        let is : entry_in (written ++ more) p ≡ (k, kept d) = ap parted here ∙ entry.parts in
        let standing : IsStanding (written ++ more) p = record {
          ordered = omega (arith, length-append written more);
          within = omega (arith, ends);
          parts = here ∙ (entry.spelled ∙ ap (λ (x : Pair). entry_octets x.0 x.1) (sym is));
          short_key = ap (λ (x : Pair). ltb (length x.0) (2 ^ 32)) is ∙ entry.short_key;
        } in
        record {
          same = pairs-put k d es ∙ (ap (λ xs. insert_entry (slice_cmp nat_cmp) xs k (kept d)) after.same
              ∙ ap (λ (x : Pair). insert_entry (slice_cmp nat_cmp) (inserted (map (entry_in (written ++ more)) ps)) x.0 x.1) (sym is));
          stand = All-cons (IsStanding (written ++ more)) p ps standing after.stand;
        }

-- ---- one entry more

reverse-last : (ps : List EntryPlace) (p : EntryPlace) → reverse (ps ++ p ∷ []) ≡ p ∷ reverse ps
reverse-last ps p = reverse-append ps (p ∷ [])

text-kept : (written : List ℕ) (places after : List EntryPlace) (es : tree.Entries) (s : List ℕ) (d : tree.Data) (more new : List ℕ) (start end : ℕ) → new ≡ written ++ more → IsEntry s (kept d) more
    → IsPlaced start end places after → start ≡ length written → end ≡ length new → AreKept written (reverse places) es → AreKept new (reverse after) (tree.put s d es)
text-kept written places after es s d more new start end added entry placed starts ends h =
    let is : reverse after ≡ placed.place ∷ reverse places = ap reverse placed.places ∙ reverse-last places placed.place in
    let done = kept-put written more (reverse places) es s d placed.place h entry (placed.starts ∙ starts) (placed.ends ∙ (ends ∙ ap length added)) in
    subst (λ ps. AreKept new ps (tree.put s d es)) (sym is) (subst (λ w. AreKept w (placed.place ∷ reverse places) (tree.put s d es)) (sym added) done)

pub kept-text : (written : List ℕ) (places after : List EntryPlace) (es : tree.Entries) (key d : tree.Data) (more new : List ℕ) (start end : ℕ) → new ≡ written ++ more → is_text key ≡ true
    → ((s : List ℕ) → key ≡ tree.text s → IsEntry s (kept d) more) → IsPlaced start end places after → start ≡ length written → end ≡ length new → AreKept written (reverse places) es → AreKept new (reverse after) (keep_entry key d es)
kept-text written places after es tree.null d more new start end added yea entry placed starts ends h = absurd cc
kept-text written places after es (tree.flag b) d more new start end added yea entry placed starts ends h = absurd cc
kept-text written places after es (tree.whole z) d more new start end added yea entry placed starts ends h = absurd cc
kept-text written places after es (tree.text s) d more new start end added yea entry placed starts ends h = text-kept written places after es s d more new start end added (entry s refl) placed starts ends h
kept-text written places after es (tree.bytes b) d more new start end added yea entry placed starts ends h = absurd cc
kept-text written places after es (tree.list ds) d more new start end added yea entry placed starts ends h = absurd cc
kept-text written places after es (tree.dict ms) d more new start end added yea entry placed starts ends h = absurd cc
kept-text written places after es tree.uncarried d more new start end added yea entry placed starts ends h = absurd cc

pub kept-none : (written : List ℕ) (places : List EntryPlace) (es : tree.Entries) (key d : tree.Data) (more new : List ℕ) → new ≡ written ++ more → is_text key ≡ false → AreKept written places es → AreKept new places (keep_entry key d es)
kept-none written places es key d more new added nay h =
    subst (λ w. AreKept w places (keep_entry key d es)) (sym added) (subst (AreKept (written ++ more) places) (sym (keep_entry-none key d es nay)) (kept-more written more places es h))

pub none-kept : (written : List ℕ) (places : List EntryPlace) → places ≡ [] → AreKept written (reverse places) tree.no_entries
none-kept written places none = subst (λ ps. AreKept written (reverse ps) tree.no_entries) (sym none) (record { same = refl; stand = All-nil (IsStanding written) })
