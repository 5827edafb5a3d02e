-- What is spelled has texts that are UTF-8, and keys that ascend.
use Rattle.std.proofs.Common.{◌≡◌, ℕ, zero, suc, ◌^◌, Bool, true, false, ◌&&◌, cond, List, [], ◌∷◌, length, Less, nat_cmp, refl, sym, ap, ◌∙◌, subst}
use Rattle.std.specs.Prelude.{IsUtf8, nat_lt}
use Rattle.std.specs.Str.{is_utf8}
use Rattle.std.specs.Ordering.{match_ordering, ordering_reverse}
use Rattle.std.specs.declared.cmp.Ordering.{Ordering}
use Rattle.std.specs.declared.cmp.Ordering.TheVariants.{Equal, Greater}
use Rattle.std.specs.Cmp.Lexicographic.{slice_cmp}
use Rattle.std.proofs.lemmas.Cmp.{nat_list_cmp_total}
use Rattle.std.proofs.lemmas.Bool.{and_parts}
use Rattle.std.proofs.lemmas.Str.{IsUtf8-from_is_utf8}
use Rattle.message_tree.specs.Data as tree
use Rattle.message_tree.specs.View.{items_of}
use Rattle.message_tree.proofs.Lemmas.{whichever}
use Rattle.msgpack_codec.specs.declared.format.Form.{Form}
use Rattle.msgpack_codec.specs.declared.format.Form.TheVariants as forms
use Rattle.msgpack_codec.specs.Format.{form_of}
use Rattle.msgpack_codec.specs.Values.{keep_entry, is_text}
use Rattle.msgpack_codec.specs.Short.{has_short, items_have_short, entries_have_short}
use Rattle.msgpack_codec.specs.Grammar.{IsLeaf, AreSpelled, ArePairsSpelled, map_from, IsNest, Spells}
use Rattle.msgpack_codec.specs.Written.{is_before_first, keys_ascend}
use Rattle.msgpack_codec.specs.body.Writable.{is_writable, items_writable, entries_writable}
use Rattle.msgpack_codec.proofs.Members.{kept_or_put}

abbrev mutual
  pub Fine : tree.Data → Type 0
  Fine tree.null = Unit {0}
  Fine (tree.flag b) = Unit {0}
  Fine (tree.whole z) = Unit {0}
  Fine (tree.text s) = IsUtf8 s
  Fine (tree.bytes b) = Unit {0}
  Fine (tree.list ds) = AreFine ds
  Fine (tree.dict es) = HasFine es × tree.IsAscending es
  Fine tree.uncarried = Unit {0}

  pub AreFine : tree.Items → Type 0
  AreFine tree.no_items = Unit {0}
  AreFine (tree.item d ds) = Fine d × AreFine ds

  pub HasFine : tree.Entries → Type 0
  HasFine tree.no_entries = Unit {0}
  HasFine (tree.entry k d es) = IsUtf8 k × Fine d × HasFine es

-- ---- what is put

put_fine : (k : List ℕ) (d : tree.Data) (es : tree.Entries) → IsUtf8 k → Fine d → HasFine es → HasFine (tree.put k d es)
put_fine k d tree.no_entries u f h = (u, f, tt)
put_fine k d (tree.entry l e es) u f h = whichever HasFine (slice_cmp nat_cmp k l) _ _ _ (u, f, h) (h.0, f, h.2) (h.0, h.1, put_fine k d es u f h.2)

before-put : (l k : List ℕ) (d : tree.Data) (es : tree.Entries) → slice_cmp nat_cmp l k ≡ Less → tree.IsBeforeAll l es → tree.IsBeforeAll l (tree.put k d es)
before-put l k d tree.no_entries lt h = (lt, tt)
before-put l k d (tree.entry m e es) lt h = whichever (tree.IsBeforeAll l) (slice_cmp nat_cmp k m) _ _ _ (lt, h) h (h.0, before-put l k d es lt h.1)

before_all : (k l : List ℕ) (es : tree.Entries) → slice_cmp nat_cmp k l ≡ Less → tree.IsBeforeAll l es → tree.IsBeforeAll k es
before_all k l tree.no_entries lt h = tt
before_all k l (tree.entry m d es) lt h = (nat_list_cmp_total.trans k l m lt h.0, before_all k l es lt h.1)

ascending_by : (k l : List ℕ) (d e : tree.Data) (es more : tree.Entries) (o : Ordering) → slice_cmp nat_cmp k l ≡ o → tree.IsAscending (tree.entry l e es) → (slice_cmp nat_cmp l k ≡ Less → tree.IsAscending (tree.entry l e more))
    → tree.IsAscending (match_ordering o (tree.entry k d (tree.entry l e es)) (tree.entry l d es) (tree.entry l e more))
ascending_by k l d e es more Less is a next = ((is, before_all k l es is a.0), a)
ascending_by k l d e es more Equal is a next = a
ascending_by k l d e es more Greater is a next = next (nat_list_cmp_total.antisymm l k ∙ ap ordering_reverse is)

put_ascending : (k : List ℕ) (d : tree.Data) (es : tree.Entries) → tree.IsAscending es → tree.IsAscending (tree.put k d es)
put_ascending k d tree.no_entries a = (tt, tt)
put_ascending k d (tree.entry l e es) a =
    ascending_by k l d e es (tree.put k d es) (slice_cmp nat_cmp k l) refl a (λ lt. (before-put l k d es lt a.0, put_ascending k d es a.1))

-- ---- what is spelled

text_fine : (s : List ℕ) (b : Bool) → is_utf8 s ≡ b → Fine (cond b (tree.text s) tree.uncarried)
text_fine s true e = IsUtf8-from_is_utf8 s e
text_fine s false e = tt

as_fine : (d e : tree.Data) → d ≡ e → Fine e → Fine d
as_fine d e same h = subst Fine (sym same) h

leaf_fine : (form : Form) (f : List ℕ) (d : tree.Data) → IsLeaf form f d → Fine d
leaf_fine forms.Null f d h = as_fine d _ h.1 tt
leaf_fine (forms.Flag b) f d h = as_fine d _ h.1 tt
leaf_fine (forms.Whole z) f d h = as_fine d _ h.1 tt
leaf_fine (forms.Unsigned w) f d h = as_fine d _ h.2 tt
leaf_fine (forms.Signed w) f d h = as_fine d _ h.2 tt
leaf_fine (forms.Text size) f d h = as_fine d _ h.2 (text_fine h.0 (is_utf8 h.0) refl)
leaf_fine (forms.Bytes size) f d h = as_fine d _ h.2 tt
leaf_fine (forms.List size) f d h = absurd h
leaf_fine (forms.Dict size) f d h = absurd h
leaf_fine (forms.Foreign size) f d h = as_fine d _ h.6 tt
leaf_fine (forms.Float w) f d h = as_fine d _ h.1 tt
leaf_fine forms.Never f d h = absurd h

items_fine : (S : List ℕ → tree.Data → Type 0) (fine : (f : List ℕ) (d : tree.Data) → S f d → Fine d) (body : List ℕ) (ds : List tree.Data) → AreSpelled S body ds → AreFine (items_of ds)
items_fine S fine body [] h = tt
items_fine S fine body (d ∷ ds) h = (fine h.0 d h.3, items_fine S fine h.1 ds h.4)

abbrev Kept : tree.Entries → Type 0
Kept es = HasFine es × tree.IsAscending es

keep_fine : (k v : tree.Data) (es : tree.Entries) → Fine k → Fine v → Kept es → Kept (keep_entry k v es)
keep_fine k v es f g h = kept_or_put Kept k v es h (λ s is. (put_fine s v es (subst Fine is f) g h.0, put_ascending s v es h.1))

map_fine : (S : List ℕ → tree.Data → Type 0) (fine : (f : List ℕ) (d : tree.Data) → S f d → Fine d) (found : tree.Entries) (texts : Bool) (body : List ℕ) (ps : List (tree.Data × tree.Data)) → Kept found → ArePairsSpelled S body ps → Fine (map_from found texts ps)
map_fine S fine found true body [] k h = k
map_fine S fine found false body [] k h = tt
map_fine S fine found texts body (p ∷ ps) k h =
    map_fine S fine (keep_entry p.0 p.1 found) (texts && is_text p.0) h.2 ps (keep_fine p.0 p.1 found (fine h.0 p.0 h.4) (fine h.1 p.1 h.5) k) h.6

nest_fine : (S : List ℕ → tree.Data → Type 0) (fine : (f : List ℕ) (d : tree.Data) → S f d → Fine d) (form : Form) (f : List ℕ) (d : tree.Data) → IsNest S form f d → Fine d
nest_fine S fine forms.Null f d h = leaf_fine forms.Null f d h
nest_fine S fine (forms.Flag b) f d h = leaf_fine (forms.Flag b) f d h
nest_fine S fine (forms.Whole z) f d h = leaf_fine (forms.Whole z) f d h
nest_fine S fine (forms.Unsigned w) f d h = leaf_fine (forms.Unsigned w) f d h
nest_fine S fine (forms.Signed w) f d h = leaf_fine (forms.Signed w) f d h
nest_fine S fine (forms.Text size) f d h = leaf_fine (forms.Text size) f d h
nest_fine S fine (forms.Bytes size) f d h = leaf_fine (forms.Bytes size) f d h
nest_fine S fine (forms.List size) f d h = as_fine d _ h.6 (items_fine S fine h.1 h.2 h.5)
nest_fine S fine (forms.Dict size) f d h = as_fine d _ h.6 (map_fine S fine tree.no_entries true h.1 h.2 (tt, tt) h.5)
nest_fine S fine (forms.Foreign size) f d h = leaf_fine (forms.Foreign size) f d h
nest_fine S fine (forms.Float w) f d h = leaf_fine (forms.Float w) f d h
nest_fine S fine forms.Never f d h = leaf_fine forms.Never f d h

pub spelled_fine : (room : ℕ) (f : List ℕ) (d : tree.Data) → Spells room f d → Fine d
unfolding Spells
spelled_fine zero [] d h = absurd h
spelled_fine zero (c ∷ f) d h = leaf_fine (form_of c) f d h
spelled_fine (suc room) [] d h = absurd h
spelled_fine (suc room) (c ∷ f) d h = nest_fine (Spells room) (spelled_fine room) (form_of c) f d h

-- ---- what is fine, carried and short is written

both_true : (a b : Bool) → a ≡ true → b ≡ true → (a && b) ≡ true
both_true a b e f = rw (e, f) refl

first_before : (k : List ℕ) (es : tree.Entries) → tree.IsBeforeAll k es → is_before_first k es ≡ true
first_before k tree.no_entries h = refl
first_before k (tree.entry l d es) h = ap (λ o. match_ordering o true false false) h.0

ascend : (es : tree.Entries) → tree.IsAscending es → keys_ascend es ≡ true
ascend tree.no_entries h = refl
ascend (tree.entry k d es) h = both_true (is_before_first k es) (keys_ascend es) (first_before k es h.0) (ascend es h.1)

mutual
  pub fine_writable : (d : tree.Data) → Fine d → tree.is_carried d ≡ true → has_short d ≡ true → is_writable d ≡ true
  fine_writable tree.null f c h = refl
  fine_writable (tree.flag b) f c h = refl
  fine_writable (tree.whole z) f c h = c
  fine_writable (tree.text s) f c h = h
  fine_writable (tree.bytes b) f c h = h
  fine_writable (tree.list ds) f c h = let p = and_parts _ _ h in both_true _ _ p.0 (items_fine_writable ds f c p.1)
  fine_writable (tree.dict es) f c h =
      let p = and_parts _ _ h in
      both_true _ _ p.0 (both_true _ _ (ascend es f.1) (entries_fine_writable es f.0 c p.1))
  fine_writable tree.uncarried f c h = absurd cc

  items_fine_writable : (ds : tree.Items) → AreFine ds → tree.items_carried ds ≡ true → items_have_short ds ≡ true → items_writable ds ≡ true
  items_fine_writable tree.no_items f c h = refl
  items_fine_writable (tree.item d ds) f c h =
      let p = and_parts (has_short d) (items_have_short ds) h in
      let q = and_parts (tree.is_carried d) (tree.items_carried ds) c in
      both_true _ _ (fine_writable d f.0 q.0 p.0) (items_fine_writable ds f.1 q.1 p.1)

  entries_fine_writable : (es : tree.Entries) → HasFine es → tree.entries_carried es ≡ true → entries_have_short es ≡ true → entries_writable es ≡ true
  entries_fine_writable tree.no_entries f c h = refl
  entries_fine_writable (tree.entry k d es) f c h =
      let p = and_parts (nat_lt (length k) (2 ^ 32)) (has_short d && entries_have_short es) h in
      let r = and_parts (has_short d) (entries_have_short es) p.1 in
      let q = and_parts (tree.is_carried d) (tree.entries_carried es) c in
      both_true _ _ (both_true _ _ p.0 (fine_writable d f.1 q.0 r.0)) (entries_fine_writable es f.2 q.1 r.1)
