-- Whether what has settled is carried, by what was told of it as it was written.
use Rattle.std.proofs.Common.{◌≡◌, ℕ, Bool, true, false, ◌&&◌, cond, List, Less, nat_cmp, inl, inr, ◌⊎◌, refl, sym, ap, ◌∙◌, subst}
use Rattle.std.specs.Ordering.{match_ordering}
use Rattle.std.specs.declared.cmp.Ordering.{Ordering}
use Rattle.std.specs.declared.cmp.Ordering.TheVariants.{Equal, Greater}
use Rattle.std.specs.Prelude.{◌^◌, nat_lt, length}
use Rattle.std.specs.Cmp.Lexicographic.{slice_cmp}
use Rattle.std.proofs.lemmas.Cmp.{nat_list_cmp_total}
use Rattle.std.proofs.lemmas.Bool.{and_parts}
use Rattle.message_tree.specs.Data as tree
use Rattle.message_tree.proofs.Lemmas.{whichever, joined-none, next-put}
use Rattle.msgpack_codec.specs.Written.{settled, items_settled, entries_settled, is_before_first, keys_ascend, worse, doubted, carriage_of, items_carriage, entries_carriage}
use Rattle.msgpack_codec.specs.body.Writable.{is_writable, items_writable, entries_writable}
use Rattle.msgpack_codec.specs.Short.{has_short, items_have_short, entries_have_short}
use Rattle.msgpack_codec.specs.declared.carriage.Carriage.{Carriage}
use Rattle.msgpack_codec.specs.declared.carriage.Carriage.TheVariants.{Carried, Unsure, Uncarried}

-- ---- what is surely carried

both_carried : (a b : Carriage) → worse a b ≡ Carried → (a ≡ Carried) × (b ≡ Carried)
both_carried Carried b e = (refl, e)
both_carried Unsure Carried e = absurd cc
both_carried Unsure Unsure e = absurd cc
both_carried Unsure Uncarried e = absurd cc
both_carried Uncarried b e = absurd cc

doubted-carried : (a : Carriage) → doubted a ≡ Carried → a ≡ Carried
doubted-carried Carried e = refl
doubted-carried Unsure e = absurd cc
doubted-carried Uncarried e = absurd cc

map_carried : (ascend : Bool) (a : Carriage) → cond ascend a (doubted a) ≡ Carried → a ≡ Carried
map_carried true a e = e
map_carried false a e = doubted-carried a e

when_carried : (b : Bool) → cond b Carried Uncarried ≡ Carried → b ≡ true
when_carried true e = refl
when_carried false e = absurd cc

both_true : (a b : Bool) → a ≡ true → b ≡ true → (a && b) ≡ true
both_true a b e f = rw (e, f) refl

put_carried : (k : List ℕ) (d : tree.Data) (es : tree.Entries) → tree.is_carried d ≡ true → tree.entries_carried es ≡ true → tree.entries_carried (tree.put k d es) ≡ true
put_carried k d tree.no_entries x y = both_true _ _ x refl
put_carried k d (tree.entry l e es) x y =
    let parts = and_parts (tree.is_carried e) (tree.entries_carried es) y in
    whichever (λ m. tree.entries_carried m ≡ true) (slice_cmp nat_cmp k l) _ _ _ (both_true _ _ x y) (both_true _ _ x parts.1) (both_true _ _ parts.0 (put_carried k d es x parts.1))

mutual
  pub settled_carried : (d : tree.Data) → carriage_of d ≡ Carried → tree.is_carried (settled d) ≡ true
  settled_carried tree.null e = refl
  settled_carried (tree.flag b) e = refl
  settled_carried (tree.whole z) e = when_carried (tree.fits_codecs z) e
  settled_carried (tree.text s) e = refl
  settled_carried (tree.bytes b) e = refl
  settled_carried (tree.list ds) e = items_settled_carried ds e
  settled_carried (tree.dict es) e = entries_settled_carried tree.no_entries es refl (map_carried (keys_ascend es) (entries_carriage es) e)
  settled_carried tree.uncarried e = absurd cc

  items_settled_carried : (ds : tree.Items) → items_carriage ds ≡ Carried → tree.items_carried (items_settled ds) ≡ true
  items_settled_carried tree.no_items e = refl
  items_settled_carried (tree.item d ds) e =
      let both = both_carried (carriage_of d) (items_carriage ds) e in
      both_true _ _ (settled_carried d both.0) (items_settled_carried ds both.1)

  entries_settled_carried : (found es : tree.Entries) → tree.entries_carried found ≡ true → entries_carriage es ≡ Carried → tree.entries_carried (entries_settled found es) ≡ true
  entries_settled_carried found tree.no_entries c e = c
  entries_settled_carried found (tree.entry k d es) c e =
      let both = both_carried (carriage_of d) (entries_carriage es) e in
      entries_settled_carried (tree.put k (settled d) found) es (put_carried k (settled d) found (settled_carried d both.0) c) both.1

-- ---- what is surely uncarried

one_uncarried : (a b : Carriage) → worse a b ≡ Uncarried → (a ≡ Uncarried) ⊎ (b ≡ Uncarried)
one_uncarried Carried b e = inr e
one_uncarried Unsure Carried e = absurd cc
one_uncarried Unsure Unsure e = absurd cc
one_uncarried Unsure Uncarried e = inr refl
one_uncarried Uncarried b e = inl refl

never_doubted : (a : Carriage) → doubted a ≡ Uncarried → ⊥
never_doubted Carried e = cc
never_doubted Unsure e = cc
never_doubted Uncarried e = cc

map_uncarried : (ascend : Bool) (a : Carriage) → cond ascend a (doubted a) ≡ Uncarried → (ascend ≡ true) × (a ≡ Uncarried)
map_uncarried true a e = (refl, e)
map_uncarried false a e = absurd (never_doubted a e)

when_uncarried : (b : Bool) → cond b Carried Uncarried ≡ Uncarried → b ≡ false
when_uncarried true e = absurd cc
when_uncarried false e = refl

first_false : (a b : Bool) → a ≡ false → (a && b) ≡ false
first_false a b e = rw e refl

second_false : (a b : Bool) → b ≡ false → (a && b) ≡ false
second_false true b e = e
second_false false b e = refl

-- the entries, each value settled where it stands
abbrev in_place : tree.Entries → tree.Entries
in_place tree.no_entries = tree.no_entries
in_place (tree.entry k d es) = tree.entry k (settled d) (in_place es)

is_less : (o : Ordering) → match_ordering o true false false ≡ true → o ≡ Less
is_less Less e = refl
is_less Equal e = absurd cc
is_less Greater e = absurd cc

-- a key before another is before all those that ascend behind that one
before_all : (k l : List ℕ) (es : tree.Entries) → slice_cmp nat_cmp k l ≡ Less → tree.IsBeforeAll l es → tree.IsBeforeAll k es
before_all k l tree.no_entries lt h = tt
before_all k l (tree.entry m d es) lt h = (nat_list_cmp_total.trans k l m lt h.0, before_all k l es lt h.1)

before_first : (k : List ℕ) (es : tree.Entries) → is_before_first k es ≡ true → tree.IsAscending (in_place es) → tree.IsBeforeAll k (in_place es)
before_first k tree.no_entries b h = tt
before_first k (tree.entry l d es) b h =
    let lt = is_less (slice_cmp nat_cmp k l) b in
    (lt, before_all k l (in_place es) lt h.0)

ascending : (es : tree.Entries) → keys_ascend es ≡ true → tree.IsAscending (in_place es)
ascending tree.no_entries h = tt
ascending (tree.entry k d es) h =
    let parts = and_parts (is_before_first k es) (keys_ascend es) h in
    let more = ascending es parts.1 in
    (before_first k es parts.0 more, more)

-- where keys ascend, none comes again
settled_in_place : (found es : tree.Entries) → tree.IsAscending (tree.joined found (in_place es)) → entries_settled found es ≡ tree.joined found (in_place es)
settled_in_place found tree.no_entries a = sym (joined-none found)
settled_in_place found (tree.entry k d es) a =
    let next = next-put found k (settled d) (in_place es) (tree.joined found (in_place (tree.entry k d es))) refl a in
    settled_in_place (tree.put k (settled d) found) es (subst tree.IsAscending next a) ∙ sym next

mutual
  pub settled_uncarried : (d : tree.Data) → carriage_of d ≡ Uncarried → tree.is_carried (settled d) ≡ false
  settled_uncarried tree.null e = absurd cc
  settled_uncarried (tree.flag b) e = absurd cc
  settled_uncarried (tree.whole z) e = when_uncarried (tree.fits_codecs z) e
  settled_uncarried (tree.text s) e = absurd cc
  settled_uncarried (tree.bytes b) e = absurd cc
  settled_uncarried (tree.list ds) e = items_settled_uncarried ds e
  settled_uncarried (tree.dict es) e =
      let h = map_uncarried (keys_ascend es) (entries_carriage es) e in
      ap tree.entries_carried (settled_in_place tree.no_entries es (ascending es h.0)) ∙ in_place_uncarried es h.1
  settled_uncarried tree.uncarried e = refl

  items_settled_uncarried : (ds : tree.Items) → items_carriage ds ≡ Uncarried → tree.items_carried (items_settled ds) ≡ false
  items_settled_uncarried tree.no_items e = absurd cc
  items_settled_uncarried (tree.item d ds) e =
      elim (one_uncarried (carriage_of d) (items_carriage ds) e) [ inl h ↦ first_false _ _ (settled_uncarried d h) | inr h ↦ second_false _ _ (items_settled_uncarried ds h) ]

  in_place_uncarried : (es : tree.Entries) → entries_carriage es ≡ Uncarried → tree.entries_carried (in_place es) ≡ false
  in_place_uncarried tree.no_entries e = absurd cc
  in_place_uncarried (tree.entry k d es) e =
      elim (one_uncarried (carriage_of d) (entries_carriage es) e) [ inl h ↦ first_false _ _ (settled_uncarried d h) | inr h ↦ second_false _ _ (in_place_uncarried es h) ]

-- ---- what is written by `encode`

mutual
  pub writable_carried : (d : tree.Data) → is_writable d ≡ true → tree.is_carried d ≡ true
  writable_carried tree.null h = refl
  writable_carried (tree.flag b) h = refl
  writable_carried (tree.whole z) h = h
  writable_carried (tree.text s) h = refl
  writable_carried (tree.bytes b) h = refl
  writable_carried (tree.list ds) h = items_writable_carried ds (and_parts _ _ h).1
  writable_carried (tree.dict es) h = entries_writable_carried es (and_parts _ _ (and_parts _ _ h).1).1
  writable_carried tree.uncarried h = absurd cc

  items_writable_carried : (ds : tree.Items) → items_writable ds ≡ true → tree.items_carried ds ≡ true
  items_writable_carried tree.no_items h = refl
  items_writable_carried (tree.item d ds) h = both_true _ _ (writable_carried d (and_parts _ _ h).0) (items_writable_carried ds (and_parts _ _ h).1)

  entries_writable_carried : (es : tree.Entries) → entries_writable es ≡ true → tree.entries_carried es ≡ true
  entries_writable_carried tree.no_entries h = refl
  entries_writable_carried (tree.entry k d es) h =
      both_true _ _ (writable_carried d (and_parts _ _ (and_parts _ _ h).0).1) (entries_writable_carried es (and_parts _ _ h).1)

mutual
  pub writable_short : (d : tree.Data) → is_writable d ≡ true → has_short d ≡ true
  writable_short tree.null h = refl
  writable_short (tree.flag b) h = refl
  writable_short (tree.whole z) h = refl
  writable_short (tree.text s) h = h
  writable_short (tree.bytes b) h = h
  writable_short (tree.list ds) h = both_true _ _ (and_parts _ _ h).0 (items_writable_short ds (and_parts _ _ h).1)
  writable_short (tree.dict es) h = both_true _ _ (and_parts _ _ h).0 (entries_writable_short es (and_parts _ _ (and_parts _ _ h).1).1)
  writable_short tree.uncarried h = absurd cc

  items_writable_short : (ds : tree.Items) → items_writable ds ≡ true → items_have_short ds ≡ true
  items_writable_short tree.no_items h = refl
  items_writable_short (tree.item d ds) h = both_true _ _ (writable_short d (and_parts _ _ h).0) (items_writable_short ds (and_parts _ _ h).1)

  entries_writable_short : (es : tree.Entries) → entries_writable es ≡ true → entries_have_short es ≡ true
  entries_writable_short tree.no_entries h = refl
  entries_writable_short (tree.entry k d es) h =
      let first = and_parts _ _ (and_parts _ _ h).0 in
      both_true _ _ first.0 (both_true _ _ (writable_short d first.1) (entries_writable_short es (and_parts _ _ h).1))

mutual
  pub writable_settled : (d : tree.Data) → is_writable d ≡ true → settled d ≡ d
  writable_settled tree.null h = refl
  writable_settled (tree.flag b) h = refl
  writable_settled (tree.whole z) h = refl
  writable_settled (tree.text s) h = refl
  writable_settled (tree.bytes b) h = refl
  writable_settled (tree.list ds) h = ap tree.list (items_writable_settled ds (and_parts _ _ h).1)
  writable_settled (tree.dict es) h =
      let more = and_parts (keys_ascend es) (entries_writable es) (and_parts _ _ h).1 in
      ap tree.dict (settled_in_place tree.no_entries es (ascending es more.0) ∙ in_place_is es more.1)
  writable_settled tree.uncarried h = absurd cc

  items_writable_settled : (ds : tree.Items) → items_writable ds ≡ true → items_settled ds ≡ ds
  items_writable_settled tree.no_items h = refl
  items_writable_settled (tree.item d ds) h =
      let both = and_parts (is_writable d) (items_writable ds) h in
      rw (writable_settled d both.0, items_writable_settled ds both.1) refl

  in_place_is : (es : tree.Entries) → entries_writable es ≡ true → in_place es ≡ es
  in_place_is tree.no_entries h = refl
  in_place_is (tree.entry k d es) h =
      let both = and_parts (nat_lt (length k) (2 ^ 32) && is_writable d) (entries_writable es) h in
      let first = and_parts (nat_lt (length k) (2 ^ 32)) (is_writable d) both.0 in
      rw (writable_settled d first.1, in_place_is es both.1) refl
