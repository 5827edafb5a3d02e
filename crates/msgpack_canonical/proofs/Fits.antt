-- What fits is what `encode` accepts.
use Rattle.std.proofs.Common.{◌≡◌, true, ◌&&◌, length, refl}
use Rattle.std.specs.Prelude.{◌^◌, nat_lt}
use Rattle.std.proofs.lemmas.Bool.{and_parts, and_from}
use Rattle.message_tree.specs.Data as tree
use Rattle.msgpack_codec.specs.Short.{has_short, items_have_short, entries_have_short}
use Rattle.msgpack_canonical.specs.body.Fitting.{fits, items_fit, entries_fit}

mutual
  pub fits-both : (d : tree.Data) → fits d ≡ true → (tree.is_carried d ≡ true) × (has_short d ≡ true)
  fits-both tree.null e = (refl, refl)
  fits-both (tree.flag b) e = (refl, refl)
  fits-both (tree.whole z) e = (e, refl)
  fits-both (tree.text s) e = (refl, e)
  fits-both (tree.bytes b) e = (refl, e)
  fits-both (tree.list ds) e =
      let p = and_parts _ _ e in
      let q = items_fit-both ds p.1 in
      (q.0, and_from _ _ p.0 q.1)
  fits-both (tree.dict es) e =
      let p = and_parts _ _ e in
      let q = entries_fit-both es p.1 in
      (q.0, and_from _ _ p.0 q.1)
  fits-both tree.uncarried e = absurd cc

  items_fit-both : (ds : tree.Items) → items_fit ds ≡ true → (tree.items_carried ds ≡ true) × (items_have_short ds ≡ true)
  items_fit-both tree.no_items e = (refl, refl)
  items_fit-both (tree.item d ds) e =
      let p = and_parts (fits d) (items_fit ds) e in
      let q = fits-both d p.0 in
      let r = items_fit-both ds p.1 in
      (and_from _ _ q.0 r.0, and_from _ _ q.1 r.1)

  entries_fit-both : (es : tree.Entries) → entries_fit es ≡ true → (tree.entries_carried es ≡ true) × (entries_have_short es ≡ true)
  entries_fit-both tree.no_entries e = (refl, refl)
  entries_fit-both (tree.entry k d es) e =
      let p = and_parts (nat_lt (length k) (2 ^ 32)) (fits d && entries_fit es) e in
      let o = and_parts (fits d) (entries_fit es) p.1 in
      let q = fits-both d o.0 in
      let r = entries_fit-both es o.1 in
      (and_from _ _ q.0 r.0, and_from _ _ p.0 (and_from _ _ q.1 r.1))

mutual
  pub both-fit : (d : tree.Data) → tree.is_carried d ≡ true → has_short d ≡ true → fits d ≡ true
  both-fit tree.null c h = refl
  both-fit (tree.flag b) c h = refl
  both-fit (tree.whole z) c h = c
  both-fit (tree.text s) c h = h
  both-fit (tree.bytes b) c h = h
  both-fit (tree.list ds) c h = let p = and_parts _ _ h in and_from _ _ p.0 (items_both-fit ds c p.1)
  both-fit (tree.dict es) c h = let p = and_parts _ _ h in and_from _ _ p.0 (entries_both-fit es c p.1)
  both-fit tree.uncarried c h = absurd cc

  items_both-fit : (ds : tree.Items) → tree.items_carried ds ≡ true → items_have_short ds ≡ true → items_fit ds ≡ true
  items_both-fit tree.no_items c h = refl
  items_both-fit (tree.item d ds) c h =
      let p = and_parts (has_short d) (items_have_short ds) h in
      let q = and_parts (tree.is_carried d) (tree.items_carried ds) c in
      and_from _ _ (both-fit d q.0 p.0) (items_both-fit ds q.1 p.1)

  entries_both-fit : (es : tree.Entries) → tree.entries_carried es ≡ true → entries_have_short es ≡ true → entries_fit es ≡ true
  entries_both-fit tree.no_entries c h = refl
  entries_both-fit (tree.entry k d es) c h =
      let p = and_parts (nat_lt (length k) (2 ^ 32)) (has_short d && entries_have_short es) h in
      let o = and_parts (has_short d) (entries_have_short es) p.1 in
      let q = and_parts (tree.is_carried d) (tree.entries_carried es) c in
      and_from _ _ p.0 (and_from _ _ (both-fit d q.0 o.0) (entries_both-fit es q.1 o.1))
