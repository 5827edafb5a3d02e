-- What isn't carried, or nests too deep, is no list of numbers or texts.
use Rattle.std.proofs.Common.{◌≡◌, ◌≤◌, max, Bool, true, false, cond, ◌&&◌, Option, Some, None, refl, ap, ap₂, ◌∙◌, arith}
use Rattle.message_tree.specs.Data as tree
use Rattle.message_tree.specs.Data.{Data, depth, items_depth, is_carried, items_carried}
use Rattle.eligibility.specs.Options.{with_first, each_of, some_list, list_or_none, number_of, text_of}

-- a value of the kind is carried, and nests nothing
abbrev pub IsPlain : {X : Type 0} → (Data → Option X) → Type 0
IsPlain kind = (d : Data) → (kind d ≡ None → ⊥) → (is_carried d ≡ true) × (depth d ≡ 0)

some-true : {X : Type 0} (x : X) (b : Bool) → (cond b (Some x) None ≡ None → ⊥) → b ≡ true
some-true x true some = refl
some-true x false some = absurd (some refl)

pub numbers-plain : IsPlain number_of
numbers-plain tree.null some = absurd (some refl)
numbers-plain (tree.flag b) some = absurd (some refl)
numbers-plain (tree.whole z) some = (some-true z (tree.fits_codecs z) some, refl)
numbers-plain (tree.text s) some = absurd (some refl)
numbers-plain (tree.bytes b) some = absurd (some refl)
numbers-plain (tree.list ds) some = absurd (some refl)
numbers-plain (tree.dict es) some = absurd (some refl)
numbers-plain tree.uncarried some = absurd (some refl)

pub texts-plain : IsPlain text_of
texts-plain tree.null some = absurd (some refl)
texts-plain (tree.flag b) some = absurd (some refl)
texts-plain (tree.whole z) some = absurd (some refl)
texts-plain (tree.text s) some = (refl, refl)
texts-plain (tree.bytes b) some = absurd (some refl)
texts-plain (tree.list ds) some = absurd (some refl)
texts-plain (tree.dict es) some = absurd (some refl)
texts-plain tree.uncarried some = absurd (some refl)

none-or : {X : Type 0} (o : Option X) → ((o ≡ None → ⊥) → ⊥) → o ≡ None
none-or None nay = refl
none-or (Some x) nay = absurd (nay (λ e. cc))

first-none : {X : Type 0} (o : Option X) → with_first o None ≡ None
first-none None = refl
first-none (Some x) = refl

module _ {X : Type 0} (kind : Data → Option X) (plain : IsPlain kind) where
  items-plain : (ds : tree.Items) → (each_of kind ds ≡ None → ⊥) → (items_carried ds ≡ true) × (items_depth ds ≡ 0)
  items-plain tree.no_items some = (refl, refl)
  items-plain (tree.item d ds) some =
      let first = plain d (λ e. some (ap (λ o. with_first o (each_of kind ds)) e)) in
      let more = items-plain ds (λ e. some (ap (with_first (kind d)) e ∙ first-none (kind d))) in
      (ap₂ (λ a b. a && b) first.0 more.0, ap₂ max first.1 more.1)

  list-plain : (d : Data) → (list_or_none kind (Some d) ≡ None → ⊥) → (is_carried d ≡ true) × (depth d ≤ 1)
  list-plain tree.null some = (refl, omega arith)
  list-plain (tree.flag b) some = absurd (some refl)
  list-plain (tree.whole z) some = absurd (some refl)
  list-plain (tree.text s) some = absurd (some refl)
  list-plain (tree.bytes b) some = absurd (some refl)
  list-plain (tree.list ds) some =
      let items = items-plain ds (λ e. some (ap some_list e)) in
      (items.0, omega (arith, items.1))
  list-plain (tree.dict es) some = absurd (some refl)
  list-plain tree.uncarried some = absurd (some refl)

  pub unlisted : (d : Data) → (is_carried d ≡ true → depth d ≤ 1 → ⊥) → list_or_none kind (Some d) ≡ None
  unlisted d nay = none-or (list_or_none kind (Some d)) (λ some. let l = list-plain d some in nay l.0 l.1)
