-- One item goes to the row of its connection, and the other rows stay.
use Rattle.std.proofs.Common.{◌≡◌, ◌≢◌, ℕ, ◌<◌, true, eqb, List, [], ◌∷◌, length, set, get_or, refl, sym, ap, ◌∙◌, subst, inl, inr, ⊎_elim, append-nil, arith}
use Rattle.std.specs.Prelude.{Option, Some, None, slice_get}
use Rattle.std.proofs.lemmas.Bool.{eq-eqb, ne_eqb, cond-false}
use Rattle.wamp_messages.specs.declared.item.Item.{Item}
use Rattle.realm.specs.History.{History}
use Rattle.realm.specs.Given.{items_for}
use Rattle.realm_actor.specs.declared.row.Row.{Row}
use Rattle.realm_actor.specs.OutboxHistory.{Box, Goes}
use Rattle.realm_actor.specs.Rows.{BoxGoes, Rose, box_in, RowDue, RowGoes, Each, Ascending, EachDue, EachGoes, NoneRose}
use Rattle.realm_actor.specs.Tables.{Went, BoxWent}
use Rattle.realm_actor.proofs.RowPlaces.{same_place, written, read, beside, one_place, pairs_set}
use Rattle.realm_actor.proofs.LastCutLemmas.{Went-on, rose_once, rose_first, rose_later, not_above}

items_own : (c : ℕ) (x : Item) (rest : List (ℕ × Item)) → items_for c ((c, x) ∷ rest) ≡ x ∷ items_for c rest
items_own c x rest = let same : eqb c c ≡ true = eq-eqb c c refl in rw same

items_other : (d c : ℕ) (x : Item) (rest : List (ℕ × Item)) → d ≢ c → items_for d ((c, x) ∷ rest) ≡ items_for d rest
items_other d c x rest n = cond-false (eqb c d) (x ∷ items_for d rest) (items_for d rest) (ne_eqb c d (λ same. n (sym same)))

Goes-same : (o : Box) → Goes o o
Goes-same o = record { queue = refl; capacity = refl; conn = refl; chronicle = refl; is_closed = refl; added = ([], append-nil o.added); finds = omega arith; marked = λ _. (refl, refl); room = λ h. absurd (omega (arith, h)) }

BoxGoes-same : (o : Option Box) → BoxGoes o o
BoxGoes-same None = tt
BoxGoes-same (Some o) = Goes-same o

-- an outbox that items were offered to went on
went : (o p : Box) → Goes o p → Went o p
went o p g = record { queue = g.queue; capacity = g.capacity; conn = g.conn; chronicle = g.chronicle; added = g.added; finds = g.finds; marked = g.marked; room = g.room; shut = λ is. g.is_closed ∙ is }

box_went : (o p : Option Box) → BoxGoes o p → BoxWent o p
box_went None None g = tt
box_went None (Some p) g = absurd g
box_went (Some o) None g = absurd g
box_went (Some o) (Some p) g = went o p g

Goes-on : (o p q : Box) → Goes o p → Goes p q → Goes o q
Goes-on o p q a b =
    let w = Went-on o p q (went o p a) (went p q b) in
    record { queue = w.queue; capacity = w.capacity; conn = w.conn; chronicle = w.chronicle; is_closed = b.is_closed ∙ a.is_closed; added = w.added; finds = w.finds; marked = w.marked; room = w.room }

BoxGoes-on : (o p q : Option Box) → BoxGoes o p → BoxGoes p q → BoxGoes o q
BoxGoes-on None None None a b = tt
BoxGoes-on None None (Some q) a b = absurd b
BoxGoes-on None (Some p) q a b = absurd a
BoxGoes-on (Some o) None q a b = absurd a
BoxGoes-on (Some o) (Some p) None a b = absurd b
BoxGoes-on (Some o) (Some p) (Some q) a b = Goes-on o p q a b

module _ {S : Type 0} where
  -- the row that the code reads at a place
  pub row_at : (rows : List (Row S)) (p : ℕ) (d r : Row S) → p < length rows → slice_get rows p ≡ Some r → (slice_get rows p ≡ Some (get_or rows p d)) × (get_or rows p d ≡ r)
  row_at rows p d r h e = let here = read rows p d h in (here, same_place rows p (get_or rows p d) r here e)

  pub RowGoes-same : (r : Row S) → RowGoes r r
  RowGoes-same r = record { conn = refl; box = BoxGoes-same (box_in r); still = λ e. e; rose = λ h. absurd (not_above (box_in r) h); only = λ e. inl e; is_lost = refl; was_lost = refl }

  pub RowGoes-on : (o p q : Row S) → RowGoes o p → RowGoes p q → RowGoes o q
  RowGoes-on o p q a b =
      let x = box_went (box_in o) (box_in p) a.box in
      let y = box_went (box_in p) (box_in q) b.box in
      record {
        conn = b.conn ∙ a.conn;
        box = BoxGoes-on (box_in o) (box_in p) (box_in q) a.box b.box;
        still = λ e. b.still (a.still e);
        rose = λ h. ⊎_elim (λ (z : Rose (box_in o) (box_in p)). b.still (a.rose z)) (λ (z : Rose (box_in p) (box_in q)). b.rose z) (rose_once (box_in o) (box_in p) (box_in q) x y h);
        only = λ e. ⊎_elim
            (λ (z : p.is_cut ≡ true). ⊎_elim (λ (u : o.is_cut ≡ true). inl u) (λ (u : Rose (box_in o) (box_in p)). inr (rose_first (box_in o) (box_in p) (box_in q) x y u)) (a.only z))
            (λ (z : Rose (box_in p) (box_in q)). inr (rose_later (box_in o) (box_in p) (box_in q) x y z))
            (b.only e);
        is_lost = b.is_lost ∙ a.is_lost;
        was_lost = b.was_lost ∙ a.was_lost;
      }

  pub EachGoes-same : (rows : List (Row S)) → EachGoes rows rows
  EachGoes-same rows = (refl, λ k o p e f. subst (λ q. RowGoes o q) (same_place rows k o p e f) (RowGoes-same o))

  pub EachGoes-on : (xs ys zs : List (Row S)) → EachGoes xs ys → EachGoes ys zs → EachGoes xs zs
  EachGoes-on xs ys zs a b = (
    b.0 ∙ a.0,
    λ k o q e g.
        let here : slice_get ys k ≡ Some _ = beside xs ys k o a.0 e in
        RowGoes-on o _ q (a.1 k o _ e here) (b.1 k _ q here g),
  )

  pub Ascending-goes : (xs ys : List (Row S)) → EachGoes xs ys → Ascending xs → Ascending ys
  Ascending-goes xs ys goes up i j r s h e f =
      let ei = beside ys xs i r (sym goes.0) e in
      let ej = beside ys xs j s (sym goes.0) f in
      let less = up i j _ _ h ei ej in
      let ri = (goes.1 i _ r ei e).conn in
      let rj = (goes.1 j _ s ej f).conn in
      omega (arith, less, ri, rj)

  module _ (h : History) (rows : List (Row S)) (c : ℕ) (x : Item) (rest : List (ℕ × Item)) where
    pub due_here : (p : ℕ) (r : Row S) → slice_get rows p ≡ Some r → r.conn ≡ c → EachDue h ((c, x) ∷ rest) rows → RowDue h (x ∷ items_for c rest) r
    due_here p r e own due =
        let told : items_for r.conn ((c, x) ∷ rest) ≡ x ∷ items_for c rest = ap (λ d. items_for d ((c, x) ∷ rest)) own ∙ items_own c x rest in
        subst (λ l. RowDue h l r) told (due p r e)

    pub due_next : (p : ℕ) (r s : Row S) → Ascending rows → slice_get rows p ≡ Some r → r.conn ≡ c → s.conn ≡ r.conn → RowDue h (items_for c rest) s
        → EachDue h ((c, x) ∷ rest) rows → EachDue h rest (set rows p s)
    due_next p r s up e own kept now due k t get = ⊎_elim
        (λ (here : (k ≡ p) × (s ≡ t)). subst (λ t. RowDue h (items_for t.conn rest) t) here.1 (subst (λ d. RowDue h (items_for d rest) s) (sym (kept ∙ own)) now))
        (λ (there : (k ≢ p) × (slice_get rows k ≡ Some t)).
        let away : t.conn ≢ c = λ same. there.0 (one_place rows c k p t r up there.1 e same own) in
        subst (λ l. RowDue h l t) (items_other t.conn c x rest away) (due k t there.1))
        (written rows p k s t get)

    pub due_nowhere : Each (λ r. r.conn ≢ c) rows → EachDue h ((c, x) ∷ rest) rows → EachDue h rest rows
    due_nowhere none due k r e = subst (λ l. RowDue h l r) (items_other r.conn c x rest (none k r e)) (due k r e)

  pub goes_next : (rows : List (Row S)) (p : ℕ) (r s : Row S) → slice_get rows p ≡ Some r → RowGoes r s → EachGoes rows (set rows p s)
  goes_next rows p r s e goes = pairs_set rows p r s RowGoes e goes (λ k o away eo. RowGoes-same o)

-- none is found full

module _ {S : Type 0} where
  pub none_same : (rows : List (Row S)) → NoneRose rows rows
  none_same rows k o p e f h = not_above (box_in o) (subst (λ (q : Row S). Rose (box_in o) (box_in q)) (sym (same_place rows k o p e f)) h)

  pub none_on : (xs ys zs : List (Row S)) → EachGoes xs ys → EachGoes ys zs → NoneRose xs ys → NoneRose ys zs → NoneRose xs zs
  none_on xs ys zs a b n m k o q e g h =
      let here : slice_get ys k ≡ Some (get_or ys k o) = beside xs ys k o a.0 e in
      let p : Row S = get_or ys k o in
      ⊎_elim
      (λ (x : Rose (box_in o) (box_in p)). n k o p e here x)
      (λ (x : Rose (box_in p) (box_in q)). m k p q here g x)
      (rose_once (box_in o) (box_in p) (box_in q) (box_went (box_in o) (box_in p) (a.1 k o p e here).box) (box_went (box_in p) (box_in q) (b.1 k p q here g).box) h)

  pub none_next : (rows : List (Row S)) (p : ℕ) (r s : Row S) → slice_get rows p ≡ Some r → (Rose (box_in r) (box_in s) → ⊥) → NoneRose rows (set rows p s)
  none_next rows p r s e n = (pairs_set rows p r s (λ o t. Rose (box_in o) (box_in t) → ⊥) e n (λ k o away eo. not_above (box_in o))).1
