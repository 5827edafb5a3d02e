-- Each step of the slot keeps its rule.
use Rattle.std.proofs.Common.{◌≡◌, ◌⊎◌, inl, inr, ℕ, List, [], ◌∷◌, ◌++◌, length, set, sym, refl, ap, ◌∙◌, subst, ⊎_elim}
use Rattle.std.specs.Prelude.{Option, Some, None}
use mathlib.Core.Option.{some, some-ne-none}
use lib.ListN.{get_elem?}
use Rattle.crossbeam_queue.specs.Fifo.{Pushes, Pops, Forks}
use Rattle.outbox_queue.specs.Ends.{Parting}
use Rattle.outbox_queue.specs.Slot.{AreOf, Keeps, OfOne, whose_of}
use Rattle.outbox_queue.specs.declared.link.Whose.{Whose}
use Rattle.outbox_queue.proofs.RuleSteps.{each_set, old_or_new}

-- the pass of a slot that knows the whose knows it still
abbrev Knows : Whose → ℕ → Option Whose → Type 0
Knows whose port v = v ≡ Some whose

some_is : (whose other : Whose) → Some whose ≡ Some other → whose ≡ other
some_is whose other e = cc e

the_first : (vs : List (Option Whose)) (j : ℕ) (c : Option Whose) → vs ≡ None ∷ [] → get_elem? vs j ≡ some c → j ≡ 0
the_first vs j c is e = ⊎_elim
    (λ (x : get_elem? [] j ≡ some c). absurd (some-ne-none c (sym x)))
    (λ (last : (j ≡ 0) × (None ≡ c)). last.0)
    (old_or_new None [] j c (subst (λ (ws : List (Option Whose)). get_elem? ws j ≡ some c) is e))

the_one : (vs : List (Option Whose)) (i k : ℕ) (a b : Option Whose) → vs ≡ None ∷ [] → get_elem? vs i ≡ some a → get_elem? vs k ≡ some b → k ≡ i
the_one vs i k a b is here there = the_first vs k b is there ∙ sym (the_first vs i a is here)

module _ {T H : Type 0} where
  abbrev Rule : List (Parting T H) → List (Option Whose) → Type 0
  Rule = Keeps

  pub begun : Keeps {T = T} {H = H} [] (None ∷ [])
  begun = inl (refl, refl)

  snoc : (whose : Whose) (items : List (Parting T H)) (x : Parting T H) → AreOf whose items → (whose_of x.end) ≡ whose → AreOf whose (items ++ x ∷ [])
  snoc whose [] x all one = (one, tt)
  snoc whose (y ∷ items) x all one = (all.0, snoc whose items x all.1 one)

  -- a pass that knows its whose is of a slot whose whose was picked
  picked : (whose : Whose) (items : List (Parting T H)) (views : List (Option Whose)) (port : ℕ) → Keeps items views → get_elem? views port ≡ some (Some whose) → OfOne whose items views
  picked whose items views port keeps at = ⊎_elim
      (λ (none : (items ≡ []) × (views ≡ None ∷ [])). absurd (⊎_elim
      (λ (x : get_elem? [] port ≡ some (Some whose)). some-ne-none (Some whose) (sym x))
      (λ (last : (port ≡ 0) × (None ≡ Some whose)). (cc last.1))
      (old_or_new None [] port (Some whose) (subst (λ (vs : List (Option Whose)). get_elem? vs port ≡ some (Some whose)) none.1 at))))
      (λ (one : (other : Whose) × OfOne other items views). let is : whose ≡ one.0 = some_is whose one.0 (one.1.known port (Some whose) at) in subst (λ (q : Whose). OfOne q items views) (sym is) one.1)
      keeps

  pub forks : (port : ℕ) (whose : Whose) → Forks Rule port None (Some whose) (Some whose)
  forks port whose items views keeps at = ⊎_elim
      (λ (none : (items ≡ []) × (views ≡ None ∷ [])). inr (
        whose,
        record {
          items_are = subst (λ (xs : List (Parting T H)). AreOf whose xs) (sym none.0) tt;
          known = λ j v e. ⊎_elim
              (λ (old : get_elem? (set views port (Some whose)) j ≡ some v). let F : ℕ → Option Whose → Type 0 = Knows whose in
              each_set F views port (Some whose) refl
              (λ k u other was. absurd (other (the_one views port k None u none.1 at was))) j v old)
              (λ (last : (j ≡ length (set views port (Some whose))) × (Some whose ≡ v)). sym last.1)
              (old_or_new (Some whose) (set views port (Some whose)) j v e);
        },
      ))
      (λ (one : (other : Whose) × OfOne other items views). absurd (let e : None ≡ Some one.0 = one.1.known port None at in cc e))
      keeps

  pub pushes : (n port : ℕ) (v : Option Whose) (x : Parting T H) → v ≡ Some (whose_of x.end) → Pushes Rule n port v x (λ w. (w ≡ v) × (v ≡ Some (whose_of x.end)))
  pushes n port v x is items views _ keeps at =
      let one = picked (whose_of x.end) items views port keeps (at ∙ ap some is) in (
        v,
        inr (
          (whose_of x.end),
          record {
            items_are = snoc (whose_of x.end) items x one.items_are refl;
            known = each_set (Knows (whose_of x.end)) views port v is (λ j u _ e. one.known j u e);
          },
        ),
        (refl, is),
      )

  pub pops : (port : ℕ) (v : Option Whose) (whose : Whose) → v ≡ Some whose → Pops Rule port v (λ x w. (w ≡ v) × (v ≡ Some (whose_of x.end)))
  pops port v whose is x items views keeps at =
      let one = picked whose (x ∷ items) views port keeps (at ∙ ap some is) in (
        v,
        inr (
          whose,
          record {
            items_are = one.items_are.1;
            known = each_set (Knows whose) views port v is (λ j u _ e. one.known j u e);
          },
        ),
        (refl, is ∙ ap Some (sym one.items_are.0)),
      )
