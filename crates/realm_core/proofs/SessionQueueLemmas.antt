-- The queues after one of them was changed.
use Rattle.std.proofs.Common.{◌≡◌, ℕ, Bool, true, false, cond, eqb, List, [], ◌∷◌, ◌++◌, Option, Some, None, refl, sym, ap, subst, ◌∙◌, arith}
use Rattle.std.specs.Prelude.{IfNone, ◌≢◌}
use Rattle.std.specs.Option.{option_to_list}
use Rattle.std.specs.Map.{lookup}
use Rattle.std.proofs.lemmas.Bool.{eqb-true, eq-eqb}
use Rattle.std.proofs.lemmas.Bool.Decides.{nat_tests}
use Rattle.std.specs.BTreeMap.{get}
use Rattle.std.specs.Ordering.{nat_cmp, is_eq}
use Rattle.wamp_messages.specs.declared.item.Item.{Item}
use Rattle.realm_core.specs.declared.outboxes.SessionQueue.{SessionQueue}
use Rattle.realm_core.specs.body.Outboxes.{Outboxes, items_in, outbox_of, IsFilled, AreFilled, AreFilledBut}

-- new is old with v at k
abbrev pub Puts : Outboxes → Outboxes → ℕ → Option SessionQueue → Type 0
Puts old new k v = (n : ℕ) → get nat_cmp new n ≡ cond (is_eq (nat_cmp k n)) v (get nat_cmp old n)

order-eqb : (k n : ℕ) → is_eq (nat_cmp k n) ≡ eqb k n
order-eqb k n = grind (arith, nat_tests)

put-at : (old new : Outboxes) (k : ℕ) (v : Option SessionQueue) → Puts old new k v → (c : ℕ) → get nat_cmp new c ≡ cond (eqb k c) v (get nat_cmp old c)
put-at old new k v puts c = puts c ∙ ap (λ b. cond b v (get nat_cmp old c)) (order-eqb k c)

-- the same items are there
pub put-items : (old new : Outboxes) (k : ℕ) (v : Option SessionQueue) → Puts old new k v → items_in v ≡ outbox_of old k → (c : ℕ) → outbox_of new c ≡ outbox_of old c
put-items old new k v puts same c = ap items_in (put-at old new k v puts c) ∙ at (eqb k c) refl
  where
    at : (b : Bool) → eqb k c ≡ b → items_in (cond b v (get nat_cmp old c)) ≡ outbox_of old c
    at true is = same ∙ ap (outbox_of old) (eqb-true k c is)
    at false is = refl

-- the others are as they were
pub filled-but : (old new : Outboxes) (k : ℕ) (v : Option SessionQueue) → Puts old new k v → AreFilledBut k old → AreFilledBut k new
filled-but old new k v puts filled c other =
    subst IsFilled (sym (put-at old new k v puts c ∙ ap (λ b. cond b v (get nat_cmp old c)) other)) (filled c other)

pub filled-all : (old new : Outboxes) (k : ℕ) (v : Option SessionQueue) → Puts old new k v → IsFilled v → AreFilledBut k old → AreFilled new
filled-all old new k v puts one filled c = subst IsFilled (sym (put-at old new k v puts c)) (at (eqb k c) refl)
  where
    at : (b : Bool) → eqb k c ≡ b → IsFilled (cond b v (get nat_cmp old c))
    at true is = one
    at false is = filled c is

-- a list with one more is not empty
pub one-more : {X : Type 0} (xs : List X) (x : X) → xs ++ x ∷ [] ≡ [] → ⊥
one-more [] x e = cc
one-more (y ∷ ys) x e = cc

-- where nothing was popped, the items are as they were
pub nothing-popped : {P : Type 0} (o : Option Item) (old new : List Item) → old ≡ option_to_list o ++ new → (new ≡ old → P) → IfNone o P
nothing-popped None old new e then = then (sym e)
nothing-popped (Some item) old new e then = tt

-- a queue that is kept, where any is
pub some-waits : (outboxes : Outboxes) → AreFilled outboxes → (outboxes.entries ≡ [] → ⊥) → (c : ℕ) × (outbox_of outboxes c ≢ [])
some-waits outboxes filled some = at outboxes.entries refl some
  where
    at : (es : List (ℕ × SessionQueue)) → outboxes.entries ≡ es → (es ≡ [] → ⊥) → (c : ℕ) × (outbox_of outboxes c ≢ [])
    at [] is any = absurd (any refl)
    at (e ∷ es) is any =
        let here : get nat_cmp outboxes e.0 ≡ Some e.1 = ap (λ l. lookup (λ k. is_eq (nat_cmp e.0 k)) l) is ∙ ap (λ b. cond b (Some e.1) (lookup (λ k. is_eq (nat_cmp e.0 k)) es)) (order-eqb e.0 e.0 ∙ eq-eqb e.0 e.0 refl) in
        (e.0, λ empty. subst IsFilled here (filled e.0) (sym (ap items_in here) ∙ empty))

pub none-waits : (outboxes : Outboxes) → outboxes.entries ≡ [] → (c : ℕ) → outbox_of outboxes c ≡ []
none-waits outboxes none c = ap (λ l. items_in (lookup (λ k. is_eq (nat_cmp c k)) l)) none
