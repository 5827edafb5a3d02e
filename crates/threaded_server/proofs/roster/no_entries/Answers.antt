use Rattle.std.proofs.Common.{◌≡◌, ◌+◌, [], ◌∷◌, ◌++◌, None, List, All, Option, length, length-append, refl, sym, ap, ◌∙◌, subst, arith}
use Rattle.std.proofs.lemmas.Grind.{common_steps}
use Rattle.std.proofs.lemmas.List.Elements.{All-append, All-cons, All-nil}
use Rattle.threaded_server.specs.declared.entry.Connection.{Connection}
use Rattle.threaded_server.proofs.roster.no_entries.Goals as goal

pub loop-place-init : goal.loop-place-init
loop-place-init g c = (subst (λ xs. All (λ slot. slot ≡ None) xs) (sym c.in_ok-entries.ensures.items) (All-nil (λ slot. slot ≡ None)), ap length c.in_ok-entries.ensures.items)

pub loop-place-preserved : goal.loop-place-preserved
loop-place-preserved g c =
    let Slot : Type 0 = Option (Connection g.row.I.Denot g.row.O.Denot g.row.S.Denot) in
    let P : Slot → Type 0 = λ slot. slot ≡ None in
    let grown : c.push.new.self.items ≡ c.loop-place.entries.items ++ None ∷ [] = grind (arith, common_steps) in (
      subst (λ (xs : List Slot). All P xs) (sym grown) (All-append P c.loop-place.entries.items (None ∷ []) c.loop-place.invariant.0 (All-cons P None [] refl (All-nil P))),
      ap length grown ∙ length-append c.loop-place.entries.items (None ∷ []) ∙ ap (λ n. n + 1) c.loop-place.invariant.1,
    )
