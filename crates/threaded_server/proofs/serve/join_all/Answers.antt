use Rattle.std.proofs.Common.{◌≡◌, ◌<◌, ◌+◌, None, length, arith, refl, sym, ap, ◌∙◌, subst, length-set}
use Rattle.std.specs.List.{AllWithin}
use Rattle.std.proofs.lemmas.List.Elements.{AllWithin-more_set, AllWithin-none}
use Rattle.threaded_server.proofs.Moving.{moves_none, moves_on, taken_back}
use Rattle.threaded_server.proofs.serve.join_all.Goals as goal

pub loop-place-init : goal.loop-place-init
loop-place-init g c = (refl, moves_none _ _, refl, sym c.places-place-end.ensures, AllWithin-none (λ slot. slot ≡ None) c.args.connection_table.now.roster.entries.items 0, refl, refl, refl)

pub loop-place-preserved : goal.loop-place-preserved
loop-place-preserved g c =
    let held = c.loop-place.invariant in
    let entries = c.loop-place.connection_table.roster.entries.items in
    let within : c.loop-place.place < length c.loop-place.connection_table.roster.entries.items = omega (arith, held.3) in (
      c.take_back.ensures.answers ∙ held.0,
      moves_on 0 0 _ _ _ _ _ _ held.1 (taken_back _ _ _ _ _ c.release-gone.ensures.lent c.release-gone.ensures.over c.take_back.ensures.lending),
      c.release-gone.ensures.plan ∙ held.2,
      ap length c.release-gone.ensures.entries ∙ length-set entries c.loop-place.place None ∙ held.3,
      subst (λ xs. AllWithin (λ slot. slot ≡ None) xs 0 (c.loop-place.place + 1)) (sym c.release-gone.ensures.entries) (AllWithin-more_set entries c.loop-place.place None within (λ slot. slot ≡ None) held.4 refl),
      c.release-gone.ensures.realms ∙ held.5,
      c.release-gone.ensures.stops ∙ held.6,
      c.take_back.ensures.asked ∙ held.7,
    )

pub returns-clause-none : goal.returns-clause-none
returns-clause-none g c = λ k d within. c.loop-place.invariant.4 k d (omega arith) (omega (arith, c.loop-place.invariant.3))
