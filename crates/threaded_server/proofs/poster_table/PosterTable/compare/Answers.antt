use Rattle.std.proofs.Common.{◌≡◌, ◌≤◌, ◌<◌, ◌+◌, Some, refl, sym, ◌∙◌, subst, arith, inl, inr}
use mathlib.Core.List.{IsPrefix}
use Rattle.realm_inbox.specs.EndViews.{posted, received}
use Rattle.realm_inbox.specs.Seats.{at_seat}
use Rattle.threaded_server.proofs.Places.{up_to}
use Rattle.threaded_server.specs.Posters.{IsOfInbox, lists_of, poster_at}
use Rattle.threaded_server.proofs.poster_table.PosterTable.compare.Goals as goal

pub loop-place-init : goal.loop-place-init
loop-place-init g c = ((refl, refl), λ k i other. refl, λ k more. refl, λ k p less at. absurd (omega (arith, less)))

pub compare_at-requires-clause-here : goal.compare_at-requires-clause-here
compare_at-requires-clause-here g c κs within p e =
    let place = c.loop-place.place in
    let here : place ≤ place = omega arith in
    subst (λ i. IsOfInbox i (place + 1) p) (sym c.loop-place.invariant.0.1) (c.requires.here place p (sym (c.loop-place.invariant.2 place here) ∙ e))

pub loop-place-preserved : goal.loop-place-preserved
loop-place-preserved g c =
    let place = c.loop-place.place in
    let held = c.loop-place.invariant in
    let realm = c.args.realm in
    let here : place ≤ place = omega arith in (
      (c.compare_at.ensures.same.0 ∙ held.0.0, c.compare_at.ensures.same.1 ∙ held.0.1),
      λ k i other. c.compare_at.ensures.others k i (inr other) ∙ held.1 k i other,
      λ k more. c.compare_at.ensures.others k realm (inl (λ same. omega (arith, same, more))) ∙ held.2 k (omega (arith, more)),
      λ k p less at. up_to place k (λ m. poster_at (lists_of c.args.self.now) m realm ≡ Some p → IsPrefix (at_seat (m + 1) (received c.args.inbox.now)) (posted p)) less
          (λ there. subst (λ r. IsPrefix (at_seat (place + 1) r) (posted p)) held.0.0 (c.compare_at.ensures.received p (held.2 place here ∙ there))) (λ fewer. held.3 k p fewer) at,
    )

pub returns-clause-others : goal.returns-clause-others
returns-clause-others g c = c.loop-place.invariant.1

pub returns-clause-received : goal.returns-clause-received
returns-clause-received g c k p less at =
    let within : k < c.loop-place.place = omega (arith, less, c.loop-place-test.false) in
    c.loop-place.invariant.3 k p within at

pub returns-clause-same : goal.returns-clause-same
returns-clause-same g c = c.loop-place.invariant.0.0
