use Rattle.std.proofs.Common.{◌≡◌, ◌<◌, ◌+◌, Some, [], append-nil, refl, sym, ◌∙◌, subst, arith}
use mathlib.Core.List.{IsPrefix}
use Rattle.outbox_queue.proofs.OwedBeginnings.{prefix-on}
use Rattle.realm_inbox.specs.EndViews.{inbox_of, posted, received}
use Rattle.realm_inbox.specs.Seats.{at_seat}
use Rattle.threaded_server.proofs.DrainSteps.{all_begins, begun_with, traced, traced_home, traced_posted, traces_at}
use Rattle.threaded_server.proofs.Places.{up_to}
use Rattle.threaded_server.specs.Posters.{IsOfInbox, lists_of, poster_at}
use Rattle.threaded_server.proofs.poster_table.PosterTable.drain_seats.Goals as goal

pub loop-place-init : goal.loop-place-init
loop-place-init g c = (refl, ([], append-nil (received c.args.inbox.now)), refl, λ k p less at. absurd (omega (arith, less)))

pub drain_at-requires-clause-here : goal.drain_at-requires-clause-here
drain_at-requires-clause-here g c κs within p e =
    let place = c.loop-place.place in
    let held = c.loop-place.invariant in
    let were = lists_of c.args.self.now in
    let now = lists_of c.loop-place.self in
    let was = traced (poster_at were place c.args.realm) (poster_at now place c.args.realm) p (traces_at were now held.0 place c.args.realm) e in
    subst (λ i. IsOfInbox i (place + 1) p) (sym held.2) (traced_home (inbox_of c.args.inbox.now) (place + 1) was.0 p was.2 (c.requires.here place was.0 was.1))

pub loop-place-preserved : goal.loop-place-preserved
loop-place-preserved g c =
    let place = c.loop-place.place in
    let held = c.loop-place.invariant in
    let realm = c.args.realm in
    let were = lists_of c.args.self.now in
    let now = lists_of c.loop-place.self in
    let got = received c.drain_at.new.inbox in (
      c.drain_at.ensures.traces ∙ held.0,
      prefix-on (received c.args.inbox.now) (received c.loop-place.inbox) got held.1 c.drain_at.ensures.more,
      c.drain_at.ensures.same ∙ held.2,
      λ k p less at. up_to place k (λ m. poster_at were m realm ≡ Some p → IsPrefix (posted p) (at_seat (m + 1) got)) less
          (λ there.
          let q = traced (poster_at now place realm) (poster_at were place realm) p (sym (traces_at were now held.0 place realm)) there in
          all_begins (place + 1) got (posted p) (c.drain_at.ensures.received q.0 q.1 ∙ traced_posted q.0 p q.2))
          (λ fewer there. begun_with (k + 1) (received c.loop-place.inbox) got (posted p) (held.3 k p fewer there) c.drain_at.ensures.more) at,
    )

pub returns-clause-traces : goal.returns-clause-traces
returns-clause-traces g c = c.loop-place.invariant.0

pub returns-clause-received : goal.returns-clause-received
returns-clause-received g c k p less at =
    let within : k < c.loop-place.place = omega (arith, less, c.loop-place-test.false) in
    c.loop-place.invariant.3 k p within at

pub returns-clause-more : goal.returns-clause-more
returns-clause-more g c = c.loop-place.invariant.1

pub returns-clause-same : goal.returns-clause-same
returns-clause-same g c = c.loop-place.invariant.2
