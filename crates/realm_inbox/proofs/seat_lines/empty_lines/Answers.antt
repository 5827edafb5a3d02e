use Rattle.std.proofs.Common.{◌≡◌, [], sym, subst}
use Rattle.realm_inbox.specs.SeatLines.{line_at}
use Rattle.realm_inbox.proofs.LinePlaces.{empty_snoc}
use Rattle.realm_inbox.proofs.seat_lines.empty_lines.Goals as goal

pub loop-place-preserved : goal.loop-place-preserved
loop-place-preserved g c = λ k.
    subst (λ ls. line_at ls k ≡ []) (sym c.in_ok-push.ensures.items) (empty_snoc c.loop-place.lines.items c.new.result c.loop-place.invariant c.new.ensures k)
