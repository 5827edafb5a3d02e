use Rattle.std.proofs.Common.{◌≡◌, ◌+◌, ◌∷◌, [], length, length-append, sym, ap, ◌∙◌}
use Rattle.realm_inbox.specs.Ends.{place_of}
use Rattle.realm_inbox.proofs.SeatCuts.{seats_snoc}
use Rattle.realm_inbox.proofs.opening.cut_seats.Goals as goal

pub loop-i-preserved : goal.loop-i-preserved
loop-i-preserved g c =
    let old = c.loop-i.invariant in let now = c.in_ok-seat.ensures.pass in let one = c.in_ok-seat.ensures.seat in let items = c.in_ok-push.ensures.items in
    let same : place_of c.cut_seat.new.pass ≡ place_of c.loop-i.pass = now.3 in (
      now.0,
      now.1,
      now.2 ∙ old.2,
      ap length items ∙ length-append c.loop-i.seats.items (c.in_ok-seat.seat ∷ []) ∙ ap (λ n. n + 1) old.3,
      seats_snoc (place_of c.loop-i.pass) (place_of c.cut_seat.new.pass) c.loop-i.seats.items c.push.new.self.items c.in_ok-seat.seat old.4 (one.0 ∙ ap (λ n. n + 1) (sym old.3), one.1, one.2) same items,
      same ∙ old.5,
    )
