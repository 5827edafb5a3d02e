use Rattle.std.proofs.Common.{◌≡◌, ◌+◌, [], true, length}
use Rattle.crossbeam_channel.specs.Claims.{view, IsSeatAt}
use Rattle.crossbeam_channel.specs.Ends.{sends_on}
use Rattle.realm_inbox.specs.Ends.{place_of, received_in, is_reader}
use Rattle.realm_inbox.specs.EndViews.{AreNewSeats}
use Rattle.realm_inbox.proofs.opening.cut_seats.Given as goal

abbrev pub invariant-loop-i : goal.invariant-loop-i
invariant-loop-i g l =
    IsSeatAt (sends_on l.sender) l.pass × (is_reader (l.i + 1) (view l.pass) ≡ true) × (received_in (view l.pass) ≡ []) × (length l.seats.items ≡ l.i)
    × AreNewSeats (place_of l.pass) l.seats.items × (place_of l.pass ≡ place_of l.fn.pass)
