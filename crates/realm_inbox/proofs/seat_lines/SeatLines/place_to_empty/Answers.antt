use Rattle.std.proofs.Common.{sym}
use Rattle.realm_inbox.proofs.LinePlaces.{not_free_aside}
use Rattle.realm_inbox.proofs.seat_lines.SeatLines.place_to_empty.Goals as goal

pub returns-in-Some : goal.returns-in-Some
returns-in-Some g c = λ none. not_free_aside c.args.self.now.lines.items c.args.self.now.aside c.place_of.result _ c.in-Some.is (sym c.place_of.ensures) none
