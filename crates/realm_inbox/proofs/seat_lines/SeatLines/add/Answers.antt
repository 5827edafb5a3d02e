use Rattle.realm_inbox.proofs.LinePlaces.{added}
use Rattle.realm_inbox.proofs.seat_lines.SeatLines.add.Goals as goal

pub returns : goal.returns
returns g c = added c.args.self.now.lines.items c.into_line.new.lines.items c.args.self.now.aside c.into_line.result c.args.post c.requires c.into_line.ensures
