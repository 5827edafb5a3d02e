use Rattle.realm_inbox.proofs.LinePlaces.{first_in_line, first_aside}
use Rattle.realm_inbox.proofs.seat_lines.first_of.Goals as goal

pub returns-in-Some-clause-first : goal.returns-in-Some-clause-first
returns-in-Some-clause-first g c = first_in_line c.args.lines.now.items c.out_of_line.new.lines.items c.args.aside.now c.args.place c.in-Some.post c.in-Some.ensures

pub returns-clause-first : goal.returns-clause-first
returns-clause-first g c = first_aside c.args.lines.now.items c.out_of_line.new.lines.items c.args.aside.now c.out_of.new.aside c.args.place c.out_of.result c.in_default.ensures c.out_of.ensures.first
