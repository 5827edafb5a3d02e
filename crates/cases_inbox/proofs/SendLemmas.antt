-- What goes to the threads that post.
use denote.Param.Send.{IsSend, sendable}
use denote.Param.SendFields.{declared_send}
use Rattle.std.proofs.Crossing.{crosses}
use Rattle.realm_inbox.proofs.SendLemmas as ends
use Rattle.realm_inbox.specs.contracts.door.Door as Door
use Rattle.realm_inbox.specs.contracts.ends.Inbox as Inbox
use Rattle.realm_inbox.specs.contracts.ends.Poster as Poster
use Rattle.realm_inbox.specs.contracts.ends.Seat as Seat
use Rattle.cases_inbox.specs.contracts.paced.Paced as Paced
use Rattle.cases_inbox.specs.contracts.threads.Numbered as Numbered
use Rattle.cases_inbox.specs.contracts.wire.Wire as Wire
use Rattle.cases_inbox.specs.contracts.wire.WireShut.TheImpl as shut

wire_send : IsSend Wire.the_row
wire_send = search sendable

pub door_send : IsSend (Door.the_row Wire.the_row shut.ghosts)
door_send = ends.door_send Wire.the_row shut.ghosts wire_send

pub seat_send : IsSend (Seat.the_row Wire.the_row shut.ghosts)
seat_send = ends.seat_send Wire.the_row shut.ghosts wire_send

pub poster_send : IsSend (Poster.the_row Wire.the_row shut.ghosts)
poster_send = ends.poster_send Wire.the_row shut.ghosts wire_send

pub inbox_send : IsSend (Inbox.the_row Wire.the_row shut.ghosts)
inbox_send = ends.inbox_send Wire.the_row shut.ghosts wire_send

pub numbered_send : IsSend Numbered.the_row
numbered_send = declared_send Numbered.the_type (poster_send, (search sendable, (search sendable, (search (crosses, sendable) depth 60, tt))))

pub paced_send : IsSend Paced.the_row
paced_send = declared_send Paced.the_type (poster_send, (door_send, (search sendable, (search (crosses, sendable) depth 60, (search (crosses, sendable) depth 60, tt)))))
