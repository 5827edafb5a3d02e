-- What goes to the threads that publish and take, and what comes back.
use denote.Param.Send.{IsSend, sendable}
use denote.Param.SendFields.{declared_send}
use Rattle.std.proofs.Crossing.{crosses}
use Rattle.outbox_queue.proofs.SendLemmas.{drain_send}
use Rattle.outbox_queue.specs.contracts.drain.Drain as Drain
use Rattle.realm_inbox.proofs.SendLemmas as ends
use Rattle.realm_inbox.specs.contracts.ends.Poster as Poster
use Rattle.wamp_messages.proofs.SendLemmas.{item_send}
use Rattle.wamp_messages.specs.contracts.item.Item as Item
use Rattle.case_posts.proofs.SendLemmas.{wire_send}
use Rattle.case_posts.specs.contracts.wire.Wire as Wire
use Rattle.case_posts.specs.contracts.wire.WireShut.TheImpl as shut
use Rattle.cases_actor.specs.contracts.publishing.Publisher as Publisher
use Rattle.cases_actor.specs.contracts.publishing.Taken as Taken
use Rattle.cases_actor.specs.contracts.publishing.Writer as Writer

poster_send : IsSend (Poster.the_row Wire.the_row shut.ghosts)
poster_send = ends.poster_send Wire.the_row shut.ghosts wire_send

items_send : IsSend (Drain.the_row Item.the_row ends.history ends.history_owed)
items_send = drain_send Item.the_row ends.history ends.history_owed item_send ends.history_send

pub publisher_send : IsSend Publisher.the_row
publisher_send = declared_send Publisher.the_type (poster_send, (search sendable, (search (crosses, sendable) depth 60, tt)))

pub writer_send : IsSend Writer.the_row
writer_send = declared_send Writer.the_type (search (crosses, sendable) depth 60, (items_send, (search (crosses, sendable) depth 60, tt)))

pub taken_send : IsSend Taken.the_row
taken_send = declared_send Taken.the_type (search (crosses, sendable) depth 60, (search (item_send, crosses, sendable) depth 60, (search sendable, (search sendable, tt))))
