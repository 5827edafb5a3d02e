-- Arguments may go to other threads and be read by several.
use denote.Param.Send.{IsSend, IsSync, sendable}
use Rattle.std.proofs.Crossing.{crosses}
use Rattle.message_tree.proofs.SendLemmas.{content_send, content_sync, octets_send, octets_sync}
use Rattle.arguments.specs.contracts.args.Args as args
use Rattle.arguments.specs.contracts.carried.CarriedArgs as carried

pub args_send : IsSend args.the_row
args_send = search (content_send, octets_send, crosses, sendable) depth 60 fits 20000

pub args_sync : IsSync args.the_row
args_sync = search (content_sync, octets_sync, crosses, sendable) depth 60 fits 20000

pub carried_send : IsSend carried.the_row
carried_send = search (args_send, sendable) depth 60 fits 20000

pub carried_sync : IsSync carried.the_row
carried_sync = search (args_sync, sendable) depth 60 fits 20000
