-- A realm may go to another thread.
use denote.Param.Send.{IsSend, view_send, sendable}
use denote.Param.SendFields.{declared_send, as_row_send}
use Rattle.std.proofs.Crossing.{crosses}
use Rattle.std.proofs.Crossing as heap
use Rattle.std.proofs.MapsCrossing.{crosses as maps}
use Rattle.std.specs.contracts.alloc.Global as Global
use Rattle.std.specs.contracts.impls.GlobalAllocator.TheImpl as global
use Rattle.std.specs.contracts.snapshot.Snapshot as Snapshot
use Rattle.std.specs.contracts.vec.Vec as Vec
use Rattle.retained.specs.contracts.kept.Kept as Kept
use Rattle.retained.specs.contracts.store.Store as Store
use Rattle.subscription_index.specs.contracts.index.Index as Index
use Rattle.wamp_messages.proofs.SendLemmas.{item_send, shared_send}
use Rattle.realm.specs.contracts.entry.Entry as Entry
use Rattle.realm.specs.contracts.grants.Grants as Grants
use Rattle.realm.specs.contracts.last_asked.LastAsked as LastAsked
use Rattle.realm.specs.contracts.realm.Realm as Realm
use Rattle.realm.specs.contracts.realm.Realm.TheInside as realm
use Rattle.realm.specs.contracts.sessions.Sessions as Sessions
use Rattle.realm.specs.contracts.spare.Spare as Spare
use Rattle.realm.specs.contracts.state.State as State

grants_send : IsSend Grants.the_row
grants_send = search (maps, crosses, sendable) depth 60 fits 20000

sessions_send : IsSend Sessions.the_row
sessions_send = search (maps, crosses, sendable) depth 60 fits 20000

seats_send : IsSend LastAsked.the_row
seats_send = search (maps, crosses, sendable) depth 60 fits 20000

index_send : IsSend Index.the_row
index_send = search (maps, crosses, sendable) depth 60 fits 20000

kept_send : IsSend Kept.the_row
kept_send = search (shared_send, maps, crosses, sendable) depth 60 fits 20000

store_send : IsSend Store.the_row
store_send = search (kept_send, maps, crosses, sendable) depth 60 fits 20000

spare_send : IsSend Spare.the_row
spare_send = search (item_send, shared_send, maps, crosses, sendable) depth 60 fits 20000

state_send : IsSend State.the_row
state_send = search (grants_send, sessions_send, seats_send, index_send, store_send, spare_send, sendable) depth 60 fits 20000

entry_send : IsSend (Snapshot.the_row Entry.the_row)
entry_send = search (crosses, sendable) depth 60 fits 20000

past_send : IsSend (Vec.the_row (Snapshot.the_row Entry.the_row) Global.the_row global.ghosts)
past_send = heap.Vec-send _ entry_send

pub realm_send : IsSend Realm.the_row
realm_send = view_send _ _ _ _ _ (declared_send realm.the_type (search (state_send, sendable) depth 60 fits 20000, (as_row_send (Vec.the_field (Snapshot.the_row Entry.the_row) Global.the_row global.ghosts) past_send, tt)))
