-- What the threads of a broker are handed may go to them where the parts of a stream may.
use denote.RattleType.{RattleType}
use denote.Struct.Field.{row_field}
use denote.Struct.Tuple.{type_at, TupleAt}
use mir.Syntax.{Sym}
use mathlib.Core.List.{[], ◌∷◌}
use denote.Param.Send.{IsSend, IsSync, sendable}
use denote.Param.SendFields.{declared_send, as_row_send, variants_send}
use Rattle.std.proofs.Crossing.{crosses}
use Rattle.std.proofs.Crossing as heap
use Rattle.std.proofs.MapsCrossing.{crosses as maps}
use Rattle.std.specs.contracts.alloc.Global as Global
use Rattle.std.specs.contracts.impls.GlobalAllocator.TheImpl as global
use Rattle.std.specs.contracts.option.Option as Option
use Rattle.std.specs.contracts.sync.Arc as Arc
use Rattle.std.specs.contracts.sync.Mutex as Mutex
use Rattle.std.specs.contracts.vec.Vec as Vec
use Rattle.chronicle.specs.contracts.chronicle.Chronicle as Chronicle
use Rattle.outbox_queue.proofs.SendLemmas.{drain_send}
use Rattle.outbox_queue.specs.contracts.drain.Drain as Drain
use Rattle.rawsocket.proofs.handshake.Serializer.TheSendSync as serializer
use Rattle.rawsocket.specs.contracts.handshake.Serializer as Serializer
use Rattle.connection.proofs.reader.ReadEnd.TheSendSync as read_end
use Rattle.connection.proofs.writer.WriteEnd.TheSendSync as write_end
use Rattle.connection.specs.contracts.pongs.OwedPongs as OwedPongs
use Rattle.connection.specs.contracts.reader.ReadEnd as ReadEnd
use Rattle.connection.specs.contracts.writer.WriteEnd as WriteEnd
use Rattle.log_lines.proofs.reason.CloseReason.TheSendSync as reason
use Rattle.log_lines.specs.contracts.reason.CloseReason as CloseReason
use Rattle.realm.proofs.SendLemmas.{realm_send}
use Rattle.realm.specs.contracts.realm.Realm as Realm
use Rattle.realm_inbox.proofs.SendLemmas.{backlog_send, backlog_sync, chronicle_send, history, history_owed, history_send, moment, moment_recorded, inbox_send, poster_send}
use Rattle.realm_inbox.specs.contracts.ends.Poster as Poster
use Rattle.realm_inbox.specs.declared.transport.Shut.{Ghosts}
use Rattle.wamp_messages.proofs.SendLemmas.{item_send}
use Rattle.session.proofs.fault.Fault.TheSendSync as session_fault
use Rattle.session.specs.contracts.fault.Fault as SessionFault
use Rattle.wamp_messages.specs.contracts.item.Item as Item
use Rattle.broker_threads.specs.contracts.actor_thread.Acted as Acted
use Rattle.broker_threads.specs.contracts.actor_thread.ActorThread as ActorThread
use Rattle.broker_threads.specs.contracts.board.Board as Board
use Rattle.broker_threads.specs.contracts.closed.Closed as Closed
use Rattle.broker_threads.specs.contracts.course.Course as Course
use Rattle.broker_threads.specs.contracts.fate.Fate as Fate
use Rattle.broker_threads.specs.contracts.fate.Marked as Marked
use Rattle.broker_threads.specs.contracts.handover.SharedTransport as SharedTransport
use Rattle.broker_threads.specs.contracts.log.LogState as LogState
use Rattle.broker_threads.specs.contracts.log.LogWriter as LogWriter
use Rattle.broker_threads.specs.contracts.seat_table.SeatTable as SeatTable
use Rattle.broker_threads.specs.contracts.id_words.IdWords as IdWords
use Rattle.broker_threads.specs.contracts.plan.Plan as Plan
use Rattle.broker_threads.specs.contracts.reader_thread.Ended as Ended
use Rattle.broker_threads.specs.contracts.reader_thread.Reader as Reader
use Rattle.broker_threads.specs.contracts.stats.Teller as Teller
use Rattle.broker_threads.specs.contracts.writer_thread.Writer as Writer
use Rattle.broker_threads.specs.contracts.writer_thread.Written as Written

marks_send : IsSend SeatTable.the_row
marks_send = search (maps, crosses, sendable) depth 60 fits 20000

marks_sync : IsSync SeatTable.the_row
marks_sync = search (maps, crosses, sendable) depth 60 fits 20000

words_send : IsSend IdWords.the_row
words_send = search (maps, crosses, sendable) depth 60 fits 20000

board_send : IsSend Board.the_row
board_send = search (crosses, sendable) depth 60 fits 20000

board_sync : IsSync Board.the_row
board_sync = search (crosses, sendable) depth 60 fits 20000

state_send : IsSend LogState.the_row
state_send = search (board_send, maps, crosses, sendable) depth 60 fits 20000

state_sync : IsSync LogState.the_row
state_sync = search (board_sync, maps, crosses, sendable) depth 60 fits 20000

teller_send : IsSend Teller.the_row
teller_send = search (maps, crosses, sendable) depth 60 fits 20000

plan_send : IsSend Plan.the_row
plan_send = search (state_send, state_sync, maps, crosses, sendable) depth 60 fits 20000

plan_sync : IsSync Plan.the_row
plan_sync = search (state_send, state_sync, maps, crosses, sendable) depth 60 fits 20000

fate_send : IsSend Fate.the_row
fate_send = search (maps, crosses, sendable) depth 60 fits 20000

fate_sync : IsSync Fate.the_row
fate_sync = search (maps, crosses, sendable) depth 60 fits 20000

items_send : IsSend (Drain.the_row Item.the_row history history_owed)
items_send = drain_send Item.the_row history history_owed item_send history_send

pongs_send : IsSend OwedPongs.the_row
pongs_send = search (backlog_send, backlog_sync, crosses, sendable) depth 60

pub writer_send : (O S : RattleType) → IsSend O → IsSend S → IsSend (Writer.the_row O S)
writer_send O S o s = declared_send (Writer.the_type O S) (search (heap.send, crosses, sendable) depth 60, (search (plan_send, plan_sync, crosses, sendable) depth 60 fits 20000, (search (fate_send, fate_sync, crosses, sendable) depth 60 fits 20000, (search sendable, (as_row_send (Drain.the_field Item.the_row history history_owed) items_send, (pongs_send, (as_row_send (row_field O) o, (as_row_send (row_field S) s, (as_row_send Serializer.the_field serializer.the_field_send, (search sendable, tt))))))))))

option_send : (R : RattleType) → IsSend R → IsSend (Option.the_row R)
option_send R s = search (sendable, crosses) depth 40

closed_send : (D : RattleType) → IsSend (Closed.the_row D)
closed_send D = declared_send (Closed.the_type D) (search (crosses, sendable) depth 60, tt)

pub written_send : (O : RattleType) → IsSend (Written.the_row O)
written_send O = declared_send (Written.the_type O) (search sendable, (closed_send O, (option_send history history_send, (search (crosses, sendable) depth 60, (as_row_send WriteEnd.the_field write_end.the_field_send, (search (crosses, sendable) depth 60, tt))))))

course_send : (O : RattleType) → IsSend (Course.the_row O)
course_send O = variants_send (Course.enum O)
    ((closed_send O, tt), ((closed_send O, (as_row_send SessionFault.the_field session_fault.the_field_send, tt)), ((closed_send O, tt), ((as_row_send ReadEnd.the_field read_end.the_field_send, (written_send O, tt)), tt))))

module _ (S : RattleType) where
  transport_send : IsSend S → IsSend (Mutex.the_row (Option.the_row S))
  transport_send s = let h = option_send S s in search (h, crosses, sendable) depth 40

  transport_sync : IsSend S → IsSync (Mutex.the_row (Option.the_row S))
  transport_sync s = let h = option_send S s in search (h, crosses, sendable) depth 40

  shared_send : IsSend S → IsSend (SharedTransport.the_row S)
  shared_send s = declared_send (SharedTransport.the_type S)
      (as_row_send (Arc.the_field (Mutex.the_row (Option.the_row S)) Global.the_row global.ghosts) (heap.Arc-send _ (transport_send s) (transport_sync s)), (search (crosses, sendable) depth 60, tt))

module _ (S : RattleType) (shut : Ghosts S.Denot) where
  posters_send : IsSend S → IsSend (Vec.the_row (Option.the_row (Poster.the_row S shut)) Global.the_row global.ghosts)
  posters_send s = heap.Vec-send _ (option_send _ (poster_send S shut s))

module _ (I O S : RattleType) (shut : Ghosts S.Denot) where
  pub reader_send : IsSend I → IsSend O → IsSend S → IsSend (Reader.the_row I O S shut)
  reader_send i o s = declared_send (Reader.the_type I O S shut)
      (search (heap.send, crosses, sendable) depth 60, (search (plan_send, plan_sync, crosses, sendable) depth 60 fits 20000, (search (crosses, sendable) depth 60 fits 20000, (search (fate_send, fate_sync, crosses, sendable) depth 60 fits 20000, (as_row_send (row_field I) i, (as_row_send (row_field O) o, (as_row_send (Vec.the_field (Option.the_row (Poster.the_row S shut)) Global.the_row global.ghosts) (posters_send S shut s), (as_row_send (row_field S) s, (shared_send S s, tt)))))))))

  pub ended_send : IsSend S → IsSend (Ended.the_row I O S shut)
  ended_send s = declared_send (Ended.the_type I O S shut)
      (closed_send I, (as_row_send (Vec.the_field (Option.the_row (Poster.the_row S shut)) Global.the_row global.ghosts) (posters_send S shut s), (course_send O, (as_row_send CloseReason.the_field reason.the_field_send, tt))))

module _ (S : RattleType) (shut : Ghosts S.Denot) where
  pub actor_work_send : IsSend S → IsSend (ActorThread.the_row S shut)
  actor_work_send s = declared_send (ActorThread.the_type S shut)
      (search (heap.send, crosses, sendable) depth 60, (search (plan_send, plan_sync, crosses, sendable) depth 60 fits 20000, (search sendable, (as_row_send Realm.the_field realm_send, (search (words_send, maps, crosses, sendable) depth 60 fits 20000, (as_row_send (Chronicle.the_field moment moment_recorded) chronicle_send, (inbox_send S shut s, (search (crosses, sendable) depth 60 fits 20000, (search (marks_send, marks_sync, crosses, sendable) depth 60 fits 20000, tt)))))))))

module _ (S : RattleType) (shut : Ghosts S.Denot) where
  pub actor_done_send : IsSend S → IsSend (Acted.the_row S shut)
  actor_done_send s = declared_send (Acted.the_type S shut) (as_row_send (Chronicle.the_field moment moment_recorded) chronicle_send, (search (crosses, sendable) depth 60, (inbox_send S shut s, tt)))

-- a handle that marks a fate
pub marked_send : (S : RattleType) → IsSend S → IsSend (Marked.the_row S)
marked_send S s = declared_send (Marked.the_type S) (as_row_send (row_field S) s, (search (fate_send, fate_sync, crosses, sendable) depth 60 fits 20000, tt))

-- what writes a log
pub log_writer_send : (S : RattleType) → IsSend S → IsSend (LogWriter.the_row S)
log_writer_send S s = declared_send (LogWriter.the_type S)
    (search (heap.send, crosses, sendable) depth 60, (search (maps, heap.send, crosses, sendable) depth 60 fits 20000, (search (state_send, state_sync, maps, crosses, sendable) depth 60 fits 20000, (as_row_send (row_field S) s, (search (teller_send, crosses, sendable) depth 60 fits 20000, tt)))))

-- a closure over two values
pub both_send : (name : Sym) (A B : RattleType) → IsSend A → IsSend B → IsSend (TupleAt name (A ∷ B ∷ []))
both_send name A B a b = declared_send (type_at name (A ∷ B ∷ [])) (as_row_send (row_field A) a, (as_row_send (row_field B) b, tt))
