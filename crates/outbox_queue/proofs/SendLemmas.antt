-- The two ends of an outbox may go to other threads where the items and the histories may.
use denote.RattleType.{RattleType}
use denote.Hole.{as_row}
use denote.Struct.Field.{row_field}
use denote.Param.Send.{IsSend, IsSync, view_send, sendable}
use denote.Param.SendFields.{declared_send, declared_sync, as_row_send, as_row_sync}
use Rattle.std.proofs.Crossing.{crosses}
use Rattle.std.proofs.Crossing as heap
use Rattle.std.specs.contracts.alloc.Global as Global
use Rattle.std.specs.contracts.impls.GlobalAllocator.TheImpl as global
use Rattle.std.specs.contracts.option.Option as Option
use Rattle.std.specs.contracts.sync.Arc as Arc
use Rattle.atomic_table.proofs.shared.Seat.TheSendSync as seat
use Rattle.atomic_table.specs.contracts.shared.Seat as Seat
use Rattle.crossbeam_queue.proofs.array_queue.Slotted.TheSendSync as slotted
use Rattle.crossbeam_queue.specs.contracts.array_queue.Doing as Doing
use Rattle.crossbeam_queue.specs.contracts.array_queue.Slotted as Slotted
use Rattle.crossbeam_queue.specs.contracts.array_queue.Turns as Turns
use Rattle.crossbeam_queue.specs.contracts.array_queue.TurnsTableRuleOptionDoingUnit.TheImpl as turns
use Rattle.crossbeam_utils.proofs.sync.parker.RuledParker.TheSendSync as parker
use Rattle.crossbeam_utils.proofs.sync.parker.RuledUnparker.TheSendSync as unparker
use Rattle.chronicle.proofs.SendLemmas.{token_send}
use Rattle.chronicle.specs.contracts.chronicle.HistoryToken as HistoryToken
use Rattle.ghost_state.proofs.SendLemmas.{count_send}
use Rattle.outbox_queue.specs.contracts.counted.CountedPass as CountedPass
use Rattle.outbox_queue.specs.contracts.drain.Drain as Drain
use Rattle.outbox_queue.specs.contracts.drain.Drain.TheInside as drain
use Rattle.outbox_queue.specs.contracts.ends.Producer as Producer
use Rattle.outbox_queue.specs.contracts.ends.Producer.TheInside as adding
use Rattle.outbox_queue.specs.contracts.ends.Consumer as Consumer
use Rattle.outbox_queue.specs.contracts.ends.Consumer.TheInside as taking
use Rattle.outbox_queue.specs.contracts.counted.Finds as Finds
use Rattle.outbox_queue.specs.contracts.ends.Came as Came
use Rattle.outbox_queue.specs.contracts.link.EndsLink as EndsLink
use Rattle.outbox_queue.specs.contracts.link.OneQueue as OneQueue
use Rattle.outbox_queue.specs.contracts.link.OneQueueProtocolFarewellOptionWhose.TheImpl as one_queue
use Rattle.outbox_queue.specs.contracts.link.Whose as Whose
use Rattle.outbox_queue.specs.contracts.parting.Farewell as Farewell
use Rattle.outbox_queue.specs.contracts.parting.Farewell.TheInside as farewell
use Rattle.outbox_queue.specs.contracts.outbox.Outbox as Outbox
use Rattle.outbox_queue.specs.contracts.outbox.Outbox.TheInside as outbox
use Rattle.outbox_queue.specs.contracts.owed.Stamped as Stamped
use Rattle.outbox_queue.specs.contracts.owed.Stamped.TheInside as stamped
use Rattle.outbox_queue.specs.contracts.recorded.Moment as Moment
use Rattle.outbox_queue.specs.contracts.recorded.Recorded as Recorded
use Rattle.outbox_queue.specs.contracts.recorded.Recorded.TheInside as recorded
use Rattle.outbox_queue.specs.contracts.rule.InStep as InStep
use Rattle.outbox_queue.specs.contracts.rule.InStepProtocolStampedOutboxView.TheImpl as in_step
use Rattle.outbox_queue.specs.contracts.rule.OutboxView as OutboxView
use Rattle.outbox_queue.specs.declared.owed.Owed.{Ghosts}

option_send : (R : RattleType) → IsSend R → IsSend (Option.the_row R)
option_send R s = search (sendable, crosses) depth 40

module _ (T H : RattleType) (owed : Ghosts H.Denot T.Denot) where
  abbrev item : RattleType
  item = Stamped.the_row T H owed

  abbrev view : RattleType
  view = OutboxView.the_row T H

  abbrev queue : RattleType
  queue = Slotted.the_row (Option.the_row item) (Doing.the_row item view) (Turns.the_row InStep.the_row) Global.the_row (turns.ghosts item view InStep.the_row (in_step.ghosts T H owed in_step.no_dict in_step.no_dict) turns.no_dict) global.ghosts

  stamped_send : IsSend T → IsSend H → IsSend item
  stamped_send t h = view_send _ _ _ _ _ (declared_send (stamped.the_type T H owed) (as_row_send (row_field T) t, (search (crosses, sendable) depth 60, (search (count_send, crosses, sendable) depth 60, (as_row_send (row_field H) h, tt)))))

  queue_send : IsSend T → IsSend H → IsSend queue
  queue_send t h = slotted.the_send _ _ _ _ (turns.ghosts item view InStep.the_row (in_step.ghosts T H owed in_step.no_dict in_step.no_dict) turns.no_dict) global.ghosts (option_send _ (stamped_send t h)) heap.send heap.frees

  queue_sync : IsSend T → IsSend H → IsSync queue
  queue_sync t h = slotted.the_sync _ _ _ _ (turns.ghosts item view InStep.the_row (in_step.ghosts T H owed in_step.no_dict in_step.no_dict) turns.no_dict) global.ghosts (option_send _ (stamped_send t h)) heap.send heap.sync heap.frees

  counted_send : IsSend T → IsSend H → IsSend (CountedPass.the_row item view)
  counted_send t h = declared_send (CountedPass.the_type item view) (as_row_send (Seat.the_field (Option.the_row item) (Doing.the_row item view)) (seat.the_send (Option.the_row item) (Doing.the_row item view) (option_send item (stamped_send t h))), (search (count_send, crosses, sendable) depth 60, tt))

  adding_send : IsSend T → IsSend H → IsSend (Producer.the_row T H owed)
  adding_send t h =
      view_send _ _ _ _ _ (declared_send (adding.the_type T H owed) (as_row_send (Arc.the_field queue Global.the_row global.ghosts) (heap.Arc-send queue (queue_send t h) (queue_sync t h)), (as_row_send (row_field (CountedPass.the_row item view)) (counted_send t h), (search sendable, (search sendable, (search (count_send, crosses, sendable) depth 60, (search (count_send, crosses, sendable) depth 60, tt)))))))

  came_send : IsSend H → IsSend (Came.the_row H)
  came_send h = declared_send (Came.the_type H) (option_send H h, (as_row_send (row_field Finds.the_row) (declared_send Finds.the_type (search (count_send, crosses, sendable) depth 60, tt)), (search sendable, (search sendable, tt))))

  taking_send : IsSend T → IsSend H → IsSend (Consumer.the_row T H owed)
  taking_send t h =
      view_send _ _ _ _ _ (declared_send (taking.the_type T H owed) (as_row_send (Arc.the_field queue Global.the_row global.ghosts) (heap.Arc-send queue (queue_send t h) (queue_sync t h)), (as_row_send (row_field (CountedPass.the_row item view)) (counted_send t h), (search sendable, (option_send (Came.the_row H) (came_send h), tt)))))

  abbrev going : RattleType
  going = Farewell.the_row T H owed

  farewell_send : IsSend T → IsSend H → IsSend going
  farewell_send t h = view_send _ _ _ _ _ (declared_send (farewell.the_type T H owed) (as_row_send (Producer.the_field T H owed) (adding_send t h), (option_send H h, (search sendable, tt))))

  abbrev known : RattleType
  known = Option.the_row Whose.the_row

  abbrev slot : RattleType
  slot = Slotted.the_row (Option.the_row going) (Doing.the_row going known) (Turns.the_row OneQueue.the_row) Global.the_row (turns.ghosts going known OneQueue.the_row (one_queue.ghosts T H owed one_queue.no_dict one_queue.no_dict) turns.no_dict) global.ghosts

  slot_send : IsSend T → IsSend H → IsSend slot
  slot_send t h = slotted.the_send _ _ _ _ (turns.ghosts going known OneQueue.the_row (one_queue.ghosts T H owed one_queue.no_dict one_queue.no_dict) turns.no_dict) global.ghosts (option_send _ (farewell_send t h)) heap.send heap.frees

  slot_sync : IsSend T → IsSend H → IsSync slot
  slot_sync t h = slotted.the_sync _ _ _ _ (turns.ghosts going known OneQueue.the_row (one_queue.ghosts T H owed one_queue.no_dict one_queue.no_dict) turns.no_dict) global.ghosts (option_send _ (farewell_send t h)) heap.send heap.sync heap.frees

  link_send : IsSend T → IsSend H → IsSend (EndsLink.the_row T H owed)
  link_send t h = declared_send (EndsLink.the_type T H owed) (search (crosses, sendable) depth 60, (as_row_send (row_field slot) (slot_send t h), tt))

  link_sync : IsSend T → IsSend H → IsSync (EndsLink.the_row T H owed)
  link_sync t h = declared_sync (EndsLink.the_type T H owed) (search (crosses, sendable) depth 60, (as_row_sync (row_field slot) (slot_sync t h), tt))

  shared_send : IsSend T → IsSend H → IsSend (as_row (Arc.the_field (EndsLink.the_row T H owed) Global.the_row global.ghosts))
  shared_send t h = as_row_send (Arc.the_field (EndsLink.the_row T H owed) Global.the_row global.ghosts) (heap.Arc-send (EndsLink.the_row T H owed) (link_send t h) (link_sync t h))

  pass_send : IsSend T → IsSend H → IsSend (as_row (Seat.the_field (Option.the_row going) (Doing.the_row going known)))
  pass_send t h = as_row_send (Seat.the_field (Option.the_row going) (Doing.the_row going known)) (seat.the_send (Option.the_row going) (Doing.the_row going known) (option_send going (farewell_send t h)))

  pub outbox_send : IsSend T → IsSend H → IsSend (Outbox.the_row T H owed)
  outbox_send t h = view_send _ _ _ _ _ (declared_send (outbox.the_type T H owed) (as_row_send (Producer.the_field T H owed) (adding_send t h), (search sendable, (shared_send t h, (pass_send t h, (search (unparker.the_field_send, unparker.the_send, crosses, heap.send, heap.sync, heap.frees, sendable) depth 60, tt))))))

  pub drain_send : IsSend T → IsSend H → IsSend (Drain.the_row T H owed)
  drain_send t h = view_send _ _ _ _ _ (declared_send (drain.the_type T H owed) (as_row_send (Consumer.the_field T H owed) (taking_send t h), (option_send H h, (shared_send t h, (pass_send t h, (search (parker.the_field_send, parker.the_send, crosses, heap.send, heap.sync, heap.frees, sendable) depth 60, tt))))))

-- a history as its chronicle recorded it may go to other threads, whatever it is
pub recorded_send : (T H : RattleType) → IsSend (Recorded.the_row T H)
recorded_send T H = view_send _ _ _ _ _ (declared_send (recorded.the_type T H) (search (crosses, sendable) depth 60, (as_row_send (HistoryToken.the_field (Moment.the_row T H)) (token_send (Moment.the_row T H)), tt)))
