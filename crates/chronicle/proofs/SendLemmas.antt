-- A chronicle and its tokens may go to other threads.
use denote.RattleType.{RattleType}
use denote.Plain.{Nothing}
use denote.Param.Send.{IsSend, view_send, sendable}
use denote.Param.SendFields.{declared_send, as_row_send}
use Rattle.std.proofs.Crossing.{crosses}
use Rattle.std.proofs.Crossing as heap
use Rattle.std.specs.contracts.alloc.Global as Global
use Rattle.std.specs.contracts.impls.GlobalAllocator.TheImpl as global
use Rattle.std.specs.contracts.option.Option as Option
use Rattle.atomic_table.proofs.shared.Seat.TheSendSync as seat
use Rattle.atomic_table.specs.contracts.shared.Seat as Seat
use Rattle.crossbeam_queue.proofs.array_queue.Slotted.TheSendSync as slotted
use Rattle.crossbeam_queue.specs.contracts.array_queue.Doing as Doing
use Rattle.crossbeam_queue.specs.contracts.array_queue.Turns as Turns
use Rattle.crossbeam_queue.specs.contracts.array_queue.TurnsTableRuleOptionDoingUnit.TheImpl as turns
use Rattle.chronicle.specs.contracts.chronicle.Chronicle as Chronicle
use Rattle.chronicle.specs.contracts.chronicle.Chronicle.TheInside as chronicle
use Rattle.chronicle.specs.contracts.chronicle.HistoryToken as HistoryToken
use Rattle.chronicle.specs.contracts.chronicle.HistoryToken.TheInside as token
use Rattle.chronicle.specs.contracts.rule.BeginsOwner as BeginsOwner
use Rattle.chronicle.specs.contracts.rule.BeginsOwnerProtocolUnitChronicleView.TheImpl as begins_owner
use Rattle.chronicle.specs.contracts.rule.ChronicleView as ChronicleView
use Rattle.chronicle.specs.declared.history.History.{Ghosts}

module _ (H : RattleType) where
  abbrev slot : RattleType
  slot = Option.the_row Nothing

  abbrev doing : RattleType
  doing = Doing.the_row Nothing (ChronicleView.the_row H)

  slot_send : IsSend slot
  slot_send = search (sendable, crosses) depth 40

  place_send : IsSend (Seat.the_row slot doing)
  place_send = seat.the_send slot doing slot_send

  pub token_send : IsSend (HistoryToken.the_row H)
  token_send = view_send _ _ _ _ _ (declared_send (token.the_type H) (as_row_send (Seat.the_field slot doing) place_send, tt))

  pub chronicle_send : (history : Ghosts H.Denot) → IsSend (Chronicle.the_row H history)
  chronicle_send history =
      let rule = turns.ghosts Nothing (ChronicleView.the_row H) BeginsOwner.the_row (begins_owner.ghosts H history begins_owner.no_dict) turns.no_dict in
      view_send _ _ _ _ _ (declared_send (chronicle.the_type H history) (slotted.the_send slot doing (Turns.the_row BeginsOwner.the_row) Global.the_row rule global.ghosts slot_send heap.send heap.frees, (as_row_send (Seat.the_field slot doing) place_send, tt)))
