-- What an inbox carries, and its ends, may go to other threads where the transport may.
use denote.RattleType.{RattleType}
use denote.Struct.Field.{row_field}
use denote.Param.Send.{IsSend, IsSync, sendable}
use denote.Param.SendFields.{declared_send, declared_sync, variants_send, as_row_send}
use Rattle.std.proofs.Crossing.{crosses}
use Rattle.std.proofs.Crossing as heap
use Rattle.std.specs.contracts.alloc.Global as Global
use Rattle.std.specs.contracts.impls.GlobalAllocator.TheImpl as global
use Rattle.std.specs.contracts.option.Option as Option
use Rattle.std.specs.contracts.sync.Arc as Arc
use Rattle.std.specs.contracts.vec.Vec as Vec
use Rattle.std.specs.contracts.collections.VecDeque as Deque
use Rattle.atomic_table.proofs.badge.Badge.TheSendSync as badge
use Rattle.atomic_table.proofs.shared.Seat.TheSendSync as ticket
use Rattle.atomic_table.specs.contracts.badge.Badge as Badge
use Rattle.crossbeam_channel.proofs.flavors.array.Rows.TheSendSync as rows
use Rattle.crossbeam_channel.proofs.flavors.array.ruled.Receiving.TheSendSync as receiving
use Rattle.crossbeam_channel.proofs.flavors.array.ruled.Sending.TheSendSync as sending
use Rattle.crossbeam_channel.specs.contracts.flavors.array.Doing as Doing
use Rattle.crossbeam_channel.specs.contracts.flavors.array.Key as Key
use Rattle.crossbeam_channel.specs.contracts.flavors.array.Lockers as Lockers
use Rattle.crossbeam_channel.specs.contracts.flavors.array.LockersTableRuleOptionKeyUnit.TheImpl as lockers
use Rattle.crossbeam_channel.specs.contracts.flavors.array.Rounds as Rounds
use Rattle.crossbeam_channel.specs.contracts.flavors.array.RoundsTableRuleBadgeKeyDoingBadgeKey.TheImpl as rounds
use Rattle.crossbeam_channel.specs.contracts.flavors.array.Rows as Rows
use Rattle.crossbeam_channel.specs.contracts.flavors.array.Whole as Whole
use Rattle.crossbeam_channel.specs.contracts.flavors.array.WholeSight.TheImpl as whole
use Rattle.crossbeam_channel.specs.contracts.flavors.array.ruled.Receiving as Receiving
use Rattle.crossbeam_channel.specs.contracts.flavors.array.ruled.Sending as Sending
use Rattle.crossbeam_utils.proofs.sync.parker.RuledParker.TheSendSync as parker
use Rattle.crossbeam_utils.proofs.sync.parker.RuledUnparker.TheSendSync as unparker
use Rattle.chronicle.proofs.SendLemmas.{chronicle_send as book_send}
use Rattle.chronicle.specs.contracts.chronicle.Chronicle as Chronicle
use Rattle.chronicle.specs.declared.history.History as recorded
use Rattle.ghost_state.proofs.SendLemmas.{count_send}
use Rattle.message_tree.proofs.SendLemmas.{octets_send, text_send}
use Rattle.message_tree.specs.contracts.owned.Octets as Octets
use Rattle.outbox_queue.proofs.SendLemmas.{outbox_send, recorded_send}
use Rattle.outbox_queue.specs.contracts.outbox.Outbox as Outbox
use Rattle.outbox_queue.specs.contracts.recorded.Moment as Moment
use Rattle.outbox_queue.specs.contracts.recorded.MomentHistory.TheImpl as moment_history
use Rattle.outbox_queue.specs.contracts.recorded.Recorded as Recorded
use Rattle.outbox_queue.specs.contracts.recorded.RecordedOwed.TheImpl as owed
use Rattle.outbox_queue.specs.declared.owed.Owed as what
use Rattle.wamp_messages.proofs.SendLemmas.{item_send, said_send, shared_send as published_send}
use Rattle.wamp_messages.specs.contracts.item.Item as Item
use Rattle.realm_inbox.specs.contracts.act.Act as Act
use Rattle.realm_inbox.specs.contracts.backlog.Backlog as Backlog
use Rattle.realm_inbox.specs.contracts.backlog.GivenBack as Held
use Rattle.realm_inbox.specs.contracts.backlog.Weight as Weight
use Rattle.realm_inbox.specs.contracts.door.Door as Door
use Rattle.realm_inbox.specs.contracts.ends.Inbox as Inbox
use Rattle.realm_inbox.specs.contracts.ends.Poster as Poster
use Rattle.realm_inbox.specs.contracts.ends.Seat as Seat
use Rattle.realm_inbox.specs.contracts.history.RealmMoment as RealmMoment
use Rattle.realm_inbox.specs.contracts.history.RealmMomentOwedItem.TheImpl as moment_owed
use Rattle.realm_inbox.specs.contracts.joining.Joining as Joining
use Rattle.realm_inbox.specs.contracts.letter.Letter as Letter
use Rattle.realm_inbox.specs.contracts.letter.Post as Post
use Rattle.realm_inbox.specs.contracts.seat_line.SeatLine as SeatLine
use Rattle.realm_inbox.specs.contracts.room_bell.RoomBell as RoomBell
use Rattle.realm_inbox.specs.contracts.rule.InTurn as InTurn
use Rattle.realm_inbox.specs.contracts.rule.InTurnProtocolPostInboxView.TheImpl as in_turn
use Rattle.realm_inbox.specs.contracts.rule.InboxView as InboxView
use Rattle.realm_inbox.specs.contracts.bells.Bells as Bells
use Rattle.realm_inbox.specs.contracts.schedule.Schedule as Schedule
use Rattle.realm_inbox.specs.contracts.schedule.Share as Share
use Rattle.realm_inbox.specs.contracts.spent.Spent as Spent
use Rattle.realm_inbox.specs.contracts.seat_lines.SeatLines as SeatLines
use Rattle.realm_inbox.specs.contracts.seat_turns.SeatTurns as SeatTurns
use Rattle.realm_inbox.specs.declared.transport.Shut.{Ghosts}

option_send : (R : RattleType) → IsSend R → IsSend (Option.the_row R)
option_send R s = search (sendable, crosses) depth 40

bell_send : IsSend RoomBell.the_row
bell_send = search (crosses, sendable) depth 60

bell_sync : IsSync RoomBell.the_row
bell_sync = search (crosses, sendable) depth 60

room_send : IsSend (Arc.the_row RoomBell.the_row Global.the_row global.ghosts)
room_send = heap.Arc-send _ bell_send bell_sync

-- of a publication on its way back
spent_send : IsSend Spent.the_row
spent_send = search (published_send, crosses, sendable) depth 60 fits 20000

spent_sync : IsSync Spent.the_row
spent_sync = search (published_send, crosses, sendable) depth 60 fits 20000

-- of a seat's backlog, and what shares it
pub backlog_send : IsSend Backlog.the_row
backlog_send = declared_send Backlog.the_type (search (crosses, sendable) depth 60, (search (crosses, sendable) depth 60, (search (crosses, sendable) depth 60, (search (crosses, sendable) depth 60, (bell_send, (spent_send, tt))))))

pub backlog_sync : IsSync Backlog.the_row
backlog_sync = declared_sync Backlog.the_type (search (crosses, sendable) depth 60, (search (crosses, sendable) depth 60, (search (crosses, sendable) depth 60, (search (crosses, sendable) depth 60, (bell_sync, (spent_sync, tt))))))

abbrev shared : RattleType
shared = Arc.the_row Backlog.the_row Global.the_row global.ghosts

shared_send : IsSend shared
shared_send = heap.Arc-send _ backlog_send backlog_sync

held_send : IsSend Held.the_row
held_send = variants_send Held.enum (tt, ((search sendable, (as_row_send (Arc.the_field Backlog.the_row Global.the_row global.ghosts) shared_send, tt)), tt))

weight_send : IsSend Weight.the_row
weight_send = declared_send Weight.the_type (held_send, tt)

bells_send : IsSend Bells.the_row
bells_send = declared_send Bells.the_type (as_row_send (Arc.the_field RoomBell.the_row Global.the_row global.ghosts) room_send, (search (unparker.the_field_send, unparker.the_send, crosses, heap.send, heap.sync, heap.frees, sendable) depth 60, tt))

-- whose turn it is
share_send : IsSend Share.the_row
share_send = search (crosses, sendable) depth 60

schedule_send : IsSend Schedule.the_row
schedule_send = declared_send Schedule.the_type (as_row_send (Vec.the_field Share.the_row Global.the_row global.ghosts) (heap.Vec-send _ share_send), search sendable)

turns_send : IsSend SeatTurns.the_row
turns_send = declared_send SeatTurns.the_type
    (schedule_send, (as_row_send (Arc.the_field RoomBell.the_row Global.the_row global.ghosts) room_send, (as_row_send (Vec.the_field shared Global.the_row global.ghosts) (heap.Vec-send _ shared_send), search sendable)))

-- a realm's history, as its chronicle recorded it, and what it owes
abbrev pub history : RattleType
history = Recorded.the_row Item.the_row RealmMoment.the_row

abbrev pub history_owed : what.Ghosts history.Denot Item.the_row.Denot
history_owed = owed.ghosts Item.the_row RealmMoment.the_row moment_owed.ghosts owed.no_dict owed.no_dict

pub history_send : IsSend history
history_send = recorded_send Item.the_row RealmMoment.the_row

-- the chronicle of a realm's history
abbrev pub moment : RattleType
moment = Moment.the_row Item.the_row RealmMoment.the_row

abbrev pub moment_recorded : recorded.Ghosts moment.Denot
moment_recorded = moment_history.ghosts Item.the_row RealmMoment.the_row moment_owed.ghosts moment_history.no_dict moment_history.no_dict

pub chronicle_send : IsSend (Chronicle.the_row moment moment_recorded)
chronicle_send = book_send moment moment_recorded

items_send : IsSend (Outbox.the_row Item.the_row history history_owed)
items_send = outbox_send Item.the_row history history_owed item_send history_send

module _ (S : RattleType) where
  joining_send : IsSend S → IsSend (Joining.the_row S)
  joining_send s = declared_send (Joining.the_type S) (search (text_send, crosses, sendable) depth 60, (as_row_send (Outbox.the_field Item.the_row history history_owed) items_send, (as_row_send (row_field S) s, tt)))

  act_send : IsSend S → IsSend (Act.the_row S)
  act_send s = variants_send (Act.enum S) ((joining_send s, tt), ((said_send, tt), ((as_row_send (Octets.the_field) octets_send, tt), (tt, (tt, tt)))))

  letter_send : IsSend S → IsSend (Letter.the_row S)
  letter_send s = declared_send (Letter.the_type S) (search (crosses, sendable) depth 60, (act_send s, (search (crosses, sendable) depth 60, (weight_send, tt))))

  post_send : IsSend S → IsSend (Post.the_row S)
  post_send s = variants_send (Post.enum S) ((letter_send s, tt), ((search (crosses, sendable) depth 60, tt), tt))

  line_send : IsSend S → IsSend (SeatLine.the_row S)
  line_send s = declared_send (SeatLine.the_type S) (as_row_send (Deque.the_field (Post.the_row S) Global.the_row global.ghosts) (heap.Deque-send _ (post_send s)), tt)

  lines_send : IsSend S → IsSend (SeatLines.the_row S)
  lines_send s = declared_send (SeatLines.the_type S)
      (as_row_send (Vec.the_field (SeatLine.the_row S) Global.the_row global.ghosts) (heap.Vec-send _ (line_send s)), (option_send (Post.the_row S) (post_send s), search sendable))

module _ (S : RattleType) (shut : Ghosts S.Denot) where
  abbrev post : RattleType
  post = Post.the_row S

  abbrev key : RattleType
  key = Badge.the_row (Key.the_row post)

  abbrev channel : RattleType
  channel = Rows.the_row key (Doing.the_row post (InboxView.the_row S)) (Rounds.the_row InTurn.the_row) (Option.the_row post) (Key.the_row post) (Lockers.the_row Whole.the_row) Global.the_row
      (rounds.ghosts post (InboxView.the_row S) InTurn.the_row (in_turn.ghosts S shut in_turn.no_dict in_turn.no_dict) rounds.no_dict) (lockers.ghosts post post Whole.the_row (whole.ghosts post) lockers.no_dict) global.ghosts

  key_send : IsSend key
  key_send = badge.the_send _

  channel_send : IsSend S → IsSend channel
  channel_send s = rows.the_send _ _ _ _ _ _ _ (rounds.ghosts post (InboxView.the_row S) InTurn.the_row (in_turn.ghosts S shut in_turn.no_dict in_turn.no_dict) rounds.no_dict) (lockers.ghosts post post Whole.the_row (whole.ghosts post) lockers.no_dict) global.ghosts
      key_send (option_send post (post_send S s)) heap.send heap.frees

  channel_sync : IsSend S → IsSync channel
  channel_sync s = rows.the_sync _ _ _ _ _ _ _ (rounds.ghosts post (InboxView.the_row S) InTurn.the_row (in_turn.ghosts S shut in_turn.no_dict in_turn.no_dict) rounds.no_dict) (lockers.ghosts post post Whole.the_row (whole.ghosts post) lockers.no_dict) global.ghosts
      key_send (option_send post (post_send S s)) heap.send heap.sync heap.frees

  receiving_send : IsSend S → IsSend (Receiving.the_row channel Global.the_row global.ghosts)
  receiving_send s = receiving.the_send _ _ global.ghosts (channel_send s) heap.send (channel_sync s) heap.sync heap.frees

  sending_send : IsSend S → IsSend (Sending.the_row channel Global.the_row global.ghosts)
  sending_send s = sending.the_send _ _ global.ghosts (channel_send s) heap.send (channel_sync s) heap.sync heap.frees

  pub inbox_send : IsSend S → IsSend (Inbox.the_row S shut)
  inbox_send s = declared_send (Inbox.the_type S shut) (search sendable, (receiving_send s, (lines_send S s, (search (crosses, sendable) depth 60, (turns_send, (search (parker.the_field_send, parker.the_send, crosses, heap.send, heap.sync, heap.frees, sendable) depth 60, (ticket.the_send _ _ key_send, tt)))))))

  pub seat_send : IsSend S → IsSend (Seat.the_row S shut)
  seat_send s = declared_send (Seat.the_type S shut) (search sendable, (search (crosses, sendable) depth 60, (search (count_send, crosses, sendable) depth 60, (as_row_send (Arc.the_field Backlog.the_row Global.the_row global.ghosts) shared_send, (search (crosses, sendable) depth 60, (sending_send s, (search (bells_send, crosses, sendable) depth 60, (ticket.the_send _ _ key_send, tt))))))))

  pub poster_send : IsSend S → IsSend (Poster.the_row S shut)
  poster_send s = declared_send (Poster.the_type S shut) (search (crosses, sendable) depth 60, (seat_send s, (search (crosses, sendable) depth 60, (search (count_send, crosses, sendable) depth 60, tt))))

  pub door_send : IsSend S → IsSend (Door.the_row S shut)
  door_send s = declared_send (Door.the_type S shut) (sending_send s, (search (bells_send, crosses, sendable) depth 60, (search (crosses, sendable) depth 60, (ticket.the_send _ _ key_send, tt))))
