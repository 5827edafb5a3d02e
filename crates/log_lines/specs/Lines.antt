-- The lines, octet by octet, without their ends.
use Rattle.std.specs.Prelude.{ℕ, List, Option, None, Some, [], ◌∷◌, ◌++◌, codes, decimal, option_map}
use Rattle.rawsocket.specs.declared.handshake.Serializer.{Serializer}
use Rattle.rawsocket.specs.declared.handshake.Serializer.TheVariants.{Json, MsgPack}
use Rattle.session.specs.declared.fault.Fault.{Fault}
use Rattle.session.specs.declared.fault.Fault.TheVariants as fault
use Rattle.log_lines.specs.Values.{beginning, quoted}
use Rattle.wamp_messages.specs.declared.item.Request.{Request}
use Rattle.wamp_messages.specs.declared.item.Request.TheVariants.{Publish, Subscribe, Unsubscribe}
use Rattle.log_lines.specs.declared.lines.BrokerSummary.{BrokerSummary}
use Rattle.log_lines.specs.declared.lines.ConnectionEnd.{ConnectionEnd}
use Rattle.log_lines.specs.declared.lines.Opening.{Opening}
use Rattle.log_lines.specs.declared.lines.RefusedRequest.{RefusedRequest}
use Rattle.log_lines.specs.declared.lines.RealmStats.{RealmStats}
use Rattle.log_lines.specs.declared.lines.Traffic.{Traffic}
use Rattle.log_lines.specs.declared.reason.ConnectionRefusal.{ConnectionRefusal}
use Rattle.log_lines.specs.declared.reason.ConnectionRefusal.TheVariants.{NoSeat, NoMemory as OutOfMemory}
use Rattle.log_lines.specs.declared.reason.CloseReason.{CloseReason}
use Rattle.log_lines.specs.declared.reason.CloseReason.TheVariants as reason
use Rattle.log_lines.specs.declared.reason.Stopping.{Stopping}
use Rattle.log_lines.specs.declared.reason.Stopping.TheVariants as stopping

abbrev pub listening_line : List ℕ → ℕ → List ℕ
listening_line host port = codes "listening host=" ++ quoted host ++ codes " port=" ++ decimal port

abbrev pub accepted_line : ℕ → List ℕ → ℕ → List ℕ
accepted_line conn peer connections = codes "accepted connection=" ++ decimal conn ++ codes " peer=" ++ quoted peer ++ (codes " connections=" ++ decimal connections)

abbrev pub refusal_word : ConnectionRefusal → List ℕ
refusal_word NoSeat = codes "no_seat"
refusal_word OutOfMemory = codes "no_memory"

abbrev pub refused_line : List ℕ → ConnectionRefusal → List ℕ
refused_line peer refusal = codes "refused peer=" ++ quoted peer ++ codes " reason=" ++ refusal_word refusal

abbrev pub retained_full_line : List ℕ → List ℕ
retained_full_line realm = codes "retained_full realm=" ++ quoted realm

abbrev pub accept_failed_line : List ℕ → List ℕ
accept_failed_line why = codes "accept_failed reason=" ++ quoted why

abbrev pub stopping_word : Stopping → List ℕ
stopping_word stopping.Asked = codes "asked"
stopping_word stopping.ListenFault = codes "listen_fault"
stopping_word stopping.NoMemory = codes "no_memory"

abbrev pub stopping_line : Stopping → List ℕ
stopping_line why = codes "stopping reason=" ++ stopping_word why

abbrev pub lost_line : ℕ → List ℕ
lost_line lines = codes "lost lines=" ++ decimal lines

abbrev pub serialization : Serializer → List ℕ
serialization Json = codes "json"
serialization MsgPack = codes "msgpack"

-- who it is, and what its client takes, behind what stands before
abbrev pub who_part : List ℕ → Opening → List ℕ
who_part front o =
    front ++ codes " authid=" ++ quoted o.authid.now ++ codes " authrole=" ++ quoted o.authrole.now ++ codes " serialization=" ++ serialization o.serializer ++ codes " limit=" ++ decimal o.limit

abbrev pub opened_line : ℕ → Opening → List ℕ
opened_line conn o = who_part (codes "opened connection=" ++ decimal conn ++ codes " realm=" ++ quoted o.realm.now ++ codes " session=" ++ decimal o.session) o

abbrev pub fault_name : Fault → List ℕ
fault_name fault.NoMemory = codes "E1 no memory"
fault_name fault.TooDeep = codes "E4 TooDeep"
fault_name fault.Malformed = codes "E5 Malformed"
fault_name fault.NotRawSocket = codes "E7 NotRawSocket"
fault_name fault.SerializerUnsupported = codes "E8 SerializerUnsupported"
fault_name fault.ReservedBits = codes "E9 ReservedBits"
fault_name fault.FrameTooLong = codes "E11 FrameTooLong"
fault_name fault.FrameType = codes "E12 FrameType"
fault_name fault.Shape = codes "E13 Shape"
fault_name fault.ReadFault = codes "E16 read fault"
fault_name fault.WriteFault = codes "E17 write fault"
fault_name fault.TooLongForClient = codes "E18 TooLongForClient"
fault_name fault.Ended = codes "E23 Ended"
fault_name fault.NoSuchRealm = codes "E24 NoSuchRealm"
fault_name fault.TooManyTurns = codes "E25 too many turns"

abbrev pub fault_part : Fault → List ℕ
fault_part f = codes " fault=" ++ (34 ∷ fault_name f ++ 34 ∷ [])

abbrev pub reason_word : CloseReason → List ℕ
reason_word reason.Goodbye = codes "goodbye"
reason_word reason.Abort = codes "abort"
reason_word reason.Ended = codes "ended"
reason_word (reason.Violation f) = codes "violation"
reason_word (reason.NotOpened f) = codes "not_opened"
reason_word reason.NotAdmitted = codes "not_admitted"
reason_word (reason.OutboxFull items) = codes "outbox_full"
reason_word (reason.TooLong octets limit) = codes "too_long"
reason_word reason.Unspelt = codes "unspelt"
reason_word reason.ReadFailed = codes "read_failed"
reason_word reason.WriteFailed = codes "write_failed"
reason_word reason.TooManyTurns = codes "too_many_turns"
reason_word reason.NoMemory = codes "no_memory"
reason_word reason.NoThread = codes "no_thread"
reason_word reason.Stop = codes "stop"

-- what stands behind the word
abbrev pub reason_more : CloseReason → List ℕ
reason_more (reason.Violation f) = fault_part f
reason_more (reason.NotOpened f) = fault_part f
reason_more (reason.OutboxFull items) = codes " items=" ++ decimal items
reason_more (reason.TooLong octets limit) = codes " octets=" ++ decimal octets ++ (codes " limit=" ++ decimal limit)
reason_more _ = []

-- what was asked for, under a key: its first 128 octets
abbrev pub asked_part : List ℕ → Option (List ℕ) → List ℕ
asked_part key None = []
asked_part key (Some text) = key ++ quoted (beginning text)

abbrev pub count_part : List ℕ → ℕ → List ℕ
count_part key n = key ++ decimal n

-- what a session said and was sent
abbrev pub traffic_part : Traffic → List ℕ
traffic_part t =
    count_part (codes " received=") t.received ++ count_part (codes " events=") t.events ++ count_part (codes " octets_in=") t.octets_in ++ count_part (codes " octets_out=") t.octets_out ++ count_part (codes " refused=") t.refused

abbrev pub closed_line : ℕ → ConnectionEnd → ℕ → List ℕ
closed_line conn c connections =
    codes "closed connection=" ++ decimal conn ++ codes " reason=" ++ reason_word c.reason ++ reason_more c.reason ++ asked_part (codes " realm=") (option_map (λ t. t.now) c.realm) ++ asked_part (codes " authid=") (option_map (λ t. t.now) c.authid) ++ count_part (codes " connections=") connections ++ traffic_part c.traffic

abbrev pub kind_word : Request → List ℕ
kind_word Publish = codes "publish"
kind_word Subscribe = codes "subscribe"
kind_word Unsubscribe = codes "unsubscribe"

abbrev pub request_refused_line : ℕ → RefusedRequest → List ℕ
request_refused_line conn r =
    codes "refused connection=" ++ decimal conn ++ codes " kind=" ++ kind_word r.kind ++ count_part (codes " request=") r.request ++ codes " error=" ++ quoted r.error.now ++ asked_part (codes " topic=") (option_map (λ t. t.now) r.topic)

abbrev pub started_line : BrokerSummary → List ℕ
started_line b =
    codes "started version=" ++ quoted b.version.now ++ codes " realms=" ++ quoted b.realms.now ++ count_part (codes " outbox=") b.outbox ++ codes " limits=" ++ quoted b.limits.now

abbrev pub held_part : RealmStats → List ℕ
held_part s =
    count_part (codes " sessions=") s.sessions ++ count_part (codes " subscriptions=") s.subscriptions ++ count_part (codes " retained=") s.retained ++ count_part (codes " retained_octets=") s.retained_octets ++ count_part (codes " longest_outbox=") s.longest_outbox ++ count_part (codes " posts=") s.posts

abbrev pub done_part : RealmStats → List ℕ
done_part s = count_part (codes " publications=") s.publications ++ count_part (codes " events=") s.events ++ count_part (codes " cut=") s.cut

abbrev pub stats_line : List ℕ → RealmStats → List ℕ
stats_line realm s = codes "stats realm=" ++ quoted realm ++ held_part s ++ done_part s
