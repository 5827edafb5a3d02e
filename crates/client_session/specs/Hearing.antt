-- What the octets of a broker say to a client, and how the client answers them.
use Rattle.std.specs.Prelude.{◌≡◌, ◌≢◌, ◌≤◌, ◌<◌, ◌⊎◌, ⊤, ℕ, List, [], ◌∷◌, ◌++◌, length, None, Some, Result, Ok, Err}
use Rattle.std.specs.declared.option.Option.{Option}
use Rattle.std.specs.List.{flat_map, AllByRecursion}
use Rattle.message_tree.specs.Data.{Data}
use Rattle.rawsocket.specs.Devices.{GrowsByBeginning, Reading, Writing}
use Rattle.rawsocket.specs.Deframer.{Deframing}
use Rattle.rawsocket.specs.Frames.{Content, spelled, fault_of, Reads}
use Rattle.rawsocket.specs.Steps.{Told, Steps, read_meter}
use Rattle.rawsocket.specs.declared.fault.Fault.TheVariants as stream
use Rattle.rawsocket.specs.declared.frame.Kind.{Kind}
use Rattle.rawsocket.specs.declared.frame.Kind.TheVariants as kind
use Rattle.rawsocket.specs.declared.handshake.Serializer.{Serializer}
use Rattle.session.specs.Opened.{ByKind, pong}
use Rattle.session.specs.Serializer.{Decodes, IsUndecodable}
use Rattle.session.specs.declared.fault.Fault.TheVariants as session
use Rattle.client_messages.specs.FromBroker.{heard_of}
use Rattle.client_messages.specs.declared.heard.Heard.{Heard}
-- the payload is a message of a broker, which says this
pub use Rattle.client_messages.specs.Says.{Says}
use Rattle.client_session.specs.declared.fault.Fault.{Fault}
use Rattle.client_session.specs.declared.fault.Fault.TheVariants.{NoMemory, FrameTooLong, FrameType, TooDeep, Malformed, NoBrokerMessage, TooLongForBroker, Ended, ReadFault, WriteFault, TooManyReads, TooManyWrites}

-- what a client takes in one payload: all that the header of a frame can tell
abbrev pub client_takes : ℕ
client_takes = 16777215

-- how the broker's messages are serialized, and the most octets that it takes in one payload
pub record Terms : Type 0 where
  pub serializer : Serializer
  pub limit : ℕ

abbrev pub terms : Serializer → ℕ → Terms
terms s limit = record { serializer = s; limit = limit }

-- it is a message, but of no broker
pub record IsForeign (s : Serializer) (payload : List ℕ) : Type 0 where
  pub message : Data
  pub decodes : Decodes s payload message
  pub says : heard_of message ≡ None

-- it says nothing, for this fault
abbrev pub SaysNothing : Serializer → List ℕ → Fault → Type 0
SaysNothing s payload TooDeep = IsUndecodable s payload session.TooDeep
SaysNothing s payload Malformed = IsUndecodable s payload session.Malformed
SaysNothing s payload NoBrokerMessage = IsForeign s payload
SaysNothing s payload _ = ⊥

abbrev pub message : List ℕ → Content
message payload = record { kind = kind.Message; payload = payload }

abbrev pub ping : List ℕ → Content
ping payload = record { kind = kind.Ping; payload = payload }

-- the kind of the first frame
abbrev pub first_kind : List Content → Option Kind
first_kind [] = None
first_kind (c ∷ frames) = Some c.kind

-- a PONG, or a PING that the broker takes back
abbrev pub IsAside : ℕ → Content → Type 0
IsAside limit c = ByKind c.kind ⊥ (length c.payload ≤ limit) ⊤

-- a PING is answered by a PONG of its octets
abbrev pub answer_by : Kind → List ℕ → List ℕ
answer_by kind.Ping payload = spelled (pong payload)
answer_by _ payload = []

abbrev pub answer_to : Content → List ℕ
answer_to c = answer_by c.kind c.payload

abbrev pub answers_to : List Content → List ℕ
answers_to frames = flat_map answer_to frames

-- the frames that wait to be heard, and what was written to the broker
pub record Stand : Type 0 where
  pub waiting : List Content
  pub taken : List ℕ

abbrev pub stand : List Content → List ℕ → Stand
stand waiting taken = record { waiting = waiting; taken = taken }

-- the first frames say nothing to the client, and are answered
pub record PassesOver (limit : ℕ) (before now : Stand) : Type 0 where
  pub aside : List Content
  pub frames_are : before.waiting ≡ aside ++ now.waiting
  pub each : AllByRecursion (IsAside limit) aside
  pub wrote : now.taken ≡ before.taken ++ answers_to aside

-- of the answers a beginning is written
pub record BeginsAnswers (limit : ℕ) (before now : Stand) : Type 0 where
  pub aside : List Content
  pub frames_are : before.waiting ≡ aside ++ now.waiting
  pub each : AllByRecursion (IsAside limit) aside
  pub wrote : GrowsByBeginning before.taken now.taken (answers_to aside)

-- the next message says this
pub record Hears (t : Terms) (before now : Stand) (heard : Heard) : Type 0 where
  pub payload : List ℕ
  pub says : Says t.serializer payload heard
  pub passes : PassesOver t.limit before (stand (message payload ∷ now.waiting) now.taken)

-- no message waits
pub record IsQuiet (t : Terms) (before now : Stand) : Type 0 where
  pub none : now.waiting ≡ []
  pub passes : PassesOver t.limit before now

-- the next message says nothing, and stays
pub record IsStuck (t : Terms) (before now : Stand) (fault : Fault) : Type 0 where
  pub payload : List ℕ
  pub more : List Content
  pub first : now.waiting ≡ message payload ∷ more
  pub nothing : SaysNothing t.serializer payload fault
  pub passes : PassesOver t.limit before now

-- before the next message stands a PING that is longer than the broker takes
pub record IsLong (t : Terms) (before now : Stand) : Type 0 where
  pub payload : List ℕ
  pub long : t.limit < length payload
  pub passes : PassesOver t.limit before (stand (ping payload ∷ now.waiting) now.taken)

-- the waiting frames end it by this fault
abbrev pub Stops : Terms → Stand → Stand → Fault → Type 0
Stops t before now NoMemory = BeginsAnswers t.limit before now
Stops t before now WriteFault = BeginsAnswers t.limit before now
Stops t before now TooManyWrites = BeginsAnswers t.limit before now
Stops t before now TooLongForBroker = IsLong t before now
Stops t before now TooDeep = IsStuck t before now TooDeep
Stops t before now Malformed = IsStuck t before now Malformed
Stops t before now NoBrokerMessage = IsStuck t before now NoBrokerMessage
Stops t before now _ = ⊥

-- what the waiting frames give, without reading
abbrev pub Gives : Terms → Stand → Stand → Result (Option Heard) Fault → Type 0
Gives t before now (Ok (Some heard)) = Hears t before now heard
Gives t before now (Ok None) = IsQuiet t before now
Gives t before now (Err fault) = Stops t before now fault

-- what the first waiting frame says, a message
pub record HearsFirst (s : Serializer) (before now : List Content) (heard : Heard) : Type 0 where
  pub payload : List ℕ
  pub says : Says s payload heard
  pub frames_are : before ≡ message payload ∷ now

-- it says nothing
pub record SaysNothingFirst (s : Serializer) (waiting : List Content) (fault : Fault) : Type 0 where
  pub payload : List ℕ
  pub more : List Content
  pub first : waiting ≡ message payload ∷ more
  pub nothing : SaysNothing s payload fault

-- or there was no memory to read it
abbrev pub IsUnheard : Serializer → List Content → Fault → Type 0
IsUnheard s waiting NoMemory = ⊤
IsUnheard s waiting fault = SaysNothingFirst s waiting fault

-- a frame is answered
pub record IsAnswered (limit : ℕ) (c : Content) (taken_before taken : List ℕ) : Type 0 where
  pub aside : IsAside limit c
  pub wrote : taken ≡ taken_before ++ answer_to c

-- of its answer a beginning is written
pub record IsAnsweredPartly (limit : ℕ) (c : Content) (taken_before taken : List ℕ) : Type 0 where
  pub aside : IsAside limit c
  pub wrote : GrowsByBeginning taken_before taken (answer_to c)

-- it is a PING that is longer than the broker takes, and nothing is written
pub record IsLongPing (limit : ℕ) (c : Content) (taken_before taken : List ℕ) : Type 0 where
  pub payload : List ℕ
  pub is : c ≡ ping payload
  pub long : limit < length payload
  pub same : taken ≡ taken_before

-- its answer ends by this fault
abbrev pub StopsAt : ℕ → Content → List ℕ → List ℕ → Fault → Type 0
StopsAt limit c taken_before taken NoMemory = IsAnsweredPartly limit c taken_before taken
StopsAt limit c taken_before taken WriteFault = IsAnsweredPartly limit c taken_before taken
StopsAt limit c taken_before taken TooManyWrites = IsAnsweredPartly limit c taken_before taken
StopsAt limit c taken_before taken TooLongForBroker = IsLongPing limit c taken_before taken
StopsAt limit c taken_before taken _ = ⊥

-- the first waiting frame is answered
pub record PassesFirst (limit : ℕ) (before now : Stand) : Type 0 where
  pub frame : Content
  pub frames_are : before.waiting ≡ frame ∷ now.waiting
  pub answered : IsAnswered limit frame before.taken now.taken

-- or its answer ends by this fault
pub record StopsFirst (limit : ℕ) (before now : Stand) (fault : Fault) : Type 0 where
  pub frame : Content
  pub frames_are : before.waiting ≡ frame ∷ now.waiting
  pub stops : StopsAt limit frame before.taken now.taken fault

-- the faults of writing octets
abbrev pub IsSendingFault : Fault → Type 0
IsSendingFault WriteFault = ⊤
IsSendingFault TooManyWrites = ⊤
IsSendingFault _ = ⊥

-- octets were read, and these are the frames that they complete
pub record ReadsMore (held_before held given_before given : List ℕ) (frames : List Content) : Type 0 where
  pub piece : List ℕ
  pub read : given ≡ given_before ++ piece
  pub reads : Reads client_takes (held_before ++ piece) frames held

-- why no octets were read, by what is held of those before
abbrev pub ReadStops : List ℕ → Fault → Type 0
ReadStops held FrameType = fault_of client_takes held ≡ Some stream.FrameType
ReadStops held FrameTooLong = fault_of client_takes held ≡ Some stream.FrameTooLong
ReadStops held Ended = fault_of client_takes held ≡ None
ReadStops held ReadFault = fault_of client_takes held ≡ None
ReadStops held TooManyReads = fault_of client_takes held ≡ None
ReadStops held NoMemory = ⊤
ReadStops held _ = ⊥

-- what was read is as before, or some of it is lost for want of memory
abbrev pub IsLost : List ℕ → List ℕ → Fault → Type 0
IsLost given_before given NoMemory = (lost : List ℕ) × (given ≡ given_before ++ lost)
IsLost given_before given _ = given ≡ given_before

-- no message waits, and none was read
pub record IsSilent (t : Terms) (before now : Stand) (held : List ℕ) (fault : Fault) : Type 0 where
  pub quiet : IsQuiet t before now
  pub why : ReadStops held fault

-- what the next message says, or why there is none: `before` has all frames that waited or were read
abbrev pub IsNext : Terms → Stand → Stand → List ℕ → Result Heard Fault → Type 0
IsNext t before now held (Ok heard) = Hears t before now heard
IsNext t before now held (Err FrameType) = IsSilent t before now held FrameType
IsNext t before now held (Err FrameTooLong) = IsSilent t before now held FrameTooLong
IsNext t before now held (Err Ended) = IsSilent t before now held Ended
IsNext t before now held (Err ReadFault) = IsSilent t before now held ReadFault
IsNext t before now held (Err TooManyReads) = IsSilent t before now held TooManyReads
IsNext t before now held (Err fault) = Stops t before now fault

-- the frames that wait, what is held of the octets behind them, and what was read and written
pub record Ear : Type 0 where
  pub waiting : List Content
  pub held : List ℕ
  pub given : List ℕ
  pub taken : List ℕ

abbrev pub ear : List Content → List ℕ → List ℕ → List ℕ → Ear
ear waiting held given taken = record { waiting = waiting; held = held; given = given; taken = taken }

-- octets were read behind those that are held, and the next message of the frames that waited and of those that the octets
-- complete is heard; only want of memory loses octets, and they are the last ones
pub record HearsNext (t : Terms) (before now : Ear) (result : Result Heard Fault) : Type 0 where
  pub octets : List ℕ
  pub lost : List ℕ
  pub read : now.given ≡ before.given ++ (octets ++ lost)
  pub none_lost : result ≢ Err NoMemory → lost ≡ []
  pub frames : List Content
  pub reads : Reads client_takes (before.held ++ octets) frames now.held
  pub next : IsNext t (stand (before.waiting ++ frames) before.taken) (stand now.waiting now.taken) now.held result

-- octets were read behind those that are held, and no message is among the frames that waited and those that the octets complete:
-- none of them waits any more, and each PING is answered
pub record HearsNone (t : Terms) (before now : Ear) : Type 0 where
  pub octets : List ℕ
  pub read : now.given ≡ before.given ++ octets
  pub frames : List Content
  pub reads : Reads client_takes (before.held ++ octets) frames now.held
  pub quiet : IsQuiet t (stand (before.waiting ++ frames) before.taken) (stand now.waiting now.taken)

-- what is heard by one look at the stream: the next message, or that none is here yet
abbrev pub ListensNext : Terms → Ear → Ear → Result (Option Heard) Fault → Type 0
ListensNext t before now (Ok (Some heard)) = HearsNext t before now (Ok heard)
ListensNext t before now (Ok None) = HearsNone t before now
ListensNext t before now (Err fault) = HearsNext t before now (Err fault)

-- such looks, as many as there were, heard no message
abbrev pub HearsNoneYet : Terms → Ear → Ear → Type 0
HearsNoneYet t before now = (now ≡ before) ⊎ HearsNone t before now

-- what a look did to the stream, for which it has one turn
abbrev pub LookSteps : Reading → Reading → Told → Type 0
LookSteps before after told = (left : ℕ) × Steps (read_meter before 1) (read_meter after left) told

-- a link to a broker: its terms, the frames that came from it and are not heard yet, and what is held of the octets behind them
pub record Line : Type 0 where
  pub serializer : Serializer
  pub limit : ℕ
  pub waiting : List Content
  pub held : List ℕ

-- what holds of each: the limit is one that a handshake tells, the deframer takes what a client takes, what it holds would be held if nothing more came,
-- and there is room to read into
pub record IsReady (limit : ℕ) (deframer : Deframing) (buffer : List ℕ) : Type 0 where
  pub fits : limit ≤ 16777215
  pub most : deframer.most ≡ client_takes
  pub steady : Reads client_takes deframer.held [] deframer.held
  pub room : 0 < length buffer

abbrev pub heard_at : Line → Reading → Writing → Ear
heard_at l source sink = ear l.waiting l.held source.given sink.taken
