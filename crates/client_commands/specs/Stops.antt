-- Why a command ends before its time, and how far it came.
use Rattle.std.specs.Prelude.{◌≡◌, ◌≢◌, ◌<◌, ◌+◌, ◌⊎◌, ⊤, ℕ, true, List, [], ◌++◌, length, get_or, Ok, Err, Some}
use Rattle.std.specs.declared.option.Option.{Option}
use Rattle.rawsocket.specs.declared.handshake.Serializer.{Serializer}
use Rattle.session.specs.Opened.{Exchange, exchange}
use Rattle.client_messages.specs.Wishes.{subscribe_options}
use Rattle.client_messages.specs.declared.client_message.ClientMessage.{ClientMessage}
use Rattle.client_messages.specs.declared.client_message.ClientMessage.TheVariants.{Hello, Goodbye as GoodbyeSaid, GoodbyeAndOut, Subscribe}
use Rattle.client_messages.specs.declared.heard.Heard.{Heard}
use Rattle.client_messages.specs.declared.heard.Heard.TheVariants.{Goodbye}
use Rattle.client_messages.specs.declared.wishes.SubscribeWishes.{SubscribeWishes}
use Rattle.client_session.specs.Handshake.{IsRefused, Replies}
use Rattle.client_session.specs.Hearing.{Ear, HearsNext, Terms, ear, terms}
use Rattle.client_session.specs.Saying.{IsCutShort, saying}
use Rattle.client_session.specs.Sessions.{HearsLast, Welcomed}
use Rattle.client_session.specs.declared.fault.Fault as link_faults
use Rattle.client_session.specs.declared.fault.Fault.TheVariants as link
use Rattle.client_commands.specs.Acts.{Asks, IsCountedOff, IsTurnedAway, Joins, Listens, MayCome, PrintsPartly, asked, events, exchange_of, is_event, noted, printed, terms_of, writing}
use Rattle.client_commands.specs.Faults.{of_message}
use Rattle.client_commands.specs.Notes.{IsNoted, Noting}
use Rattle.client_commands.specs.declared.command.LineForm.{LineForm}
use Rattle.client_commands.specs.declared.command.SubscribeCommand.{SubscribeCommand}
use Rattle.client_commands.specs.declared.fault.Fault.{Fault}
use Rattle.client_commands.specs.declared.fault.Fault.TheVariants.{NoMemory, WriteFault, Usage, TooManyTurns, Connection, ForeignEvent, Closed}

-- a message ends a command by this fault: an event may be of no subscription, and for any message there may be no memory
abbrev pub GivesFault : Heard → Fault → Type 0
GivesFault heard NoMemory = ⊤
GivesFault heard ForeignEvent = is_event heard ≡ true
GivesFault heard fault = fault ≡ of_message heard

-- it is heard next
pub record EndsByNext (t : Terms) (before now : Ear) (fault : Fault) : Type 0 where
  pub heard : Heard
  pub hears : HearsNext t before now (Ok heard)
  pub gives : GivesFault heard fault

-- the link gives no further message, as its own contract says: the stream ended, a read failed, no message of a broker came, ..; want of
-- memory has a fault of its own
abbrev pub HasNoNext : Terms → Ear → Ear → link_faults.Fault → Type 0
HasNoNext t before now fault = (fault ≢ link.NoMemory) × HearsNext t before now (Err fault)

-- why a command takes no further message: the next one ends it, or there is none
abbrev pub Stops : Terms → Ear → Ear → Fault → Type 0
Stops t before now NoMemory = ⊤
Stops t before now (Connection fault) = HasNoNext t before now fault
Stops t before now fault = EndsByNext t before now fault

-- and nothing is read and written since
pub record StopsAt (t : Terms) (before : Ear) (last : Exchange) (fault : Fault) : Type 0 where
  pub now : Ear
  pub stops : Stops t before now fault
  pub until : exchange_of now ≡ last

-- a fault is of the link, and has this cause there, or there is no memory
abbrev pub ByLink : (link_faults.Fault → Type 0) → Fault → Type 0
ByLink Cause NoMemory = ⊤
ByLink Cause (Connection fault) = (fault ≢ link.NoMemory) × Cause fault
ByLink Cause _ = ⊥

-- a message isn't said, or not whole, and nothing is read since
pub record IsUnsaid (t : Terms) (said : ClientMessage) (before last : Exchange) (fault : link_faults.Fault) : Type 0 where
  pub unread : last.given ≡ before.given
  pub cut : IsCutShort t said before.taken last.taken fault

-- the broker accepted the handshake, and HELLO isn't said, or nothing is heard that answers it
pub record HasNoAnswer (s : Serializer) (realm : List ℕ) (authid : Option (List ℕ)) (before last : Exchange) (fault : link_faults.Fault) : Type 0 where
  pub linked : Exchange
  pub limit : ℕ
  pub replies : Replies s before linked (Ok limit)
  pub why :
      IsUnsaid (terms s limit) (Hello realm authid) linked last fault
      ⊎ HearsLast (terms s limit) (ear [] [] linked.given (linked.taken ++ saying s (Hello realm authid))) last.given last.taken (Err fault)

-- no session is joined: the handshake fails or HELLO isn't answered, or by no WELCOME
abbrev pub FailsToJoin : Serializer → List ℕ → Option (List ℕ) → Exchange → Exchange → Fault → Type 0
FailsToJoin s realm authid before last NoMemory = ⊤
FailsToJoin s realm authid before last (Connection fault) = (fault ≢ link.NoMemory) × (IsRefused s before last fault ⊎ HasNoAnswer s realm authid before last fault)
FailsToJoin s realm authid before last fault = IsTurnedAway s realm authid before last fault

-- SUBSCRIBEs are said, and the next one isn't
pub record AsksPartly (t : Terms) (wishes : SubscribeWishes) (topics : List (List ℕ)) (before last : Exchange) (fault : link_faults.Fault) : Type 0 where
  pub place : ℕ
  pub among : place < length topics
  pub unsaid :
      IsUnsaid t (Subscribe (place + 1) (subscribe_options wishes) (get_or topics place [])) (exchange before.given (before.taken ++ asked t.serializer wishes topics place))
      last fault

-- not all topics are asked for; there may be more than requests have ids
abbrev pub IsUnasked : Terms → SubscribeWishes → List (List ℕ) → Exchange → Exchange → Fault → Type 0
IsUnasked t wishes topics before last Usage = 9007199254740992 < length topics
IsUnasked t wishes topics before last fault = ByLink (AsksPartly t wishes topics before last) fault

-- a session is joined, and not all topics are asked for
pub record FailsToAsk (s : Serializer) (realm : List ℕ) (authid : Option (List ℕ)) (wishes : SubscribeWishes) (topics : List (List ℕ)) (before last : Exchange) (fault : Fault) : Type 0 where
  pub joined : Exchange
  pub session : Welcomed
  pub joins : Joins s realm authid before joined session
  pub asks : IsUnasked (terms_of session) wishes topics joined last fault

-- GOODBYE is said, and not answered: events and subscriptions that come before the answer are passed over
pub record HasNoGoodbye (t : Terms) (before : Ear) (last : Exchange) (fault : Fault) : Type 0 where
  pub passed : List Heard
  pub harmless : MayCome passed
  pub now : Ear
  pub listens : Listens t (writing before (saying t.serializer GoodbyeSaid)) now passed
  pub stops : StopsAt t now last fault

-- GOODBYE isn't said, or not answered; that the broker says GOODBYE is no fault then
abbrev pub FailsToLeave : Terms → Ear → Exchange → Fault → Type 0
FailsToLeave t before last (Closed reason) = ⊥
FailsToLeave t before last fault = ByLink (IsUnsaid t GoodbyeSaid (exchange_of before) last) fault ⊎ HasNoGoodbye t before last fault

-- how the broker's GOODBYE is answered: the fault tells its reason then
abbrev pub IsAnswered : Terms → List ℕ → Exchange → Exchange → Fault → Type 0
IsAnswered t reason before last (Closed told) = (told ≡ reason) × (last ≡ exchange before.given (before.taken ++ saying t.serializer GoodbyeAndOut))
IsAnswered t reason before last fault = ByLink (IsUnsaid t GoodbyeAndOut before last) fault

-- the broker says GOODBYE for this reason, and it is answered
pub record IsClosed (t : Terms) (before : Ear) (last : Exchange) (reason : List ℕ) : Type 0 where
  pub now : Ear
  pub hears : HearsNext t before now (Ok (Goodbye reason))
  pub answers : last ≡ exchange_of (writing now (saying t.serializer GoodbyeAndOut))

-- it says so, and isn't answered, or not whole
pub record ClosesUnanswered (t : Terms) (before : Ear) (last : Exchange) (fault : link_faults.Fault) : Type 0 where
  pub reason : List ℕ
  pub now : Ear
  pub hears : HearsNext t before now (Ok (Goodbye reason))
  pub unsaid : IsUnsaid t GoodbyeAndOut (exchange_of now) last fault

-- all that was heard up to there is noted and counted off, these are its lines, and this comes next
pub record TellsAllUntil (form : LineForm) (topics : List (List ℕ)) (t : Terms) (before : Ear) (lines_before : List ℕ) (notes_before notes : Noting) (left left_now : Option ℕ)
    (Next : List Heard → Ear → List ℕ → Type 0) : Type 0 where
  pub heards : List Heard
  pub harmless : MayCome heards
  pub now : Ear
  pub listens : Listens t before now heards
  pub noted_are : IsNoted (noted topics heards) notes_before notes
  pub counted : IsCountedOff left left_now (events heards)
  pub next : Next heards now (lines_before ++ printed form topics heards)

-- why a subscriber follows no further: all lines are printed, and it takes no further message; or the output takes a beginning of the next line
abbrev pub StopsFollowing : LineForm → List (List ℕ) → Terms → List ℕ → Exchange → Fault → List Heard → Ear → List ℕ → Type 0
StopsFollowing form topics t lines last NoMemory heards now told = ⊤
StopsFollowing form topics t lines last WriteFault heards now told = PrintsPartly form topics t heards now last told lines
StopsFollowing form topics t lines last TooManyTurns heards now told = PrintsPartly form topics t heards now last told lines
StopsFollowing form topics t lines last fault heards now told = (lines ≡ told) × StopsAt t now last fault

-- the broker's GOODBYE isn't answered; or as many events were printed as were left to be, and it doesn't get away
abbrev pub FailsBehind : Terms → Option ℕ → List Heard → Ear → Exchange → Fault → Type 0
FailsBehind t left heards now last fault = ByLink (ClosesUnanswered t now last) fault ⊎ ((left ≡ Some (events heards)) × FailsToLeave t now last fault)

-- why a subscriber ends that has asked
abbrev pub EndsBehind : LineForm → List (List ℕ) → Terms → Option ℕ → List ℕ → Exchange → Fault → List Heard → Ear → List ℕ → Type 0
EndsBehind form topics t left lines last (Closed reason) heards now told = (lines ≡ told) × IsClosed t now last reason
EndsBehind form topics t left lines last fault heards now told =
    StopsFollowing form topics t lines last fault heards now told ⊎ ((lines ≡ told) × FailsBehind t left heards now last fault)

-- the topics are asked for, and all that is heard till it ends is told
pub record EndsLater (command : SubscribeCommand) (before last : Exchange) (lines_before lines : List ℕ) (notes_before notes : Noting) (left left_now : Option ℕ) (fault : Fault) : Type 0 where
  pub t : Terms
  pub asking : Ear
  pub asks : Asks command.contact.serializer command.contact.realm command.contact.authid command.wishes command.topics.items before asking t
  pub tells :
      TellsAllUntil command.form command.topics.items t asking lines_before notes_before notes left left_now
      (EndsBehind command.form command.topics.items t left lines last fault)

-- no topic is asked for, or not all, and nothing is printed, noted and counted off
pub record EndsSooner (command : SubscribeCommand) (before last : Exchange) (lines_before lines : List ℕ) (notes_before notes : Noting) (left left_now : Option ℕ) (fault : Fault) : Type 0 where
  pub unprinted : lines ≡ lines_before
  pub unnoted : notes ≡ notes_before
  pub uncounted : left_now ≡ left
  pub why :
      FailsToJoin command.contact.serializer command.contact.realm command.contact.authid before last fault
      ⊎ FailsToAsk command.contact.serializer command.contact.realm command.contact.authid command.wishes command.topics.items before last fault

-- why `subscribe` ends by a fault
abbrev pub EndsSubscribing : SubscribeCommand → Exchange → Exchange → List ℕ → List ℕ → Noting → Noting → Option ℕ → Option ℕ → Fault → Type 0
EndsSubscribing command before last lines_before lines notes_before notes left left_now fault =
    EndsSooner command before last lines_before lines notes_before notes left left_now fault
    ⊎ EndsLater command before last lines_before lines notes_before notes left left_now fault
