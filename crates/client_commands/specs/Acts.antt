-- What a command says to a broker, what it hears, and what it prints. Where a list tells what was heard or published so far, the last
-- one stands first.
use Rattle.std.specs.Prelude.{◌≡◌, ◌==◌, ◌+◌, ◌-◌, ℕ, zero, suc, ⊤, Bool, true, false, List, [], ◌∷◌, ◌++◌, ◌⊎◌, length, get_or, None, Some, Ok, if◌then◌else◌}
use Rattle.std.specs.declared.option.Option.{Option}
use Rattle.rawsocket.specs.Devices.{GrowsByBeginning, Reading, Writing}
use Rattle.rawsocket.specs.declared.handshake.Serializer.{Serializer}
use Rattle.session.specs.Opened.{Exchange, exchange}
use Rattle.client_messages.specs.declared.client_message.ClientMessage.TheVariants.{Hello, Goodbye as GoodbyeSaid, Subscribe}
use Rattle.client_messages.specs.Wishes.{subscribe_options}
use Rattle.client_messages.specs.declared.wishes.SubscribeWishes.{SubscribeWishes}
use Rattle.client_messages.specs.declared.heard.Heard.{Heard}
use Rattle.client_messages.specs.declared.heard.Heard.TheVariants.{Welcome, Abort, Goodbye, Subscribed, Event}
use Rattle.client_session.specs.Handshake.{Replies}
use Rattle.client_session.specs.Hearing.{Ear, HearsNext, Terms, ear, heard_at, terms}
use Rattle.client_session.specs.Saying.{saying}
use Rattle.client_session.specs.Sessions.{HearsLast, Welcomed, is_answer}
use Rattle.client_commands.specs.EventLine.{event_line}
use Rattle.client_commands.specs.Notes.{IsNoted, Noting, note_of}
use Rattle.client_commands.specs.declared.command.LineForm.{LineForm}
use Rattle.client_commands.specs.declared.fault.Fault.{Fault}
use Rattle.client_commands.specs.declared.fault.Fault.TheVariants.{Refused, Unexpected}
use Rattle.client_commands.specs.declared.listener.Listener.{Listener}
use Rattle.client_commands.specs.declared.subscriptions.Granted.{Granted}

-- the terms of a session
abbrev pub terms_of : Welcomed → Terms
terms_of session = terms session.line.serializer session.line.limit

-- what a session has read and heard, at these octets read and written
abbrev pub standing : Welcomed → List ℕ → List ℕ → Ear
standing session given taken = ear session.line.waiting session.line.held given taken

-- by what is seen of its streams
abbrev pub standing_of : Welcomed → Reading → Writing → Ear
standing_of session source sink = heard_at session.line source sink

-- the same, with more octets written
abbrev pub writing : Ear → List ℕ → Ear
writing e octets = ear e.waiting e.held e.given (e.taken ++ octets)

-- what was read and written till then
abbrev pub exchange_of : Ear → Exchange
exchange_of e = exchange e.given e.taken

-- what was read and written before stays, and more may have been since
pub record Continues (before now : Exchange) : Type 0 where
  pub more_given : List ℕ
  pub given : now.given ≡ before.given ++ more_given
  pub more_taken : List ℕ
  pub taken : now.taken ≡ before.taken ++ more_taken

-- the broker accepted the handshake, HELLO was said, and WELCOME was heard
pub record Joins (s : Serializer) (realm : List ℕ) (authid : Option (List ℕ)) (before now : Exchange) (session : Welcomed) : Type 0 where
  pub linked : Exchange
  pub replies : Replies s before linked (Ok session.line.limit)
  pub serializer : session.line.serializer ≡ s
  pub hears :
      HearsNext (terms s session.line.limit) (ear [] [] linked.given (linked.taken ++ saying s (Hello realm authid)))
      (standing session now.given now.taken) (Ok (Welcome session.id))
  pub new : session.subscriptions ≡ []

-- these were heard, one after another, and nothing else was
abbrev pub Listens : Terms → Ear → Ear → List Heard → Type 0
Listens t before now [] = now ≡ before
Listens t before now (heard ∷ heards) = (mid : Ear) × Listens t before mid heards × HearsNext t mid now (Ok heard)

-- what answers HELLO opens no session, for this fault
abbrev pub TurnsAway : Heard → Fault → Type 0
TurnsAway heard (Refused reason) = heard ≡ Abort reason
TurnsAway heard Unexpected = is_answer heard ≡ false
TurnsAway heard _ = ⊥

-- the broker accepted the handshake, HELLO was said, and something other than WELCOME was heard
pub record IsTurnedAway (s : Serializer) (realm : List ℕ) (authid : Option (List ℕ)) (before now : Exchange) (fault : Fault) : Type 0 where
  pub linked : Exchange
  pub limit : ℕ
  pub replies : Replies s before linked (Ok limit)
  pub heard : Heard
  pub hears : HearsLast (terms s limit) (ear [] [] linked.given (linked.taken ++ saying s (Hello realm authid))) now.given now.taken (Ok heard)
  pub why : TurnsAway heard fault

-- whether nothing is amiss where it comes: an event, or a subscription that is given
abbrev pub may_come : Heard → Bool
may_come (Event n publication details args) = true
may_come (Subscribed request n) = true
may_come _ = false

abbrev pub MayCome : List Heard → Type 0
MayCome [] = ⊤
MayCome (heard ∷ heards) = (may_come heard ≡ true) × MayCome heards

-- GOODBYE is said, and the broker's is heard; events and subscriptions that come before it are passed over
pub record Leaves (t : Terms) (before now : Ear) : Type 0 where
  pub passed : List Heard
  pub harmless : MayCome passed
  pub reason : List ℕ
  pub hears : Listens t (writing before (saying t.serializer GoodbyeSaid)) now (Goodbye reason ∷ passed)

-- the SUBSCRIBEs of the first n topics, whose requests' ids count from 1
abbrev pub asked : Serializer → SubscribeWishes → List (List ℕ) → ℕ → List ℕ
asked s wishes topics zero = []
asked s wishes topics (suc n) = asked s wishes topics n ++ saying s (Subscribe (n + 1) (subscribe_options wishes) (get_or topics n []))

-- the subscriptions that were given, with one more where this grants one
abbrev pub granted_with : List Granted → Heard → List Granted
granted_with granted (Subscribed request n) = granted ++ record { subscription = n; request = request } ∷ []
granted_with granted _ = granted

abbrev pub granted : List Heard → List Granted
granted [] = []
granted (heard ∷ heards) = granted_with (granted heards) heard

-- the request that first gave this subscription
abbrev pub request_of : ℕ → List Granted → Option ℕ
request_of n [] = None
request_of n (one ∷ more) = if one.subscription == n then Some one.request else request_of n more

-- the topic of a request
abbrev pub topic_at : List (List ℕ) → Option ℕ → List ℕ
topic_at topics None = []
topic_at topics (Some request) = get_or topics (request - 1) []

-- the topic of an event: the one that it names, else the one that was subscribed to
abbrev pub topic_told : List (List ℕ) → List Granted → ℕ → Option (List ℕ) → List ℕ
topic_told topics granted n (Some topic) = topic
topic_told topics granted n None = topic_at topics (request_of n granted)

-- what is printed of what is heard: a line for an event, and nothing else
abbrev pub line_for : LineForm → List (List ℕ) → List Granted → Heard → List ℕ
line_for form topics granted (Event n publication details args) = event_line form (topic_told topics granted n details.topic) publication details args
line_for form topics granted _ = []

abbrev pub printed : LineForm → List (List ℕ) → List Heard → List ℕ
printed form topics [] = []
printed form topics (heard ∷ heards) = printed form topics heards ++ line_for form topics (granted heards) heard

-- what is noted of what is heard: the topic whose subscription is given, and nothing else
abbrev pub note_for : List (List ℕ) → Heard → List ℕ
note_for topics (Subscribed request n) = note_of (topic_at topics (Some request))
note_for topics _ = []

abbrev pub noted : List (List ℕ) → List Heard → List ℕ
noted topics [] = []
noted topics (heard ∷ heards) = noted topics heards ++ note_for topics heard

abbrev pub is_event : Heard → Bool
is_event (Event n publication details args) = true
is_event _ = false

abbrev pub events : List Heard → ℕ
events [] = 0
events (heard ∷ heards) = if is_event heard then events heards + 1 else events heards

-- so many events fewer are left to be printed, where that is limited
abbrev pub IsCountedOff : Option ℕ → Option ℕ → ℕ → Type 0
IsCountedOff None None n = ⊤
IsCountedOff (Some before) (Some now) n = before ≡ now + n
IsCountedOff _ _ n = ⊥

-- so many were given as there are topics
abbrev pub is_subscribed : List (List ℕ) → List Granted → Bool
is_subscribed topics granted = length granted == length topics

-- how far a subscriber is that heard these
pub record HasHeard (topics : List (List ℕ)) (heards : List Heard) (left : Option ℕ) (now : Listener) : Type 0 where
  pub counted : IsCountedOff left now.left (events heards)
  pub subscribed : now.is_subscribed ≡ is_subscribed topics (granted heards)

-- how `subscribe` hears, prints and notes until its count is reached
pub record Follows (form : LineForm) (topics : List (List ℕ)) (count : Option ℕ) (t : Terms) (before now : Ear) (lines_before lines : List ℕ) (notes_before notes : Noting) : Type 0 where
  pub heards : List Heard
  pub harmless : MayCome heards
  pub listens : Listens t before now heards
  pub lines_are : lines ≡ lines_before ++ printed form topics heards
  pub noted_are : IsNoted (noted topics heards) notes_before notes
  pub counted : count ≡ Some (events heards)

-- of the line of what is heard next a beginning is printed
pub record PrintsPartly (form : LineForm) (topics : List (List ℕ)) (t : Terms) (heards : List Heard) (now : Ear) (last : Exchange) (lines_before lines : List ℕ) : Type 0 where
  pub next : Heard
  pub after : Ear
  pub hears : HearsNext t now after (Ok next)
  pub since : Continues (exchange_of after) last
  pub begun : GrowsByBeginning lines_before lines (line_for form topics (granted heards) next)

-- what is printed are the lines of what was heard, the last line perhaps in part, and what is noted are the notes of it; it is heard
-- of the first octets that the last exchange has behind those read before
pub record Prints (form : LineForm) (topics : List (List ℕ)) (t : Terms) (before : Ear) (last : Exchange) (lines_before lines : List ℕ) (notes_before notes : Noting)
    (left : Option ℕ) (listener : Listener) : Type 0 where
  pub heards : List Heard
  pub now : Ear
  pub listens : Listens t before now heards
  pub since : Continues (exchange_of now) last
  pub lines_are :
      (lines ≡ lines_before ++ printed form topics heards) ⊎ PrintsPartly form topics t heards now last (lines_before ++ printed form topics heards) lines
  pub noted_are : IsNoted (noted topics heards) notes_before notes
  pub so_far : HasHeard topics heards left listener

-- a session was joined, and the topics asked for
pub record Asks (s : Serializer) (realm : List ℕ) (authid : Option (List ℕ)) (wishes : SubscribeWishes) (topics : List (List ℕ)) (before : Exchange) (asking : Ear) (t : Terms) : Type 0 where
  pub joined : Exchange
  pub session : Welcomed
  pub joins : Joins s realm authid before joined session
  pub terms_are : t ≡ terms_of session
  pub asks : asking ≡ writing (standing session joined.given joined.taken) (asked s wishes topics (length topics))

-- what `subscribe` did that ended by its count
pub record Subscribes (s : Serializer) (realm : List ℕ) (authid : Option (List ℕ)) (wishes : SubscribeWishes) (form : LineForm) (topics : List (List ℕ)) (count : Option ℕ) (before now : Exchange) (lines_before lines : List ℕ) (notes_before notes : Noting) : Type 0 where
  pub t : Terms
  pub asking : Ear
  pub asks : Asks s realm authid wishes topics before asking t
  pub heard : Ear
  pub follows : Follows form topics count t asking heard lines_before lines notes_before notes
  pub left : Ear
  pub leaves : Leaves t heard left
  pub given : now.given ≡ left.given
  pub taken : now.taken ≡ left.taken

-- what `subscribe` printed and noted that failed after it had asked, by what was read and written until then
pub record PrintsAfterAsking (s : Serializer) (realm : List ℕ) (authid : Option (List ℕ)) (wishes : SubscribeWishes) (form : LineForm) (topics : List (List ℕ)) (before last : Exchange) (lines_before lines : List ℕ)
    (notes_before notes : Noting) (left : Option ℕ) (listener : Listener) : Type 0 where
  pub t : Terms
  pub asking : Ear
  pub asks : Asks s realm authid wishes topics before asking t
  pub prints : Prints form topics t asking last lines_before lines notes_before notes left listener

-- nothing was printed, noted and counted, and no subscription given
pub record IsSilent (lines_before lines : List ℕ) (notes_before notes : Noting) (left : Option ℕ) (listener : Listener) : Type 0 where
  pub unprinted : lines ≡ lines_before
  pub unnoted : notes ≡ notes_before
  pub uncounted : listener.left ≡ left
  pub unsubscribed : listener.is_subscribed ≡ false
