-- Why a command ends before its time.
use Rattle.std.proofs.Common.{◌≡◌, ◌≢◌, ◌+◌, ◌<◌, ◌++◌, ◌∙◌, ℕ, List, [], get_or, length, true, false, Ok, Err, Some, arith, ap, inl, inr, refl, subst, sym}
use Rattle.std.specs.Prelude.{◌⊎◌}
use Rattle.std.specs.declared.option.Option.{Option}
use Rattle.rawsocket.specs.Devices.{GrowsByBeginning}
use Rattle.rawsocket.specs.Steps.{Fine}
use Rattle.rawsocket.specs.declared.handshake.Serializer.{Serializer}
use Rattle.session.specs.Opened.{Exchange, exchange}
use Rattle.client_messages.specs.Wishes.{subscribe_options}
use Rattle.client_messages.specs.declared.client_message.ClientMessage.{ClientMessage}
use Rattle.client_messages.specs.declared.client_message.ClientMessage.TheVariants.{Hello, Goodbye as GoodbyeSaid, GoodbyeAndOut, Subscribe}
use Rattle.client_messages.specs.declared.heard.Heard.{Heard}
use Rattle.client_messages.specs.declared.heard.Heard.TheVariants as heard
use Rattle.client_messages.specs.declared.wishes.SubscribeWishes.{SubscribeWishes}
use Rattle.client_session.specs.Handshake.{IsRefused, Replies}
use Rattle.client_session.proofs.HearingLemmas.{hears_later}
use Rattle.client_session.specs.Hearing.{Ear, HearsNext, HearsNoneYet, Line, Terms, ear, terms}
use Rattle.client_session.specs.Saying.{IsCutShort, saying}
use Rattle.client_session.specs.Sessions.{HearsInSession, IsForeignEvent, IsUnwelcome, Welcomed}
use Rattle.client_session.specs.declared.fault.Fault as link_faults
use Rattle.client_session.specs.declared.fault.Fault.TheVariants as link
use Rattle.client_session.specs.declared.welcomed.NoSession.{NoSession}
use Rattle.client_session.specs.declared.welcomed.NoSession.TheVariants as no_session
use Rattle.client_session.specs.declared.welcomed.Unheard.{Unheard}
use Rattle.client_session.specs.declared.welcomed.Unheard.TheVariants as unheard
use Rattle.client_commands.specs.Acts.{Asks, Follows, IsCountedOff, IsTurnedAway, Joins, Listens, MayCome, PrintsPartly, asked, events, exchange_of, granted, is_event, line_for, noted, printed, standing, terms_of, writing}
use Rattle.client_commands.specs.Ends.{GetsNoAnswer}
use Rattle.client_commands.specs.Faults.{IsOfNoMessage, is_blamed, is_connection, is_of_message, of_hearing, of_link, of_message, of_opening, output_told}
use Rattle.client_commands.specs.Notes.{IsNoted, Noting}
use Rattle.client_commands.specs.Stops.{AsksPartly, ByLink, EndsBehind, EndsSubscribing, FailsToJoin, FailsToLeave, GivesFault, HasNoAnswer, IsAnswered, IsUnasked, IsUnsaid, Stops, StopsAt, StopsFollowing, TellsAllUntil}
use Rattle.client_commands.specs.declared.command.LineForm.{LineForm}
use Rattle.client_commands.specs.declared.command.SubscribeCommand.{SubscribeCommand}
use Rattle.client_commands.specs.declared.fault.Fault.{Fault}
use Rattle.client_commands.specs.declared.fault.Fault.TheVariants.{NoMemory, WriteFault, Usage, TooManyTurns, Connection, ForeignEvent, Closed}
use Rattle.client_commands.specs.declared.subscriptions.Granted.{Granted}
use Rattle.client_commands.proofs.ListeningLemmas.{asked-all, printed-partly}

by-its-link : (Cause : link_faults.Fault → Type 0) (f : link_faults.Fault) → (f ≢ link.NoMemory → Cause f) → ByLink Cause (of_link f)
by-its-link Cause link.NoMemory cause = tt
by-its-link Cause f cause = (λ e. absurd (cc e), cause (λ e. absurd (cc e)))

-- a fault of the link has the cause that the link tells
pub by-link : (Cause : link_faults.Fault → Type 0) (f : link_faults.Fault) (fault : Fault) → fault ≡ of_link f → (f ≢ link.NoMemory → Cause f) → ByLink Cause fault
by-link Cause f fault is cause = subst (λ x. ByLink Cause x) (sym is) (by-its-link Cause f cause)

-- another cause
pub by-link-too : (Cause Other : link_faults.Fault → Type 0) (f : Fault) → ((of : link_faults.Fault) → Cause of → Other of) → ByLink Cause f → ByLink Other f
by-link-too Cause Other NoMemory more by = tt
by-link-too Cause Other (Connection fault) more by = (by.0, more fault by.1)
by-link-too Cause Other _ more by = absurd by

stops-by-link : (t : Terms) (a b : Ear) (f : link_faults.Fault) → (f ≢ link.NoMemory → HearsNext t a b (Err f)) → Stops t a b (of_link f)
stops-by-link t a b link.NoMemory next = tt
stops-by-link t a b f next = (λ e. absurd (cc e), next (λ e. absurd (cc e)))

foreign-is-event : (given : List ℕ) (h : Heard) → IsForeignEvent given h → is_event h ≡ true
foreign-is-event given (heard.Event n publication details args) foreign = refl
foreign-is-event given _ foreign = absurd foreign

stops-so : (t : Terms) (a b : Ear) (given given_now : List ℕ) (u : Unheard) → HearsInSession t a b given given_now (Err u) → Stops t a b (of_hearing u)
stops-so t a b given given_now unheard.ForeignEvent w = record { heard = w.0.heard; hears = w.0.next; gives = foreign-is-event given w.0.heard w.0.foreign }
stops-so t a b given given_now (unheard.Failed fault) w = stops-by-link t a b fault (λ no. elim w.0 [
  | inl next ↦ next
  | inr lost ↦ absurd (no lost.memory)
])

-- what a session doesn't hear
pub stops-in-session : (t : Terms) (a b : Ear) (given given_now : List ℕ) (u : Unheard) (fault : Fault) → fault ≡ of_hearing u → HearsInSession t a b given given_now (Err u) → Stops t a b fault
stops-in-session t a b given given_now u fault is w = subst (λ x. Stops t a b x) (sym is) (stops-so t a b given given_now u w)

-- under terms that stay
pub stops-at : (t u : Terms) (before now : Ear) (fault : Fault) → u ≡ t → Stops u before now fault → StopsAt t before (exchange_of now) fault
stops-at t u before now fault is stops = record { now = now; stops = subst (λ (x : Terms). Stops x before now fault) is stops; until = refl }

of_message-stops : (t : Terms) (before now : Ear) (h heard : Heard) → HearsNext t before now (Ok heard) → of_message h ≡ of_message heard → Stops t before now (of_message h)
of_message-stops t before now (heard.Abort reason) heard hears is = record { heard = heard; hears = hears; gives = is }
of_message-stops t before now (heard.Error kind request reason) heard hears is = record { heard = heard; hears = hears; gives = is }
of_message-stops t before now (heard.Goodbye reason) heard hears is = record { heard = heard; hears = hears; gives = is }
of_message-stops t before now _ heard hears is = record { heard = heard; hears = hears; gives = is }

-- a message that nothing waits for
pub stops-by-message : (t : Terms) (before now : Ear) (h : Heard) (fault : Fault) → HearsNext t before now (Ok h) → fault ≡ of_message h → Stops t before now fault
stops-by-message t before now h fault hears is = subst (λ f. Stops t before now f) (sym is) (of_message-stops t before now h h hears refl)

stops-then : (t : Terms) (a b now : Ear) (fault : Fault) → HearsNoneYet t a b → Stops t b now fault → Stops t a now fault
stops-then t a b now NoMemory yet stops = tt
stops-then t a b now (Connection fault) yet stops = (stops.0, hears_later t a b now (Err fault) yet stops.1)
stops-then t a b now _ yet stops = record { heard = stops.heard; hears = hears_later t a b now (Ok stops.heard) yet stops.hears; gives = stops.gives }

-- and so behind looks that heard none
pub stops-later : (t u : Terms) (a b now : Ear) (fault : Fault) → u ≡ t → HearsNoneYet t a b → Stops u b now fault → Stops t a now fault
stops-later t u a b now fault is yet stops = stops-then t a b now fault yet (subst (λ (x : Terms). Stops x b now fault) is stops)

of_message-blames : (h : Heard) → is_of_message (of_message h) ≡ true
of_message-blames (heard.Abort reason) = refl
of_message-blames (heard.Error kind request reason) = refl
of_message-blames (heard.Goodbye reason) = refl
of_message-blames _ = refl

module _ (t : Terms) (request : ℕ) (before now : Ear) where
  no-answer : (fault : Fault) (h : Heard) → IsOfNoMessage fault → fault ≡ of_message h → {X : Type 0} → X
  no-answer fault h none gives = absurd (cc (none, ap (λ f. is_of_message f) gives, of_message-blames h))

  foreign-answers : (h : Heard) → is_event h ≡ true → (publication : ℕ) → h ≢ heard.Published request publication
  foreign-answers h event publication is = absurd (cc (event, ap (λ x. is_event x) is))

  misses-so : (fault : Fault) → IsOfNoMessage fault → is_blamed fault ≡ true → Stops t before now fault → GetsNoAnswer t request before now fault
  misses-so NoMemory none blamed stops = absurd (cc blamed)
  misses-so (Connection fault) none blamed stops = stops
  misses-so ForeignEvent none blamed stops = record { heard = stops.heard; hears = stops.hears; other = foreign-answers stops.heard stops.gives; gives = stops.gives }
  misses-so _ none blamed stops = no-answer _ stops.heard none stops.gives

  another-so : (h said : Heard) → HearsNext t before now (Ok said) → ((publication : ℕ) → said ≢ heard.Published request publication) → of_message h ≡ of_message said
      → GetsNoAnswer t request before now (of_message h)
  another-so (heard.Abort reason) said hears other is = record { heard = said; hears = hears; other = other; gives = is }
  another-so (heard.Error kind number reason) said hears other is = record { heard = said; hears = hears; other = other; gives = is }
  another-so (heard.Goodbye reason) said hears other is = record { heard = said; hears = hears; other = other; gives = is }
  another-so _ said hears other is = record { heard = said; hears = hears; other = other; gives = is }

-- a session that hears no further message hears no answer
pub misses-answer : (t : Terms) (request : ℕ) (before now : Ear) (fault : Fault) → IsOfNoMessage fault → is_blamed fault ≡ true → Stops t before now fault → GetsNoAnswer t request before now fault
misses-answer t request before now fault none blamed stops = misses-so t request before now fault none blamed stops

-- nor does one that hears another
pub hears-another : (t : Terms) (request : ℕ) (before now : Ear) (h : Heard) (fault : Fault) → HearsNext t before now (Ok h) → ((publication : ℕ) → h ≢ heard.Published request publication) → fault ≡ of_message h
    → GetsNoAnswer t request before now fault
hears-another t request before now h fault hears other is = subst (λ f. GetsNoAnswer t request before now f) (sym is) (another-so t request before now h h hears other refl)

-- what isn't said on a link
pub said-on : (l k : Line) (said : ClientMessage) (before last : Exchange) (fault : Fault) → l ≡ k → ByLink (IsUnsaid (terms l.serializer l.limit) said before last) fault
    → ByLink (IsUnsaid (terms k.serializer k.limit) said before last) fault
said-on l k said before last fault is by = subst (λ (x : Line). ByLink (IsUnsaid (terms x.serializer x.limit) said before last) fault) is by

-- under terms that stay
pub said-as : (t u : Terms) (l k : Line) (said : ClientMessage) (before last : Exchange) (fault : Fault) → u ≡ t → u ≡ terms k.serializer k.limit → l ≡ k → ByLink (IsUnsaid (terms l.serializer l.limit) said before last) fault
    → ByLink (IsUnsaid t said before last) fault
said-as t u l k said before last fault same of_line is by =
    subst (λ (x : Terms). ByLink (IsUnsaid x said before last) fault) (sym of_line ∙ same) (said-on l k said before last fault is by)

fails-by-link : (s : Serializer) (realm : List ℕ) (authid : Option (List ℕ)) (before last : Exchange) (f : link_faults.Fault)
    → (f ≢ link.NoMemory → IsRefused s before last f ⊎ HasNoAnswer s realm authid before last f) → FailsToJoin s realm authid before last (of_link f)
fails-by-link s realm authid before last link.NoMemory why = tt
fails-by-link s realm authid before last f why = (λ e. absurd (cc e), why (λ e. absurd (cc e)))

-- no session: the handshake failed
pub no-handshake : (s : Serializer) (realm : List ℕ) (authid : Option (List ℕ)) (before last : Exchange) (f : link_faults.Fault) (fault : Fault) → fault ≡ of_link f → IsRefused s before last f
    → FailsToJoin s realm authid before last fault
no-handshake s realm authid before last f fault is refused =
    subst (λ x. FailsToJoin s realm authid before last x) (sym is) (fails-by-link s realm authid before last f (λ no. inl refused))

hello-unsaid-so : (s : Serializer) (realm : List ℕ) (authid : Option (List ℕ)) (before linked last : Exchange) (limit : ℕ) (fault : Fault) → Replies s before linked (Ok limit)
    → ByLink (IsUnsaid (terms s limit) (Hello realm authid) linked last) fault → FailsToJoin s realm authid before last fault
hello-unsaid-so s realm authid before linked last limit NoMemory replies by = tt
hello-unsaid-so s realm authid before linked last limit (Connection fault) replies by = (by.0, inr (record { linked = linked; limit = limit; replies = replies; why = inl by.1 }))
hello-unsaid-so s realm authid before linked last limit _ replies by = absurd by

-- HELLO isn't said
pub hello-unsaid : (s : Serializer) (realm : List ℕ) (authid : Option (List ℕ)) (before linked last : Exchange) (l : Line) (said : ClientMessage) (fault : Fault) → Replies s before linked (Ok l.limit)
    → l ≡ record { serializer = s; limit = l.limit; waiting = []; held = [] } → said ≡ Hello realm authid
    → ByLink (IsUnsaid (terms l.serializer l.limit) said linked last) fault → FailsToJoin s realm authid before last fault
hello-unsaid s realm authid before linked last l said fault replies new said_is by =
    let fresh : ByLink (IsUnsaid (terms s l.limit) said linked last) fault = subst (λ (x : Line). ByLink (IsUnsaid (terms x.serializer l.limit) said linked last) fault) new by in
    hello-unsaid-so s realm authid before linked last l.limit fault replies (subst (λ m. ByLink (IsUnsaid (terms s l.limit) m linked last) fault) said_is fresh)

hello-unheard-so : (s : Serializer) (realm : List ℕ) (authid : Option (List ℕ)) (before linked last : Exchange) (limit : ℕ) (refusal : NoSession) → Replies s before linked (Ok limit)
    → IsUnwelcome (terms s limit) (ear [] [] linked.given (linked.taken ++ saying s (Hello realm authid))) last.given last.taken refusal
    → FailsToJoin s realm authid before last (of_opening refusal)
hello-unheard-so s realm authid before linked last limit (no_session.Aborted reason) replies w = record { linked = linked; limit = limit; replies = replies; heard = heard.Abort reason; hears = w; why = refl }
hello-unheard-so s realm authid before linked last limit no_session.Unexpected replies w = record { linked = linked; limit = limit; replies = replies; heard = w.heard; hears = w.last; why = w.other }
hello-unheard-so s realm authid before linked last limit (no_session.Failed fault) replies w =
    fails-by-link s realm authid before last fault (λ no. inr (record { linked = linked; limit = limit; replies = replies; why = inr w }))

-- or nothing answers it, or no WELCOME
pub hello-unheard : (s : Serializer) (realm : List ℕ) (authid : Option (List ℕ)) (before linked last : Exchange) (l : Line) (taken : List ℕ) (refusal : NoSession) (fault : Fault) → Replies s before linked (Ok l.limit)
    → l ≡ record { serializer = s; limit = l.limit; waiting = []; held = [] } → taken ≡ linked.taken ++ saying l.serializer (Hello realm authid)
    → IsUnwelcome (terms l.serializer l.limit) (ear l.waiting l.held linked.given taken) last.given last.taken refusal
    → fault ≡ of_opening refusal → FailsToJoin s realm authid before last fault
hello-unheard s realm authid before linked last l taken refusal fault replies new wrote w fault_is =
    let said : taken ≡ linked.taken ++ saying s (Hello realm authid) = subst (λ (x : Line). taken ≡ linked.taken ++ saying x.serializer (Hello realm authid)) new wrote in
    let fresh : IsUnwelcome (terms s l.limit) (ear [] [] linked.given taken) last.given last.taken refusal =
    subst (λ (x : Line). IsUnwelcome (terms x.serializer x.limit) (ear x.waiting x.held linked.given taken) last.given last.taken refusal) new w in
    subst (λ f. FailsToJoin s realm authid before last f) (sym fault_is)
    (hello-unheard-so s realm authid before linked last l.limit refusal replies (subst (λ xs. IsUnwelcome (terms s l.limit) (ear [] [] linked.given xs) last.given last.taken refusal) said fresh))

unasked-so : (t : Terms) (wishes : SubscribeWishes) (topics : List (List ℕ)) (before last : Exchange) (fault : Fault) → ByLink (AsksPartly t wishes topics before last) fault → IsUnasked t wishes topics before last fault
unasked-so t wishes topics before last Usage by = absurd by
unasked-so t wishes topics before last _ by = by

-- the next topic isn't asked for
pub asks-partly : (t : Terms) (wishes : SubscribeWishes) (topics : List (List ℕ)) (given before mid now : List ℕ) (place : ℕ) (said : ClientMessage) (fault : Fault) → place < length topics
    → said ≡ Subscribe (place + 1) (subscribe_options wishes) (get_or topics place []) → mid ≡ before ++ asked t.serializer wishes topics place
    → ByLink (IsUnsaid t said (exchange given mid) (exchange given now)) fault → IsUnasked t wishes topics (exchange given before) (exchange given now) fault
asks-partly t wishes topics given before mid now place said fault among said_is mid_is by =
    unasked-so t wishes topics (exchange given before) (exchange given now) fault
    (by-link-too (IsUnsaid t said (exchange given mid) (exchange given now)) (AsksPartly t wishes topics (exchange given before) (exchange given now)) fault
    (λ of unsaid. record {
      place = place;
      among = among;
      unsaid = subst (λ m. IsUnsaid t m (exchange given (before ++ asked t.serializer wishes topics place)) (exchange given now) of) said_is
          (subst (λ xs. IsUnsaid t said (exchange given xs) (exchange given now) of) mid_is unsaid);
    }) by)

-- GOODBYE isn't said
pub goodbye-unsaid : (t : Terms) (before : Ear) (last : Exchange) (fault : Fault) → ByLink (IsUnsaid t GoodbyeSaid (exchange_of before) last) fault → FailsToLeave t before last fault
goodbye-unsaid t before last (Closed reason) by = absurd by
goodbye-unsaid t before last _ by = inl by

-- or not answered
pub goodbye-unheard : (t : Terms) (before now : Ear) (last : Exchange) (passed : List Heard) (fault : Fault) → ((reason : List ℕ) → fault ≢ Closed reason) → MayCome passed
    → Listens t (writing before (saying t.serializer GoodbyeSaid)) now passed → StopsAt t now last fault → FailsToLeave t before last fault
goodbye-unheard t before now last passed (Closed reason) unclosed harmless listens stops = absurd (unclosed reason refl)
goodbye-unheard t before now last passed _ unclosed harmless listens stops = inr (record { passed = passed; harmless = harmless; now = now; listens = listens; stops = stops })

-- what no message gives closes no session
pub not-closed : (f : Fault) → IsOfNoMessage f → (reason : List ℕ) → f ≢ Closed reason
not-closed f none reason is = absurd (cc (none, ap (λ x. is_of_message x) is))

goodbye-is : (h : Heard) (reason : List ℕ) → of_message h ≡ Closed reason → h ≡ heard.Goodbye reason
goodbye-is (heard.Goodbye said) reason e = cc e
goodbye-is _ reason e = absurd (cc e)

-- nor does a message but GOODBYE
pub no-goodbye : (h : Heard) (f : Fault) → f ≡ of_message h → ((reason : List ℕ) → h ≢ heard.Goodbye reason) → (reason : List ℕ) → f ≢ Closed reason
no-goodbye h f why other reason is = other reason (goodbye-is h reason (sym why ∙ is))

answered-so : (t : Terms) (reason : List ℕ) (before last : Exchange) (fault : Fault) → ByLink (IsUnsaid t GoodbyeAndOut before last) fault → IsAnswered t reason before last fault
answered-so t reason before last (Closed told) by = absurd by
answered-so t reason before last _ by = by

-- the broker's GOODBYE isn't answered
pub unanswered : (l k : Line) (reason : List ℕ) (before last : Exchange) (fault : Fault) → l ≡ k → ByLink (IsUnsaid (terms l.serializer l.limit) GoodbyeAndOut before last) fault
    → IsAnswered (terms k.serializer k.limit) reason before last fault
unanswered l k reason before last fault is by = answered-so (terms k.serializer k.limit) reason before last fault (said-on l k GoodbyeAndOut before last fault is by)

module _ (form : LineForm) (topics : List (List ℕ)) (t : Terms) (before : Ear) (lines_before lines : List ℕ) (notes_before notes : Noting) (left left_now : Option ℕ) where
  follows-no-more : (last : Exchange) (fault : Fault) (heards : List Heard) (now : Ear) (told : List ℕ) → output_told fault ≡ Fine → lines ≡ told → StopsAt t now last fault
      → StopsFollowing form topics t lines last fault heards now told
  follows-no-more last NoMemory heards now told aside is stops = tt
  follows-no-more last WriteFault heards now told aside is stops = absurd (cc aside)
  follows-no-more last TooManyTurns heards now told aside is stops = absurd (cc aside)
  follows-no-more last _ heards now told aside is stops = (is, stops)

  -- a subscriber told all that it heard till it hears no more
  pub tells-until : (now : Ear) (last : Exchange) (heards : List Heard) (fault : Fault) → MayCome heards → Listens t before now heards → lines ≡ lines_before ++ printed form topics heards
      → IsNoted (noted topics heards) notes_before notes → IsCountedOff left left_now (events heards) → output_told fault ≡ Fine → StopsAt t now last fault
      → TellsAllUntil form topics t before lines_before notes_before notes left left_now (StopsFollowing form topics t lines last fault)
  tells-until now last heards fault harmless listens lines_are noted_are counted aside stops = record {
    heards = heards;
    harmless = harmless;
    now = now;
    listens = listens;
    noted_are = noted_are;
    counted = counted;
    next = follows-no-more last fault heards now (lines_before ++ printed form topics heards) aside lines_are stops;
  }

  takes-no-more : (now after : Ear) (heards : List Heard) (h : Heard) (grants : List Granted) (mid : List ℕ) (fault : Fault) → HearsNext t now after (Ok h) → mid ≡ lines_before ++ printed form topics heards
      → grants ≡ granted heards → GrowsByBeginning mid lines (line_for form topics grants h) → is_connection fault ≡ false → (output_told fault ≡ Fine → lines ≡ mid) → (output_told fault ≡ Fine → GivesFault h fault)
      → StopsFollowing form topics t lines (exchange_of after) fault heards now (lines_before ++ printed form topics heards)
  takes-no-more now after heards h grants mid NoMemory hears mid_is grants_are begun here unprinted gives = tt
  takes-no-more now after heards h grants mid WriteFault hears mid_is grants_are begun here unprinted gives = printed-partly form topics t t heards h now after grants lines_before mid lines refl hears mid_is grants_are begun
  takes-no-more now after heards h grants mid TooManyTurns hears mid_is grants_are begun here unprinted gives = printed-partly form topics t t heards h now after grants lines_before mid lines refl hears mid_is grants_are begun
  takes-no-more now after heards h grants mid (Connection fault) hears mid_is grants_are begun here unprinted gives = absurd (cc here)
  takes-no-more now after heards h grants mid _ hears mid_is grants_are begun here unprinted gives =
      (unprinted refl ∙ mid_is, record { now = after; stops = record { heard = h; hears = hears; gives = gives refl }; until = refl })

  -- or till it can't take what it heard
  pub tells-until-taken : (u : Terms) (now after : Ear) (heards : List Heard) (h : Heard) (grants : List Granted) (mid : List ℕ) (fault : Fault) → u ≡ t → HearsNext u now after (Ok h) → MayCome heards → Listens t before now heards
      → mid ≡ lines_before ++ printed form topics heards → IsNoted (noted topics heards) notes_before notes → IsCountedOff left left_now (events heards) → grants ≡ granted heards
      → GrowsByBeginning mid lines (line_for form topics grants h) → is_connection fault ≡ false → (output_told fault ≡ Fine → lines ≡ mid) → (output_told fault ≡ Fine → GivesFault h fault)
      → TellsAllUntil form topics t before lines_before notes_before notes left left_now (StopsFollowing form topics t lines (exchange_of after) fault)
  tells-until-taken u now after heards h grants mid fault is hears harmless listens mid_is noted_are counted grants_are begun here unprinted gives = record {
    heards = heards;
    harmless = harmless;
    now = now;
    listens = listens;
    noted_are = noted_are;
    counted = counted;
    next = takes-no-more now after heards h grants mid fault (subst (λ (x : Terms). HearsNext x now after (Ok h)) is hears) mid_is grants_are begun here unprinted gives;
  }

  -- or it is out of numbers
  pub tells-out : (now : Ear) (last : Exchange) (heards : List Heard) → MayCome heards → Listens t before now heards → IsNoted (noted topics heards) notes_before notes → IsCountedOff left left_now (events heards)
      → TellsAllUntil form topics t before lines_before notes_before notes left left_now (StopsFollowing form topics t lines last NoMemory)
  tells-out now last heards harmless listens noted_are counted = record { heards = heards; harmless = harmless; now = now; listens = listens; noted_are = noted_are; counted = counted; next = tt }

  told-too : (Next Other : List Heard → Ear → List ℕ → Type 0) → ((heards : List Heard) (now : Ear) (told : List ℕ) → Next heards now told → Other heards now told)
      → TellsAllUntil form topics t before lines_before notes_before notes left left_now Next → TellsAllUntil form topics t before lines_before notes_before notes left left_now Other
  told-too Next Other more tells = record {
    heards = tells.heards;
    harmless = tells.harmless;
    now = tells.now;
    listens = tells.listens;
    noted_are = tells.noted_are;
    counted = tells.counted;
    next = more tells.heards tells.now (lines_before ++ printed form topics tells.heards) tells.next;
  }

  ends-following : (last : Exchange) (fault : Fault) → ((reason : List ℕ) → fault ≢ Closed reason) → (heards : List Heard) (now : Ear) (told : List ℕ)
      → StopsFollowing form topics t lines last fault heards now told → EndsBehind form topics t left lines last fault heards now told
  ends-following last (Closed reason) unclosed heards now told stops = absurd (unclosed reason refl)
  ends-following last _ unclosed heards now told stops = inl stops

  -- and so it ends
  pub told-following : (last : Exchange) (fault : Fault) → ((reason : List ℕ) → fault ≢ Closed reason)
      → TellsAllUntil form topics t before lines_before notes_before notes left left_now (StopsFollowing form topics t lines last fault)
      → TellsAllUntil form topics t before lines_before notes_before notes left left_now (EndsBehind form topics t left lines last fault)
  told-following last fault unclosed tells =
      told-too (StopsFollowing form topics t lines last fault) (EndsBehind form topics t left lines last fault) (ends-following last fault unclosed) tells

  closes : (mid last : Exchange) (reason : List ℕ) (fault : Fault) → IsAnswered t reason mid last fault → (heards : List Heard) (now : Ear) (told : List ℕ)
      → StopsFollowing form topics t lines mid (Closed reason) heards now told → EndsBehind form topics t left lines last fault heards now told
  closes mid last reason (Closed said) answered heards now told stops =
      let ends = stops.1.stops in
      let goodbye : ends.heard ≡ heard.Goodbye said = goodbye-is ends.heard said (sym ends.gives ∙ ap (λ x. Closed x) (sym answered.0)) in (
        stops.0,
        record {
          now = stops.1.now;
          hears = subst (λ h. HearsNext t now stops.1.now (Ok h)) goodbye ends.hears;
          answers = answered.1 ∙ ap (λ (m : Exchange). exchange m.given (m.taken ++ saying t.serializer GoodbyeAndOut)) (sym stops.1.until);
        },
      )
  closes mid last reason NoMemory answered heards now told stops = inl tt
  closes mid last reason (Connection fault) answered heards now told stops =
      let ends = stops.1.stops in
      let goodbye : ends.heard ≡ heard.Goodbye reason = goodbye-is ends.heard reason (sym ends.gives) in
      inr (
        stops.0,
        inl (
          answered.0,
          record {
            reason = reason;
            now = stops.1.now;
            hears = subst (λ h. HearsNext t now stops.1.now (Ok h)) goodbye ends.hears;
            unsaid = subst (λ (m : Exchange). IsUnsaid t GoodbyeAndOut m last fault) (sym stops.1.until) answered.1;
          },
        ),
      )
  closes mid last reason _ answered heards now told stops = absurd answered

  -- or it answers the broker's GOODBYE
  pub told-closing : (u : Terms) (mid last : Exchange) (reason : List ℕ) (closed fault : Fault) → u ≡ t → closed ≡ Closed reason → IsAnswered u reason mid last fault
      → TellsAllUntil form topics t before lines_before notes_before notes left left_now (StopsFollowing form topics t lines mid closed)
      → TellsAllUntil form topics t before lines_before notes_before notes left left_now (EndsBehind form topics t left lines last fault)
  told-closing u mid last reason closed fault same is answered tells =
      told-too (StopsFollowing form topics t lines mid (Closed reason)) (EndsBehind form topics t left lines last fault)
      (closes mid last reason fault (subst (λ (x : Terms). IsAnswered x reason mid last fault) same answered))
      (subst (λ f. TellsAllUntil form topics t before lines_before notes_before notes left left_now (StopsFollowing form topics t lines mid f)) is tells)

  counted-out : (n : ℕ) → left ≡ Some n → left_now ≡ Some 0 → IsCountedOff left left_now n
  counted-out n is done = subst (λ x. IsCountedOff x left_now n) (sym is) (subst (λ x. IsCountedOff (Some n) x n) (sym done) (omega arith))

  leaves-not : (last : Exchange) (fault : Fault) (heards : List Heard) (now : Ear) (told : List ℕ) → lines ≡ told → left ≡ Some (events heards) → FailsToLeave t now last fault
      → EndsBehind form topics t left lines last fault heards now told
  leaves-not last (Closed reason) heards now told is counted fails = absurd fails
  leaves-not last _ heards now told is counted fails = inr (is, inr (counted, fails))

  -- or it doesn't get away
  pub told-leaving : (u : Terms) (mid : Ear) (last : Exchange) (fault : Fault) → Follows form topics left t before mid lines_before lines notes_before notes → left_now ≡ Some 0 → u ≡ t → FailsToLeave u mid last fault
      → TellsAllUntil form topics t before lines_before notes_before notes left left_now (EndsBehind form topics t left lines last fault)
  told-leaving u mid last fault follows done is fails = record {
    heards = follows.heards;
    harmless = follows.harmless;
    now = mid;
    listens = follows.listens;
    noted_are = follows.noted_are;
    counted = counted-out (events follows.heards) follows.counted done;
    next = leaves-not last fault follows.heards mid (lines_before ++ printed form topics follows.heards) follows.lines_are follows.counted (subst (λ (x : Terms). FailsToLeave x mid last fault) is fails);
  }

module _ (command : SubscribeCommand) (before last : Exchange) (lines_before lines : List ℕ) (notes_before notes : Noting) (left left_now : Option ℕ) (fault : Fault) where
  -- no session is joined, and nothing is told
  pub ends-joining : lines ≡ lines_before → notes ≡ notes_before → left_now ≡ left → FailsToJoin command.contact.serializer command.contact.realm command.contact.authid before last fault
      → EndsSubscribing command before last lines_before lines notes_before notes left left_now fault
  ends-joining unprinted unnoted uncounted fails = inl (record { unprinted = unprinted; unnoted = unnoted; uncounted = uncounted; why = inl fails })

  -- or not all topics are asked for
  pub ends-asking : (session : Welcomed) (l : Line) (joined : Exchange) → Joins command.contact.serializer command.contact.realm command.contact.authid before joined session → l ≡ session.line
      → lines ≡ lines_before → notes ≡ notes_before → left_now ≡ left → IsUnasked (terms l.serializer l.limit) command.wishes command.topics.items joined last fault
      → EndsSubscribing command before last lines_before lines notes_before notes left left_now fault
  ends-asking session l joined joins is unprinted unnoted uncounted unasked = inl (record {
    unprinted = unprinted;
    unnoted = unnoted;
    uncounted = uncounted;
    why = inr (record {
      joined = joined;
      session = session;
      joins = joins;
      asks = subst (λ (x : Line). IsUnasked (terms x.serializer x.limit) command.wishes command.topics.items joined last fault) is unasked;
    });
  })

  -- or it ends later
  pub ends-asked : (session : Welcomed) (u : Serializer) (given taken now : List ℕ) → Joins command.contact.serializer command.contact.realm command.contact.authid before (exchange given taken) session → u ≡ session.line.serializer
      → now ≡ taken ++ asked u command.wishes command.topics.items (length command.topics.items)
      → TellsAllUntil command.form command.topics.items (terms_of session) (standing session given now) lines_before notes_before notes left left_now
      (EndsBehind command.form command.topics.items (terms_of session) left lines last fault)
      → EndsSubscribing command before last lines_before lines notes_before notes left left_now fault
  ends-asked session u given taken now joins is wrote tells = inr (record {
    t = terms_of session;
    asking = standing session given now;
    asks = asked-all command.contact.serializer u command.contact.realm command.contact.authid command.wishes command.topics.items before session given taken now joins is wrote;
    tells = tells;
  })
