-- Why `publish` ends by a fault: by what it heard or didn't, by what it couldn't say, or by what no message carries.
use Rattle.std.specs.Prelude.{◌≡◌, ◌≢◌, ◌+◌, ◌<◌, ◌⊎◌, ℕ, Bool, true, List, [], ◌∷◌, ◌++◌, length, Some, Ok, IsUtf8}
use Rattle.std.specs.declared.option.Option.{Option}
use Rattle.message_tree.specs.Data.{Data}
use Rattle.wamp_messages.specs.Arguments.{Arguments, FitMessages, is_all_carried}
use Rattle.session.specs.Opened.{Exchange}
use Rattle.client_messages.specs.declared.client_message.ClientMessage.{ClientMessage}
use Rattle.client_messages.specs.declared.client_message.ClientMessage.TheVariants.{GoodbyeAndOut}
use Rattle.client_messages.specs.declared.heard.Heard.{Heard}
use Rattle.client_messages.specs.declared.heard.Heard.TheVariants.{Published}
use Rattle.client_session.specs.Hearing.{Ear, HearsNext, Terms}
use Rattle.client_session.specs.Saying.{saying}
use Rattle.client_session.specs.Sessions.{Welcomed}
use Rattle.client_commands.specs.Acts.{Joins, Leaves, exchange_of, standing, terms_of, writing}
use Rattle.client_commands.specs.Lines.{EndsOpenly, HaveNoLineFeed, IsArgumentsOfLine, ended}
use Rattle.client_commands.specs.Pacing.{AllAnswered, IsDue, IsOfLine, IsPaced, publication}
use Rattle.client_commands.specs.Published.{IsPublishedOf, PublishesAll}
use Rattle.client_commands.specs.Stops.{ByLink, FailsToLeave, GivesFault, HasNoNext, IsUnsaid, Stops}
use Rattle.client_commands.specs.declared.command.Arguments as commands
use Rattle.client_commands.specs.declared.command.Arguments.TheVariants.{Words, Lines}
use Rattle.client_commands.specs.declared.command.PublishCommand.{PublishCommand}
use Rattle.client_commands.specs.declared.fault.Fault.{Fault}
use Rattle.client_commands.specs.declared.fault.Fault.TheVariants.{BadLine, Closed, Connection, Usage}

-- no message carries these arguments
abbrev pub AreUncarried : Arguments → Type 0
AreUncarried args = FitMessages args → is_all_carried args ≡ true → ⊥

abbrev pub arguments_of : Data → Option Data → Arguments
arguments_of words kwargs = record { args = Some words; kwargs = kwargs }

-- the value of a line is no argument that a message carries
pub record HasNoArguments (kwargs : Option Data) (line : List ℕ) : Type 0 where
  pub args : Arguments
  pub are : IsArgumentsOfLine kwargs line args
  pub uncarried : AreUncarried args

-- a line has no arguments: it is no UTF-8, or no message carries them
abbrev pub IsUnread : Option Data → List ℕ → Type 0
IsUnread kwargs line = (IsUtf8 line → ⊥) ⊎ HasNoArguments kwargs line

-- why a line can't be published: it is longer than 2 ^ 20 octets, no request has its number, or it has no arguments
abbrev pub IsBadLine : Option Data → ℕ → List ℕ → Type 0
IsBadLine kwargs request line = (1048576 < length line) ⊎ (9007199254740992 < request) ⊎ IsUnread kwargs line

-- what is heard next is not that this request is published: a command ends by it
pub record HearsAnother (t : Terms) (request : ℕ) (before now : Ear) (fault : Fault) : Type 0 where
  pub heard : Heard
  pub hears : HearsNext t before now (Ok heard)
  pub other : (publication : ℕ) → heard ≢ Published request publication
  pub gives : GivesFault heard fault

-- that this request is published isn't heard next: something else is, or the link gives no further message
abbrev pub GetsNoAnswer : Terms → ℕ → Ear → Ear → Fault → Type 0
GetsNoAnswer t request before now (Connection fault) = HasNoNext t before now fault
GetsNoAnswer t request before now fault = HearsAnother t request before now fault

-- a publication isn't said, or not whole
abbrev pub IsUnpublished : PublishCommand → Terms → ℕ → Arguments → Ear → Ear → Fault → Type 0
IsUnpublished command t request args before now fault = ByLink (IsUnsaid t (publication command request args) (exchange_of before) (exchange_of now)) fault

-- or it is said, its acknowledgement is asked for, and that isn't heard behind it
abbrev pub IsUnacknowledged : PublishCommand → Terms → ℕ → Arguments → Ear → Ear → Fault → Type 0
IsUnacknowledged command t request args before now fault =
    (command.wishes.acknowledge ≡ true) × GetsNoAnswer t request (writing before (saying t.serializer (publication command request args))) now fault

-- lines are published, and the next acknowledgement isn't heard
pub record IsUnanswered (command : PublishCommand) (t : Terms) (before now : Ear) (lines : List (List ℕ)) (fault : Fault) : Type 0 where
  pub answered : ℕ
  pub last : Ear
  pub publishes : IsPaced command t before last lines answered
  pub due : IsDue command.wishes.acknowledge (length lines) answered
  pub another : GetsNoAnswer t (answered + 1) last now fault

-- lines are published and acknowledged, and the next one can't be published
pub record IsStopped (command : PublishCommand) (t : Terms) (before now : Ear) (lines : List (List ℕ)) (line : List ℕ) (fault : Fault) : Type 0 where
  pub number : fault ≡ BadLine (length lines + 1)
  pub bad : IsBadLine command.kwargs (length lines + 1) line
  pub answered : ℕ
  pub publishes : IsPaced command t before now lines answered
  pub all : AllAnswered command.wishes.acknowledge (length lines) answered

-- or it isn't said, or not whole
pub record IsCutOff (command : PublishCommand) (t : Terms) (before now : Ear) (lines : List (List ℕ)) (line : List ℕ) (fault : Fault) : Type 0 where
  pub answered : ℕ
  pub last : Ear
  pub publishes : IsPaced command t before last lines answered
  pub message : ClientMessage
  pub of_line : IsOfLine command (length lines + 1) line message
  pub unsaid : ByLink (IsUnsaid t message (exchange_of last) (exchange_of now)) fault

abbrev pub FailsAtLine : PublishCommand → Terms → Ear → Ear → List (List ℕ) → List ℕ → Fault → Type 0
FailsAtLine command t before now lines line fault = IsStopped command t before now lines line fault ⊎ IsCutOff command t before now lines line fault

-- a line ends a command, or the answer to one before it does
abbrev pub EndsAtLine : PublishCommand → Terms → Ear → Ear → List (List ℕ) → List ℕ → Fault → Type 0
EndsAtLine command t before now lines line fault = FailsAtLine command t before now lines line fault ⊎ IsUnanswered command t before now lines fault

-- the line is whole: LF stands behind it, or the input is over; or it is longer than 2 ^ 20 octets, however it goes on
abbrev pub IsWhole : Bool → List ℕ → List ℕ → Type 0
IsWhole over line behind = ((more : List ℕ) × (behind ≡ 10 ∷ more)) ⊎ ((behind ≡ []) × ((over ≡ true) ⊎ (1048576 < length line)))

-- of what was read of an input whole lines were published, and the next one ends a command
pub record EndsAtNext (command : PublishCommand) (t : Terms) (before now : Ear) (input : List ℕ) (over : Bool) (fault : Fault) : Type 0 where
  pub lines : List (List ℕ)
  pub line : List ℕ
  pub behind : List ℕ
  pub split : input ≡ ended lines ++ (line ++ behind)
  pub clean : HaveNoLineFeed (line ∷ lines)
  pub whole : IsWhole over line behind
  pub fails : FailsAtLine command t before now lines line fault

-- these stand first in the input; where it is over, the last line needs no LF
abbrev pub AreFirstLines : Bool → List ℕ → List (List ℕ) → Type 0
AreFirstLines over input lines = ((behind : List ℕ) × (input ≡ ended lines ++ behind)) ⊎ ((over ≡ true) × EndsOpenly input lines)

-- or what answers one of them does
pub record EndsByAnswer (command : PublishCommand) (t : Terms) (before now : Ear) (input : List ℕ) (over : Bool) (fault : Fault) : Type 0 where
  pub lines : List (List ℕ)
  pub first : AreFirstLines over input lines
  pub clean : HaveNoLineFeed lines
  pub unanswered : IsUnanswered command t before now lines fault

-- all whole lines of what was read of an input are published and acknowledged, and a message interrupts it, or the link gives no further one
pub record IsInterrupted (command : PublishCommand) (t : Terms) (before now : Ear) (input : List ℕ) (fault : Fault) : Type 0 where
  pub rest : List ℕ
  pub count : ℕ
  pub answered : ℕ
  pub last : Ear
  pub publishes : IsPublishedOf command t before last input rest count answered
  pub all : AllAnswered command.wishes.acknowledge count answered
  pub stops : Stops t last now fault

abbrev pub EndsInLines : PublishCommand → Terms → Ear → Ear → List ℕ → Bool → Fault → Type 0
EndsInLines command t before now input over fault =
    EndsAtNext command t before now input over fault ⊎ EndsByAnswer command t before now input over fault ⊎ IsInterrupted command t before now input fault

pub record EndsInInput (command : PublishCommand) (t : Terms) (before now : Ear) (given_before given : List ℕ) (over : Bool) (fault : Fault) : Type 0 where
  pub input : List ℕ
  pub read : given ≡ given_before ++ input
  pub ends : EndsInLines command t before now input over fault

-- words end a command: no message carries them, they aren't said, or not acknowledged
abbrev pub EndsInWords : PublishCommand → Terms → Data → Ear → Ear → Fault → Type 0
EndsInWords command t words before now fault =
    ((fault ≡ Usage) × (now ≡ before) × AreUncarried (arguments_of words command.kwargs))
    ⊎ IsUnpublished command t 1 (arguments_of words command.kwargs) before now fault
    ⊎ IsUnacknowledged command t 1 (arguments_of words command.kwargs) before now fault

abbrev pub EndsAs : commands.Arguments → PublishCommand → Terms → Ear → Ear → List ℕ → List ℕ → Bool → Fault → Type 0
EndsAs (Words words) command t before now given_before given over fault = EndsInWords command t words before now fault × (given ≡ given_before)
EndsAs Lines command t before now given_before given over fault = EndsInInput command t before now given_before given over fault

-- what is to be published ends a command
abbrev pub EndsInAll : PublishCommand → Terms → Ear → Ear → List ℕ → List ℕ → Bool → Fault → Type 0
EndsInAll command t before now given_before given over fault = EndsAs command.arguments command t before now given_before given over fault

-- all was published, or all lines before one that can't be
abbrev pub IsOver : PublishCommand → Terms → Ear → Ear → List ℕ → List ℕ → Bool → Type 0
IsOver command t before now given_before given over =
    PublishesAll command t before now given_before given
    ⊎ ((number : ℕ) × EndsInAll command t before now given_before given over (BadLine number))

-- what is said and heard then: the broker's GOODBYE is answered, behind a bad line it leaves, and else nothing is
abbrev pub ClosesAfter : Terms → Ear → Exchange → Fault → Type 0
ClosesAfter t now last (Closed reason) = last ≡ exchange_of (writing now (saying t.serializer GoodbyeAndOut))
ClosesAfter t now last (BadLine number) = (left : Ear) × Leaves t now left × (exchange_of left ≡ last)
ClosesAfter t now last fault = exchange_of now ≡ last

-- why `publish` ends that had joined: while it published, as it answered the broker's GOODBYE, or as it left
pub record EndsPublishing (command : PublishCommand) (before last : Exchange) (given_before given : List ℕ) (over : Bool) (fault : Fault) : Type 0 where
  pub joined : Exchange
  pub session : Welcomed
  pub joins : Joins command.contact.serializer command.contact.realm command.contact.authid before joined session
  pub now : Ear
  pub ends :
      (EndsInAll command (terms_of session) (standing session joined.given joined.taken) now given_before given over fault × ClosesAfter (terms_of session) now last fault)
      ⊎ ((reason : List ℕ) × EndsInAll command (terms_of session) (standing session joined.given joined.taken) now given_before given over (Closed reason)
      × ByLink (IsUnsaid (terms_of session) GoodbyeAndOut (exchange_of now) last) fault)
      ⊎ (IsOver command (terms_of session) (standing session joined.given joined.taken) now given_before given over × FailsToLeave (terms_of session) now last fault)
