-- Publications whose acknowledgements are heard later: never more are unanswered than a window has room for.
use Rattle.std.specs.Prelude.{◌≡◌, ◌+◌, ◌<◌, ℕ, Bool, true, false, List, [], ◌∷◌, length, Ok}
use Rattle.wamp_messages.specs.Arguments.{Arguments}
use Rattle.client_messages.specs.Wishes.{publish_options}
use Rattle.client_messages.specs.declared.client_message.ClientMessage.{ClientMessage}
use Rattle.client_messages.specs.declared.client_message.ClientMessage.TheVariants.{Publish}
use Rattle.client_messages.specs.declared.heard.Heard.TheVariants.{Published}
use Rattle.client_session.specs.Hearing.{Ear, HearsNext, HearsNone, Terms}
use Rattle.client_session.specs.Saying.{saying}
use Rattle.client_commands.specs.Acts.{writing}
use Rattle.client_commands.specs.Lines.{IsArgumentsOfLine}
use Rattle.client_commands.specs.declared.command.PublishCommand.{PublishCommand}
use Rattle.client_commands.specs.declared.line_input.Progress.{Progress}

-- how many publications may be unanswered
abbrev pub window : ℕ
window = 16

abbrev pub publication : PublishCommand → ℕ → Arguments → ClientMessage
publication command request args = Publish request (publish_options command.wishes) command.topic args

-- the acknowledgement of a request is heard next
abbrev pub IsAcknowledged : Terms → ℕ → Ear → Ear → Type 0
IsAcknowledged t request before now = (publication : ℕ) × HearsNext t before now (Ok (Published request publication))

-- that is so where one is asked for, and else nothing is heard
abbrev pub Acknowledges : Bool → Terms → ℕ → Ear → Ear → Type 0
Acknowledges false t request before now = now ≡ before
Acknowledges true t request before now = IsAcknowledged t request before now

-- arguments are published, and where an acknowledgement is asked for, it is heard next
abbrev pub IsPublished : PublishCommand → Terms → ℕ → Arguments → Ear → Ear → Type 0
IsPublished command t request args before now =
    Acknowledges command.wishes.acknowledge t request (writing before (saying t.serializer (publication command request args))) now

-- the PUBLISH of a line, as this request
pub record IsOfLine (command : PublishCommand) (request : ℕ) (line : List ℕ) (message : ClientMessage) : Type 0 where
  pub args : Arguments
  pub are : IsArgumentsOfLine command.kwargs line args
  pub is : message ≡ publication command request args

-- a line is published as this request
pub record SaysLine (command : PublishCommand) (t : Terms) (request : ℕ) (line : List ℕ) (before now : Ear) : Type 0 where
  pub message : ClientMessage
  pub of_line : IsOfLine command request line message
  pub is_said : now ≡ writing before (saying t.serializer message)

-- what is done with the lines of an input: one is published as the next request, the next acknowledgement is heard, or the broker is
-- attended to meanwhile
pub data Act : Type 0 where
  Says : List ℕ → Act
  Hears : Act
  Attends : Act

-- the lines that were published, the last one first
abbrev pub lines_of : List Act → List (List ℕ)
lines_of [] = []
lines_of (Says line ∷ acts) = line ∷ lines_of acts
lines_of (Hears ∷ acts) = lines_of acts
lines_of (Attends ∷ acts) = lines_of acts

-- how many acknowledgements were heard
abbrev pub answers_in : List Act → ℕ
answers_in [] = 0
answers_in (Says line ∷ acts) = answers_in acts
answers_in (Hears ∷ acts) = answers_in acts + 1
answers_in (Attends ∷ acts) = answers_in acts

-- where acknowledgements are asked for, one more publication may be unanswered
abbrev pub HasRoom : Bool → ℕ → ℕ → Type 0
HasRoom acknowledge said answered = acknowledge ≡ true → said < answered + window

-- an acknowledgement was asked for, and isn't heard yet
pub record IsDue (acknowledge : Bool) (said answered : ℕ) : Type 0 where
  pub asked : acknowledge ≡ true
  pub due : answered < said

-- one act after another, the last one first: requests count from 1, and are acknowledged in their order; where the broker is attended
-- to, octets of it are read, PINGs among them are answered, and no message is
abbrev pub Does : PublishCommand → Terms → Ear → Ear → List Act → Type 0
Does command t before now [] = now ≡ before
Does command t before now (Says line ∷ acts) =
    (mid : Ear) × Does command t before mid acts × HasRoom command.wishes.acknowledge (length (lines_of acts)) (answers_in acts)
    × SaysLine command t (length (lines_of acts) + 1) line mid now
Does command t before now (Hears ∷ acts) =
    (mid : Ear) × Does command t before mid acts × IsDue command.wishes.acknowledge (length (lines_of acts)) (answers_in acts)
    × IsAcknowledged t (answers_in acts + 1) mid now
Does command t before now (Attends ∷ acts) = (mid : Ear) × Does command t before mid acts × HearsNone t mid now

-- so these lines were published, the last one first, and so many of them are acknowledged
pub record IsPaced (command : PublishCommand) (t : Terms) (before now : Ear) (lines : List (List ℕ)) (answered : ℕ) : Type 0 where
  pub acts : List Act
  pub lines_are : lines_of acts ≡ lines
  pub answered_are : answers_in acts ≡ answered
  pub does : Does command t before now acts

-- where acknowledgements are asked for, all are heard
abbrev pub AllAnswered : Bool → ℕ → ℕ → Type 0
AllAnswered acknowledge said answered = acknowledge ≡ true → answered ≡ said

-- this holds of whatever was published till then, so many lines as the progress counts
abbrev pub WherePaced : PublishCommand → Terms → Ear → Progress → (Ear → List (List ℕ) → Type 0) → Type 0
WherePaced command t now progress P = (before : Ear) (lines : List (List ℕ)) → length lines ≡ progress.count → IsPaced command t before now lines progress.answered → P before lines
