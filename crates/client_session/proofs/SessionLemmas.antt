-- What a session is told, and what it isn't.
use Rattle.std.proofs.Common.{◌≡◌, List, ℕ, Option, Some, None, Result, Ok, Err, inr, refl, sym, subst}
use Rattle.rawsocket.specs.Steps.{Fine}
use Rattle.client_messages.specs.declared.client_message.ClientMessage.{ClientMessage}
use Rattle.client_messages.specs.declared.heard.Heard.{Heard}
use Rattle.client_session.specs.Faults.{write_told}
use Rattle.client_session.specs.Hearing.{Ear, HearsNext, Line, ListensNext, Terms, ear}
use Rattle.client_session.specs.Saying.{IsUnsaid}
use Rattle.client_session.specs.Sessions.{HearsInSession, IsGreeting, IsJudged, IsUnwelcome, ListensInSession}
use Rattle.client_session.specs.declared.fault.Fault.{Fault}
use Rattle.client_session.specs.declared.fault.Fault.TheVariants.{NoMemory, Refused, NoBroker, FrameTooLong, FrameType, TooDeep, Malformed, NoBrokerMessage, Unsayable, TooLongForBroker, Ended, ReadFault, WriteFault, TooManyReads, TooManyWrites}
use Rattle.client_session.specs.declared.welcomed.NoSession.{NoSession}
use Rattle.client_session.specs.declared.welcomed.NoSession.TheVariants as no_session
use Rattle.client_session.specs.declared.welcomed.NoSession.TheVariants.{Aborted, Unexpected}
use Rattle.client_session.specs.declared.welcomed.Unheard.{Unheard}
use Rattle.client_session.specs.declared.welcomed.Unheard.TheVariants.{ForeignEvent, Failed}

-- what can't be said tells nothing of the stream
pub unsaid_told : (t : Terms) (said : ClientMessage) (fault : Fault) → IsUnsaid t said fault → write_told fault ≡ Fine
unsaid_told t said NoMemory w = refl
unsaid_told t said Unsayable w = refl
unsaid_told t said TooLongForBroker w = refl
unsaid_told t said (Refused code) w = absurd w
unsaid_told t said NoBroker w = absurd w
unsaid_told t said FrameTooLong w = absurd w
unsaid_told t said FrameType w = absurd w
unsaid_told t said TooDeep w = absurd w
unsaid_told t said Malformed w = absurd w
unsaid_told t said NoBrokerMessage w = absurd w
unsaid_told t said Ended w = absurd w
unsaid_told t said ReadFault w = absurd w
unsaid_told t said WriteFault w = absurd w
unsaid_told t said TooManyReads w = absurd w
unsaid_told t said TooManyWrites w = absurd w

-- what was heard is judged
pub heard_judged : (t : Terms) (before now : Ear) (given given_now : List ℕ) (heard : Heard) (result : Result Heard Unheard) → HearsNext t before now (Ok heard) → IsJudged given given_now heard result
    → HearsInSession t before now given given_now result
heard_judged t before now given given_now heard (Ok told) next w =
    subst (λ (h : Heard). HearsInSession t before now given given_now (Ok h)) (sym w.0) (next, w.1, w.2)
heard_judged t before now given given_now heard (Err ForeignEvent) next w = (record { heard = heard; next = next; foreign = w.0 }, w.1)
heard_judged t before now given given_now heard (Err (Failed fault)) next w = (inr (record { heard = heard; next = next; memory = w.0 }), w.1)

-- what a session hears by a look its link does
pub listened_in_session : (t : Terms) (before now : Ear) (given given_now : List ℕ) (told : Option Heard) → ListensInSession t before now given given_now (Ok told) → ListensNext t before now (Ok told)
listened_in_session t before now given given_now (Some heard) w = w.0
listened_in_session t before now given given_now None w = w.0

-- what answers HELLO is no WELCOME
pub unwelcome : (t : Terms) (before : Ear) (l : Line) (given taken : List ℕ) (heard : Heard) (refusal : NoSession) → HearsNext t before (ear l.waiting l.held given taken) (Ok heard) → IsGreeting heard (Err refusal)
    → IsUnwelcome t before given taken refusal
unwelcome t before l given taken heard (Aborted reason) next w =
    record { waiting = l.waiting; held = l.held; next = subst (λ (h : Heard). HearsNext t before (ear l.waiting l.held given taken) (Ok h)) w next }
unwelcome t before l given taken heard Unexpected next w = record { heard = heard; other = w; last = record { waiting = l.waiting; held = l.held; next = next } }
unwelcome t before l given taken heard (no_session.Failed fault) next w = absurd w
