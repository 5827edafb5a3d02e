-- What faults tell of devices.
use Rattle.std.proofs.Common.{◌≡◌, ◌+◌, arith, refl, sym, ap, subst, ℕ, Bool, true, false, List, Result, Ok, Err}
use Rattle.std.specs.Prelude.{IfErr}
use Rattle.rawsocket.specs.Devices.{Reading, Writing}
use Rattle.rawsocket.specs.Steps.{Fine, Meter, ReadSteps, Told, WholeSteps, WriteSteps, failures_told, told_by}
use Rattle.client_messages.specs.declared.client_message.ClientMessage.{ClientMessage}
use Rattle.client_messages.specs.declared.heard.Heard.{Heard}
use Rattle.client_messages.specs.declared.heard.Heard.TheVariants as heard
use Rattle.client_session.specs.Faults.{read_told, write_told}
use Rattle.client_session.specs.Hearing.{Terms}
use Rattle.client_session.specs.Saying.{IsCutShort}
use Rattle.client_session.specs.Sessions.{opening_read_told, opening_write_told, session_read_told, session_write_told}
use Rattle.client_session.specs.declared.fault.Fault as link_faults
use Rattle.client_session.specs.declared.fault.Fault.TheVariants.{NoMemory, Ended, ReadFault, TooManyReads, TooManyWrites}
use Rattle.client_session.specs.declared.welcomed.NoSession.{NoSession}
use Rattle.client_session.specs.declared.welcomed.NoSession.TheVariants as no_session
use Rattle.client_session.specs.declared.welcomed.Unheard.{Unheard}
use Rattle.client_session.specs.declared.welcomed.Unheard.TheVariants as unheard
use Rattle.client_commands.specs.declared.fault.Fault.{Fault}
use Rattle.client_commands.specs.declared.fault.Fault.TheVariants as command
use Rattle.client_commands.specs.Faults.{IsNoEnd, IsOfBroker, IsOfHere, RunsOut, TellsEnd, input_told, is_connection, is_passing, of_hearing, of_link, of_message, of_opening, output_told, sink_told, source_told}

-- a fault of the link tells of it what it tells as a fault of a command
pub of_link-read : (f : link_faults.Fault) → source_told (of_link f) ≡ read_told f
of_link-read NoMemory = refl
of_link-read _ = refl

pub of_link-write : (f : link_faults.Fault) → sink_told (of_link f) ≡ write_told f
of_link-write NoMemory = refl
of_link-write _ = refl

pub of_link-aside : (f : link_faults.Fault) → IsOfBroker (of_link f)
of_link-aside NoMemory = record { input = refl; output = refl }
of_link-aside _ = record { input = refl; output = refl }

pub of_opening-aside : (f : NoSession) → IsOfBroker (of_opening f)
of_opening-aside (no_session.Aborted reason) = record { input = refl; output = refl }
of_opening-aside no_session.Unexpected = record { input = refl; output = refl }
of_opening-aside (no_session.Failed fault) = of_link-aside fault

pub of_hearing-aside : (f : Unheard) → IsOfBroker (of_hearing f)
of_hearing-aside unheard.ForeignEvent = record { input = refl; output = refl }
of_hearing-aside (unheard.Failed fault) = of_link-aside fault

-- the end of the stream is told as the link tells it
pub of_link-end : (f : link_faults.Fault) (ended : Bool) → (f ≡ Ended → ended ≡ true) → TellsEnd ended (of_link f)
of_link-end NoMemory ended w is = absurd (cc)
of_link-end Ended ended w is = w refl
of_link-end _ ended w is = absurd (cc)

pub of_opening-end : (f : NoSession) (ended : Bool) → (f ≡ no_session.Failed Ended → ended ≡ true) → TellsEnd ended (of_opening f)
of_opening-end (no_session.Aborted reason) ended w is = absurd (cc)
of_opening-end no_session.Unexpected ended w is = absurd (cc)
of_opening-end (no_session.Failed fault) ended w is = of_link-end fault ended (λ e. w (ap (λ f. no_session.Failed f) e)) is

pub of_hearing-end : (f : Unheard) (ended : Bool) → (f ≡ unheard.Failed Ended → ended ≡ true) → TellsEnd ended (of_hearing f)
of_hearing-end unheard.ForeignEvent ended w is = absurd (cc)
of_hearing-end (unheard.Failed fault) ended w is = of_link-end fault ended (λ e. w (ap (λ f. unheard.Failed f) e)) is

pub of_hearing-read : (f : Unheard) → source_told (of_hearing f) ≡ session_read_told f
of_hearing-read unheard.ForeignEvent = refl
of_hearing-read (unheard.Failed fault) = of_link-read fault

pub of_hearing-write : (f : Unheard) → sink_told (of_hearing f) ≡ session_write_told f
of_hearing-write unheard.ForeignEvent = refl
of_hearing-write (unheard.Failed fault) = of_link-write fault

pub of_opening-read : (f : NoSession) → source_told (of_opening f) ≡ opening_read_told f
of_opening-read (no_session.Aborted reason) = refl
of_opening-read no_session.Unexpected = refl
of_opening-read (no_session.Failed fault) = of_link-read fault

pub of_opening-write : (f : NoSession) → sink_told (of_opening f) ≡ opening_write_told f
of_opening-write (no_session.Aborted reason) = refl
of_opening-write no_session.Unexpected = refl
of_opening-write (no_session.Failed fault) = of_link-write fault

-- a whole call, told in another way
pub retold : {before after : ℕ → Meter} {told other : Told} → other ≡ told → WholeSteps before after told → WholeSteps before after other
retold {before} {after} {told} {other} is s = subst (λ t. WholeSteps before after t) (sym is) s

-- and of the failures alone
pub failures_retold : (before now : ℕ) (told other : Told) → other ≡ told → now ≡ before + failures_told told → now ≡ before + failures_told other
failures_retold before now told other is s = subst (λ t. now ≡ before + failures_told t) (sym is) s

-- what is said tells nothing of what is read
pub cut_short-unread : (t : Terms) (said : ClientMessage) (before now : List ℕ) (f : link_faults.Fault) → IsCutShort t said before now f → read_told f ≡ Fine
cut_short-unread t said before now ReadFault w = absurd w.1
cut_short-unread t said before now TooManyReads w = absurd w.1
cut_short-unread t said before now _ w = refl

-- a fault that tells of no end
pub no-end : (fault : Fault) (ended : Bool) → IsNoEnd fault → TellsEnd ended fault
no-end fault ended none is = absurd (cc (none, is))

-- nor that it ended
pub cut_short-unended : (t : Terms) (said : ClientMessage) (before now : List ℕ) (f : link_faults.Fault) → IsCutShort t said before now f → IsNoEnd (of_link f)
cut_short-unended t said before now NoMemory w = refl
cut_short-unended t said before now Ended w = absurd w.1
cut_short-unended t said before now _ w = refl

pub of_message-aside : (h : Heard) → IsOfBroker (of_message h)
of_message-aside (heard.Abort reason) = record { input = refl; output = refl }
of_message-aside (heard.Error kind request reason) = record { input = refl; output = refl }
of_message-aside (heard.Goodbye reason) = record { input = refl; output = refl }
of_message-aside _ = record { input = refl; output = refl }

pub of_message-here : (h : Heard) → IsOfHere (of_message h)
of_message-here (heard.Abort reason) = record { other = refl; source = refl; sink = refl; end = refl }
of_message-here (heard.Error kind request reason) = record { other = refl; source = refl; sink = refl; end = refl }
of_message-here (heard.Goodbye reason) = record { other = refl; source = refl; sink = refl; end = refl }
of_message-here _ = record { other = refl; source = refl; sink = refl; end = refl }

-- a fault of the broker tells nothing of the standard input
pub aside-input : {X : Type 0} (r : Result X Fault) → IfErr r IsOfBroker → told_by input_told r ≡ Fine
aside-input (Ok x) is = refl
aside-input (Err fault) is = is.input

-- nor of the standard output
pub aside-output : {X : Type 0} (r : Result X Fault) → IfErr r IsOfBroker → told_by output_told r ≡ Fine
aside-output (Ok x) is = refl
aside-output (Err fault) is = is.output

-- what a new connection may better is no failure of the standard output
pub passing-fine : (f : Fault) → is_passing f ≡ true → failures_told (output_told f) ≡ 0
passing-fine command.WriteFault is = absurd (cc)
passing-fine _ is = refl

-- a call that tells that it had no turn left had 2 ^ 32
pub runs-out : (read source : Reading) (wrote sink : Writing) (fault : Fault) → ReadSteps read source (source_told fault) → WriteSteps wrote sink (sink_told fault) → RunsOut source sink fault
runs-out read source wrote sink (command.Connection TooManyReads) r w = omega (arith, r.steps.calls, r.steps.turns)
runs-out read source wrote sink (command.Connection TooManyWrites) r w = omega (arith, w.steps.calls, w.steps.turns)
runs-out read source wrote sink _ r w = tt

-- and so where nothing is read
pub runs-out-writing : (source : Reading) (wrote sink : Writing) (fault : Fault) → source_told fault ≡ Fine → WriteSteps wrote sink (sink_told fault) → RunsOut source sink fault
runs-out-writing source wrote sink (command.Connection TooManyReads) unread w = absurd (cc unread)
runs-out-writing source wrote sink (command.Connection TooManyWrites) unread w = omega (arith, w.steps.calls, w.steps.turns)
runs-out-writing source wrote sink _ unread w = tt

-- what is none of the link tells nothing of it
pub runs-out-here : (source : Reading) (sink : Writing) (fault : Fault) → is_connection fault ≡ false → RunsOut source sink fault
runs-out-here source sink (command.Connection fault) here = absurd (cc here)
runs-out-here source sink _ here = tt
