-- What is read and written while something is heard.
use Rattle.std.proofs.Common.{◌≡◌, ◌++◌, ◌∙◌, ℕ, List, [], take, Result, Ok, Err, ap, inl, inr, sym, append_assoc, append-nil}
use Rattle.std.specs.declared.option.Option.{Option}
use Rattle.rawsocket.specs.Devices.{GrowsByBeginning}
use Rattle.session.specs.Opened.{Exchange, exchange}
use Rattle.client_messages.specs.declared.heard.Heard.{Heard}
use Rattle.client_session.specs.Hearing.{Ear, HearsNext, IsNext, Stand, Terms, answers_to, stand}
use Rattle.client_session.specs.Sessions.{HearsInSession}
use Rattle.client_session.specs.declared.fault.Fault.TheVariants.{NoMemory, Refused, NoBroker, FrameTooLong, FrameType, TooDeep, Malformed, NoBrokerMessage, Unsayable, TooLongForBroker, Ended, ReadFault, WriteFault, TooManyReads, TooManyWrites}
use Rattle.client_session.specs.declared.welcomed.Unheard.{Unheard}
use Rattle.client_session.specs.declared.welcomed.Unheard.TheVariants as unheard
use Rattle.client_commands.specs.Acts.{Continues, Prints, PrintsPartly, exchange_of}
use Rattle.client_commands.specs.Notes.{Noting}
use Rattle.client_commands.specs.declared.command.LineForm.{LineForm}
use Rattle.client_commands.specs.declared.listener.Listener.{Listener}

-- nothing more
pub continues-still : (a : Exchange) → Continues a a
continues-still a = record { more_given = []; given = sym (append-nil a.given); more_taken = []; taken = sym (append-nil a.taken) }

pub continues-then : {a b c : Exchange} → Continues a b → Continues b c → Continues a c
continues-then {a} {b} {c} first then = record {
  more_given = first.more_given ++ then.more_given;
  given = then.given ∙ ap (λ xs. xs ++ then.more_given) first.given ∙ append_assoc a.given first.more_given then.more_given;
  more_taken = first.more_taken ++ then.more_taken;
  taken = then.taken ∙ ap (λ xs. xs ++ then.more_taken) first.taken ∙ append_assoc a.taken first.more_taken then.more_taken;
}

-- these octets were written
pub continues-said : (given taken octets now : List ℕ) → now ≡ taken ++ octets → Continues (exchange given taken) (exchange given now)
continues-said given taken octets now is = record { more_given = []; given = sym (append-nil given); more_taken = octets; taken = is }

-- a beginning of them
pub continues-begun : (given taken octets now : List ℕ) → GrowsByBeginning taken now octets → Continues (exchange given taken) (exchange given now)
continues-begun given taken octets now begun = continues-said given taken (take begun.0 octets) now begun.2

-- whatever comes next, nothing that was written is taken back
next-writes : (t : Terms) (a b : Stand) (held : List ℕ) (r : Result Heard _) → IsNext t a b held r → (more : List ℕ) × (b.taken ≡ a.taken ++ more)
next-writes t a b held (Ok heard) n = (answers_to n.passes.aside, n.passes.wrote)
next-writes t a b held (Err FrameType) n = (answers_to n.quiet.passes.aside, n.quiet.passes.wrote)
next-writes t a b held (Err FrameTooLong) n = (answers_to n.quiet.passes.aside, n.quiet.passes.wrote)
next-writes t a b held (Err Ended) n = (answers_to n.quiet.passes.aside, n.quiet.passes.wrote)
next-writes t a b held (Err ReadFault) n = (answers_to n.quiet.passes.aside, n.quiet.passes.wrote)
next-writes t a b held (Err TooManyReads) n = (answers_to n.quiet.passes.aside, n.quiet.passes.wrote)
next-writes t a b held (Err NoMemory) n = (take n.wrote.0 (answers_to n.aside), n.wrote.2)
next-writes t a b held (Err WriteFault) n = (take n.wrote.0 (answers_to n.aside), n.wrote.2)
next-writes t a b held (Err TooManyWrites) n = (take n.wrote.0 (answers_to n.aside), n.wrote.2)
next-writes t a b held (Err TooLongForBroker) n = (answers_to n.passes.aside, n.passes.wrote)
next-writes t a b held (Err TooDeep) n = (answers_to n.passes.aside, n.passes.wrote)
next-writes t a b held (Err Malformed) n = (answers_to n.passes.aside, n.passes.wrote)
next-writes t a b held (Err NoBrokerMessage) n = (answers_to n.passes.aside, n.passes.wrote)
next-writes t a b held (Err (Refused code)) n = absurd n
next-writes t a b held (Err NoBroker) n = absurd n
next-writes t a b held (Err Unsayable) n = absurd n

pub continues-heard : (t : Terms) (a b : Ear) (r : Result Heard _) → HearsNext t a b r → Continues (exchange_of a) (exchange_of b)
continues-heard t a b r h =
    let wrote : (more : List ℕ) × (b.taken ≡ a.taken ++ more) = next-writes t (stand (a.waiting ++ h.frames) a.taken) (stand b.waiting b.taken) b.held r h.next in
    record { more_given = h.octets ++ h.lost; given = h.read; more_taken = wrote.0; taken = wrote.1 }

pub continues-in-session : (t : Terms) (a b : Ear) (given given_now : List ℕ) (r : Result Heard Unheard) → HearsInSession t a b given given_now r → Continues (exchange_of a) (exchange_of b)
continues-in-session t a b given given_now (Ok heard) w = continues-heard t a b (Ok heard) w.0
continues-in-session t a b given given_now (Err unheard.ForeignEvent) w = continues-heard t a b (Ok w.0.heard) w.0.next
continues-in-session t a b given given_now (Err (unheard.Failed fault)) w = elim w.0 [
  | inl next ↦ continues-heard t a b (Err fault) next
  | inr lost ↦ continues-heard t a b (Ok lost.heard) lost.next
]

-- what was printed stays so, whatever is read and written then
partly-later : (form : LineForm) (topics : List (List ℕ)) (t : Terms) (heards : List Heard) (now : Ear) (last later : Exchange) (before lines : List ℕ) → Continues last later
    → PrintsPartly form topics t heards now last before lines → PrintsPartly form topics t heards now later before lines
partly-later form topics t heards now last later before lines more p = record { next = p.next; after = p.after; hears = p.hears; since = continues-then p.since more; begun = p.begun }

pub prints-later : (form : LineForm) (topics : List (List ℕ)) (t : Terms) (before : Ear) (last later : Exchange) (lines_before lines : List ℕ) (notes_before notes : Noting) (left : Option ℕ) (listener : Listener) → Continues last later
    → Prints form topics t before last lines_before lines notes_before notes left listener → Prints form topics t before later lines_before lines notes_before notes left listener
prints-later form topics t before last later lines_before lines notes_before notes left listener more p = record {
  heards = p.heards;
  now = p.now;
  listens = p.listens;
  since = continues-then p.since more;
  lines_are = elim p.lines_are [
    | inl all ↦ inl all
    | inr part ↦ inr (partly-later form topics t p.heards p.now last later _ lines more part)
  ];
  noted_are = p.noted_are;
  so_far = p.so_far;
}
