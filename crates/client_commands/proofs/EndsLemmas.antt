-- How publishing ends by a fault.
use Rattle.std.proofs.Common.{◌≡◌, ◌+◌, ◌++◌, ◌∙◌, ℕ, Bool, true, false, List, [], ◌∷◌, ◌<◌, append-nil, Result, Ok, Err, ap, inl, inr, refl, subst, sym, append_assoc}
use Rattle.std.specs.Prelude.{◌≢◌, OnOk, length}
use Rattle.session.specs.Opened.{Exchange, exchange}
use Rattle.client_messages.specs.declared.client_message.ClientMessage.TheVariants.{GoodbyeAndOut}
use Rattle.client_session.specs.Hearing.{Ear, Terms}
use Rattle.client_session.specs.Sessions.{Welcomed}
use Rattle.client_commands.specs.Acts.{Joins, exchange_of, standing, terms_of}
use Rattle.client_commands.specs.Ends.{AreFirstLines, ClosesAfter, EndsAtLine, EndsInAll, EndsInLines, EndsPublishing, IsOver, IsUnanswered, IsWhole}
use Rattle.client_commands.specs.Lines.{ended}
use Rattle.client_commands.specs.Pacing.{AllAnswered, IsPaced}
use Rattle.client_commands.specs.Published.{IsPublishedOf}
use Rattle.client_commands.specs.Stops.{ByLink, FailsToLeave, IsAnswered, IsUnsaid, Stops}
use Rattle.client_commands.specs.declared.command.PublishCommand.{PublishCommand}
use Rattle.client_commands.specs.declared.fault.Fault.{Fault}
use Rattle.client_commands.specs.declared.fault.Fault.TheVariants.{BadLine, Closed}
use Rattle.client_commands.proofs.PublishingLemmas.{all-counted}

-- octets of a piece, up to a place in what is left of it and behind that
pub cut-at : (input piece done left front back : List ℕ) → piece ≡ done ++ left → left ≡ front ++ back → input ++ piece ≡ ((input ++ done) ++ front) ++ back
cut-at input piece done left front back piece_is left_is =
    ap (λ xs. input ++ xs) (piece_is ∙ ap (λ xs. done ++ xs) left_is) ∙ sym (append_assoc (input ++ done) front back ∙ append_assoc input done (front ++ back))

module _ (command : PublishCommand) (t : Terms) (before : Ear) where
  -- what ends a command at a line ends it in the input
  at-line : (now : Ear) (input behind octets rest : List ℕ) (count answered : ℕ) (last : Ear) (over : Bool) (fault : Fault) → octets ≡ input ++ behind → IsWhole over rest behind
      → (p : IsPublishedOf command t before last input rest count answered) → EndsAtLine command t before now p.lines rest fault → EndsInLines command t before now octets over fault
  at-line now input behind octets rest count answered last over fault split whole p ends = elim ends [
    | inl fails ↦ inl (record {
      lines = p.lines;
      line = rest;
      behind = behind;
      split = split ∙ ap (λ xs. xs ++ behind) p.split ∙ append_assoc (ended p.lines) rest behind;
      clean = (p.rest_clean, p.lines_clean);
      whole = whole;
      fails = fails;
    })
    | inr unanswered ↦ inr (inl (record {
      lines = p.lines;
      first = inl (rest ++ behind, split ∙ ap (λ xs. xs ++ behind) p.split ∙ append_assoc (ended p.lines) rest behind);
      clean = p.lines_clean;
      unanswered = unanswered;
    }))
  ]

  -- the line behind those that were published ends it
  pub ends-at : (u : Terms) (last now : Ear) (input behind rest octets : List ℕ) (count answered : ℕ) (over : Bool) (fault : Fault) → u ≡ t → octets ≡ input ++ behind → IsWhole over rest behind
      → IsPublishedOf command t before last input rest count answered
      → ((b : Ear) (ls : List (List ℕ)) → length ls ≡ count → IsPaced command u b last ls answered → EndsAtLine command u b now ls rest fault)
      → EndsInLines command t before now octets over fault
  ends-at u last now input behind rest octets count answered over fault e split whole p ends =
      at-line now input behind octets rest count answered last over fault split whole p
      (subst (λ x. EndsAtLine command x before now p.lines rest fault) e (ends before p.lines (sym p.counted) (subst (λ x. IsPaced command x before last p.lines answered) (sym e) p.publishes)))

  -- the answer to one of those that were published does
  pub ends-by-answer : (u : Terms) (mid now : Ear) (input behind rest octets : List ℕ) (count answered : ℕ) (over : Bool) (fault : Fault) → u ≡ t → octets ≡ input ++ behind
      → IsPublishedOf command t before mid input rest count answered
      → ((b : Ear) (ls : List (List ℕ)) → length ls ≡ count → IsPaced command u b mid ls answered → IsUnanswered command u b now ls fault)
      → EndsInLines command t before now octets over fault
  ends-by-answer u mid now input behind rest octets count answered over fault e split p ends = inr (inl (record {
    lines = p.lines;
    first = inl (rest ++ behind, split ∙ ap (λ xs. xs ++ behind) p.split ∙ append_assoc (ended p.lines) rest behind);
    clean = p.lines_clean;
    unanswered = subst (λ x. IsUnanswered command x before now p.lines fault) e (ends before p.lines (sym p.counted) (subst (λ x. IsPaced command x before mid p.lines answered) (sym e) p.publishes));
  }))

  -- or the answer to one up to the last one, which needs no LF
  pub ends-by-last : (mid now : Ear) (input rest : List ℕ) (count answered : ℕ) (fault : Fault) → 0 < length rest
      → IsPublishedOf command t before mid input rest count answered
      → ((ls : List (List ℕ)) → length ls ≡ count → IsPaced command t before mid ls answered → IsUnanswered command t before now (rest ∷ ls) fault)
      → EndsInLines command t before now input true fault
  ends-by-last mid now input rest count answered fault some p ends = inr (inl (record {
    lines = rest ∷ p.lines;
    first = inr (refl, (p.split, some));
    clean = (p.rest_clean, p.lines_clean);
    unanswered = ends p.lines (sym p.counted) p.publishes;
  }))

  -- a line that is longer than 2 ^ 20 octets ends it, whether or not LF comes
  pub ends-long : (now : Ear) (octets rest : List ℕ) (count answered : ℕ) (fault : Fault) → fault ≡ BadLine (count + 1) → 1048576 < length rest → AllAnswered command.wishes.acknowledge count answered
      → IsPublishedOf command t before now octets rest count answered → EndsInLines command t before now octets false fault
  ends-long now octets rest count answered fault is long all p = inl (record {
    lines = p.lines;
    line = rest;
    behind = [];
    split = p.split ∙ ap (λ xs. ended p.lines ++ xs) (sym (append-nil rest));
    clean = (p.rest_clean, p.lines_clean);
    whole = inr (refl, inr long);
    fails = inl (record {
      number = is ∙ ap (λ n. BadLine (n + 1)) p.counted;
      bad = inl long;
      answered = answered;
      publishes = p.publishes;
      all = all-counted command.wishes.acknowledge answered count (length p.lines) all p.counted;
    });
  })

  -- a whole line stays so, whether or not the input is over
  whole-however : (over : Bool) (line behind : List ℕ) → IsWhole false line behind → IsWhole over line behind
  whole-however over line behind w = elim w [
    | inl ended ↦ inl ended
    | inr last ↦ inr (
      last.0,
      elim last.1 [
        | inl none ↦ absurd (cc none)
        | inr long ↦ inr long
      ],
    )
  ]

  -- and so do first lines
  first-however : (over : Bool) (input : List ℕ) (lines : List (List ℕ)) → AreFirstLines false input lines → AreFirstLines over input lines
  first-however over input lines f = elim f [
    | inl behind ↦ inl behind
    | inr last ↦ absurd (cc (last.0))
  ]

  ends-however : (now : Ear) (octets : List ℕ) (over : Bool) (fault : Fault) → EndsInLines command t before now octets false fault → EndsInLines command t before now octets over fault
  ends-however now octets over fault found = elim found [
    | inl bad ↦ inl (record {
      lines = bad.lines;
      line = bad.line;
      behind = bad.behind;
      split = bad.split;
      clean = bad.clean;
      whole = whole-however over bad.line bad.behind bad.whole;
      fails = bad.fails;
    })
    | inr rest ↦ elim rest [
      | inl answer ↦ inr (inl (record {
        lines = answer.lines;
        first = first-however over octets answer.lines answer.first;
        clean = answer.clean;
        unanswered = answer.unanswered;
      }))
      | inr interrupted ↦ inr (inr interrupted)
    ]
  ]

  -- a piece more ends it, under terms that stay
  pub ends-in-piece : (u : Terms) (mid now : Ear) (input piece rest : List ℕ) (count answered : ℕ) (over : Bool) (fault : Fault) → u ≡ t
      → ((b : Ear) (xs : List ℕ) → IsPublishedOf command u b mid xs rest count answered → EndsInLines command u b now (xs ++ piece) false fault)
      → IsPublishedOf command t before mid input rest count answered → EndsInLines command t before now (input ++ piece) over fault
  ends-in-piece u mid now input piece rest count answered over fault e ends p =
      ends-however now (input ++ piece) over fault (subst (λ x. EndsInLines command x before now (input ++ piece) false fault) e
      (ends before input (subst (λ x. IsPublishedOf command x before mid input rest count answered) (sym e) p)))

  -- a message ends it that nothing waits for, or the link gives none
  pub ends-interrupted : (u : Terms) (mid now : Ear) (input rest : List ℕ) (count answered : ℕ) (over : Bool) (fault : Fault) → u ≡ t → AllAnswered command.wishes.acknowledge count answered
      → Stops u mid now fault → IsPublishedOf command t before mid input rest count answered → EndsInLines command t before now input over fault
  ends-interrupted u mid now input rest count answered over fault e all stops p = inr (inr (record {
    rest = rest;
    count = count;
    answered = answered;
    last = mid;
    publishes = p;
    all = all;
    stops = subst (λ (x : Terms). Stops x mid now fault) e stops;
  }))

  -- the last line ends it
  pub ends-in-last : (u : Terms) (mid now : Ear) (input rest : List ℕ) (count answered : ℕ) (over : Bool) (fault : Fault) → u ≡ t → over ≡ true
      → ((b : Ear) (xs : List ℕ) → IsPublishedOf command u b mid xs rest count answered → EndsInLines command u b now xs true fault)
      → IsPublishedOf command t before mid input rest count answered → EndsInLines command t before now input over fault
  ends-in-last u mid now input rest count answered over fault e over_is ends p =
      subst (λ b. EndsInLines command t before now input b fault) (sym over_is)
      (subst (λ x. EndsInLines command x before now input true fault) e
      (ends before input (subst (λ x. IsPublishedOf command x before mid input rest count answered) (sym e) p)))

-- what follows of what ends well from two things that hold then
pub both-ok : {X : Type 0} (r : Result X Fault) (P Q R : Type 0) → (P → Q → R) → OnOk r P → OnOk r Q → OnOk r R
both-ok (Ok x) P Q R w p q = w p q
both-ok (Err f) P Q R w p q = tt

module _ (command : PublishCommand) (before : Exchange) (session : Welcomed) (given taken given_before given_now : List ℕ) (over : Bool) where
  -- while it published
  pub ends-publishing : (u : Terms) (now : Ear) (last : Exchange) (fault : Fault) → Joins command.contact.serializer command.contact.realm command.contact.authid before (exchange given taken) session → u ≡ terms_of session
      → EndsInAll command (terms_of session) (standing session given taken) now given_before given_now over fault → ClosesAfter u now last fault
      → EndsPublishing command before last given_before given_now over fault
  ends-publishing u now last fault joins e ends closes = record {
    joined = exchange given taken;
    session = session;
    joins = joins;
    now = now;
    ends = inl (ends, subst (λ (t : Terms). ClosesAfter t now last fault) e closes);
  }

  closing : (u : Terms) (now : Ear) (last : Exchange) (reason : List ℕ) (fault : Fault) → Joins command.contact.serializer command.contact.realm command.contact.authid before (exchange given taken) session → u ≡ terms_of session
      → EndsInAll command (terms_of session) (standing session given taken) now given_before given_now over (Closed reason) → IsAnswered u reason (exchange_of now) last fault
      → EndsPublishing command before last given_before given_now over fault
  closing u now last reason (Closed told) joins e ends answered =
      ends-publishing u now last (Closed told) joins e (subst (λ r. EndsInAll command (terms_of session) (standing session given taken) now given_before given_now over (Closed r)) (sym answered.0) ends) answered.1
  closing u now last reason fault joins e ends answered = record {
    joined = exchange given taken;
    session = session;
    joins = joins;
    now = now;
    ends = inr (inl (reason, ends, subst (λ (t : Terms). ByLink (IsUnsaid t GoodbyeAndOut (exchange_of now) last) fault) e answered));
  }

  -- as it answered the broker's GOODBYE
  pub ends-closing : (u : Terms) (now : Ear) (last : Exchange) (reason : List ℕ) (closed fault : Fault) → closed ≡ Closed reason
      → Joins command.contact.serializer command.contact.realm command.contact.authid before (exchange given taken) session → u ≡ terms_of session
      → EndsInAll command (terms_of session) (standing session given taken) now given_before given_now over closed → IsAnswered u reason (exchange_of now) last fault
      → EndsPublishing command before last given_before given_now over fault
  ends-closing u now last reason closed fault is joins e ends answered =
      closing u now last reason fault joins e (subst (λ f. EndsInAll command (terms_of session) (standing session given taken) now given_before given_now over f) is ends) answered

  goes-no-further : (u : Terms) (now : Ear) (last : Exchange) (fault : Fault) → ((number : ℕ) → fault ≢ BadLine number) → ((reason : List ℕ) → fault ≢ Closed reason) → exchange_of now ≡ last → ClosesAfter u now last fault
  goes-no-further u now last (BadLine number) good unclosed same = absurd (good number refl)
  goes-no-further u now last (Closed reason) good unclosed same = absurd (unclosed reason refl)
  goes-no-further u now last _ good unclosed same = same

  -- or nothing more was said and heard
  pub ends-at-once : (u : Terms) (now : Ear) (fault : Fault) → ((number : ℕ) → fault ≢ BadLine number) → ((reason : List ℕ) → fault ≢ Closed reason)
      → Joins command.contact.serializer command.contact.realm command.contact.authid before (exchange given taken) session → u ≡ terms_of session
      → EndsInAll command (terms_of session) (standing session given taken) now given_before given_now over fault → EndsPublishing command before (exchange_of now) given_before given_now over fault
  ends-at-once u now fault good unclosed joins e ends = ends-publishing u now (exchange_of now) fault joins e ends (goes-no-further u now (exchange_of now) fault good unclosed refl)

  -- or as it left
  pub ends-leaving : (u : Terms) (now : Ear) (last : Exchange) (fault : Fault) → Joins command.contact.serializer command.contact.realm command.contact.authid before (exchange given taken) session → u ≡ terms_of session
      → IsOver command (terms_of session) (standing session given taken) now given_before given_now over → FailsToLeave u now last fault
      → EndsPublishing command before last given_before given_now over fault
  ends-leaving u now last fault joins e out fails = record {
    joined = exchange given taken;
    session = session;
    joins = joins;
    now = now;
    ends = inr (inr (out, subst (λ (t : Terms). FailsToLeave t now last fault) e fails));
  }
