-- What is heard one message after another.
use Rattle.std.proofs.Common.{◌≡◌, ◌+◌, ◌++◌, ◌∙◌, ℕ, Bool, true, false, List, [], ◌∷◌, length, Ok, Some, None, arith, ap, refl, subst, append_assoc, if◌then◌else◌}
use Rattle.std.specs.declared.option.Option.{Option}
use Rattle.rawsocket.specs.Devices.{GrowsByBeginning}
use Rattle.rawsocket.specs.declared.handshake.Serializer.{Serializer}
use Rattle.session.specs.Opened.{Exchange, exchange}
use Rattle.client_messages.specs.declared.wishes.SubscribeWishes.{SubscribeWishes}
use Rattle.client_messages.specs.declared.heard.Heard.{Heard}
use Rattle.client_session.specs.Hearing.{Ear, HearsNext, Terms, ear}
use Rattle.client_session.specs.Sessions.{Welcomed}
use Rattle.client_commands.specs.Acts.{Asks, Continues, IsCountedOff, Joins, Listens, Prints, PrintsAfterAsking, PrintsPartly, asked, events, exchange_of, is_event, line_for, printed, granted, standing, terms_of, writing}
use Rattle.client_commands.specs.Notes.{Noting}
use Rattle.client_commands.specs.declared.command.LineForm.{LineForm}
use Rattle.client_commands.specs.declared.listener.Listener.{Listener}
use Rattle.client_commands.specs.declared.subscriptions.Granted.{Granted}
use Rattle.client_commands.proofs.ContinuingLemmas.{continues-still, prints-later}

-- nothing is heard yet, and this is written
pub listens-none : (t : Terms) (s : Welcomed) (given taken octets now : List ℕ) → now ≡ taken ++ octets → Listens t (writing (standing s given taken) octets) (standing s given now) []
listens-none t s given taken octets now is = ap (λ x. ear s.line.waiting s.line.held given x) is

-- one more is heard
pub listens-more : (t u : Terms) (a b c : Ear) (heards : List Heard) (heard : Heard) → u ≡ t → Listens t a b heards → HearsNext u b c (Ok heard) → Listens t a c (heard ∷ heards)
listens-more t u a b c heards heard e before next = (b, before, subst (λ x. HearsNext x b c (Ok heard)) e next)

-- its line is printed behind the others
pub printed-more : (form : LineForm) (topics : List (List ℕ)) (heards : List Heard) (heard : Heard) (before mid now : List ℕ) → mid ≡ before ++ printed form topics heards
    → now ≡ mid ++ line_for form topics (granted heards) heard → now ≡ before ++ printed form topics (heard ∷ heards)
printed-more form topics heards heard before mid now mid_is now_is =
    now_is ∙ ap (λ xs. xs ++ line_for form topics (granted heards) heard) mid_is ∙ append_assoc before (printed form topics heards) (line_for form topics (granted heards) heard)

-- or a beginning of it is
pub printed-partly : (form : LineForm) (topics : List (List ℕ)) (t u : Terms) (heards : List Heard) (heard : Heard) (now after : Ear) (grants : List Granted) (before mid lines : List ℕ) → u ≡ t → HearsNext u now after (Ok heard)
    → mid ≡ before ++ printed form topics heards → grants ≡ granted heards → GrowsByBeginning mid lines (line_for form topics grants heard)
    → PrintsPartly form topics t heards now (exchange_of after) (before ++ printed form topics heards) lines
printed-partly form topics t u heards heard now after grants before mid lines e hears mid_is grants_are begun = record {
  next = heard;
  after = after;
  hears = subst (λ x. HearsNext x now after (Ok heard)) e hears;
  since = continues-still (exchange_of after);
  begun = subst (λ g. GrowsByBeginning (before ++ printed form topics heards) lines (line_for form topics g heard)) grants_are
      (subst (λ m. GrowsByBeginning m lines (line_for form topics grants heard)) mid_is begun);
}

counted-one : (is : Bool) (n : ℕ) (before mid now : Option ℕ) → IsCountedOff before mid n → IsCountedOff mid now (if is then 1 else 0) → IsCountedOff before now (if is then n + 1 else n)
counted-one true n None None None old new = tt
counted-one false n None None None old new = tt
counted-one true n (Some a) (Some b) (Some c) old new = omega (arith, old, new)
counted-one false n (Some a) (Some b) (Some c) old new = omega (arith, old, new)
counted-one is n None None (Some c) old new = absurd new
counted-one is n None (Some b) now old new = absurd old
counted-one is n (Some a) None now old new = absurd old
counted-one is n (Some a) (Some b) None old new = absurd new

-- nothing is counted off yet
pub counted-none : (left : Option ℕ) → IsCountedOff left left 0
counted-none None = tt
counted-none (Some n) = omega arith

-- an event is counted off, and nothing else is
pub counted-more : (heards : List Heard) (heard : Heard) (is : Bool) (before mid now : Option ℕ) → is ≡ is_event heard → IsCountedOff before mid (events heards)
    → IsCountedOff mid now (if is then 1 else 0) → IsCountedOff before now (events (heard ∷ heards))
counted-more heards heard is before mid now e old new =
    subst (λ b. IsCountedOff before now (if b then events heards + 1 else events heards)) e (counted-one is (events heards) before mid now old new)

-- none is left
pub all-counted-off : (before now : Option ℕ) (n : ℕ) → IsCountedOff before now n → now ≡ Some 0 → before ≡ Some n
all-counted-off None now n off e = absurd (subst (λ x. IsCountedOff None x n) e off)
all-counted-off (Some k) now n off e =
    let all : k ≡ 0 + n = subst (λ x. IsCountedOff (Some k) x n) e off in
    let same : k ≡ n = omega (arith, all) in
    ap (λ x. Some x) same

-- all topics are asked for
pub asked-all : (s u : Serializer) (realm : List ℕ) (authid : Option (List ℕ)) (wishes : SubscribeWishes) (topics : List (List ℕ)) (before : Exchange) (session : Welcomed) (given taken now : List ℕ)
    → Joins s realm authid before (exchange given taken) session → u ≡ session.line.serializer → now ≡ taken ++ asked u wishes topics (length topics)
    → Asks s realm authid wishes topics before (standing session given now) (terms_of session)
asked-all s u realm authid wishes topics before session given taken now joins is wrote = record {
  joined = exchange given taken;
  session = session;
  joins = joins;
  terms_are = refl;
  asks = ap (λ x. ear session.line.waiting session.line.held given x) (wrote ∙ ap (λ v. taken ++ asked v wishes topics (length topics)) (is ∙ joins.serializer));
}

-- and what was printed and told behind that, whatever is read and written then
pub printed-after : (s u : Serializer) (realm : List ℕ) (authid : Option (List ℕ)) (wishes : SubscribeWishes) (form : LineForm) (topics : List (List ℕ)) (before last later : Exchange) (session : Welcomed) (given taken now lines_before lines : List ℕ) (notes_before notes : Noting) (left : Option ℕ) (listener : Listener)
    → Joins s realm authid before (exchange given taken) session → u ≡ session.line.serializer → now ≡ taken ++ asked u wishes topics (length topics)
    → Prints form topics (terms_of session) (standing session given now) last lines_before lines notes_before notes left listener → Continues last later
    → PrintsAfterAsking s realm authid wishes form topics before later lines_before lines notes_before notes left listener
printed-after s u realm authid wishes form topics before last later session given taken now lines_before lines notes_before notes left listener joins is wrote prints more = record {
  t = terms_of session;
  asking = standing session given now;
  asks = asked-all s u realm authid wishes topics before session given taken now joins is wrote;
  prints = prints-later form topics (terms_of session) (standing session given now) last later lines_before lines notes_before notes left listener more prints;
}
