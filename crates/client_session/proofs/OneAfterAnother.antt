-- Messages that are heard one after another.
use Rattle.std.proofs.Common.{◌≡◌, ◌++◌, ℕ, List, [], ◌∷◌, Ok, Err, refl, sym, ap, ◌∙◌, subst, append_assoc, append-nil}
use Rattle.std.proofs.lemmas.Grind.{flat_map-append}
use Rattle.std.specs.List.{AllByRecursion}
use Rattle.rawsocket.specs.Frames.{Content, Reads}
use Rattle.rawsocket.specs.declared.frame.Kind.{Kind}
use Rattle.rawsocket.specs.declared.frame.Kind.TheVariants as kind
use Rattle.rawsocket.specs.declared.handshake.Serializer.{Serializer}
use Rattle.rawsocket.proofs.Lemmas.{pieces_join}
use Rattle.client_messages.specs.declared.heard.Heard.{Heard}
use Rattle.client_session.specs.Hearing.{client_takes, Terms, Ear, Hears, HearsNext, IsAside, answers_to, message}
use Rattle.client_session.specs.Laws.{HearsAll, IsAnswerable, SayAll, messages, payload_in}
use Rattle.client_session.specs.declared.fault.Fault.TheVariants.{NoMemory}
use Rattle.client_session.proofs.PassingLemmas.{answers-append}

aside_answerable : (limit : ℕ) (k : Kind) (payload : List ℕ) → IsAside limit (record { kind = k; payload = payload }) → IsAnswerable limit (record { kind = k; payload = payload })
aside_answerable limit kind.Message payload w = absurd w
aside_answerable limit kind.Ping payload w = w
aside_answerable limit kind.Pong payload w = w

aside_silent : (limit : ℕ) (k : Kind) (payload : List ℕ) → IsAside limit (record { kind = k; payload = payload }) → payload_in (record { kind = k; payload = payload }) ≡ []
aside_silent limit kind.Message payload w = absurd w
aside_silent limit kind.Ping payload w = refl
aside_silent limit kind.Pong payload w = refl

all_answerable : (limit : ℕ) (frames : List Content) → AllByRecursion (IsAside limit) frames → AllByRecursion (IsAnswerable limit) frames
all_answerable limit [] w = w
all_answerable limit (c ∷ frames) w = (aside_answerable limit c.kind c.payload w.0, all_answerable limit frames w.1)

none_said : (limit : ℕ) (frames : List Content) → AllByRecursion (IsAside limit) frames → messages frames ≡ []
none_said limit [] w = refl
none_said limit (c ∷ frames) w = ap (λ o. o ++ messages frames) (aside_silent limit c.kind c.payload w.0) ∙ none_said limit frames w.1

all_joined : (limit : ℕ) (f g : List Content) → AllByRecursion (IsAnswerable limit) f → AllByRecursion (IsAnswerable limit) g → AllByRecursion (IsAnswerable limit) (f ++ g)
all_joined limit [] g a b = b
all_joined limit (c ∷ cs) g a b = (a.0, all_joined limit cs g a.1 b)

say_joined : (s : Serializer) (payloads more : List (List ℕ)) (heards others : List Heard) → SayAll s payloads heards → SayAll s more others → SayAll s (payloads ++ more) (heards ++ others)
say_joined s [] more [] others a b = b
say_joined s [] more (h ∷ heards) others a b = absurd a
say_joined s (p ∷ payloads) more [] others a b = absurd a
say_joined s (p ∷ payloads) more (h ∷ heards) others a b = (a.0, say_joined s payloads more heards others a.1 b)

messages-append : (f g : List Content) → messages (f ++ g) ≡ messages f ++ messages g
messages-append f g = flat_map-append payload_in f g

-- at the beginning nothing is heard
pub hearings_begin : (t : Terms) (before : Ear) → Reads client_takes before.held [] before.held → HearsAll t before before []
hearings_begin t before steady = record {
  octets = [];
  read = sym (append-nil before.given);
  frames = [];
  reads = subst (λ o. Reads client_takes o [] before.held) (sym (append-nil before.held)) steady;
  done = [];
  frames_are = append-nil before.waiting;
  each = tt;
  say = tt;
  wrote = sym (append-nil before.taken);
}

-- the next message is heard behind those before it
pub hearings_join : (t : Terms) (a b c : Ear) (heards : List Heard) (heard : Heard) → HearsAll t a b heards → HearsNext t b c (Ok heard) → HearsAll t a c (heards ++ heard ∷ [])
hearings_join t a b c heards heard all next =
    let hears : Hears t _ _ heard = next.next in
    let aside = hears.passes.aside in
    let last : List Content = message hears.payload ∷ [] in
    let none_lost : next.lost ≡ [] = next.none_lost (λ (e : Ok heard ≡ Err NoMemory). cc) in
    let behind : b.waiting ++ next.frames ≡ (aside ++ last) ++ c.waiting = hears.passes.frames_are ∙ sym (append_assoc aside last c.waiting) in
    let read : c.given ≡ b.given ++ next.octets = next.read ∙ ap (λ o. b.given ++ o) (ap (λ o. next.octets ++ o) none_lost ∙ append-nil next.octets) in
    let heard_last : messages (aside ++ last) ≡ hears.payload ∷ [] = messages-append aside last ∙ ap (λ o. o ++ messages last) (none_said t.limit aside hears.passes.each) in
    let answered : answers_to (aside ++ last) ≡ answers_to aside = answers-append aside last ∙ append-nil (answers_to aside) in
    record {
      octets = all.octets ++ next.octets;
      read = read ∙ (ap (λ g. g ++ next.octets) all.read ∙ append_assoc a.given all.octets next.octets);
      frames = all.frames ++ next.frames;
      reads = subst (λ o. Reads client_takes o (all.frames ++ next.frames) c.held) (append_assoc a.held all.octets next.octets) (pieces_join client_takes (a.held ++ all.octets) next.octets b.held c.held all.frames next.frames all.reads next.reads);
      done = all.done ++ (aside ++ last);
      frames_are = sym (append_assoc a.waiting all.frames next.frames)
          ∙ (ap (λ f. f ++ next.frames) all.frames_are ∙ (append_assoc all.done b.waiting next.frames ∙ (ap (λ f. all.done ++ f) behind ∙ sym (append_assoc all.done (aside ++ last) c.waiting))));
      each = all_joined t.limit all.done (aside ++ last) all.each (all_joined t.limit aside last (all_answerable t.limit aside hears.passes.each) (tt, tt));
      say = subst (λ p. SayAll t.serializer p (heards ++ heard ∷ [])) (sym (messages-append all.done (aside ++ last)))
          (say_joined t.serializer (messages all.done) (messages (aside ++ last)) heards (heard ∷ []) all.say (subst (λ p. SayAll t.serializer p (heard ∷ [])) (sym heard_last) (hears.says, tt)));
      wrote = hears.passes.wrote ∙ (ap (λ o. o ++ answers_to aside) all.wrote ∙ (append_assoc a.taken (answers_to all.done) (answers_to aside)
          ∙ ap (λ o. a.taken ++ o) (ap (λ o. answers_to all.done ++ o) (sym answered) ∙ sym (answers-append all.done (aside ++ last)))));
    }
