-- The realm of an opened session stands in the list of realms.
use Rattle.std.specs.Prelude.{⊤}
use Rattle.std.proofs.Common.{◌≡◌, ◌<◌, ℕ, List, [], ◌∷◌, length, Option, Some, None, Ok, inl, inr, refl, sym, subst}
use Rattle.std.specs.Option.{option_map}
use Rattle.std.specs.List.{position}
use Rattle.std.specs.Str.{bytes_eq}
use Rattle.std.proofs.lemmas.List.Quantifiers.{position-Some}
use Rattle.rawsocket.specs.Frames.{Content, fault_of}
use Rattle.rawsocket.specs.declared.fault.Fault as stream
use Rattle.rawsocket.specs.declared.frame.Kind.{Kind}
use Rattle.rawsocket.specs.declared.frame.Kind.TheVariants.{Message, Ping, Pong}
use Rattle.rawsocket.specs.declared.handshake.Serializer.{Serializer}
use Rattle.session.specs.Opened.{Converses, IsAnswer, Leads, Session, Verdict, Undecided, Opens, Refuses, terms}
use Rattle.session.specs.FirstMessage.{first_of}
use Rattle.wamp_messages.specs.declared.said.Said.{Said}
use Rattle.session.proofs.FrameWalkLemmas.{LeadsBy}
use Rattle.wamp_messages.specs.declared.said.Said.TheVariants.{Hello, Abort, Goodbye, Publish, Subscribe, Unsubscribe}

place_within : (realms : List (List ℕ)) (realm : List ℕ) (authid : Option (List ℕ)) (asked : ℕ × Option (List ℕ)) (o : Option ℕ) → position (λ r. bytes_eq r realm) realms ≡ o
    → option_map (λ place. (place, authid)) o ≡ Some asked → asked.0 < length realms
place_within realms realm authid asked None at e = absurd (cc)
place_within realms realm authid asked (Some place) at e =
    let same : place ≡ asked.0 = cc in
    subst (λ n. n < length realms) same (position-Some (λ r. bytes_eq r realm) realms place [] at).0

first_within : (realms : List (List ℕ)) (said : Said) (asked : ℕ × Option (List ℕ)) → first_of said realms ≡ Some asked → asked.0 < length realms
first_within realms (Hello realm authid) asked e = place_within realms realm authid asked (position (λ r. bytes_eq r realm) realms) refl e
first_within realms Abort asked e = absurd (cc)
first_within realms Goodbye asked e = absurd (cc)
first_within realms (Publish asks) asked e = absurd (cc)
first_within realms (Subscribe request options topic) asked e = absurd (cc)
first_within realms (Unsubscribe request subscription) asked e = absurd (cc)

abbrev pub IsWithin : List (List ℕ) → Verdict → Type 0
IsWithin realms Undecided = ⊤
IsWithin realms (Opens realm authid early) = realm < length realms
IsWithin realms (Refuses f) = ⊤

module _ (most : ℕ) (s : Serializer) (limit : ℕ) (realms : List (List ℕ)) where
  within_by : (k : Kind) (payload : List ℕ) (frames : List Content) (Next : List ℕ → Verdict → Type 0) (out : List ℕ) (v : Verdict) → ((o : List ℕ) → Next o v → IsWithin realms v)
      → LeadsBy s limit realms payload frames Next k out v → IsWithin realms v
  within_by Message payload frames Next out v next (inl greets) = subst (IsWithin realms) (sym greets.verdict) (first_within realms greets.asks.said greets.asked greets.asks.first)
  within_by Message payload frames Next out v next (inr fails) = subst (IsWithin realms) (sym fails.verdict) tt
  within_by Ping payload frames Next out v next (inl answers) = next answers.more answers.next
  within_by Ping payload frames Next out v next (inr long) = subst (IsWithin realms) (sym long.verdict) tt
  within_by Pong payload frames Next out v next w = next out w

  at_end : (fault : Option stream.Fault) (out : List ℕ) (v : Verdict) → Leads (terms s limit realms) fault [] out v → IsWithin realms v
  at_end None out v w = subst (IsWithin realms) (sym w.1) tt
  at_end (Some f) out v w = subst (IsWithin realms) (sym w.1) tt

  Leads-within : (fault : Option stream.Fault) (frames : List Content) (out : List ℕ) (v : Verdict) → Leads (terms s limit realms) fault frames out v → IsWithin realms v
  Leads-within fault [] out v w = at_end fault out v w
  Leads-within fault (c ∷ frames) out v w = within_by c.kind c.payload frames (Leads (terms s limit realms) fault frames) out v (λ o next. Leads-within fault frames o v next) w

  answer_within : (held : List ℕ) (v : Verdict) (session : Session) → IsWithin realms v → IsAnswer most s limit held v (Ok session) → session.realm < length realms
  answer_within held Undecided session within (inl e) = absurd (cc)
  answer_within held Undecided session within (inr e) = absurd (cc)
  answer_within held (Opens realm authid early) session within e = let same : realm ≡ session.realm = cc in subst (λ n. n < length realms) same within
  answer_within held (Refuses f) session within e = absurd (cc)

  pub opened_within : (octets written : List ℕ) (session : Session) → Converses most (terms s limit realms) octets written (Ok session) → session.realm < length realms
  opened_within octets written session c = answer_within c.held c.verdict session (Leads-within (fault_of most c.held) c.frames written c.verdict c.leads) c.answers
