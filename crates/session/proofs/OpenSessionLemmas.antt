-- From a handshake to the opening of a session.
use Rattle.std.proofs.Common.{◌≡◌, ◌≤◌, ◌⊎◌, ◌++◌, ◌^◌, ◌+◌, ◌%◌, ◌/◌, ℕ, Bool, true, false, cond, min, get_or, List, [], ◌∷◌, length, drop, Result, inl, inr, refl, sym, ap, ◌∙◌, subst, arith, append_assoc, length-append}
use Rattle.std.specs.Prelude.{◌==◌, ◌&&◌}
use Rattle.std.proofs.lemmas.List.{drop_at}
use Rattle.rawsocket.specs.Bounds.{most_octets}
use Rattle.rawsocket.specs.Handshakes.{accepting_within, answered, limit, reply_within}
use Rattle.rawsocket.specs.declared.fault.Fault as stream
use Rattle.rawsocket.specs.declared.fault.Fault.TheVariants as faults
use Rattle.rawsocket.specs.declared.handshake.Serializer.{Serializer}
use Rattle.rawsocket.specs.declared.handshake.Serializer.TheVariants.{Json, MsgPack}
use Rattle.rawsocket.specs.declared.handshake.Handshake.TheVariants.{Accept, Refuse, Dropped}
use Rattle.rawsocket.specs.Steps.{Fine}
use Rattle.session.specs.Faults.{stream_fault, read_told, write_told}
use Rattle.session.specs.Opened.{Converses, Follows, IsOpening, OpensSince, Proceeds, Session, exchange, or_nothing, terms}
use Rattle.session.specs.FrameWalk.{ConversesSince}
use Rattle.session.specs.declared.fault.Fault.{Fault}

first_four : (h x : List ℕ) → length h ≡ 4 → answered (h ++ x) ≡ answered h
first_four [] x e = absurd (omega (arith, e))
first_four (a ∷ []) x e = absurd (omega (arith, e))
first_four (a ∷ b ∷ []) x e = absurd (omega (arith, e))
first_four (a ∷ b ∷ c ∷ []) x e = absurd (omega (arith, e))
first_four (a ∷ b ∷ c ∷ d ∷ ys) x e = refl

bounded : (p : ℕ) → min p 16777215 ≤ 16777215
bounded p = omega arith

accepted_by : (a b : Bool) (most m : ℕ) (s : Serializer) → cond a (Accept Json most) (cond b (Accept MsgPack most) (Refuse faults.SerializerUnsupported)) ≡ Accept s m → most ≤ 16777215 → m ≤ 16777215
accepted_by true b most m s e le = let same : most ≡ m = cc in omega (arith, same, le)
accepted_by false true most m s e le = let same : most ≡ m = cc in omega (arith, same, le)
accepted_by false false most m s e le = absurd (cc)

answered_by : (a b c d : Bool) (most m : ℕ) (s : Serializer)
    → cond a (cond b (cond c (Accept Json most) (cond d (Accept MsgPack most) (Refuse faults.SerializerUnsupported))) (Refuse faults.ReservedBits)) Dropped ≡ Accept s m → most ≤ 16777215 → m ≤ 16777215
answered_by true true c d most m s e le = accepted_by c d most m s e le
answered_by true false c d most m s e le = absurd (cc)
answered_by false b c d most m s e le = absurd (cc)

-- a client that is accepted takes no more than a frame's length can say
pub accepted_limit : (h : List ℕ) (s : Serializer) (m : ℕ) → answered h ≡ Accept s m → m ≤ 16777215
accepted_limit h s m e = answered_by (get_or h 0 0 == 127) (get_or h 2 0 == 0 && get_or h 3 0 == 0) (get_or h 1 0 % 16 == 1) (get_or h 1 0 % 16 == 2) (limit (get_or h 1 0 / 16)) m s e (bounded (2 ^ (9 + get_or h 1 0 / 16)))

refused_by : (a b c d : Bool) (most : ℕ) (f : stream.Fault)
    → cond a (cond b (cond c (Accept Json most) (cond d (Accept MsgPack most) (Refuse faults.SerializerUnsupported))) (Refuse faults.ReservedBits)) Dropped ≡ Refuse f → (f ≡ faults.SerializerUnsupported) ⊎ (f ≡ faults.ReservedBits)
refused_by true true true d most f e = absurd (cc)
refused_by true true false true most f e = absurd (cc)
refused_by true true false false most f e = inl (cc)
refused_by true false c d most f e = inr (cc)
refused_by false b c d most f e = absurd (cc)

two_rules : (f : stream.Fault) → (f ≡ faults.SerializerUnsupported) ⊎ (f ≡ faults.ReservedBits) → (read_told (stream_fault f) ≡ Fine) × (write_told (stream_fault f) ≡ Fine)
two_rules f (inl e) = subst (λ x. (read_told (stream_fault x) ≡ Fine) × (write_told (stream_fault x) ≡ Fine)) (sym e) (refl, refl)
two_rules f (inr e) = subst (λ x. (read_told (stream_fault x) ≡ Fine) × (write_told (stream_fault x) ≡ Fine)) (sym e) (refl, refl)

-- a handshake is refused for no fault of a device
pub refused_told : (h : List ℕ) (f : stream.Fault) → answered h ≡ Refuse f → (read_told (stream_fault f) ≡ Fine) × (write_told (stream_fault f) ≡ Fine)
refused_told h f e = two_rules f (refused_by (get_or h 0 0 == 127) (get_or h 2 0 == 0 && get_or h 3 0 == 0) (get_or h 1 0 % 16 == 1) (get_or h 1 0 % 16 == 2) (limit (get_or h 1 0 / 16)) f e)

-- an accepted handshake and the octets after it
pub accepted_opening : (bound : ℕ) (realms : List (List ℕ)) (h octets written : List ℕ) (s : Serializer) (most : ℕ) (answer : Result Session Fault) → length h ≡ 4 → answered h ≡ Accept s most
    → Converses (most_octets bound) (terms s most realms) octets written answer → IsOpening bound realms (h ++ octets) (accepting_within bound s ++ written) answer
accepted_opening bound realms h octets written s most answer four is converses =
    let proceeds : Proceeds bound (terms s most realms) octets (accepting_within bound s ++ written) answer = record { more = written; written_is = refl; converses = converses } in
    inr (
      omega (arith, four, length-append h octets),
      subst (λ a. Follows bound a realms (drop 4 (h ++ octets)) (accepting_within bound s ++ written) answer) (sym (first_four h octets four ∙ is))
          (subst (λ x. Proceeds bound (terms s most realms) x (accepting_within bound s ++ written) answer) (sym (drop_at h octets 4 four)) proceeds),
    )

module _ (bound : ℕ) (realms : List (List ℕ)) (given_before given taken_before taken h : List ℕ) (read : given ≡ given_before ++ h) (four : length h ≡ 4) where
  pub opens_accepted : (s : Serializer) (most : ℕ) (after taken_after : List ℕ) (answer : Result Session Fault) → answered h ≡ Accept s most → taken ≡ taken_before ++ or_nothing (reply_within bound (Accept s most)) → (m : ℕ) → m ≡ most_octets bound
      → ConversesSince m (terms s most realms) (exchange given taken) (exchange after taken_after) answer → OpensSince bound realms (exchange given_before taken_before) (exchange after taken_after) answer
  opens_accepted s most after taken_after answer is wrote m same more = record {
    octets = h ++ more.octets;
    written = accepting_within bound s ++ more.written;
    read = more.read ∙ (ap (λ g. g ++ more.octets) read ∙ append_assoc given_before h more.octets);
    wrote = more.wrote ∙ (ap (λ t. t ++ more.written) wrote ∙ append_assoc taken_before (accepting_within bound s) more.written);
    opening = accepted_opening bound realms h more.octets more.written s most answer four is (subst (λ x. Converses x (terms s most realms) more.octets more.written answer) same more.converses);
  }
