-- What a client's octets decide is one thing.
use Rattle.std.proofs.Common.{◌≡◌, ◌⊎◌, ℕ, List, [], ◌∷◌, ◌++◌, Bool, true, false, Option, None, Some, Result, Ok, Err, inl, inr, refl, sym, ap, ◌∙◌, subst, drop, arith}
use Rattle.message_tree.specs.Data.{Data}
use Rattle.json_codec.proofs.Lemmas.{deep-no-other, one-tree, readable}
use Rattle.msgpack_codec.proofs.Lemmas.{one_spelling, spelled-not-deep}
use Rattle.rawsocket.specs.Bounds.{most_octets}
use Rattle.rawsocket.specs.Frames.{Content, fault_of, Reads, kept, spelled}
use Rattle.rawsocket.specs.Handshakes.{accepting_within, answered}
use Rattle.rawsocket.specs.declared.fault.Fault as stream
use Rattle.rawsocket.specs.declared.frame.Kind.{Kind}
use Rattle.rawsocket.specs.declared.frame.Kind.TheVariants as kind
use Rattle.rawsocket.specs.declared.handshake.Serializer.{Serializer}
use Rattle.rawsocket.specs.declared.handshake.Serializer.TheVariants.{Json, MsgPack}
use Rattle.rawsocket.specs.declared.handshake.Handshake.{Handshake}
use Rattle.rawsocket.specs.declared.handshake.Handshake.TheVariants.{Accept, Refuse, Dropped}
use Rattle.rawsocket.proofs.Lemmas.{one_split}
use Rattle.session.specs.Laws.{AreAlike, OneOpening, OneVerdict}
use Rattle.session.specs.Opened.{Asks, Converses, Follows, IsAnswer, IsNoHello, IsRefused, Leads, Session, Verdict, Undecided, Opens, Refuses, pong, refusal, terms}
use Rattle.session.specs.FirstMessage.{first_of, is_hello}
use Rattle.session.specs.FromClient.{said_of}
use Rattle.session.specs.Serializer.{Decodes, IsUndecodable}
use Rattle.session.specs.declared.fault.Fault.{Fault}
use Rattle.session.specs.declared.fault.Fault.TheVariants.{NoMemory, TooDeep, Malformed, NotRawSocket, SerializerUnsupported, ReservedBits, FrameTooLong, FrameType, Shape, ReadFault, WriteFault, TooLongForClient, Ended, NoSuchRealm, TooManyTurns}
use Rattle.wamp_messages.specs.declared.said.Said.{Said}
use Rattle.wamp_messages.specs.declared.said.Said.TheVariants as say
use Rattle.session.proofs.FrameWalkLemmas.{LeadsBy}

-- octets are one message at most
one-message : (s : Serializer) (octets : List ℕ) (d e : Data) → Decodes s octets d → Decodes s octets e → d ≡ e
one-message Json octets d e x y = one-tree octets d e x.0 y.0
one-message MsgPack octets d e x y = (one_spelling 100 octets octets [] [] d e x y refl).0

-- a message is not undecodable
decodable : (s : Serializer) (octets : List ℕ) (d : Data) → Decodes s octets d → (IsUndecodable s octets TooDeep → ⊥) × (IsUndecodable s octets Malformed → ⊥)
decodable Json octets d x = ((λ y. deep-no-other octets d x.0 x.1 y), (λ y. readable octets x.0.0 x.0.1 y))
decodable MsgPack octets d x = ((λ y. spelled-not-deep 100 octets d x y), (λ y. y.unspelled d x))

-- what is undecodable is so for one fault
one-reason : (s : Serializer) (octets : List ℕ) → IsUndecodable s octets TooDeep → IsUndecodable s octets Malformed → ⊥
one-reason Json octets x y = readable octets x.0 x.1 y
one-reason MsgPack octets x y = y.shallow x

-- what a message decides
abbrev by_first : Bool → Option (ℕ × Option (List ℕ)) → Result (ℕ × Option (List ℕ)) Fault
by_first hello (Some asked) = Ok asked
by_first true None = Err NoSuchRealm
by_first false None = Err Shape

abbrev by_said : List (List ℕ) → Option Said → Result (ℕ × Option (List ℕ)) Fault
by_said realms None = Err Shape
by_said realms (Some said) = by_first (is_hello said) (first_of said realms)

-- what a payload decides: by its message, or by why it has none
abbrev Decides : Serializer → List (List ℕ) → List ℕ → Result (ℕ × Option (List ℕ)) Fault → Type 0
Decides s realms payload r =
    ((d : Data) × Decodes s payload d × (r ≡ by_said realms (said_of d)))
    ⊎ ((IsUndecodable s payload TooDeep × (r ≡ Err TooDeep)) ⊎ (IsUndecodable s payload Malformed × (r ≡ Err Malformed)))

one-decision : (s : Serializer) (realms : List (List ℕ)) (payload : List ℕ) (q r : Result (ℕ × Option (List ℕ)) Fault) → Decides s realms payload q → Decides s realms payload r → q ≡ r
one-decision s realms payload q r (inl x) (inl y) =
    x.2 ∙ (ap (λ d. by_said realms (said_of d)) (one-message s payload x.0 y.0 x.1 y.1) ∙ sym y.2)
one-decision s realms payload q r (inl x) (inr (inl y)) = absurd ((decodable s payload x.0 x.1).0 y.0)
one-decision s realms payload q r (inl x) (inr (inr y)) = absurd ((decodable s payload x.0 x.1).1 y.0)
one-decision s realms payload q r (inr (inl x)) (inl y) = absurd ((decodable s payload y.0 y.1).0 x.0)
one-decision s realms payload q r (inr (inl x)) (inr (inl y)) = x.1 ∙ sym y.1
one-decision s realms payload q r (inr (inl x)) (inr (inr y)) = absurd (one-reason s payload x.0 y.0)
one-decision s realms payload q r (inr (inr x)) (inl y) = absurd ((decodable s payload y.0 y.1).1 x.0)
one-decision s realms payload q r (inr (inr x)) (inr (inl y)) = absurd (one-reason s payload y.0 x.0)
one-decision s realms payload q r (inr (inr x)) (inr (inr y)) = x.1 ∙ sym y.1

-- what isn't HELLO asks for nothing
no-first : (said : Said) (realms : List (List ℕ)) → is_hello said ≡ false → first_of said realms ≡ None
no-first (say.Hello realm authid) realms other = absurd (cc)
no-first say.Abort realms other = refl
no-first say.Goodbye realms other = refl
no-first (say.Publish asks) realms other = refl
no-first (say.Subscribe request options topic) realms other = refl
no-first (say.Unsubscribe request subscription) realms other = refl

shape : (realms : List (List ℕ)) (heard : Option Said) → IsNoHello heard → Err Shape ≡ by_said realms heard
shape realms None other = refl
shape realms (Some said) other = rw (other, no-first said realms other) refl

asked-decides : (s : Serializer) (realms : List (List ℕ)) (payload : List ℕ) (asked : ℕ × Option (List ℕ)) → Asks s realms payload asked → Decides s realms payload (Ok asked)
asked-decides s realms payload asked x = inl (x.message, x.decodes, rw (x.says, x.first) refl)

-- no message is undecodable for another fault
never : (s : Serializer) (payload : List ℕ) (f : Fault) → IsUndecodable s payload f → (f ≡ TooDeep) ⊎ (f ≡ Malformed)
never Json payload NoMemory x = absurd x
never Json payload TooDeep x = inl refl
never Json payload Malformed x = inr refl
never Json payload NotRawSocket x = absurd x
never Json payload SerializerUnsupported x = absurd x
never Json payload ReservedBits x = absurd x
never Json payload FrameTooLong x = absurd x
never Json payload FrameType x = absurd x
never Json payload Shape x = absurd x
never Json payload ReadFault x = absurd x
never Json payload WriteFault x = absurd x
never Json payload TooLongForClient x = absurd x
never Json payload Ended x = absurd x
never Json payload NoSuchRealm x = absurd x
never Json payload TooManyTurns x = absurd x
never MsgPack payload NoMemory x = absurd x
never MsgPack payload TooDeep x = inl refl
never MsgPack payload Malformed x = inr refl
never MsgPack payload NotRawSocket x = absurd x
never MsgPack payload SerializerUnsupported x = absurd x
never MsgPack payload ReservedBits x = absurd x
never MsgPack payload FrameTooLong x = absurd x
never MsgPack payload FrameType x = absurd x
never MsgPack payload Shape x = absurd x
never MsgPack payload ReadFault x = absurd x
never MsgPack payload WriteFault x = absurd x
never MsgPack payload TooLongForClient x = absurd x
never MsgPack payload Ended x = absurd x
never MsgPack payload NoSuchRealm x = absurd x
never MsgPack payload TooManyTurns x = absurd x

undecoded : (s : Serializer) (realms : List (List ℕ)) (payload : List ℕ) (f : Fault) → IsUndecodable s payload f → Decides s realms payload (Err f)
undecoded s realms payload f x =
    elim (never s payload f x) [
      | inl deep ↦ inr (inl (subst (IsUndecodable s payload) deep x, ap Err deep))
      | inr bad ↦ inr (inr (subst (IsUndecodable s payload) bad x, ap Err bad))
    ]

refused-decides : (s : Serializer) (realms : List (List ℕ)) (payload : List ℕ) (f : Fault) → IsRefused s realms payload f → Decides s realms payload (Err f)
refused-decides s realms payload NoMemory x = undecoded s realms payload NoMemory x
refused-decides s realms payload TooDeep x = undecoded s realms payload TooDeep x
refused-decides s realms payload Malformed x = undecoded s realms payload Malformed x
refused-decides s realms payload NotRawSocket x = undecoded s realms payload NotRawSocket x
refused-decides s realms payload SerializerUnsupported x = undecoded s realms payload SerializerUnsupported x
refused-decides s realms payload ReservedBits x = undecoded s realms payload ReservedBits x
refused-decides s realms payload FrameTooLong x = undecoded s realms payload FrameTooLong x
refused-decides s realms payload FrameType x = undecoded s realms payload FrameType x
refused-decides s realms payload Shape x = inl (x.message, x.decodes, shape realms (said_of x.message) x.no_hello)
refused-decides s realms payload ReadFault x = undecoded s realms payload ReadFault x
refused-decides s realms payload WriteFault x = undecoded s realms payload WriteFault x
refused-decides s realms payload TooLongForClient x = undecoded s realms payload TooLongForClient x
refused-decides s realms payload Ended x = undecoded s realms payload Ended x
refused-decides s realms payload NoSuchRealm x = inl (x.message, x.decodes, rw (x.says, x.hello, x.none) refl)
refused-decides s realms payload TooManyTurns x = undecoded s realms payload TooManyTurns x

-- by the kind of a frame, where what comes behind it decides one thing
by-kind : (s : Serializer) (limit : ℕ) (realms : List (List ℕ)) (payload : List ℕ) (frames : List Content) (Next : List ℕ → Verdict → Type 0)
    → ((out told : List ℕ) (v w : Verdict) → Next out v → Next told w → (out ≡ told) × (v ≡ w))
    → (k : Kind) (out told : List ℕ) (v w : Verdict) → LeadsBy s limit realms payload frames Next k out v → LeadsBy s limit realms payload frames Next k told w → (out ≡ told) × (v ≡ w)
by-kind s limit realms payload frames Next once kind.Message out told v w (inl x) (inl y) =
    let both : Ok x.asked ≡ Ok y.asked = one-decision s realms payload (Ok x.asked) (Ok y.asked) (asked-decides s realms payload x.asked x.asks) (asked-decides s realms payload y.asked y.asks) in
    let same : x.asked ≡ y.asked = cc in
    (x.out_is ∙ sym y.out_is, x.verdict ∙ (ap (λ a. Opens a.0 a.1 frames) same ∙ sym y.verdict))
by-kind s limit realms payload frames Next once kind.Message out told v w (inl x) (inr y) =
    let both : Ok x.asked ≡ Err y.fault = one-decision s realms payload (Ok x.asked) (Err y.fault) (asked-decides s realms payload x.asked x.asks) (refused-decides s realms payload y.fault y.refused) in
    absurd (cc)
by-kind s limit realms payload frames Next once kind.Message out told v w (inr x) (inl y) =
    let both : Ok y.asked ≡ Err x.fault = one-decision s realms payload (Ok y.asked) (Err x.fault) (asked-decides s realms payload y.asked y.asks) (refused-decides s realms payload x.fault x.refused) in
    absurd (cc)
by-kind s limit realms payload frames Next once kind.Message out told v w (inr x) (inr y) =
    let both : Err x.fault ≡ Err y.fault = one-decision s realms payload (Err x.fault) (Err y.fault) (refused-decides s realms payload x.fault x.refused) (refused-decides s realms payload y.fault y.refused) in
    let same : x.fault ≡ y.fault = cc in
    (x.out_is ∙ (ap (refusal s) same ∙ sym y.out_is), x.verdict ∙ (ap Refuses same ∙ sym y.verdict))
by-kind s limit realms payload frames Next once kind.Ping out told v w (inl x) (inl y) =
    let rest = once x.more y.more v w x.next y.next in
    (x.out_is ∙ (ap (λ more. spelled (pong payload) ++ more) rest.0 ∙ sym y.out_is), rest.1)
by-kind s limit realms payload frames Next once kind.Ping out told v w (inl x) (inr y) = absurd (omega (arith, x.fits, y.long))
by-kind s limit realms payload frames Next once kind.Ping out told v w (inr x) (inl y) = absurd (omega (arith, y.fits, x.long))
by-kind s limit realms payload frames Next once kind.Ping out told v w (inr x) (inr y) = (x.out_is ∙ sym y.out_is, x.verdict ∙ sym y.verdict)
by-kind s limit realms payload frames Next once kind.Pong out told v w x y = once out told v w x y

leads-once : (s : Serializer) (limit : ℕ) (realms : List (List ℕ)) (fault : Option stream.Fault) (frames : List Content) (out told : List ℕ) (v w : Verdict)
    → Leads (terms s limit realms) fault frames out v → Leads (terms s limit realms) fault frames told w → (out ≡ told) × (v ≡ w)
leads-once s limit realms None [] out told v w x y = (x.0 ∙ sym y.0, x.1 ∙ sym y.1)
leads-once s limit realms (Some f) [] out told v w x y = (x.0 ∙ sym y.0, x.1 ∙ sym y.1)
leads-once s limit realms fault (c ∷ frames) out told v w x y =
    by-kind s limit realms c.payload frames (Leads (terms s limit realms) fault frames) (leads-once s limit realms fault frames) c.kind out told v w x y

-- octets are split in one way, and one rest is held
reads-once : (most : ℕ) (octets : List ℕ) (frames others : List Content) (held left : List ℕ) → Reads most octets frames held → Reads most octets others left → (others ≡ frames) × (left ≡ held)
reads-once most octets frames others held left x y =
    let same = one_split most others frames octets y.rest x.rest y.splits x.splits in
    (same.0, y.held_is ∙ (ap (kept most) same.1 ∙ sym x.held_is))

pub one-verdict : OneVerdict
one-verdict most s limit realms octets frames others held left written told v w x y leads other =
    let same = reads-once most octets frames others held left x y in
    leads-once s limit realms (fault_of most held) frames written told v w leads
    (subst (λ fs. Leads (terms s limit realms) (fault_of most held) fs told w) same.0 (subst (λ h. Leads (terms s limit realms) (fault_of most h) others told w) same.1 other))

one-answer : (most : ℕ) (s : Serializer) (limit : ℕ) (held : List ℕ) (v : Verdict) (a b : Result Session Fault) → IsAnswer most s limit held v a → IsAnswer most s limit held v b → AreAlike a b
one-answer most s limit held Undecided a b x y = inr (x, y)
one-answer most s limit held (Opens realm authid early) a b x y = inl (x ∙ sym y)
one-answer most s limit held (Refuses fault) a b x y = inl (x ∙ sym y)

converses-once : (most : ℕ) (s : Serializer) (limit : ℕ) (realms : List (List ℕ)) (octets written told : List ℕ) (a b : Result Session Fault)
    → Converses most (terms s limit realms) octets written a → Converses most (terms s limit realms) octets told b → (written ≡ told) × AreAlike a b
converses-once most s limit realms octets written told a b x y =
    let held = (reads-once most octets x.frames y.frames x.held y.held x.reads y.reads).1 in
    let same = one-verdict most s limit realms octets x.frames y.frames x.held y.held written told x.verdict y.verdict x.reads y.reads x.leads y.leads in
    let other = subst (λ h. IsAnswer most s limit h x.verdict b) held (subst (λ v. IsAnswer most s limit y.held v b) (sym same.1) y.answers) in
    (same.0, one-answer most s limit x.held x.verdict a b x.answers other)

follows-once : (bound : ℕ) (h : Handshake) (realms : List (List ℕ)) (octets written told : List ℕ) (a b : Result Session Fault)
    → Follows bound h realms octets written a → Follows bound h realms octets told b → (written ≡ told) × AreAlike a b
follows-once bound (Accept s limit) realms octets written told a b x y =
    let same = converses-once (most_octets bound) s limit realms octets x.more y.more a b x.converses y.converses in
    (x.written_is ∙ (ap (λ more. accepting_within bound s ++ more) same.0 ∙ sym y.written_is), same.1)
follows-once bound (Refuse fault) realms octets written told a b x y = (x.0 ∙ sym y.0, inl (x.1 ∙ sym y.1))
follows-once bound Dropped realms octets written told a b x y = (x.0 ∙ sym y.0, inl (x.1 ∙ sym y.1))

pub one-opening : OneOpening
one-opening bound realms octets written told a b (inl x) (inl y) = (x.1 ∙ sym y.1, inr (x.2, y.2))
one-opening bound realms octets written told a b (inl x) (inr y) = absurd (omega (arith, x.0, y.0))
one-opening bound realms octets written told a b (inr x) (inl y) = absurd (omega (arith, x.0, y.0))
one-opening bound realms octets written told a b (inr x) (inr y) = follows-once bound (answered octets) realms (drop 4 octets) written told a b x.1 y.1
