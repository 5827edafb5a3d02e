-- The causes of a device's faults, and that frames decide none of them.
use Rattle.std.proofs.Common.{◌≡◌, ◌⊎◌, ℕ, Bool, true, false, cond, List, [], ◌∷◌, length, get_or, nat_lt, Option, Some, None, inl, inr, refl, sym, subst}
use Rattle.rawsocket.specs.Frames.{Content, fault_of, length_at}
use Rattle.rawsocket.specs.declared.fault.Fault as stream
use Rattle.rawsocket.specs.declared.fault.Fault.TheVariants as of_stream
use Rattle.rawsocket.specs.declared.frame.Kind.{Kind}
use Rattle.rawsocket.specs.declared.frame.Kind.TheVariants.{Message, Ping, Pong}
use Rattle.rawsocket.specs.declared.handshake.Serializer.{Serializer}
use Rattle.rawsocket.specs.declared.handshake.Serializer.TheVariants.{Json, MsgPack}
use Rattle.rawsocket.specs.Steps.{Fine}
use Rattle.session.specs.Faults.{stream_fault, read_told, write_told}
use Rattle.session.specs.Opened.{HasCause, IsRefused, Leads, Verdict, Undecided, Opens, Refuses, terms}
use Rattle.session.specs.declared.fault.Fault.{Fault}
use Rattle.session.specs.declared.fault.Fault.TheVariants.{NoMemory, TooDeep, Malformed, NotRawSocket, SerializerUnsupported, ReservedBits, FrameTooLong, FrameType, Shape, ReadFault, WriteFault, TooLongForClient, Ended, NoSuchRealm, TooManyTurns}
use Rattle.session.proofs.FrameWalkLemmas.{LeadsBy}

-- the same cause, seen from further before
pub weaker : (f : Fault) (ended later : Bool) (r r2 w w2 u u2 : Type 0) → (ended ≡ true → later ≡ true) → (r → r2) → (w → w2) → (u → u2) → HasCause ended r w u f → HasCause later r2 w2 u2 f
weaker NoMemory ended later r r2 w w2 u u2 fe fr fw fu h = tt
weaker TooDeep ended later r r2 w w2 u u2 fe fr fw fu h = tt
weaker Malformed ended later r r2 w w2 u u2 fe fr fw fu h = tt
weaker NotRawSocket ended later r r2 w w2 u u2 fe fr fw fu h = tt
weaker SerializerUnsupported ended later r r2 w w2 u u2 fe fr fw fu h = tt
weaker ReservedBits ended later r r2 w w2 u u2 fe fr fw fu h = tt
weaker FrameTooLong ended later r r2 w w2 u u2 fe fr fw fu h = tt
weaker FrameType ended later r r2 w w2 u u2 fe fr fw fu h = tt
weaker Shape ended later r r2 w w2 u u2 fe fr fw fu h = tt
weaker ReadFault ended later r r2 w w2 u u2 fe fr fw fu h = fr h
weaker WriteFault ended later r r2 w w2 u u2 fe fr fw fu h = fw h
weaker TooLongForClient ended later r r2 w w2 u u2 fe fr fw fu h = tt
weaker Ended ended later r r2 w w2 u u2 fe fr fw fu h = fe h
weaker NoSuchRealm ended later r r2 w w2 u u2 fe fr fw fu h = tt
weaker TooManyTurns ended later r r2 w w2 u u2 fe fr fw fu h = fu h

-- where no read can have failed, none is told
pub no_read_fault : (f : Fault) (ended : Bool) (w u : Type 0) → HasCause ended ⊥ w u f → read_told f ≡ Fine
no_read_fault NoMemory ended w u h = refl
no_read_fault TooDeep ended w u h = refl
no_read_fault Malformed ended w u h = refl
no_read_fault NotRawSocket ended w u h = refl
no_read_fault SerializerUnsupported ended w u h = refl
no_read_fault ReservedBits ended w u h = refl
no_read_fault FrameTooLong ended w u h = refl
no_read_fault FrameType ended w u h = refl
no_read_fault Shape ended w u h = refl
no_read_fault ReadFault ended w u h = absurd h
no_read_fault WriteFault ended w u h = refl
no_read_fault TooLongForClient ended w u h = refl
no_read_fault Ended ended w u h = refl
no_read_fault NoSuchRealm ended w u h = refl
no_read_fault TooManyTurns ended w u h = refl

-- where no write can have failed, none is told
pub no_write_fault : (f : Fault) (ended : Bool) (r u : Type 0) → HasCause ended r ⊥ u f → write_told f ≡ Fine
no_write_fault NoMemory ended r u h = refl
no_write_fault TooDeep ended r u h = refl
no_write_fault Malformed ended r u h = refl
no_write_fault NotRawSocket ended r u h = refl
no_write_fault SerializerUnsupported ended r u h = refl
no_write_fault ReservedBits ended r u h = refl
no_write_fault FrameTooLong ended r u h = refl
no_write_fault FrameType ended r u h = refl
no_write_fault Shape ended r u h = refl
no_write_fault ReadFault ended r u h = refl
no_write_fault WriteFault ended r u h = absurd h
no_write_fault TooLongForClient ended r u h = refl
no_write_fault Ended ended r u h = refl
no_write_fault NoSuchRealm ended r u h = refl
no_write_fault TooManyTurns ended r u h = refl

-- frames refuse for no fault of a device
abbrev pub NeedsNoCause : Verdict → Type 1
NeedsNoCause Undecided = (e : Bool) (r w u : Type 0) → Unit {0}
NeedsNoCause (Opens realm authid early) = (e : Bool) (r w u : Type 0) → Unit {0}
NeedsNoCause (Refuses f) = (e : Bool) (r w u : Type 0) → HasCause e r w u f

refused_for : (s : Serializer) (realms : List (List ℕ)) (payload : List ℕ) (f : Fault) → IsRefused s realms payload f → NeedsNoCause (Refuses f)
refused_for s realms payload NoMemory h = λ e r w u. tt
refused_for s realms payload TooDeep h = λ e r w u. tt
refused_for s realms payload Malformed h = λ e r w u. tt
refused_for s realms payload NotRawSocket h = λ e r w u. tt
refused_for s realms payload SerializerUnsupported h = λ e r w u. tt
refused_for s realms payload ReservedBits h = λ e r w u. tt
refused_for s realms payload FrameTooLong h = λ e r w u. tt
refused_for s realms payload FrameType h = λ e r w u. tt
refused_for s realms payload Shape h = λ e r w u. tt
refused_for Json realms payload ReadFault h = absurd h
refused_for MsgPack realms payload ReadFault h = absurd h
refused_for Json realms payload WriteFault h = absurd h
refused_for MsgPack realms payload WriteFault h = absurd h
refused_for s realms payload TooLongForClient h = λ e r w u. tt
refused_for Json realms payload Ended h = absurd h
refused_for MsgPack realms payload Ended h = absurd h
refused_for s realms payload NoSuchRealm h = λ e r w u. tt
refused_for Json realms payload TooManyTurns h = absurd h
refused_for MsgPack realms payload TooManyTurns h = absurd h

-- a header breaks one of two rules
fault_by : (a b c : Bool) (f : stream.Fault) → cond a None (cond b (Some of_stream.FrameType) (cond c (Some of_stream.FrameTooLong) None)) ≡ Some f → (f ≡ of_stream.FrameType) ⊎ (f ≡ of_stream.FrameTooLong)
fault_by true b c f e = absurd (cc)
fault_by false true c f e = inl (cc)
fault_by false false true f e = inr (cc)
fault_by false false false f e = absurd (cc)

header_faults : (most : ℕ) (octets : List ℕ) (f : stream.Fault) → fault_of most octets ≡ Some f → (f ≡ of_stream.FrameType) ⊎ (f ≡ of_stream.FrameTooLong)
header_faults most octets f e = fault_by (nat_lt (length octets) 4) (nat_lt 2 (get_or octets 0 0)) (nat_lt most (length_at octets)) f e

rest_refused : (f : stream.Fault) → (f ≡ of_stream.FrameType) ⊎ (f ≡ of_stream.FrameTooLong) → NeedsNoCause (Refuses (stream_fault f))
rest_refused f (inl e) = subst (λ x. NeedsNoCause (Refuses (stream_fault x))) (sym e) (λ ended r w u. tt)
rest_refused f (inr e) = subst (λ x. NeedsNoCause (Refuses (stream_fault x))) (sym e) (λ ended r w u. tt)

module _ (most : ℕ) (s : Serializer) (limit : ℕ) (realms : List (List ℕ)) where
  by_kind : (k : Kind) (payload : List ℕ) (frames : List Content) (Next : List ℕ → Verdict → Type 0) (out : List ℕ) (v : Verdict) → ((o : List ℕ) → Next o v → NeedsNoCause v)
      → LeadsBy s limit realms payload frames Next k out v → NeedsNoCause v
  by_kind Message payload frames Next out v next (inl greets) = subst NeedsNoCause (sym greets.verdict) (λ e r w u. tt)
  by_kind Message payload frames Next out v next (inr fails) = subst NeedsNoCause (sym fails.verdict) (refused_for s realms payload fails.fault fails.refused)
  by_kind Ping payload frames Next out v next (inl answers) = next answers.more answers.next
  by_kind Ping payload frames Next out v next (inr long) = subst NeedsNoCause (sym long.verdict) (λ e r w u. tt)
  by_kind Pong payload frames Next out v next w = next out w

  at_end : (fault : Option stream.Fault) (out : List ℕ) (v : Verdict) → ((f : stream.Fault) → fault ≡ Some f → (f ≡ of_stream.FrameType) ⊎ (f ≡ of_stream.FrameTooLong))
      → Leads (terms s limit realms) fault [] out v → NeedsNoCause v
  at_end None out v two w = subst NeedsNoCause (sym w.1) (λ e r t u. tt)
  at_end (Some f) out v two w = subst NeedsNoCause (sym w.1) (rest_refused f (two f refl))

  pub Leads-needs_no_cause : (held : List ℕ) (frames : List Content) (out : List ℕ) (v : Verdict) → Leads (terms s limit realms) (fault_of most held) frames out v → NeedsNoCause v
  Leads-needs_no_cause held [] out v w = at_end (fault_of most held) out v (header_faults most held) w
  Leads-needs_no_cause held (c ∷ frames) out v w = by_kind c.kind c.payload frames (Leads (terms s limit realms) (fault_of most held) frames) out v (λ o next. Leads-needs_no_cause held frames o v next) w
