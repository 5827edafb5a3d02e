-- The fault for a read that gave no octets.
use Rattle.std.proofs.Common.{◌≡◌, ◌<◌, ◌⊎◌, Bool, true, inl, inr, refl, sym, subst, arith}
use Rattle.rawsocket.specs.Steps.{Meter, Steps, piece_told}
use Rattle.rawsocket.specs.declared.devices.no_octets.NoOctets.{NoOctets}
use Rattle.rawsocket.specs.declared.devices.no_octets.NoOctets.TheVariants as no_octets
use Rattle.session.specs.Faults.{piece_fault, read_told}
use Rattle.session.specs.Opened.{HasCause, is_decided}
use Rattle.session.specs.declared.fault.Fault.{Fault}
use Rattle.session.specs.declared.fault.Fault.TheVariants.{Ended, ReadFault}

-- it tells of the stream what the read told, but whose turns were used up
steps_of : (why : NoOctets) (a b : Meter) → Steps a b (piece_told why) → Steps a b (read_told (piece_fault why))
steps_of no_octets.Ended a b s = s
steps_of no_octets.Failed a b s = s
steps_of no_octets.TooManyTurns a b s = record { name = s.name; calls = s.calls; failures = s.failures; turns = tt }

pub piece_steps : {a b : Meter} (why : NoOctets) (fault : Fault) → fault ≡ piece_fault why → Steps a b (piece_told why) → Steps a b (read_told fault)
piece_steps {a} {b} why fault is s = subst (λ f. Steps a b (read_told f)) (sym is) (steps_of why a b s)

end_of : (why : NoOctets) → is_decided (piece_fault why) ≡ true → (piece_fault why ≡ Ended) ⊎ (piece_fault why ≡ ReadFault)
end_of no_octets.Ended decided = inl refl
end_of no_octets.Failed decided = inr refl
end_of no_octets.TooManyTurns decided = absurd (cc)

-- where it is decided, the stream ended or failed
pub piece_end : (why : NoOctets) (fault : Fault) → fault ≡ piece_fault why → is_decided fault ≡ true → (fault ≡ Ended) ⊎ (fault ≡ ReadFault)
piece_end why fault is = subst (λ f. is_decided f ≡ true → (f ≡ Ended) ⊎ (f ≡ ReadFault)) (sym is) (end_of why)

cause_of : (why : NoOctets) (a b : Meter) (ended : Bool) (w u : Type 0) → (why ≡ no_octets.Ended → ended ≡ true) → (b.turns ≡ 0 → u) → Steps a b (piece_told why) → HasCause ended (a.failures < b.failures) w u (piece_fault why)
cause_of no_octets.Ended a b ended w u at_end used s = at_end refl
cause_of no_octets.Failed a b ended w u at_end used s = omega (arith, s.failures)
cause_of no_octets.TooManyTurns a b ended w u at_end used s = used s.turns

-- it has its cause
pub piece_cause : {a b : Meter} (why : NoOctets) (fault : Fault) (ended : Bool) (w u : Type 0) → fault ≡ piece_fault why → (why ≡ no_octets.Ended → ended ≡ true) → (b.turns ≡ 0 → u) → Steps a b (piece_told why)
    → HasCause ended (a.failures < b.failures) w u fault
piece_cause {a} {b} why fault ended w u is at_end used s =
    subst (HasCause ended (a.failures < b.failures) w u) (sym is) (cause_of why a b ended w u at_end used s)
