-- The causes of a device's faults.
use Rattle.std.proofs.Common.{◌≡◌, ◌⊎◌, ℕ, Result, Ok, Err, inl, inr, refl, sym, ◌∙◌, arith}
use Rattle.std.specs.Prelude.{◌≢◌, OnOk, IfErr}
use Rattle.rawsocket.specs.Steps.{Meter, Fine, Steps, device_told, told_by}
use Rattle.rawsocket.specs.declared.fault.Fault as stream
use Rattle.rawsocket.specs.declared.fault.Fault.TheVariants as of_stream
use Rattle.replay.specs.Outcome.{HasCause, read_told, write_told}
use Rattle.replay.specs.declared.fault.Fault.{Fault}
use Rattle.replay.specs.declared.fault.Fault.TheVariants.{NoMemory, ReadFault, WriteFault, BadLine, TooManyTurns}

-- the same cause, seen from further before
pub weaker : (f : Fault) (r r2 w w2 u u2 : Type 0) → (r → r2) → (w → w2) → (u → u2) → HasCause r w u f → HasCause r2 w2 u2 f
weaker NoMemory r r2 w w2 u u2 fr fw fu h = tt
weaker ReadFault r r2 w w2 u u2 fr fw fu h = fr h
weaker WriteFault r r2 w w2 u u2 fr fw fu h = fw h
weaker (BadLine k) r r2 w w2 u u2 fr fw fu h = tt
weaker TooManyTurns r r2 w w2 u u2 fr fw fu h = fu h

-- where no read can have failed, none is told
pub no_read_fault : (f : Fault) (w u : Type 0) → HasCause ⊥ w u f → read_told f ≡ Fine
no_read_fault NoMemory w u h = refl
no_read_fault ReadFault w u h = absurd h
no_read_fault WriteFault w u h = refl
no_read_fault (BadLine k) w u h = refl
no_read_fault TooManyTurns w u h = refl

-- where no write can have failed, none is told
pub no_write_fault : (f : Fault) (r u : Type 0) → HasCause r ⊥ u f → write_told f ≡ Fine
no_write_fault NoMemory r u h = refl
no_write_fault ReadFault r u h = refl
no_write_fault WriteFault r u h = absurd h
no_write_fault (BadLine k) r u h = refl
no_write_fault TooManyTurns r u h = refl

-- a bad line is no fault of a device
pub bad-not-read : (f : Fault) (k : ℕ) → f ≡ BadLine k → f ≢ ReadFault
bad-not-read f k is read = let same : BadLine k ≡ ReadFault = sym is ∙ read in cc

pub bad-not-write : (f : Fault) (k : ℕ) → f ≡ BadLine k → f ≢ WriteFault
bad-not-write f k is write = let same : BadLine k ≡ WriteFault = sym is ∙ write in cc

-- where no failure was told, it is done, or no turn is left
pub done_or_used : {P : Type 0} {a b : Meter} (r : Result Unit stream.Fault) → OnOk r P → IfErr r (λ f. f ≢ of_stream.WriteFault → f ≡ of_stream.TooManyTurns) → Steps a b (told_by device_told r)
    → b.failures ≡ a.failures → P ⊎ (b.turns ≡ 0)
done_or_used (Ok u) done which s same = inl done
done_or_used (Err of_stream.WriteFault) done which s same = absurd (omega (arith, s.failures, same))
done_or_used (Err of_stream.TooManyTurns) done which s same = inr s.turns
done_or_used (Err of_stream.NoMemory) done which s same = absurd (let never : of_stream.NoMemory ≡ of_stream.TooManyTurns = which (λ (e : of_stream.NoMemory ≡ of_stream.WriteFault). cc) in cc)
done_or_used (Err of_stream.SerializerUnsupported) done which s same = absurd (let never : of_stream.SerializerUnsupported ≡ of_stream.TooManyTurns = which (λ (e : of_stream.SerializerUnsupported ≡ of_stream.WriteFault). cc) in cc)
done_or_used (Err of_stream.ReservedBits) done which s same = absurd (let never : of_stream.ReservedBits ≡ of_stream.TooManyTurns = which (λ (e : of_stream.ReservedBits ≡ of_stream.WriteFault). cc) in cc)
done_or_used (Err of_stream.FrameTooLong) done which s same = absurd (let never : of_stream.FrameTooLong ≡ of_stream.TooManyTurns = which (λ (e : of_stream.FrameTooLong ≡ of_stream.WriteFault). cc) in cc)
done_or_used (Err of_stream.FrameType) done which s same = absurd (let never : of_stream.FrameType ≡ of_stream.TooManyTurns = which (λ (e : of_stream.FrameType ≡ of_stream.WriteFault). cc) in cc)
done_or_used (Err of_stream.ReadFault) done which s same = absurd (let never : of_stream.ReadFault ≡ of_stream.TooManyTurns = which (λ (e : of_stream.ReadFault ≡ of_stream.WriteFault). cc) in cc)
