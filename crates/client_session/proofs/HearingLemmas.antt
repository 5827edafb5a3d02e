-- What is read and passed over until the next message is heard.
use Rattle.std.proofs.Common.{◌≡◌, ◌≢◌, ◌<◌, ◌++◌, ℕ, List, [], ◌∷◌, length, take, drop, Option, Some, None, Result, Ok, Err, inl, inr, refl, sym, ap, ◌∙◌, subst, append_assoc, append-nil, arith}
use Rattle.std.specs.Prelude.{OnOk}
use Rattle.std.proofs.lemmas.List.{take_all, take-append-drop, length-take}
use Rattle.rawsocket.specs.Frames.{Content, contents, spelled, fault_of, kept, Reads, BeginsFrame}
use Rattle.rawsocket.proofs.Lemmas.{pieces_join}
use Rattle.rawsocket.proofs.Stream.{fault_on, kept_fine}
use Rattle.rawsocket.specs.declared.fault.Fault as stream
use Rattle.rawsocket.specs.declared.frame.Frame.{Frame}
use Rattle.client_messages.specs.declared.heard.Heard.{Heard}
use Rattle.client_session.specs.Hearing.{client_takes, Terms, Stand, stand, Ear, ear, Gives, PassesOver, IsQuiet, IsSilent, Stops, ReadsMore, ReadStops, IsLost, IsNext, HearsNext, HearsNone, HearsNoneYet, ListensNext}
use Rattle.client_session.specs.declared.fault.Fault.{Fault}
use Rattle.client_session.specs.declared.fault.Fault.TheVariants.{NoMemory, Refused, NoBroker, FrameTooLong, FrameType, TooDeep, Malformed, NoBrokerMessage, Unsayable, TooLongForBroker, Ended, ReadFault, WriteFault, TooManyReads, TooManyWrites}
use Rattle.client_session.proofs.PassingLemmas.{begins_whole, hears_after, passes_none, quiet_after, stops_after}

abbrev failed : Fault → Result Heard Fault
failed fault = Err fault

module _ (t : Terms) where
  -- for a fault of frames
  next_stops : (a b : Stand) (held : List ℕ) (fault : Fault) → Stops t a b fault → IsNext t a b held (Err fault)
  next_stops a b held NoMemory w = w
  next_stops a b held WriteFault w = w
  next_stops a b held TooManyWrites w = w
  next_stops a b held TooLongForBroker w = w
  next_stops a b held TooDeep w = w
  next_stops a b held Malformed w = w
  next_stops a b held NoBrokerMessage w = w
  next_stops a b held (Refused code) w = absurd w
  next_stops a b held NoBroker w = absurd w
  next_stops a b held FrameTooLong w = absurd w
  next_stops a b held FrameType w = absurd w
  next_stops a b held Unsayable w = absurd w
  next_stops a b held Ended w = absurd w
  next_stops a b held ReadFault w = absurd w
  next_stops a b held TooManyReads w = absurd w

  -- what frames give that waited, or that octets complete
  listened : (before now : Ear) (octets : List ℕ) (frames : List Content) (result : Result (Option Heard) Fault) → now.given ≡ before.given ++ octets → Reads client_takes (before.held ++ octets) frames now.held
      → Gives t (stand (before.waiting ++ frames) before.taken) (stand now.waiting now.taken) result → ListensNext t before now result
  listened before now octets frames (Ok (Some heard)) read reads gives = record {
    octets = octets;
    lost = [];
    read = read ∙ ap (λ o. before.given ++ o) (sym (append-nil octets));
    none_lost = λ _. refl;
    frames = frames;
    reads = reads;
    next = gives;
  }
  listened before now octets frames (Ok None) read reads gives = record { octets = octets; read = read; frames = frames; reads = reads; quiet = gives }
  listened before now octets frames (Err fault) read reads gives = record {
    octets = octets;
    lost = [];
    read = read ∙ ap (λ o. before.given ++ o) (sym (append-nil octets));
    none_lost = λ _. refl;
    frames = frames;
    reads = reads;
    next = next_stops (stand (before.waiting ++ frames) before.taken) (stand now.waiting now.taken) now.held fault gives;
  }

  -- what is held stays so
  still : (held : List ℕ) → Reads client_takes held [] held → Reads client_takes (held ++ []) [] held
  still held steady = subst (λ o. Reads client_takes o [] held) (sym (append-nil held)) steady

  -- the frames that waited give it
  pub listened_waiting : (waiting here left : List Content) (held held_now given given_now taken now : List ℕ) (result : Result (Option Heard) Fault) → here ≡ waiting → held_now ≡ held → given_now ≡ given
      → Reads client_takes held [] held → Gives t (stand here taken) (stand left now) result → ListensNext t (ear waiting held given taken) (ear left held_now given_now now) result
  listened_waiting waiting here left held held_now given given_now taken now result here_is held_is given_is steady gives =
      listened (ear waiting held given taken) (ear left held_now given_now now) [] [] result (given_is ∙ sym (append-nil given))
      (subst (λ h. Reads client_takes (held ++ []) [] h) (sym held_is) (still held steady))
      (subst (λ f. Gives t (stand f taken) (stand left now) result) (here_is ∙ sym (append-nil waiting)) gives)

  -- none waited, and those that came give it
  pub listened_read : (waiting more here left : List Content) (held new held_now given after given_now taken now : List ℕ) (result : Result (Option Heard) Fault) → waiting ≡ [] → here ≡ more → held_now ≡ new → given_now ≡ after
      → ReadsMore held new given after more → Gives t (stand here taken) (stand left now) result → ListensNext t (ear waiting held given taken) (ear left held_now given_now now) result
  listened_read waiting more here left held new held_now given after given_now taken now result none here_is held_is given_is reads gives =
      subst (λ w. ListensNext t (ear w held given taken) (ear left held_now given_now now) result) (sym none)
      (listened (ear [] held given taken) (ear left held_now given_now now) reads.piece more result (given_is ∙ reads.read)
      (subst (λ h. Reads client_takes (held ++ reads.piece) more h) (sym held_is) reads.reads)
      (subst (λ f. Gives t (stand f taken) (stand left now) result) here_is gives))

  -- for a fault of reading
  next_silent : (a b : Stand) (held : List ℕ) (fault : Fault) → IsQuiet t a b → ReadStops held fault → IsNext t a b held (Err fault)
  next_silent a b held NoMemory q w = begins_whole t.limit a b q.passes
  next_silent a b held FrameTooLong q w = record { quiet = q; why = w }
  next_silent a b held FrameType q w = record { quiet = q; why = w }
  next_silent a b held Ended q w = record { quiet = q; why = w }
  next_silent a b held ReadFault q w = record { quiet = q; why = w }
  next_silent a b held TooManyReads q w = record { quiet = q; why = w }
  next_silent a b held WriteFault q w = absurd w
  next_silent a b held TooManyWrites q w = absurd w
  next_silent a b held TooLongForBroker q w = absurd w
  next_silent a b held TooDeep q w = absurd w
  next_silent a b held Malformed q w = absurd w
  next_silent a b held NoBrokerMessage q w = absurd w
  next_silent a b held (Refused code) q w = absurd w
  next_silent a b held NoBroker q w = absurd w
  next_silent a b held Unsayable q w = absurd w

  -- what is lost of the octets
  Loss : List ℕ → List ℕ → Fault → Type 0
  Loss given after fault = (lost : List ℕ) × (after ≡ given ++ lost) × (failed fault ≢ failed NoMemory → lost ≡ [])

  no_loss : (given after : List ℕ) (fault : Fault) → after ≡ given → Loss given after fault
  unfolding Loss
  no_loss given after fault e = ([], e ∙ sym (append-nil given), λ _. refl)

  loss_of : (given after : List ℕ) (fault : Fault) → IsLost given after fault → Loss given after fault
  unfolding Loss
  loss_of given after NoMemory w = (w.0, w.1, λ other. absurd (other refl))
  loss_of given after FrameTooLong w = no_loss given after FrameTooLong w
  loss_of given after FrameType w = no_loss given after FrameType w
  loss_of given after Ended w = no_loss given after Ended w
  loss_of given after ReadFault w = no_loss given after ReadFault w
  loss_of given after TooManyReads w = no_loss given after TooManyReads w
  loss_of given after WriteFault w = no_loss given after WriteFault w
  loss_of given after TooManyWrites w = no_loss given after TooManyWrites w
  loss_of given after TooLongForBroker w = no_loss given after TooLongForBroker w
  loss_of given after TooDeep w = no_loss given after TooDeep w
  loss_of given after Malformed w = no_loss given after Malformed w
  loss_of given after NoBrokerMessage w = no_loss given after NoBrokerMessage w
  loss_of given after (Refused code) w = no_loss given after (Refused code) w
  loss_of given after NoBroker w = no_loss given after NoBroker w
  loss_of given after Unsayable w = no_loss given after Unsayable w

  -- none waited, and none came
  pub listened_silent : (waiting : List Content) (held held_now given after taken : List ℕ) (fault : Fault) → waiting ≡ [] → held_now ≡ held → Reads client_takes held [] held → ReadStops held fault → IsLost given after fault
      → HearsNext t (ear waiting held given taken) (ear waiting held_now after taken) (Err fault)
  unfolding Loss
  listened_silent waiting held held_now given after taken fault none held_is steady stops lost =
      let loss : Loss given after fault = loss_of given after fault lost in
      let quiet : IsQuiet t (stand (waiting ++ []) taken) (stand waiting taken) = record {
        none = none;
        passes = subst (λ f. PassesOver t.limit (stand f taken) (stand waiting taken)) (sym (append-nil waiting)) (passes_none t.limit (stand waiting taken));
      } in
      subst (λ h. HearsNext t (ear waiting held given taken) (ear waiting h after taken) (Err fault)) (sym held_is) (record {
        octets = [];
        lost = loss.0;
        read = loss.1;
        none_lost = loss.2;
        frames = [];
        reads = still held steady;
        next = next_silent (stand (waiting ++ []) taken) (stand waiting taken) held fault quiet stops;
      })

  -- frames behind those that are passed over change nothing
  passes_with : (a b : Stand) (more : List Content) → PassesOver t.limit a b → PassesOver t.limit (stand (a.waiting ++ more) a.taken) (stand (b.waiting ++ more) b.taken)
  passes_with a b more u = record {
    aside = u.aside;
    frames_are = ap (λ f. f ++ more) u.frames_are ∙ append_assoc u.aside b.waiting more;
    each = u.each;
    wrote = u.wrote;
  }

  silent_after : (a b c : Stand) (held : List ℕ) (fault : Fault) → PassesOver t.limit a b → IsSilent t b c held fault → IsSilent t a c held fault
  silent_after a b c held fault u w = record { quiet = quiet_after t a b c u w.quiet; why = w.why }

  next_after : (a b c : Stand) (held : List ℕ) (result : Result Heard Fault) → PassesOver t.limit a b → IsNext t b c held result → IsNext t a c held result
  next_after a b c held (Ok heard) u w = hears_after t a b c heard u w
  next_after a b c held (Err FrameType) u w = silent_after a b c held FrameType u w
  next_after a b c held (Err FrameTooLong) u w = silent_after a b c held FrameTooLong u w
  next_after a b c held (Err Ended) u w = silent_after a b c held Ended u w
  next_after a b c held (Err ReadFault) u w = silent_after a b c held ReadFault u w
  next_after a b c held (Err TooManyReads) u w = silent_after a b c held TooManyReads u w
  next_after a b c held (Err NoMemory) u w = stops_after t a b c NoMemory u w
  next_after a b c held (Err WriteFault) u w = stops_after t a b c WriteFault u w
  next_after a b c held (Err TooManyWrites) u w = stops_after t a b c TooManyWrites u w
  next_after a b c held (Err TooLongForBroker) u w = stops_after t a b c TooLongForBroker u w
  next_after a b c held (Err TooDeep) u w = stops_after t a b c TooDeep u w
  next_after a b c held (Err Malformed) u w = stops_after t a b c Malformed u w
  next_after a b c held (Err NoBrokerMessage) u w = stops_after t a b c NoBrokerMessage u w
  next_after a b c held (Err (Refused code)) u w = absurd w
  next_after a b c held (Err NoBroker) u w = absurd w
  next_after a b c held (Err Unsayable) u w = absurd w

  given_join : (a b c octets more : List ℕ) → b ≡ a ++ octets → c ≡ b ++ more → c ≡ a ++ (octets ++ more)
  given_join a b c octets more first second = second ∙ (ap (λ g. g ++ more) first ∙ append_assoc a octets more)

  reads_join : (a b c octets more : List ℕ) (frames others : List Content) → Reads client_takes (a ++ octets) frames b → Reads client_takes (b ++ more) others c → Reads client_takes (a ++ (octets ++ more)) (frames ++ others) c
  reads_join a b c octets more frames others first second =
      subst (λ o. Reads client_takes o (frames ++ others) c) (append_assoc a octets more) (pieces_join client_takes (a ++ octets) more b c frames others first second)

  quiet_join : (a b : Ear) (frames more : List Content) → IsQuiet t (stand (a.waiting ++ frames) a.taken) (stand b.waiting b.taken)
      → PassesOver t.limit (stand (a.waiting ++ (frames ++ more)) a.taken) (stand (b.waiting ++ more) b.taken)
  quiet_join a b frames more quiet =
      subst (λ f. PassesOver t.limit (stand f a.taken) (stand (b.waiting ++ more) b.taken)) (append_assoc a.waiting frames more)
      (passes_with (stand (a.waiting ++ frames) a.taken) (stand b.waiting b.taken) more quiet.passes)

  hears_then : (a b c : Ear) (result : Result Heard Fault) → HearsNone t a b → HearsNext t b c result → HearsNext t a c result
  hears_then a b c result u w = record {
    octets = u.octets ++ w.octets;
    lost = w.lost;
    read = given_join a.given b.given c.given u.octets (w.octets ++ w.lost) u.read w.read ∙ ap (λ o. a.given ++ o) (sym (append_assoc u.octets w.octets w.lost));
    none_lost = w.none_lost;
    frames = u.frames ++ w.frames;
    reads = reads_join a.held b.held c.held u.octets w.octets u.frames w.frames u.reads w.reads;
    next = next_after (stand (a.waiting ++ (u.frames ++ w.frames)) a.taken) (stand (b.waiting ++ w.frames) b.taken) (stand c.waiting c.taken) c.held result (quiet_join a b u.frames w.frames u.quiet) w.next;
  }

  none_then : (a b c : Ear) → HearsNone t a b → HearsNone t b c → HearsNone t a c
  none_then a b c u w = record {
    octets = u.octets ++ w.octets;
    read = given_join a.given b.given c.given u.octets w.octets u.read w.read;
    frames = u.frames ++ w.frames;
    reads = reads_join a.held b.held c.held u.octets w.octets u.frames w.frames u.reads w.reads;
    quiet = quiet_after t (stand (a.waiting ++ (u.frames ++ w.frames)) a.taken) (stand (b.waiting ++ w.frames) b.taken) (stand c.waiting c.taken) (quiet_join a b u.frames w.frames u.quiet) w.quiet;
  }

  -- looks that heard none, and one behind them
  pub hears_later : (a b c : Ear) (result : Result Heard Fault) → HearsNoneYet t a b → HearsNext t b c result → HearsNext t a c result
  hears_later a b c result yet w = elim yet [
    | inl same ↦ subst (λ (e : Ear). HearsNext t e c result) same w
    | inr none ↦ hears_then a b c result none w
  ]

  pub none_later : (a b c : Ear) → HearsNoneYet t a b → HearsNone t b c → HearsNoneYet t a c
  none_later a b c yet w = elim yet [
    | inl same ↦ inr (subst (λ (e : Ear). HearsNone t e c) same w)
    | inr none ↦ inr (none_then a b c none w)
  ]

-- whether frames wait, by their number
pub none_wait : (frames : List Frame) → length frames ≡ 0 → contents frames ≡ []
none_wait [] e = refl
none_wait (f ∷ frames) e = absurd (cc e)

pub some_wait : (frames : List Frame) → 0 < length frames → contents frames ≢ []
some_wait [] e none = absurd (omega (arith, e))
some_wait (f ∷ frames) e none = absurd (cc none)

-- what holds of whatever ends well
pub on_ok : {X E : Type 0} (result : Result X E) (P : Type 0) → P → OnOk result P
on_ok (Ok x) P p = p
on_ok (Err e) P p = tt

four_fault : (rest : List ℕ) (f : stream.Fault) → fault_of client_takes rest ≡ Some f → fault_of client_takes (take 4 rest) ≡ Some f
four_fault [] f e = e
four_fault (a ∷ []) f e = e
four_fault (a ∷ b ∷ []) f e = e
four_fault (a ∷ b ∷ c ∷ []) f e = e
four_fault (a ∷ b ∷ c ∷ d ∷ ys) f e = sym (fault_on client_takes (a ∷ b ∷ c ∷ d ∷ []) ys (omega arith)) ∙ e

front_frame : (rest : List ℕ) → BeginsFrame client_takes (take 4 rest) → BeginsFrame client_takes rest
front_frame rest begins = (
  begins.0,
  begins.1 ++ drop 4 rest,
  begins.2,
  sym (take-append-drop 4 rest) ∙ (ap (λ o. o ++ drop 4 rest) begins.3 ∙ append_assoc (spelled begins.0) begins.1 (drop 4 rest)),
)

-- what is held would be held if nothing more came
pub reads_held : (octets held : List ℕ) (frames : List Content) → Reads client_takes octets frames held → Reads client_takes held [] held
reads_held octets held frames r = by_fault (fault_of client_takes r.rest) refl
  where
    by_fault : (o : Option stream.Fault) → fault_of client_takes r.rest ≡ o → Reads client_takes held [] held
    by_fault None fine =
        let is : kept client_takes r.rest ≡ r.rest = kept_fine client_takes r.rest fine in
        subst (λ h. Reads client_takes h [] h) (sym (r.held_is ∙ is)) (record { rest = r.rest; splits = record { whole = refl; each = tt; ended = r.splits.ended }; held_is = sym is })
    by_fault (Some f) e =
        let cut : kept client_takes r.rest ≡ take 4 r.rest = rw e refl in
        let here : fault_of client_takes (take 4 r.rest) ≡ Some f = four_fault r.rest f e in
        let again : kept client_takes (take 4 r.rest) ≡ take 4 (take 4 r.rest) = rw here refl in
        subst (λ h. Reads client_takes h [] h) (sym (r.held_is ∙ cut)) (record {
          rest = take 4 r.rest;
          splits = record { whole = refl; each = tt; ended = λ begins. r.splits.ended (front_frame r.rest begins) };
          held_is = sym (again ∙ take_all 4 (take 4 r.rest) (omega (arith, length-take 4 r.rest)));
        })

-- so it is behind each look
pub listened_held : (t : Terms) (before now : Ear) (result : Result (Option Heard) Fault) → ListensNext t before now result → Reads client_takes now.held [] now.held
listened_held t before now (Ok (Some heard)) w = reads_held (before.held ++ w.octets) now.held w.frames w.reads
listened_held t before now (Ok None) w = reads_held (before.held ++ w.octets) now.held w.frames w.reads
listened_held t before now (Err fault) w = reads_held (before.held ++ w.octets) now.held w.frames w.reads
