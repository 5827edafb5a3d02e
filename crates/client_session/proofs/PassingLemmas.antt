-- Frames that are passed over and answered, one after another.
use Rattle.std.proofs.Common.{◌≡◌, ◌++◌, ℕ, List, [], ◌∷◌, refl, sym, ap, ◌∙◌, subst, append_assoc, append-nil}
use Rattle.std.proofs.lemmas.Grind.{flat_map-append}
use Rattle.std.specs.List.{AllByRecursion}
use Rattle.rawsocket.specs.Devices.{GrowsByBeginning}
use Rattle.rawsocket.specs.Frames.{Content}
use Rattle.rawsocket.proofs.Lemmas.{grown_further, whole_grown}
use Rattle.client_messages.specs.declared.heard.Heard.{Heard}
use Rattle.client_session.specs.Hearing.{Terms, Stand, stand, IsAside, IsAnsweredPartly, PassesOver, BeginsAnswers, PassesFirst, StopsFirst, HearsFirst, SaysNothingFirst, IsUnheard, Hears, IsQuiet, IsStuck, Stops, answer_to, answers_to, message, ping}
use Rattle.client_session.specs.declared.fault.Fault.{Fault}
use Rattle.client_session.specs.declared.fault.Fault.TheVariants.{NoMemory, Refused, NoBroker, FrameTooLong, FrameType, TooDeep, Malformed, NoBrokerMessage, Unsayable, TooLongForBroker, Ended, ReadFault, WriteFault, TooManyReads, TooManyWrites}

all_joined : (limit : ℕ) (f g : List Content) → AllByRecursion (IsAside limit) f → AllByRecursion (IsAside limit) g → AllByRecursion (IsAside limit) (f ++ g)
all_joined limit [] g a b = b
all_joined limit (c ∷ cs) g a b = (a.0, all_joined limit cs g a.1 b)

pub answers-append : (f g : List Content) → answers_to (f ++ g) ≡ answers_to f ++ answers_to g
answers-append f g = flat_map-append answer_to f g

pub passes_none : (limit : ℕ) (before : Stand) → PassesOver limit before before
passes_none limit before = record { aside = []; frames_are = refl; each = tt; wrote = sym (append-nil before.taken) }

one_answer : (c : Content) → answers_to (c ∷ []) ≡ answer_to c
one_answer c = append-nil (answer_to c)

answers-more : (aside : List Content) (c : Content) → answers_to (aside ++ c ∷ []) ≡ answers_to aside ++ answer_to c
answers-more aside c = answers-append aside (c ∷ []) ∙ ap (λ o. answers_to aside ++ o) (one_answer c)

module _ (limit : ℕ) where
  pub passes_join : (a b c : Stand) → PassesOver limit a b → PassesOver limit b c → PassesOver limit a c
  passes_join a b c u w = record {
    aside = u.aside ++ w.aside;
    frames_are = u.frames_are ∙ (ap (λ f. u.aside ++ f) w.frames_are ∙ sym (append_assoc u.aside w.aside c.waiting));
    each = all_joined limit u.aside w.aside u.each w.each;
    wrote = w.wrote ∙ (ap (λ o. o ++ answers_to w.aside) u.wrote ∙ (append_assoc a.taken (answers_to u.aside) (answers_to w.aside) ∙ ap (λ o. a.taken ++ o) (sym (answers-append u.aside w.aside))));
  }

  pub passes_one : (before : Stand) (now : Stand) → PassesFirst limit before now → PassesOver limit before now
  passes_one before now w = record {
    aside = w.frame ∷ [];
    frames_are = w.frames_are;
    each = (w.answered.aside, tt);
    wrote = w.answered.wrote ∙ ap (λ o. before.taken ++ o) (sym (one_answer w.frame));
  }

  pub begins_whole : (before now : Stand) → PassesOver limit before now → BeginsAnswers limit before now
  begins_whole before now w = record { aside = w.aside; frames_are = w.frames_are; each = w.each; wrote = whole_grown before.taken now.taken (answers_to w.aside) w.wrote }

  begins_after : (a b c : Stand) → PassesOver limit a b → BeginsAnswers limit b c → BeginsAnswers limit a c
  begins_after a b c u w = record {
    aside = u.aside ++ w.aside;
    frames_are = u.frames_are ∙ (ap (λ f. u.aside ++ f) w.frames_are ∙ sym (append_assoc u.aside w.aside c.waiting));
    each = all_joined limit u.aside w.aside u.each w.each;
    wrote = subst (λ o. GrowsByBeginning a.taken c.taken o) (sym (answers-append u.aside w.aside)) (grown_further a.taken b.taken c.taken (answers_to u.aside) (answers_to w.aside) u.wrote w.wrote);
  }

  begins_one : (before now : Stand) (frame : Content) → before.waiting ≡ frame ∷ now.waiting → IsAnsweredPartly limit frame before.taken now.taken → BeginsAnswers limit before now
  begins_one before now frame e w = record {
    aside = frame ∷ [];
    frames_are = e;
    each = (w.aside, tt);
    wrote = subst (λ o. GrowsByBeginning before.taken now.taken o) (sym (one_answer frame)) w.wrote;
  }

module _ (t : Terms) where
  pub hears_after : (a b c : Stand) (heard : Heard) → PassesOver t.limit a b → Hears t b c heard → Hears t a c heard
  hears_after a b c heard u w = record { payload = w.payload; says = w.says; passes = passes_join t.limit a b (stand (message w.payload ∷ c.waiting) c.taken) u w.passes }

  stuck_after : (a b c : Stand) (fault : Fault) → PassesOver t.limit a b → IsStuck t b c fault → IsStuck t a c fault
  stuck_after a b c fault u w = record { payload = w.payload; more = w.more; first = w.first; nothing = w.nothing; passes = passes_join t.limit a b c u w.passes }

  pub stops_after : (a b c : Stand) (fault : Fault) → PassesOver t.limit a b → Stops t b c fault → Stops t a c fault
  stops_after a b c NoMemory u w = begins_after t.limit a b c u w
  stops_after a b c WriteFault u w = begins_after t.limit a b c u w
  stops_after a b c TooManyWrites u w = begins_after t.limit a b c u w
  stops_after a b c TooLongForBroker u w = record { payload = w.payload; long = w.long; passes = passes_join t.limit a b (stand (ping w.payload ∷ c.waiting) c.taken) u w.passes }
  stops_after a b c TooDeep u w = stuck_after a b c TooDeep u w
  stops_after a b c Malformed u w = stuck_after a b c Malformed u w
  stops_after a b c NoBrokerMessage u w = stuck_after a b c NoBrokerMessage u w
  stops_after a b c (Refused code) u w = absurd w
  stops_after a b c NoBroker u w = absurd w
  stops_after a b c FrameTooLong u w = absurd w
  stops_after a b c FrameType u w = absurd w
  stops_after a b c Unsayable u w = absurd w
  stops_after a b c Ended u w = absurd w
  stops_after a b c ReadFault u w = absurd w
  stops_after a b c TooManyReads u w = absurd w

  pub quiet_after : (a b c : Stand) → PassesOver t.limit a b → IsQuiet t b c → IsQuiet t a c
  quiet_after a b c u w = record { none = w.none; passes = passes_join t.limit a b c u w.passes }

  -- the first frame is a message
  pub hears_first : (waiting new : List Content) (taken : List ℕ) (heard : Heard) → HearsFirst t.serializer waiting new heard → Hears t (stand waiting taken) (stand new taken) heard
  hears_first waiting new taken heard w = record {
    payload = w.payload;
    says = w.says;
    passes = subst (λ f. PassesOver t.limit (stand f taken) (stand (message w.payload ∷ new) taken)) (sym w.frames_are) (passes_none t.limit (stand (message w.payload ∷ new) taken));
  }

  stuck_first : (waiting : List Content) (taken : List ℕ) (fault : Fault) → SaysNothingFirst t.serializer waiting fault → IsStuck t (stand waiting taken) (stand waiting taken) fault
  stuck_first waiting taken fault w = record { payload = w.payload; more = w.more; first = w.first; nothing = w.nothing; passes = passes_none t.limit (stand waiting taken) }

  -- it says nothing
  pub unheard_first : (waiting : List Content) (taken : List ℕ) (fault : Fault) → IsUnheard t.serializer waiting fault → Stops t (stand waiting taken) (stand waiting taken) fault
  unheard_first waiting taken NoMemory w = begins_whole t.limit (stand waiting taken) (stand waiting taken) (passes_none t.limit (stand waiting taken))
  unheard_first waiting taken TooDeep w = stuck_first waiting taken TooDeep w
  unheard_first waiting taken Malformed w = stuck_first waiting taken Malformed w
  unheard_first waiting taken NoBrokerMessage w = stuck_first waiting taken NoBrokerMessage w
  unheard_first waiting taken WriteFault w = absurd w.nothing
  unheard_first waiting taken TooManyWrites w = absurd w.nothing
  unheard_first waiting taken TooLongForBroker w = absurd w.nothing
  unheard_first waiting taken (Refused code) w = absurd w.nothing
  unheard_first waiting taken NoBroker w = absurd w.nothing
  unheard_first waiting taken FrameTooLong w = absurd w.nothing
  unheard_first waiting taken FrameType w = absurd w.nothing
  unheard_first waiting taken Unsayable w = absurd w.nothing
  unheard_first waiting taken Ended w = absurd w.nothing
  unheard_first waiting taken ReadFault w = absurd w.nothing
  unheard_first waiting taken TooManyReads w = absurd w.nothing

  -- its answer ends
  pub stops_first : (before now : Stand) (fault : Fault) → StopsFirst t.limit before now fault → Stops t before now fault
  stops_first before now NoMemory w = begins_one t.limit before now w.frame w.frames_are w.stops
  stops_first before now WriteFault w = begins_one t.limit before now w.frame w.frames_are w.stops
  stops_first before now TooManyWrites w = begins_one t.limit before now w.frame w.frames_are w.stops
  stops_first before now TooLongForBroker w =
      let long = w.stops in
      record {
        payload = long.payload;
        long = long.long;
        passes = record { aside = []; frames_are = w.frames_are ∙ ap (λ c. c ∷ now.waiting) long.is; each = tt; wrote = long.same ∙ sym (append-nil before.taken) };
      }
  stops_first before now TooDeep w = absurd w.stops
  stops_first before now Malformed w = absurd w.stops
  stops_first before now NoBrokerMessage w = absurd w.stops
  stops_first before now (Refused code) w = absurd w.stops
  stops_first before now NoBroker w = absurd w.stops
  stops_first before now FrameTooLong w = absurd w.stops
  stops_first before now FrameType w = absurd w.stops
  stops_first before now Unsayable w = absurd w.stops
  stops_first before now Ended w = absurd w.stops
  stops_first before now ReadFault w = absurd w.stops
  stops_first before now TooManyReads w = absurd w.stops
