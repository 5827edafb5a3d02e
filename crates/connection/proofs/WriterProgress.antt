-- Frames that are made and handed over, and how that ends.
use Rattle.std.proofs.Common.{◌≡◌, ◌≤◌, ◌<◌, ◌+◌, ℕ, List, [], ◌∷◌, ◌++◌, length, take, drop, Result, Ok, Err, IfErr, refl, sym, ap, ◌∙◌, append_assoc, append-nil, arith, length-append, subst}
use Rattle.std.proofs.lemmas.Grind.{flat_map-append}
use Rattle.std.proofs.lemmas.List.{take-append-drop}
use Rattle.std.specs.List.{AllByRecursion}
use Rattle.rawsocket.specs.Devices.{GrowsByBeginning}
use Rattle.session.specs.declared.fault.Fault.{Fault}
use Rattle.session.specs.declared.fault.Fault.TheVariants as fault
use Rattle.wamp_messages.specs.declared.item.Item.{Item}
use Rattle.session.specs.ItemFrames.{octets_of, IsTooLong}
use Rattle.connection.specs.Writer.{IsWritable, frames_of, IsWhole, LacksLast, IsRefused, IsMissing, IsBegun, IsWrittenBy, WritesSince}
use Rattle.connection.specs.body.Writer.{output, Passes, HandsOver, IsOfDevice, EndsBetween, EndsWith, StopsAt, EndsFrom, BreaksAt}
use Rattle.connection.specs.declared.writer.ClientTerms.{ClientTerms}
use Rattle.connection.specs.declared.writer.WriteEnd.{WriteEnd}
use Rattle.connection.specs.declared.writer.WriteEnd.TheVariants.{Stopped, Full, Lost, Dropped, Device, TooLong, NoMemory, TooManyTurns}

module _ (client : ClientTerms) where
  pub none_so_far : (taken : List Item) (written held : List ℕ) → held ≡ [] → WritesSince taken taken written written (Passes client [] held)
  none_so_far taken written held empty =
      record { items = []; octets = []; took = sym (append-nil taken); wrote = sym (append-nil written); written = record { writable = tt; octets_are = empty } }

  -- a beginning of what was held back and of the frames of these items was written
  begun_by : (held : List ℕ) (items made unmade : List Item) → items ≡ made ++ unmade → length unmade ≤ 1 → AllByRecursion (IsWritable client.serializer client.limit) made
      → length (held ++ frames_of client.serializer made) ≤ 65539 + client.limit → (octets back : List ℕ) → octets ++ back ≡ held ++ frames_of client.serializer made → IsBegun client.serializer client.limit held items octets
  begun_by held items made unmade are few writable short octets back whole =
      record { made = made; unmade = unmade; items_are = are; few = few; writable = writable; begun = (back, whole); held = omega (arith, short) }

  -- nothing of the item was made, and of what was held back a beginning was written
  begun_before : (held before now : List ℕ) (unmade : List Item) → length unmade ≤ 1 → length held < 65536 → (g : GrowsByBeginning before now held) → IsBegun client.serializer client.limit held unmade (take g.0 held)
  begun_before held before now unmade few short g =
      begun_by held unmade [] unmade refl few tt (omega (arith, ap length (append-nil held), short)) (take g.0 held) (drop g.0 held) (take-append-drop g.0 held ∙ sym (append-nil held))

  between : (end : WriteEnd) (before now held : List ℕ) → length held < 65536 → EndsBetween end (output before held) now → (octets : List ℕ) × (now ≡ before ++ octets) × EndsFrom client end held [] octets
  between Stopped before now held short e = (held, e, (refl, refl))
  between Full before now held short e = (held, e, (refl, refl))
  between Lost before now held short e = (held, e, (refl, refl))
  between Dropped before now held short e = (held, e, (refl, refl))
  between Device before now held short g = (take g.0 held, g.2, begun_before held before now [] (omega arith) short g)
  between TooLong before now held short e = absurd e
  between NoMemory before now held short e = absurd e
  between TooManyTurns before now held short g = (take g.0 held, g.2, begun_before held before now [] (omega arith) short g)

  -- it ends while no item is in hand
  pub ends_between : (end : WriteEnd) (taken later : List Item) (before now held : List ℕ) → later ≡ taken → length held < 65536 → EndsBetween end (output before held) now
      → WritesSince taken later before now (EndsFrom client end held)
  ends_between end taken later before now held took short e =
      let b = between end before now held short e in
      record { items = []; octets = b.0; took = took ∙ sym (append-nil taken); wrote = b.1; written = b.2 }

  -- or at an item that can't be encoded
  pub breaks_at : (f : Fault) (end : WriteEnd) (item : Item) (before now held : List ℕ) → length held < 65536 → (f ≡ fault.TooLongForClient → IsTooLong client.serializer client.limit item)
      → EndsWith f end (output before held) now → BreaksAt client end item (output before held) now
  breaks_at f Stopped item before now held short long e = absurd e
  breaks_at f Full item before now held short long e = absurd e
  breaks_at f Lost item before now held short long e = absurd e
  breaks_at f Dropped item before now held short long e = absurd e
  breaks_at f TooLong item before now held short long e =
      record { octets = held; wrote = e.1; ends = record { item = item; items_are = refl; octets_are = refl; ends = (refl, long e.0) } }
  breaks_at f NoMemory item before now held short long e =
      record { octets = held; wrote = e.1; ends = record { item = item; items_are = refl; octets_are = refl; ends = refl } }
  breaks_at f Device item before now held short long g =
      record { octets = take g.0 held; wrote = g.2; ends = begun_before held before now (item ∷ []) (omega arith) short g }
  breaks_at f TooManyTurns item before now held short long g =
      record { octets = take g.0 held; wrote = g.2; ends = begun_before held before now (item ∷ []) (omega arith) short g }

  frames_of_one : (item : Item) → frames_of client.serializer (item ∷ []) ≡ octets_of client.serializer item
  frames_of_one item = append-nil (octets_of client.serializer item)

  -- a frame has four octets more than its payload
  behind_frame : (item : Item) (held : List ℕ) → IsWritable client.serializer client.limit item → length held < 65536 → length (held ++ frames_of client.serializer (item ∷ [])) ≤ 65539 + client.limit
  behind_frame item held writable short =
      omega (arith, length-append held (frames_of client.serializer (item ∷ [])), ap length (frames_of_one item), short, writable.0)

  part : (item : Item) (before now held_before held : List ℕ) → held ≡ held_before ++ octets_of client.serializer item → IsWritable client.serializer client.limit item → length held_before < 65536 → (g : GrowsByBeginning before now held)
      → IsBegun client.serializer client.limit held_before (item ∷ []) (take g.0 held)
  part item before now held_before held made writable short g =
      begun_by held_before (item ∷ []) (item ∷ []) [] refl (omega arith) (writable, tt) (behind_frame item held_before writable short) (take g.0 held) (drop g.0 held)
      (take-append-drop g.0 held ∙ made ∙ ap (λ o. held_before ++ o) (sym (frames_of_one item)))

  -- or a beginning of it
  pub breaks_by_device : (end : WriteEnd) (item : Item) (before now held_before held : List ℕ) → IsOfDevice end → held ≡ held_before ++ octets_of client.serializer item → IsWritable client.serializer client.limit item
      → length held_before < 65536 → GrowsByBeginning before now held → BreaksAt client end item (output before held_before) now
  breaks_by_device Stopped item before now held_before held is made writable short g = absurd is
  breaks_by_device Full item before now held_before held is made writable short g = absurd is
  breaks_by_device Lost item before now held_before held is made writable short g = absurd is
  breaks_by_device Dropped item before now held_before held is made writable short g = absurd is
  breaks_by_device TooLong item before now held_before held is made writable short g = absurd is
  breaks_by_device NoMemory item before now held_before held is made writable short g = absurd is
  breaks_by_device Device item before now held_before held is made writable short g =
      record { octets = take g.0 held; wrote = g.2; ends = part item before now held_before held made writable short g }
  breaks_by_device TooManyTurns item before now held_before held is made writable short g =
      record { octets = take g.0 held; wrote = g.2; ends = part item before now held_before held made writable short g }

  pub device_breaks : (result : Result Unit WriteEnd) (item : Item) (before now held_before held : List ℕ) → IfErr result IsOfDevice → held ≡ held_before ++ octets_of client.serializer item → IsWritable client.serializer client.limit item
      → length held_before < 65536 → GrowsByBeginning before now held → IfErr result (λ end. BreaksAt client end item (output before held_before) now)
  device_breaks (Ok u) item before now held_before held is made writable short g = tt
  device_breaks (Err end) item before now held_before held is made writable short g = breaks_by_device end item before now held_before held is made writable short g

  begun_behind : (front held_before held : List ℕ) (items : List Item) (octets : List ℕ) → front ++ held ≡ held_before → IsBegun client.serializer client.limit held items octets → IsBegun client.serializer client.limit held_before items (front ++ octets)
  begun_behind front held_before held items octets is b =
      let whole = sym (append_assoc front held (frames_of client.serializer b.made)) ∙ ap (λ o. o ++ frames_of client.serializer b.made) is in
      record {
        made = b.made;
        unmade = b.unmade;
        items_are = b.items_are;
        few = b.few;
        writable = b.writable;
        begun = (b.begun.0, append_assoc front octets b.begun.0 ∙ ap (λ o. front ++ o) b.begun.1 ∙ whole);
        held = omega (arith, b.held, ap length whole, length-append front (held ++ frames_of client.serializer b.made), length-append front octets);
      }

  -- what ends a step behind what was handed over before
  end_behind : (end : WriteEnd) (front held_before held : List ℕ) (items : List Item) (octets : List ℕ) → front ++ held ≡ held_before → EndsFrom client end held items octets
      → EndsFrom client end held_before items (front ++ octets)
  end_behind Stopped front held_before held items octets is e = (e.0, ap (λ o. front ++ o) e.1 ∙ is)
  end_behind Full front held_before held items octets is e = (e.0, ap (λ o. front ++ o) e.1 ∙ is)
  end_behind Lost front held_before held items octets is e = (e.0, ap (λ o. front ++ o) e.1 ∙ is)
  end_behind Dropped front held_before held items octets is e = (e.0, ap (λ o. front ++ o) e.1 ∙ is)
  end_behind TooLong front held_before held items octets is e = record { item = e.item; items_are = e.items_are; octets_are = ap (λ o. front ++ o) e.octets_are ∙ is; ends = e.ends }
  end_behind NoMemory front held_before held items octets is e = record { item = e.item; items_are = e.items_are; octets_are = ap (λ o. front ++ o) e.octets_are ∙ is; ends = e.ends }
  end_behind Device front held_before held items octets is e = begun_behind front held_before held items octets is e
  end_behind TooManyTurns front held_before held items octets is e = begun_behind front held_before held items octets is e

  -- or an end comes at it
  pub one_breaks : (end : WriteEnd) (item : Item) (taken later : List Item) (before mid now held_before held : List ℕ) → later ≡ taken ++ item ∷ [] → HandsOver (output before held_before) (output mid held)
      → BreaksAt client end item (output mid held) now → WritesSince taken later before now (EndsFrom client end held_before)
  one_breaks end item taken later before mid now held_before held took h b = record {
    items = item ∷ [];
    octets = h.octets ++ b.octets;
    took = took;
    wrote = b.wrote ∙ ap (λ o. o ++ b.octets) h.wrote ∙ append_assoc before h.octets b.octets;
    written = end_behind end h.octets held_before held (item ∷ []) b.octets h.octets_are b.ends;
  }

  frames_join : (a b : List Item) → frames_of client.serializer (a ++ b) ≡ frames_of client.serializer a ++ frames_of client.serializer b
  frames_join a b = flat_map-append (octets_of client.serializer) a b

  writable_join : (a b : List Item) → AllByRecursion (IsWritable client.serializer client.limit) a → AllByRecursion (IsWritable client.serializer client.limit) b → AllByRecursion (IsWritable client.serializer client.limit) (a ++ b)
  writable_join [] b p q = q
  writable_join (x ∷ xs) b p q = (p.0, writable_join xs b p.1 q)

  -- the frames of more items, behind what is held back of those before
  frames_behind : (a b : List Item) (front held more : List ℕ) → front ++ held ≡ frames_of client.serializer a → more ≡ held ++ frames_of client.serializer b → front ++ more ≡ frames_of client.serializer (a ++ b)
  frames_behind a b front held more is then =
      ap (λ o. front ++ o) then ∙ sym (append_assoc front held (frames_of client.serializer b)) ∙ ap (λ o. o ++ frames_of client.serializer b) is ∙ sym (frames_join a b)

  passes_join : (held_before held : List ℕ) (a b : List Item) (x y : List ℕ) → Passes client [] held_before a x → Passes client held_before held b y → Passes client [] held (a ++ b) (x ++ y)
  passes_join held_before held a b x y p q = record {
    writable = writable_join a b p.writable q.writable;
    octets_are = append_assoc x y held ∙ frames_behind a b x held_before (y ++ held) p.octets_are q.octets_are;
  }

  -- what was made before is all written, and of the item nothing
  lacks : (Ends : Item → List ℕ → Type 0) (held : List ℕ) (a b : List Item) (x y : List ℕ) → Passes client [] held a x → StopsAt Ends held b y → LacksLast client.serializer client.limit Ends (a ++ b) (x ++ y)
  lacks Ends held a b x y p q = record {
    written = a;
    last = q.item;
    part = [];
    items_are = ap (λ i. a ++ i) q.items_are;
    writable = p.writable;
    octets_are = ap (λ o. x ++ o) q.octets_are ∙ p.octets_are ∙ sym (append-nil (frames_of client.serializer a));
    ends = q.ends;
  }

  begun_join : (held : List ℕ) (a b : List Item) (x y : List ℕ) → Passes client [] held a x → IsBegun client.serializer client.limit held b y → IsBegun client.serializer client.limit [] (a ++ b) (x ++ y)
  begun_join held a b x y p q =
      let whole = frames_behind a q.made x held (held ++ frames_of client.serializer q.made) p.octets_are refl in
      record {
        made = a ++ q.made;
        unmade = q.unmade;
        items_are = ap (λ i. a ++ i) q.items_are ∙ sym (append_assoc a q.made q.unmade);
        few = q.few;
        writable = writable_join a q.made p.writable q.writable;
        begun = (q.begun.0, append_assoc x y q.begun.0 ∙ ap (λ o. x ++ o) q.begun.1 ∙ whole);
        held = omega (arith, q.held, ap length whole, length-append x (held ++ frames_of client.serializer q.made), length-append x y);
      }

  whole_join : (held : List ℕ) (a b : List Item) (x y : List ℕ) → Passes client [] held a x → (b ≡ []) × (y ≡ held) → IsWhole client.serializer client.limit (a ++ b) (x ++ y)
  whole_join held a b x y p q =
      let same = ap (λ i. a ++ i) q.0 ∙ append-nil a in
      subst (λ i. IsWhole client.serializer client.limit i (x ++ y)) (sym same) (p.writable, ap (λ o. x ++ o) q.1 ∙ p.octets_are)

  written_join : (end : WriteEnd) (held : List ℕ) (a b : List Item) (x y : List ℕ) → Passes client [] held a x → EndsFrom client end held b y → IsWrittenBy client.serializer client.limit end (a ++ b) (x ++ y)
  written_join Stopped held a b x y p q = whole_join held a b x y p q
  written_join Full held a b x y p q = whole_join held a b x y p q
  written_join Lost held a b x y p q = whole_join held a b x y p q
  written_join Dropped held a b x y p q = whole_join held a b x y p q
  written_join TooLong held a b x y p q = lacks (IsRefused client.serializer client.limit) held a b x y p q
  written_join NoMemory held a b x y p q = lacks IsMissing held a b x y p q
  written_join Device held a b x y p q = begun_join held a b x y p q
  written_join TooManyTurns held a b x y p q = begun_join held a b x y p q

  -- one more item passes
  pub then_passes : (taken_before taken later : List Item) (before now after held_before held : List ℕ) → WritesSince taken_before taken before now (Passes client [] held_before)
      → WritesSince taken later now after (Passes client held_before held) → WritesSince taken_before later before after (Passes client [] held)
  then_passes taken_before taken later before now after held_before held p q = record {
    items = p.items ++ q.items;
    octets = p.octets ++ q.octets;
    took = q.took ∙ ap (λ t. t ++ q.items) p.took ∙ append_assoc taken_before p.items q.items;
    wrote = q.wrote ∙ ap (λ o. o ++ q.octets) p.wrote ∙ append_assoc before p.octets q.octets;
    written = passes_join held_before held p.items q.items p.octets q.octets p.written q.written;
  }

  -- or the end comes
  pub then_ends : (end : WriteEnd) (taken_before taken later : List Item) (before now after held : List ℕ) → WritesSince taken_before taken before now (Passes client [] held)
      → WritesSince taken later now after (EndsFrom client end held) → WritesSince taken_before later before after (IsWrittenBy client.serializer client.limit end)
  then_ends end taken_before taken later before now after held p q = record {
    items = p.items ++ q.items;
    octets = p.octets ++ q.octets;
    took = q.took ∙ ap (λ t. t ++ q.items) p.took ∙ append_assoc taken_before p.items q.items;
    wrote = q.wrote ∙ ap (λ o. o ++ q.octets) p.wrote ∙ append_assoc before p.octets q.octets;
    written = written_join end held p.items q.items p.octets q.octets p.written q.written;
  }
