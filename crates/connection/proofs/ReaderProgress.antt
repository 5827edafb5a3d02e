-- A stream that is read piece by piece and posted.
use Rattle.std.proofs.Common.{◌≡◌, ◌≢◌, ℕ, List, [], ◌∷◌, ◌++◌, None, Ok, Err, inl, inr, refl, sym, ap, ◌∙◌, subst, append_assoc, append-nil, ◌≤◌, length}
use Rattle.rawsocket.specs.Deframer.{Deframing}
use Rattle.rawsocket.specs.Frames.{Content, Reads, fault_of}
use Rattle.rawsocket.specs.Steps.{Meter, Fine, Steps, piece_told}
use Rattle.rawsocket.specs.declared.devices.no_octets.NoOctets.{NoOctets}
use Rattle.rawsocket.specs.declared.devices.no_octets.NoOctets.TheVariants as no_octets
use Rattle.rawsocket.specs.declared.handshake.Serializer.{Serializer}
use Rattle.rawsocket.proofs.Lemmas.{pieces_join}
use Rattle.connection.specs.Posts.{Course, GoesOn, Leaves, Breaks, Posts}
use Rattle.connection.specs.Reader.{PostsAll, PostsSome, IsReadAll, IsReadToEnd, IsReadPartly, ThenGone, IsReadUpTo, IsReadBy, ReadsSince, IsAdvance, GoesWith, Departs, batch, end_of, read_told, start, taking}
use Rattle.realm_inbox.specs.Posted.{Posted, with_acts}
use Rattle.realm_inbox.proofs.PosterLemmas.{with_both}
use Rattle.realm_inbox.specs.declared.act.Act.{Act}
use Rattle.realm_inbox.specs.declared.act.Act.TheVariants.{Gone}
use Rattle.connection.specs.declared.reader.ReadEnd.{ReadEnd}
use Rattle.connection.specs.declared.reader.ReadEnd.TheVariants.{Left, Violation, Ended, Device, TooManyTurns, NoMemory, ActorGone}
use Rattle.connection.proofs.FramesPosted.{deframing, Posts-join, Posts-open}

-- the frames of both
both : (most : ℕ) (before octets piece held new : List ℕ) (frames more : List Content) → Reads most (before ++ octets) frames held → Reads most (held ++ piece) more new → Reads most (before ++ (octets ++ piece)) (frames ++ more) new
both most before octets piece held new frames more a b = subst (λ o. Reads most o (frames ++ more) new) (append_assoc before octets piece) (pieces_join most (before ++ octets) piece held new frames more a b)

module _ {S : Type 0} (s : Serializer) (early : List Content) (most : ℕ) (held₀ : List ℕ) where
  -- what was read so far is posted, and this is held
  pub record Onward (given_before given : List ℕ) (before now : Posted S) (held : List ℕ) : Type 0 where
    pub octets : List ℕ
    pub frames : List Content
    pub acts : List (Act S)
    pub read : given ≡ given_before ++ octets
    pub posted : now ≡ with_acts before acts
    pub reads : Reads most (held₀ ++ octets) frames held
    pub posts : Posts s (fault_of most held) (early ++ frames) acts GoesOn

  pub Onward-start : (given : List ℕ) (before now : Posted S) (new : List ℕ) → IsAdvance (start s early (deframing most held₀)) (taking [] new) before now (Ok tt) → Onward given given before now new
  Onward-start given before now new w = record {
    octets = [];
    frames = w.frames;
    acts = w.posted.acts;
    read = sym (append-nil given);
    posted = w.posted.posted;
    reads = w.reads;
    posts = w.posted.posts;
  }

  posts_both : (held new : List ℕ) (frames more : List Content) (acts others : List (Act S)) (course : Course) → Posts s (fault_of most held) (early ++ frames) acts GoesOn → Posts s (fault_of most new) more others course
      → Posts s (fault_of most new) (early ++ (frames ++ more)) (acts ++ others) course
  posts_both held new frames more acts others course a b = subst (λ fs. Posts s (fault_of most new) fs (acts ++ others) course) (append_assoc early frames more) (Posts-join s (fault_of most held) (fault_of most new) (early ++ frames) more acts others course a b)

  pub Onward-more : (given_before given after piece : List ℕ) (before now later : Posted S) (held new : List ℕ) → Onward given_before given before now held → after ≡ given ++ piece → IsAdvance (start s [] (deframing most held)) (taking piece new) now later (Ok tt)
      → Onward given_before after before later new
  Onward-more given_before given after piece before now later held new o more w = record {
    octets = o.octets ++ piece;
    frames = o.frames ++ w.frames;
    acts = o.acts ++ w.posted.acts;
    read = more ∙ ap (λ g. g ++ piece) o.read ∙ append_assoc given_before o.octets piece;
    posted = w.posted.posted ∙ ap (λ p. with_acts p w.posted.acts) o.posted ∙ with_both before o.acts w.posted.acts;
    reads = both most held₀ o.octets piece held new o.frames w.frames o.reads w.reads;
    posts = posts_both held new o.frames w.frames o.acts w.posted.acts GoesOn o.posts w.posted.posts;
  }

  all_then : (course : Course) (given_before given after piece : List ℕ) (before now later : Posted S) (held new : List ℕ) (more : List Content) → Onward given_before given before now held → after ≡ given ++ piece
      → length piece ≤ 65536 → Reads most (held ++ piece) more new → PostsAll s (batch more (fault_of most new)) course now later → ReadsSince given_before after before later (IsReadToEnd (start s early (deframing most held₀)) course)
  all_then course given_before given after piece before now later held new more o grows few reads w = record {
    octets = o.octets ++ piece;
    acts = o.acts ++ w.acts;
    read = grows ∙ ap (λ g. g ++ piece) o.read ∙ append_assoc given_before o.octets piece;
    posted = w.posted ∙ ap (λ p. with_acts p w.acts) o.posted ∙ with_both before o.acts w.acts;
    holds = record {
      all = record { frames = o.frames ++ more; new = new; reads = both most held₀ o.octets piece held new o.frames more o.reads reads; posts = posts_both held new o.frames more o.acts w.acts course o.posts w.posts };
      last = inr (record {
        front = o.octets;
        back = piece;
        octets_are = refl;
        few = few;
        before = o.acts;
        more = w.acts;
        acts_are = refl;
        went_on = record { frames = o.frames; new = held; reads = o.reads; posts = o.posts };
      });
    };
  }

  some_then : (given_before given after piece : List ℕ) (before now later : Posted S) (held new : List ℕ) (more : List Content) → Onward given_before given before now held → after ≡ given ++ piece
      → Reads most (held ++ piece) more new → PostsSome s more now later → ReadsSince given_before after before later (IsReadPartly (start s early (deframing most held₀)))
  some_then given_before given after piece before now later held new more o grows reads w = record {
    octets = o.octets ++ piece;
    acts = o.acts ++ w.acts;
    read = grows ∙ ap (λ g. g ++ piece) o.read ∙ append_assoc given_before o.octets piece;
    posted = w.posted ∙ ap (λ p. with_acts p w.acts) o.posted ∙ with_both before o.acts w.acts;
    holds = inr (record {
      front = o.octets ++ piece;
      back = [];
      octets_are = sym (append-nil (o.octets ++ piece));
      frames = o.frames ++ more;
      new = new;
      reads = both most held₀ o.octets piece held new o.frames more o.reads reads;
      done = (early ++ o.frames) ++ w.done;
      left = w.left;
      frames_are = sym (append_assoc early o.frames more) ∙ ap (λ fs. (early ++ o.frames) ++ fs) w.frames_are ∙ sym (append_assoc (early ++ o.frames) w.done w.left);
      posts = Posts-join s (fault_of most held) None (early ++ o.frames) w.done o.acts w.acts GoesOn o.posts w.posts;
    });
  }

  pub Onward-ends : (end : ReadEnd) (given_before given after piece : List ℕ) (before now later : Posted S) (held new : List ℕ) → Onward given_before given before now held → after ≡ given ++ piece → length piece ≤ 65536 → IsAdvance (start s [] (deframing most held)) (taking piece new) now later (Err end)
      → ReadsSince given_before after before later (IsReadUpTo (start s early (deframing most held₀)) end)
  Onward-ends Left given_before given after piece before now later held new o grows few (there, w) = all_then Leaves given_before given after piece before now later held there w.frames o grows few w.reads w.posted
  Onward-ends (Violation f) given_before given after piece before now later held new o grows few (there, w) = all_then (Breaks f) given_before given after piece before now later held there w.frames o grows few w.reads w.posted
  Onward-ends NoMemory given_before given after piece before now later held new o grows few (there, w) = some_then given_before given after piece before now later held there w.frames o grows w.reads w.posted
  Onward-ends ActorGone given_before given after piece before now later held new o grows few (there, w) = some_then given_before given after piece before now later held there w.frames o grows w.reads w.posted
  Onward-ends Ended given_before given after piece before now later held new o grows few (there, w) = absurd w.posted
  Onward-ends Device given_before given after piece before now later held new o grows few (there, w) = absurd w.posted
  Onward-ends TooManyTurns given_before given after piece before now later held new o grows few (there, w) = absurd w.posted

  -- the stream ends
  so_far : (given_before given after : List ℕ) (before now : Posted S) (held : List ℕ) → Onward given_before given before now held → after ≡ given → ReadsSince given_before after before now (IsReadAll (start s early (deframing most held₀)) GoesOn)
  so_far given_before given after before now held o same = record {
    octets = o.octets;
    acts = o.acts;
    read = same ∙ o.read;
    posted = o.posted;
    holds = record { frames = o.frames; new = held; reads = o.reads; posts = o.posts };
  }

  pub Onward-stops : (why : NoOctets) (end : ReadEnd) (given_before given after : List ℕ) (before now : Posted S) (held : List ℕ) → end ≡ end_of why → Onward given_before given before now held → after ≡ given
      → ReadsSince given_before after before now (IsReadUpTo (start s early (deframing most held₀)) end)
  Onward-stops why end given_before given after before now held is o same = subst (λ e. ReadsSince given_before after before now (IsReadUpTo (start s early (deframing most held₀)) e)) (sym is) (stops why)
    where
      stops : (w : NoOctets) → ReadsSince given_before after before now (IsReadUpTo (start s early (deframing most held₀)) (end_of w))
      stops no_octets.Ended = so_far given_before given after before now held o same
      stops no_octets.Failed = so_far given_before given after before now held o same
      stops no_octets.TooManyTurns = so_far given_before given after before now held o same

  early_all : (course : Course) (given new : List ℕ) (before now : Posted S) (frames : List Content) → Reads most (held₀ ++ []) frames new → PostsAll s (batch (early ++ frames) (fault_of most new)) course before now → ReadsSince given given before now (IsReadToEnd (start s early (deframing most held₀)) course)
  early_all course given new before now frames reads w = record { octets = []; acts = w.acts; read = sym (append-nil given); posted = w.posted; holds = record { all = record { frames = frames; new = new; reads = reads; posts = w.posts }; last = inl refl } }

  early_some : (given new : List ℕ) (before now : Posted S) (frames : List Content) → Reads most (held₀ ++ []) frames new → PostsSome s (early ++ frames) before now → ReadsSince given given before now (IsReadPartly (start s early (deframing most held₀)))
  early_some given new before now frames reads w = record {
    octets = [];
    acts = w.acts;
    read = sym (append-nil given);
    posted = w.posted;
    holds = inr (record { front = []; back = []; octets_are = refl; frames = frames; new = new; reads = reads; done = w.done; left = w.left; frames_are = w.frames_are; posts = w.posts });
  }

  pub early_ends : (end : ReadEnd) (given new : List ℕ) (before now : Posted S) → IsAdvance (start s early (deframing most held₀)) (taking [] new) before now (Err end) → ReadsSince given given before now (IsReadUpTo (start s early (deframing most held₀)) end)
  early_ends Left given new before now (there, w) = early_all Leaves given there before now w.frames w.reads w.posted
  early_ends (Violation f) given new before now (there, w) = early_all (Breaks f) given there before now w.frames w.reads w.posted
  early_ends NoMemory given new before now (there, w) = early_some given there before now w.frames w.reads w.posted
  early_ends ActorGone given new before now (there, w) = early_some given there before now w.frames w.reads w.posted
  early_ends Ended given new before now (there, w) = absurd w.posted
  early_ends Device given new before now (there, w) = absurd w.posted
  early_ends TooManyTurns given new before now (there, w) = absurd w.posted

  -- with the act that says that the client is gone
  gone : (P : List ℕ → List (Act S) → Type 0) (given_before given : List ℕ) (before now later : Posted S) → later ≡ with_acts now (Gone ∷ []) → ReadsSince given_before given before now P
      → ReadsSince given_before given before later (λ octets acts. ThenGone (P octets) acts)
  gone P given_before given before now later more w = record {
    octets = w.octets;
    acts = w.acts ++ Gone ∷ [];
    read = w.read;
    posted = more ∙ ap (λ p. with_acts p (Gone ∷ [])) w.posted ∙ with_both before w.acts (Gone ∷ []);
    holds = record { front = w.acts; acts_are = refl; before = w.holds };
  }

  moved : (P Q : List ℕ → List (Act S) → Type 0) (given_before given : List ℕ) (before now later : Posted S) → ((octets : List ℕ) (acts : List (Act S)) → P octets acts → Q octets acts) → later ≡ now → ReadsSince given_before given before now P → ReadsSince given_before given before later Q
  moved P Q given_before given before now later to same w = record { octets = w.octets; acts = w.acts; read = w.read; posted = same ∙ w.posted; holds = to w.octets w.acts w.holds }

  all_is_part : (octets : List ℕ) (acts : List (Act S)) → IsReadAll (start s early (deframing most held₀)) GoesOn octets acts → IsReadPartly (start s early (deframing most held₀)) octets acts
  all_is_part octets acts w = inr (record {
    front = octets;
    back = [];
    octets_are = sym (append-nil octets);
    frames = w.frames;
    new = w.new;
    reads = w.reads;
    done = early ++ w.frames;
    left = [];
    frames_are = sym (append-nil (early ++ w.frames));
    posts = Posts-open s (fault_of most w.new) (early ++ w.frames) acts w.posts;
  })

  stream_goes : (end result : ReadEnd) (given_before given : List ℕ) (before now later : Posted S) → ((octets : List ℕ) (acts : List (Act S)) → ThenGone (IsReadAll (start s early (deframing most held₀)) GoesOn octets) acts → IsReadBy (start s early (deframing most held₀)) end octets acts)
      → ReadsSince given_before given before now (IsReadAll (start s early (deframing most held₀)) GoesOn) → GoesWith end now later result → ReadsSince given_before given before later (IsReadBy (start s early (deframing most held₀)) result)
  stream_goes end result given_before given before now later to w (inl p) =
      let so : ReadsSince given_before given before later (λ octets acts. ThenGone (IsReadAll (start s early (deframing most held₀)) GoesOn octets) acts) = gone (IsReadAll (start s early (deframing most held₀)) GoesOn) given_before given before now later p.1 w in
      subst (λ r. ReadsSince given_before given before later (IsReadBy (start s early (deframing most held₀)) r)) (sym p.0)
      (record { octets = so.octets; acts = so.acts; read = so.read; posted = so.posted; holds = to so.octets so.acts so.holds })
  stream_goes end result given_before given before now later to w (inr p) =
      subst (λ r. ReadsSince given_before given before later (IsReadBy (start s early (deframing most held₀)) r)) (sym p.0)
      (moved (IsReadAll (start s early (deframing most held₀)) GoesOn) (IsReadPartly (start s early (deframing most held₀))) given_before given before now later all_is_part p.1 w)

  stays : (end result : ReadEnd) (P : List ℕ → List (Act S) → Type 0) (given_before given : List ℕ) (before now later : Posted S) → result ≡ end → later ≡ now → ReadsSince given_before given before now (IsReadBy (start s early (deframing most held₀)) end)
      → ReadsSince given_before given before later (IsReadBy (start s early (deframing most held₀)) result)
  stays end result P given_before given before now later is same w =
      subst (λ r. ReadsSince given_before given before later (IsReadBy (start s early (deframing most held₀)) r)) (sym is) (moved (IsReadBy (start s early (deframing most held₀)) end) (IsReadBy (start s early (deframing most held₀)) end) given_before given before now later (λ octets acts h. h) same w)

  pub departs_ends : (end result : ReadEnd) (given_before given : List ℕ) (before now later : Posted S) → ReadsSince given_before given before now (IsReadUpTo (start s early (deframing most held₀)) end) → Departs end now later result
      → ReadsSince given_before given before later (IsReadBy (start s early (deframing most held₀)) result)
  departs_ends Left result given_before given before now later w d = stays Left result (IsReadToEnd (start s early (deframing most held₀)) Leaves) given_before given before now later d.0 d.1 w
  departs_ends (Violation f) result given_before given before now later w d = stays (Violation f) result (IsReadToEnd (start s early (deframing most held₀)) (Breaks f)) given_before given before now later d.0 d.1 w
  departs_ends ActorGone result given_before given before now later w d = stays ActorGone result (IsReadPartly (start s early (deframing most held₀))) given_before given before now later d.0 d.1 w
  departs_ends Ended result given_before given before now later w d = stream_goes Ended result given_before given before now later (λ octets acts h. h) w d
  departs_ends Device result given_before given before now later w d = stream_goes Device result given_before given before now later (λ octets acts h. h) w d
  departs_ends TooManyTurns result given_before given before now later w d = stream_goes TooManyTurns result given_before given before now later (λ octets acts h. h) w d
  departs_ends NoMemory result given_before given before now later w (inl p) =
      subst (λ r. ReadsSince given_before given before later (IsReadBy (start s early (deframing most held₀)) r)) (sym p.0) (gone (IsReadPartly (start s early (deframing most held₀))) given_before given before now later p.1 w)
  departs_ends NoMemory result given_before given before now later w (inr p) =
      subst (λ r. ReadsSince given_before given before later (IsReadBy (start s early (deframing most held₀)) r)) (sym p.0) (moved (IsReadPartly (start s early (deframing most held₀))) (IsReadPartly (start s early (deframing most held₀))) given_before given before now later (λ octets acts h. h) p.1 w)

-- a reader's end is what it was, unless the actor is gone
pub departs_same : {S : Type 0} (end result : ReadEnd) (now later : Posted S) → Departs end now later result → result ≢ ActorGone → result ≡ end
departs_same Left result now later d here = d.0
departs_same (Violation f) result now later d here = d.0
departs_same ActorGone result now later d here = d.0
departs_same Ended result now later (inl p) here = p.0
departs_same Ended result now later (inr p) here = absurd (here p.0)
departs_same Device result now later (inl p) here = p.0
departs_same Device result now later (inr p) here = absurd (here p.0)
departs_same TooManyTurns result now later (inl p) here = p.0
departs_same TooManyTurns result now later (inr p) here = absurd (here p.0)
departs_same NoMemory result now later (inl p) here = p.0
departs_same NoMemory result now later (inr p) here = absurd (here p.0)

pub departs_as : {S : Type 0} (end result wanted : ReadEnd) (now later : Posted S) → Departs end now later result → wanted ≢ ActorGone → result ≡ wanted → end ≡ wanted
departs_as end result wanted now later d other is = sym (departs_same end result now later d (λ gone. other (sym is ∙ gone))) ∙ is

-- an end by what is posted tells nothing of the stream
pub posting_told : {S : Type 0} (s : Serializer) (early : List Content) (old : Deframing) (piece new : List ℕ) (before now : Posted S) (end : ReadEnd) → IsAdvance (start s early old) (taking piece new) before now (Err end) → read_told end ≡ Fine
posting_told s early old piece new before now Left w = refl
posting_told s early old piece new before now (Violation f) w = refl
posting_told s early old piece new before now NoMemory w = refl
posting_told s early old piece new before now ActorGone w = refl
posting_told s early old piece new before now Ended w = refl
posting_told s early old piece new before now Device (there, w) = absurd w.posted
posting_told s early old piece new before now TooManyTurns (there, w) = absurd w.posted

-- the end that the stream makes tells what the read told
told_of : (why : NoOctets) → read_told (end_of why) ≡ piece_told why
told_of no_octets.Ended = refl
told_of no_octets.Failed = refl
told_of no_octets.TooManyTurns = refl

pub piece_steps : {a b : Meter} (why : NoOctets) (end : ReadEnd) → end ≡ end_of why → Steps a b (piece_told why) → Steps a b (read_told end)
piece_steps {a} {b} why end is steps = subst (λ t. Steps a b t) (sym (ap read_told is ∙ told_of why)) steps

ended_of : (why : NoOctets) → end_of why ≡ Ended → why ≡ no_octets.Ended
ended_of no_octets.Ended e = refl
ended_of no_octets.Failed e = absurd (cc)
ended_of no_octets.TooManyTurns e = absurd (cc)

pub piece_ended : (why : NoOctets) (end : ReadEnd) → end ≡ end_of why → end ≡ Ended → why ≡ no_octets.Ended
piece_ended why end is e = ended_of why (sym is ∙ e)
