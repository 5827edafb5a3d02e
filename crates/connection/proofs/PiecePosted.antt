-- What a piece gives, posted frame by frame.
use Rattle.std.proofs.Common.{◌≡◌, ◌≤◌, ℕ, List, [], ◌∷◌, ◌++◌, length, None, Option, Result, Ok, Err, refl, sym, ap, ◌∙◌, subst, append_assoc, append-nil}
use Rattle.std.proofs.lemmas.Grind.{flat_map-append}
use Rattle.std.specs.List.{flat_map, AllByRecursion}
use Rattle.rawsocket.specs.Frames.{Content, IsTaken, Reads, fault_of, kept, spelled}
use Rattle.rawsocket.specs.Deframer.{IsShort, Resumes}
use Rattle.rawsocket.specs.declared.fault.Fault.{Fault}
use Rattle.rawsocket.specs.declared.handshake.Serializer.{Serializer}
use Rattle.rawsocket.proofs.Lemmas.{all_joined, resumed_more, resumed_reads, some_reads}
use Rattle.connection.specs.Posts.{GoesOn}
use Rattle.connection.specs.Reader.{Advances, IsAdvance, IsPosted, PostsAll, PostsFront, Start, batch, start, taking}
use Rattle.realm_inbox.specs.Posted.{Posted}
use Rattle.connection.specs.declared.reader.ReadEnd.{ReadEnd}
use Rattle.connection.specs.declared.reader.ReadEnd.TheVariants.{NoMemory}
use Rattle.connection.proofs.FramesPosted.{deframing, Halfway, Halfway-last, Halfway-of, Halfway-rest, all_is_some, longer_ends, none_posted}

module _ {S : Type 0} (most : ℕ) (s : Serializer) where
  pub front_start : (octets : List ℕ) (before : Posted S) → PostsFront most s octets octets before before (Ok tt)
  front_start octets before = record { frames = []; each = tt; whole = refl; posted = none_posted s before }

  -- the next frame, however it goes
  pub front_next : (result : Result Unit ReadEnd) (frame : Content) (octets rest after : List ℕ) (before now later : Posted S) → length frame.payload ≤ most → rest ≡ spelled frame ++ after
      → PostsFront most s octets rest before now (Ok tt) → IsPosted s (batch (frame ∷ []) None) now later result → PostsFront most s octets after before later result
  front_next result frame octets rest after before now later taken is w next = record {
    frames = w.frames ++ frame ∷ [];
    each = all_joined most w.frames (frame ∷ []) w.each (taken, tt);
    whole = w.whole ∙ ap (λ r. flat_map spelled w.frames ++ r) is ∙ sym (append_assoc (flat_map spelled w.frames) (spelled frame) after)
        ∙ ap (λ o. (flat_map spelled w.frames ++ o) ++ after) (sym (append-nil (spelled frame))) ∙ ap (λ o. o ++ after) (sym (flat_map-append spelled w.frames (frame ∷ [])));
    posted = Halfway-rest s result None (w.frames ++ frame ∷ []) (frame ∷ []) before now later (Halfway-of s w.frames (frame ∷ []) before now w.posted) next;
  }

  advance_of : (result : Result Unit ReadEnd) (begun : Start) (octets new : List ℕ) (before now : Posted S) → Advances begun (taking octets new) before now result → IsAdvance begun (taking octets new) before now result
  advance_of (Ok u) begun octets new before now w = w
  advance_of (Err end) begun octets new before now w = (new, w)

  -- without memory for a piece nothing of it is posted
  pub stops_at_once : (old piece new : List ℕ) (before : Posted S) → IsAdvance (start s [] (deframing most old)) (taking piece new) before before (Err NoMemory)
  stops_at_once old piece new before =
      let w = some_reads most (old ++ piece) in
      (w.held, record { frames = w.more; reads = w.reads; posted = longer_ends s NoMemory (fault_of most w.held) [] w.more before before (all_is_some s [] before before (none_posted s before)) })

  -- what ends the posts of the first frames of a piece ends those of the piece
  stops : (end : ReadEnd) (old piece new held rest back : List ℕ) (frames more : List Content) (before now : Posted S) → Resumes most old piece frames held rest → AllByRecursion (IsTaken most) more → rest ≡ flat_map spelled more ++ back
      → IsPosted s (batch (frames ++ more) None) before now (Err end) → IsAdvance (start s [] (deframing most old)) (taking piece new) before now (Err end)
  stops end old piece new held rest back frames more before now r each whole w =
      let m = resumed_more most old piece rest back held frames more r each whole in
      (m.held, record { frames = (frames ++ more) ++ m.more; reads = m.reads; posted = longer_ends s end (fault_of most m.held) (frames ++ more) m.more before now w })

  pub stops_at_completed : (end : ReadEnd) (old piece new held rest : List ℕ) (frames : List Content) (before now : Posted S) → Resumes most old piece frames held rest → IsPosted s (batch frames None) before now (Err end)
      → IsAdvance (start s [] (deframing most old)) (taking piece new) before now (Err end)
  stops_at_completed end old piece new held rest frames before now r w =
      stops end old piece new held rest rest frames [] before now r tt refl (subst (λ fs. IsPosted s (batch fs None) before now (Err end)) (sym (append-nil frames)) w)

  pub stops_behind : (end : ReadEnd) (old piece new held rest back : List ℕ) (frames : List Content) (before now later : Posted S) → Resumes most old piece frames held rest → IsPosted s (batch frames None) before now (Ok tt)
      → PostsFront most s rest back now later (Err end) → IsAdvance (start s [] (deframing most old)) (taking piece new) before later (Err end)
  stops_behind end old piece new held rest back frames before now later r first w =
      stops end old piece new held rest back frames w.frames before later r w.each w.whole (Halfway-rest s (Err end) None (frames ++ w.frames) w.frames before now later (Halfway-of s frames w.frames before now first) w.posted)

  posted_both : (octets rest : List ℕ) (frames : List Content) (before now later : Posted S) → IsPosted s (batch frames None) before now (Ok tt) → (w : PostsFront most s octets rest now later (Ok tt)) → PostsAll s (batch (frames ++ w.frames) None) GoesOn before later
  posted_both octets rest frames before now later first w = Halfway-rest s (Ok tt) None (frames ++ w.frames) w.frames before now later (Halfway-of s frames w.frames before now first) w.posted

  -- without memory for what stands behind the frames all of these are posted
  pub stops_at_rest : (old piece new held rest back : List ℕ) (frames : List Content) (before now later : Posted S) → Resumes most old piece frames held rest → IsPosted s (batch frames None) before now (Ok tt)
      → PostsFront most s rest back now later (Ok tt) → IsAdvance (start s [] (deframing most old)) (taking piece new) before later (Err NoMemory)
  stops_at_rest old piece new held rest back frames before now later r first w =
      stops NoMemory old piece new held rest back frames w.frames before later r w.each w.whole (all_is_some s (frames ++ w.frames) before later (posted_both rest back frames before now later first w))

  -- all of a piece, and what is at fault behind its frames
  pub goes_through : (result : Result Unit ReadEnd) (fault : Option Fault) (old piece new held rest back : List ℕ) (frames : List Content) (before now later last : Posted S) → Resumes most old piece frames held rest → IsPosted s (batch frames None) before now (Ok tt)
      → PostsFront most s rest back now later (Ok tt) → IsShort most back → new ≡ held ++ kept most back → fault ≡ fault_of most new → IsPosted s (batch [] fault) later last result → IsAdvance (start s [] (deframing most old)) (taking piece new) before last result
  goes_through result fault old piece new held rest back frames before now later last r first w short new_is fault_is end =
      let all : List Content = frames ++ w.frames in
      let reads : Reads most (old ++ piece) all new = subst (Reads most (old ++ piece) all) (sym new_is) (resumed_reads most old piece rest back held frames w.frames r w.each w.whole short) in
      let parts = posted_both rest back frames before now later first w in
      let half : Halfway s all [] before later = record { done = all; frames_are = sym (append-nil all); acts = parts.acts; posted = parts.posted; posts = parts.posts } in
      advance_of result (start s [] (deframing most old)) piece new before last (record {
        frames = all;
        reads = reads;
        posted = Halfway-last s result (fault_of most new) all [] before later last refl half (subst (λ f. IsPosted s (batch [] f) later last result) fault_is end);
      })

  -- the early frames, and then the octets
  pub early_then : (result : Result Unit ReadEnd) (early : List Content) (old octets new : List ℕ) (before now later : Posted S) → IsPosted s (batch early None) before now (Ok tt) → IsAdvance (start s [] (deframing most old)) (taking octets new) now later result
      → IsAdvance (start s early (deframing most old)) (taking octets new) before later result
  early_then (Ok u) early old octets new before now later first w = record {
    frames = w.frames;
    reads = w.reads;
    posted = Halfway-rest s (Ok u) (fault_of most new) (early ++ w.frames) w.frames before now later (Halfway-of s early w.frames before now first) w.posted;
  }
  early_then (Err end) early old octets new before now later first (held, w) = (
    held,
    record {
      frames = w.frames;
      reads = w.reads;
      posted = Halfway-rest s (Err end) (fault_of most held) (early ++ w.frames) w.frames before now later (Halfway-of s early w.frames before now first) w.posted;
    },
  )

  pub stops_early : (end : ReadEnd) (early : List Content) (old octets new : List ℕ) (before now : Posted S) → IsPosted s (batch early None) before now (Err end) → IsAdvance (start s early (deframing most old)) (taking octets new) before now (Err end)
  stops_early end early old octets new before now w =
      let r = some_reads most (old ++ octets) in
      (r.held, record { frames = r.more; reads = r.reads; posted = longer_ends s end (fault_of most r.held) early r.more before now w })
