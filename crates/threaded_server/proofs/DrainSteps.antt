-- The posters of a realm, while its inbox is emptied beside them.
use Rattle.std.proofs.Common.{◌≡◌, ◌≢◌, ◌<◌, ◌≤◌, ◌+◌, ℕ, List, [], ◌∷◌, ◌++◌, Option, None, Some, map, option_map, set, slice_get, refl, sym, ap, ◌∙◌, append_assoc, append-nil, arith, subst, length, length-append}
use mathlib.Core.List.{IsPrefix}
use mathlib.Core.Logic.{◌⊎◌, inl, inr}
use Rattle.std.proofs.Math.Seq.{set-set}
use Rattle.std.proofs.lemmas.Option.{none-some, same_Some, slice_get-map}
use Rattle.std.specs.Option.{option_flatten}
use Rattle.outbox_queue.proofs.OwedBeginnings.{prefix-on}
use Rattle.realm_inbox.proofs.Lemmas.{at_seat_append}
use Rattle.realm_inbox.specs.EndViews.{inbox_of_poster, posted, poster_conn}
use Rattle.realm_inbox.specs.Ends.{Place}
use Rattle.realm_inbox.specs.Seats.{at_seat}
use Rattle.realm_inbox.specs.Unchanged.{IsSamePoster}
use Rattle.realm_inbox.specs.declared.act.Act.{Act}
use Rattle.realm_inbox.specs.declared.ends.Poster.{Poster}
use Rattle.realm_inbox.specs.declared.letter.Post.{Post}
use Rattle.threaded_server.proofs.Places.{map_same}
use Rattle.threaded_server.specs.Posters.{IsOfInbox, poster_at, poster_in, trace, trace_at, traces, traces_of}
use Rattle.wamp_ids.specs.Numbers.{seat_of}

abbrev Trace : Type 0 → Type 0
Trace S = ℕ × Place S × List (ℕ × Act S)

module _ {S : Type 0} where
  -- what is there has a trace, so one with that trace was there
  pub traced : (before now : Option (Poster S)) (p : Poster S) → option_map trace now ≡ option_map trace before → now ≡ Some p → (q : Poster S) × (before ≡ Some q) × (trace q ≡ trace p)
  traced None now p same e = absurd (none-some (trace p) (sym same ∙ ap (option_map trace) e))
  traced (Some q) now p same e = (q, refl, same_Some (trace q) (trace p) (sym same ∙ ap (option_map trace) e))

  pub traced_posted : (q p : Poster S) → trace q ≡ trace p → posted q ≡ posted p
  traced_posted q p e = ap (λ (t : Trace S). t.2) e

  pub traced_inbox : (q p : Poster S) → trace q ≡ trace p → inbox_of_poster q ≡ inbox_of_poster p
  traced_inbox q p e = ap (λ (t : Trace S). t.1) e

  pub traced_conn : (q p : Poster S) → trace q ≡ trace p → poster_conn q ≡ poster_conn p
  traced_conn q p e = ap (λ (t : Trace S). t.0) e

  -- it is of the same inbox, for the same seat
  pub traced_home : (place : Place S) (number : ℕ) (q p : Poster S) → trace q ≡ trace p → IsOfInbox place number q → IsOfInbox place number p
  traced_home place number q p e h = record { inbox = h.inbox ∙ traced_inbox q p e; seat = ap seat_of (sym (traced_conn q p e)) ∙ h.seat }

  pub same_trace : (p q : Poster S) → IsSamePoster p q → trace q ≡ trace p
  same_trace p q same i = (same.0 i, same.2 i, same.1 i)

  -- what was received of its seat is what was posted by another with its trace
  pub received_by : (q p : Poster S) (ps : List (Post S)) → trace q ≡ trace p → at_seat (seat_of (poster_conn q)) ps ≡ posted q → at_seat (seat_of (poster_conn p)) ps ≡ posted p
  received_by q p ps e all = ap (λ (n : ℕ). at_seat (seat_of n) ps) (sym (traced_conn q p e)) ∙ all ∙ traced_posted q p e

  -- a poster is taken, and put back with the trace that it had
  pub put_back_traced : (posters took left : List (Option (Poster S))) (realm : ℕ) (p q : Poster S) → slice_get posters realm ≡ Some (Some p) → took ≡ set posters realm None → left ≡ set took realm (Some q) → trace q ≡ trace p → traces left ≡ traces posters
  put_back_traced posters took left realm p q at taken put e =
      ap traces (put ∙ ap (λ l. set l realm (Some q)) taken ∙ set-set posters realm None (Some q)) ∙ map_same (option_map trace) posters realm (Some p) (Some q) at (ap Some e)

  -- the posters of a seat are others with their traces
  pub put_traced : (slots : List (Option (List (Option (Poster S))))) (k : ℕ) (were are : Option (List (Option (Poster S)))) → slice_get slots k ≡ Some were → option_map traces are ≡ option_map traces were → traces_of (set slots k are) ≡ traces_of slots
  put_traced slots k were are at e = map_same (option_map traces) slots k were are at e

  -- the trace of the one at a place is seen in those of all
  abbrev traces_in : Option (List (Option (Trace S))) → ℕ → Option (Trace S)
  traces_in None realm = None
  traces_in (Some row) realm = option_flatten (slice_get row realm)

  pub flat_traces : (o : Option (Option (Poster S))) → option_flatten (option_map (option_map trace) o) ≡ option_map trace (option_flatten o)
  flat_traces None = refl
  flat_traces (Some o) = refl

  row_traces : (o : Option (List (Option (Poster S)))) (realm : ℕ) → traces_in (option_map traces o) realm ≡ option_map trace (poster_in o realm)
  row_traces None realm = refl
  row_traces (Some posters) realm = ap option_flatten (slice_get-map (option_map trace) posters realm) ∙ flat_traces (slice_get posters realm)

  flat_rows : (o : Option (Option (List (Option (Poster S))))) → option_flatten (option_map (option_map traces) o) ≡ option_map traces (option_flatten o)
  flat_rows None = refl
  flat_rows (Some o) = refl

  trace_seen : (slots : List (Option (List (Option (Poster S))))) (k realm : ℕ) → traces_in (option_flatten (slice_get (traces_of slots) k)) realm ≡ trace_at slots k realm
  trace_seen slots k realm = ap (λ o. traces_in (option_flatten o) realm) (slice_get-map (option_map traces) slots k) ∙ ap (λ o. traces_in o realm) (flat_rows (slice_get slots k)) ∙ row_traces (option_flatten (slice_get slots k)) realm

  pub traces_at : (before now : List (Option (List (Option (Poster S))))) → traces_of now ≡ traces_of before → (k realm : ℕ) → trace_at now k realm ≡ trace_at before k realm
  traces_at before now e k realm = sym (trace_seen now k realm) ∙ ap (λ l. traces_in (option_flatten (slice_get l k)) realm) e ∙ trace_seen before k realm

  -- what all was received of, begins what is received of it later
  pub begun_with : (k : ℕ) (was now : List (Post S)) (said : List (ℕ × Act S)) → IsPrefix said (at_seat k was) → IsPrefix was now → IsPrefix said (at_seat k now)
  begun_with k was now said h more = prefix-on said (at_seat k was) (at_seat k now) h (at_seat k more.0, sym (at_seat_append k was more.0) ∙ ap (λ ps. at_seat k ps) more.1)

  pub all_begins : (k : ℕ) (now : List (Post S)) (said : List (ℕ × Act S)) → at_seat k now ≡ said → IsPrefix said (at_seat k now)
  all_begins k now said e = ([], append-nil said ∙ sym e)

-- what begins a list that begins it is that list
nothing_more : {A : Type 0} (ys zs : List A) → length (ys ++ zs) ≤ length ys → zs ≡ []
nothing_more ys [] less = refl
nothing_more ys (z ∷ zs) less = absurd (let long : length (ys ++ z ∷ zs) ≡ length ys + length (z ∷ zs) = length-append ys (z ∷ zs) in omega (arith, less, long))

pub both_begin : {A : Type 0} (xs ys : List A) → IsPrefix xs ys → IsPrefix ys xs → xs ≡ ys
both_begin xs ys p q =
    let long : length ys ≡ length xs + length p.0 = sym (ap length p.1) ∙ length-append xs p.0 in
    let short : length xs ≡ length ys + length q.0 = sym (ap length q.1) ∙ length-append ys q.0 in
    let none : p.0 ≡ [] = nothing_more xs p.0 (omega (arith, ap length p.1, long, short)) in
    sym (append-nil xs) ∙ ap (λ l. xs ++ l) (sym none) ∙ p.1
