-- Posters that come back with the traces that they had.
use Rattle.std.proofs.Common.{◌≡◌, ◌+◌, ◌<◌, ℕ, List, Option, None, Some, length, map, option_map, slice_get, refl, sym, ap, ◌∙◌}
use Rattle.std.proofs.lemmas.List.{length-map}
use Rattle.std.proofs.lemmas.Option.{none-some, same_Some}
use Rattle.realm_inbox.specs.EndViews.{posted}
use Rattle.realm_inbox.specs.Ends.{Place}
use Rattle.realm_inbox.specs.declared.act.Act.{Act}
use Rattle.realm_inbox.specs.declared.ends.Poster.{Poster}
use Rattle.threaded_server.proofs.DrainSteps.{traced_conn, traced_inbox, traced_posted}
use Rattle.threaded_server.proofs.Places.{get_of_map, map_get}
use Rattle.threaded_server.specs.Posters.{AreAt, AreOfSeat, trace, traces}
use Rattle.threaded_server.specs.Posts.{Say}
use Rattle.wamp_ids.specs.Numbers.{seat_of}

module _ {S : Type 0} where
  -- a poster that has this trace
  pub traced_by : (slot : Option (Poster S)) (t : ℕ × Place S × List (ℕ × Act S)) → option_map trace slot ≡ Some t → (p : Poster S) × (slot ≡ Some p) × (trace p ≡ t)
  traced_by None t e = absurd (none-some t e)
  traced_by (Some p) t e = (p, refl, same_Some (trace p) t e)

  pub trace_there : (posters : List (Option (Poster S))) (i : ℕ) (t : ℕ × Place S × List (ℕ × Act S)) → slice_get (traces posters) i ≡ Some (Some t) → (p : Poster S) × (slice_get posters i ≡ Some (Some p)) × (trace p ≡ t)
  trace_there posters i t e =
      let slot = get_of_map (option_map trace) posters i (Some t) e in
      let p = traced_by slot.0 t slot.2 in
      (p.0, slot.1 ∙ ap Some p.1, p.2)

  -- the one at the same place
  pub twin : (were are : List (Option (Poster S))) → traces are ≡ traces were → (i : ℕ) (p : Poster S) → slice_get are i ≡ Some (Some p) → (q : Poster S) × (slice_get were i ≡ Some (Some q)) × (trace q ≡ trace p)
  twin were are e i p at = trace_there were i (trace p) (ap (λ l. slice_get l i) (sym e) ∙ map_get (option_map trace) are i (Some p) at)

  pub at_traced : (places : List (Place S)) (were are : List (Option (Poster S))) → traces are ≡ traces were → AreAt places were → AreAt places are
  at_traced places were are e h i p at =
      let q = twin were are e i p at in
      h i q.0 q.1 ∙ ap Some (traced_inbox q.0 p q.2)

  pub seat_traced : (number : ℕ) (were are : List (Option (Poster S))) → traces are ≡ traces were → AreOfSeat number were → AreOfSeat number are
  seat_traced number were are e h i p at =
      let q = twin were are e i p at in
      ap seat_of (sym (traced_conn q.0 p q.2)) ∙ h i q.0 q.1

  pub say_traced : (whole count : ℕ) (said : ℕ → List (ℕ × Act S)) (were are : List (Option (Poster S))) → traces are ≡ traces were → Say posted whole count said were → Say posted whole count said are
  say_traced whole count said were are e h = record {
    long = sym (length-map are (option_map trace)) ∙ ap length e ∙ length-map were (option_map trace) ∙ h.long;
    each = λ i less.
        let p = h.each i less in
        let q = twin are were (sym e) i p.0 p.1 in
        (q.0, q.1, traced_posted q.0 p.0 q.2 ∙ p.2);
  }
