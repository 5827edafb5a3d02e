use Rattle.std.proofs.Common.{rules, ◌≡◌, ◌≤◌, ◌<◌, ◌+◌, Some, [], append-nil, length, option_map, refl, sym, ap, ◌∙◌, subst}
use Rattle.std.proofs.lemmas.List.{map-set}
use Rattle.std.proofs.lemmas.Option.{none-some, slice_get-map, slice_get_past, slice_get_read}
use Rattle.std.specs.Option.{option_flatten}
use Rattle.std.specs.Vec.{vec_len}
use Rattle.broker_threads.proofs.Lemmas.{behind}
use Rattle.realm_inbox.specs.EndViews.{posted, received}
use Rattle.realm_inbox.specs.Seats.{at_seat}
use Rattle.threaded_server.proofs.DrainSteps.{put_traced}
use Rattle.threaded_server.proofs.Places.{map_get}
use Rattle.threaded_server.specs.Posters.{lists_of, poster_in, traces_of}
use Rattle.threaded_server.proofs.poster_table.PosterTable.drain_at.Goals as goal

pub drain_slot-requires : goal.drain_slot-requires
drain_slot-requires g c =
    let slots = c.args.self.now.slots.items in
    let within : c.args.place < length c.args.self.now.slots.items = search rules in
    let at = map_get (option_map (λ posters. posters.items)) slots c.args.place c.in-Some.slot.now (slice_get_read slots (length slots) c.args.place c.in-Some.slot.now refl within c.in-Some.ensures.value) in
    record { here = λ p e. (c.requires.here p (ap (λ o. poster_in (option_flatten o) c.args.realm) at ∙ e)).inbox }

pub returns-in-Some-clause-traces : goal.returns-in-Some-clause-traces
returns-in-Some-clause-traces g c =
    let slots = c.args.self.now.slots.items in
    let within : c.args.place < length c.args.self.now.slots.items = search rules in
    let at = map_get (option_map (λ posters. posters.items)) slots c.args.place c.in-Some.slot.now (slice_get_read slots (length slots) c.args.place c.in-Some.slot.now refl within c.in-Some.ensures.value) in
    ap traces_of (map-set (option_map (λ posters. posters.items)) slots c.args.place c.drain_slot.new.slot)
    ∙ put_traced (lists_of c.args.self.now) c.args.place (option_map (λ posters. posters.items) c.in-Some.slot.now) (option_map (λ posters. posters.items) c.drain_slot.new.slot) at c.drain_slot.ensures.traces

pub returns-in-Some-clause-received : goal.returns-in-Some-clause-received
returns-in-Some-clause-received g c p e =
    let slots = c.args.self.now.slots.items in
    let within : c.args.place < length c.args.self.now.slots.items = search rules in
    let at = map_get (option_map (λ posters. posters.items)) slots c.args.place c.in-Some.slot.now (slice_get_read slots (length slots) c.args.place c.in-Some.slot.now refl within c.in-Some.ensures.value) in
    subst (λ n. at_seat n (received c.drain_slot.new.inbox) ≡ posted p) (c.requires.here p e).seat (c.drain_slot.ensures.received p (sym (ap (λ o. poster_in (option_flatten o) c.args.realm) at) ∙ e))

pub returns-in-Some-clause-more : goal.returns-in-Some-clause-more
returns-in-Some-clause-more g c = c.drain_slot.ensures.more

pub returns-in_default-clause-received : goal.returns-in_default-clause-received
returns-in_default-clause-received g c p e =
    let slots = c.args.self.now.slots.items in
    let nowhere = slice_get-map (option_map (λ posters. posters.items)) slots c.args.place ∙ ap (option_map (option_map (λ posters. posters.items))) (slice_get_past slots c.args.place (subst (λ n. n ≤ c.args.place) c.args.self.now.slots.ok.0 (behind c.args.place (vec_len c.args.self.now.slots) c.in_default.ensures.variant.1))) in
    absurd (none-some p (sym (ap (λ o. poster_in (option_flatten o) c.args.realm) nowhere) ∙ e))

pub returns-in_default-clause-more : goal.returns-in_default-clause-more
returns-in_default-clause-more g c = ([], append-nil (received c.args.inbox.now))
