use Rattle.std.proofs.Common.{◌≤◌, ◌<◌, rules, None, Some, length, map, option_map, refl, sym, ap, ◌∙◌, subst}
use Rattle.std.proofs.lemmas.List.{map-set}
use Rattle.std.proofs.lemmas.Option.{slice_get-map, slice_get_past, slice_get_read}
use Rattle.std.specs.Option.{option_flatten}
use Rattle.std.specs.Vec.{vec_len}
use Rattle.broker_threads.proofs.Lemmas.{behind, put_back}
use Rattle.threaded_server.proofs.Places.{map_get, taken_others}
use Rattle.threaded_server.proofs.PosterSteps.{gives_none, gives_up}
use Rattle.threaded_server.specs.Posters.{GivesUp, lists_of, poster_in}
use Rattle.threaded_server.proofs.poster_table.PosterTable.give_up.Goals as goal

pub returns-in_err-slot : goal.returns-in_err-slot
returns-in_err-slot g c =
    let slots = c.args.self.now.slots.items in
    let nowhere = slice_get-map (option_map (λ posters. posters.items)) slots c.args.place ∙ ap (option_map (option_map (λ posters. posters.items))) (slice_get_past slots c.args.place (subst (λ n. n ≤ c.args.place) c.args.self.now.slots.ok.0 (behind c.args.place (vec_len c.args.self.now.slots) c.in_err-slot.ensures.variant.1))) in
    subst (λ o. GivesUp (lists_of c.args.self.now) c.args.place c.args.realm o (lists_of c.args.self.now)) (sym c.from_residual.ensures)
    (gives_none (lists_of c.args.self.now) c.args.place c.args.realm (ap (λ o. poster_in (option_flatten o) c.args.realm) nowhere))

pub returns-in-Some : goal.returns-in-Some
returns-in-Some g c =
    let slots = c.args.self.now.slots.items in
    let within : c.args.place < length c.args.self.now.slots.items = search rules in
    let at = slice_get_read slots (length slots) c.args.place c.in_ok-slot.slot.now refl within c.in_ok-slot.ensures.value in
    let here = map_get (option_map (λ posters. posters.items)) slots c.args.place c.in_ok-slot.slot.now at ∙ ap (λ o. Some (option_map (λ posters. posters.items) o)) c.in-Some.is in
    gives_up (lists_of c.args.self.now) _ c.args.place c.args.realm c.in-Some.posters.items c.take_poster.new.posters.items c.take_poster.result here c.take_poster.ensures.there
    (taken_others c.in-Some.posters.items c.take_poster.new.posters.items c.args.realm c.take_poster.result c.take_poster.ensures.taken) (map-set (option_map (λ posters. posters.items)) slots c.args.place (Some c.take_poster.new.posters))

pub returns-in-None : goal.returns-in-None
returns-in-None g c =
    let slots = c.args.self.now.slots.items in
    let within : c.args.place < length c.args.self.now.slots.items = search rules in
    let at = slice_get_read slots (length slots) c.args.place c.in_ok-slot.slot.now refl within c.in_ok-slot.ensures.value in
    let here = map_get (option_map (λ posters. posters.items)) slots c.args.place c.in_ok-slot.slot.now at ∙ ap (λ o. Some (option_map (λ posters. posters.items) o)) c.in-None.is in
    subst (λ l. GivesUp (lists_of c.args.self.now) c.args.place c.args.realm None l) (sym (ap (map (option_map (λ posters. posters.items))) (put_back slots c.args.place c.in_ok-slot.slot.now at)))
    (gives_none (lists_of c.args.self.now) c.args.place c.args.realm (ap (λ o. poster_in (option_flatten o) c.args.realm) here))
