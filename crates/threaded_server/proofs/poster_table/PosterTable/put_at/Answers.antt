use Rattle.std.proofs.Common.{rules, ◌≤◌, ◌<◌, Some, length, option_map, set, refl, sym, ap, ◌∙◌, subst}
use Rattle.std.proofs.lemmas.List.{map-set}
use Rattle.std.proofs.lemmas.Option.{slice_get-map, slice_get_past, slice_get_read}
use Rattle.std.specs.Option.{option_flatten}
use Rattle.std.specs.Vec.{vec_len}
use Rattle.broker_threads.proofs.Lemmas.{behind}
use Rattle.threaded_server.proofs.Places.{map_get, set_nowhere}
use Rattle.threaded_server.specs.Posters.{lists_of}
use Rattle.threaded_server.proofs.poster_table.PosterTable.put_at.Goals as goal

pub returns-in-Some : goal.returns-in-Some
returns-in-Some g c =
    let slots = c.args.self.now.slots.items in
    let within : c.args.place < length c.args.self.now.slots.items = search rules in
    let at = map_get (option_map (λ posters. posters.items)) slots c.args.place c.in-Some.slot.now (slice_get_read slots (length slots) c.args.place c.in-Some.slot.now refl within c.in-Some.ensures.value) in
    map-set (option_map (λ posters. posters.items)) slots c.args.place c.put_in.new.slot ∙ ap (set (lists_of c.args.self.now) c.args.place) (c.put_in.ensures ∙ ap (option_map (λ posters. set posters c.args.realm (Some c.args.poster))) (sym (ap option_flatten at)))

pub returns-in_default : goal.returns-in_default
returns-in_default g c =
    let slots = c.args.self.now.slots.items in
    let nowhere = slice_get-map (option_map (λ posters. posters.items)) slots c.args.place ∙ ap (option_map (option_map (λ posters. posters.items))) (slice_get_past slots c.args.place (subst (λ n. n ≤ c.args.place) c.args.self.now.slots.ok.0 (behind c.args.place (vec_len c.args.self.now.slots) c.in_default.ensures.variant.1))) in
    sym (set_nowhere (lists_of c.args.self.now) c.args.place _ nowhere)
