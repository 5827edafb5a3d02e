use Rattle.std.proofs.Common.{rules, ◌≤◌, ◌<◌, length, option_map, refl, sym, ap, ◌∙◌, subst, Some}
use Rattle.std.proofs.lemmas.Option.{slice_get-map, slice_get_past, slice_get_read}
use Rattle.std.specs.Vec.{vec_len}
use Rattle.broker_threads.proofs.Lemmas.{behind}
use Rattle.threaded_server.proofs.PosterSteps.{took_at, took_nowhere}
use Rattle.threaded_server.proofs.poster_table.PosterTable.take_at.Goals as goal

pub returns : goal.returns
returns g c =
    let slots = c.args.self.now.slots.items in
    let within : c.args.place < length c.args.self.now.slots.items = search rules in
    let at = slice_get_read slots (length slots) c.args.place c.in_ok-get_mut.field-0.now refl within c.in_ok-get_mut.ensures.value ∙ ap Some (sym c.take.ensures.value) in
    took_at (λ posters. posters.items) slots c.args.place c.take.result c.take.new.self at c.take.ensures.after

pub returns-in_err-get_mut : goal.returns-in_err-get_mut
returns-in_err-get_mut g c =
    let slots = c.args.self.now.slots.items in
    let nowhere = slice_get-map (option_map (λ posters. posters.items)) slots c.args.place ∙ ap (option_map (option_map (λ posters. posters.items))) (slice_get_past slots c.args.place (subst (λ n. n ≤ c.args.place) c.args.self.now.slots.ok.0 (behind c.args.place (vec_len c.args.self.now.slots) c.in_err-get_mut.ensures.variant.1))) in
    took_nowhere (λ posters. posters.items) slots c.args.place c.from_residual.result c.from_residual.ensures nowhere
