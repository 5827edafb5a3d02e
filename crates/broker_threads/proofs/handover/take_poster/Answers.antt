use Rattle.std.proofs.Common.{rules, ◌≤◌, ◌<◌, length, refl, sym, ap, ◌∙◌, subst, Some, set}
use Rattle.std.proofs.lemmas.Option.{slice_get_past, slice_get_read}
use Rattle.std.specs.Option.{option_flatten}
use Rattle.std.specs.Vec.{vec_len}
use Rattle.broker_threads.proofs.Slots.{behind, taken}
use Rattle.broker_threads.proofs.handover.take_poster.Goals as goal

pub returns-in-Some-clause-taken : goal.returns-in-Some-clause-taken
returns-in-Some-clause-taken g c =
    let posters = c.args.posters.now.items in
    let within : c.args.realm < length c.args.posters.now.items = search rules in
    let at = slice_get_read posters (length posters) c.args.realm c.in-Some.place.now refl within c.in-Some.ensures.value ∙ ap Some (sym c.take.ensures.value) in
    taken posters (set posters c.args.realm c.take.new.self) c.args.realm c.take.result at (ap (set posters c.args.realm) c.take.ensures.after)

pub returns-in-Some-clause-there : goal.returns-in-Some-clause-there
returns-in-Some-clause-there g c =
    let posters = c.args.posters.now.items in
    let within : c.args.realm < length c.args.posters.now.items = search rules in
    ap option_flatten (slice_get_read posters (length posters) c.args.realm c.in-Some.place.now refl within c.in-Some.ensures.value ∙ ap Some (sym c.take.ensures.value))

pub returns-in-None-clause-there : goal.returns-in-None-clause-there
returns-in-None-clause-there g c =
    let posters = c.args.posters.now.items in
    ap option_flatten (slice_get_past posters c.args.realm (subst (λ n. n ≤ c.args.realm) c.args.posters.now.ok.0 (behind c.args.realm (vec_len c.args.posters.now) c.in-None.ensures.variant.1)))
