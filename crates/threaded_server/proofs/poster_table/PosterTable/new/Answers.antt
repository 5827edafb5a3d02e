use Rattle.std.proofs.Common.{◌≡◌, [], ◌∷◌, ◌++◌, None, Some, ap, ◌∙◌, arith, map, option_map, replicate}
use Rattle.std.proofs.lemmas.List.{map-append}
use Rattle.threaded_server.proofs.Places.{one_same}
use Rattle.threaded_server.proofs.poster_table.PosterTable.new.Goals as goal

pub loop-place-preserved : goal.loop-place-preserved
loop-place-preserved g c =
    let one = Some (replicate c.args.realms None) in
    ap (map (option_map (λ posters. posters.items))) c.in_ok-push.ensures.items ∙ map-append (option_map (λ posters. posters.items)) c.loop-place.slots.items (Some c.in_ok-no_posters.field-0 ∷ []) ∙ ap (λ l. l ++ Some c.in_ok-no_posters.field-0.items ∷ []) c.loop-place.invariant
    ∙ ap (λ l. replicate c.loop-place._place one ++ Some l ∷ []) c.in_ok-no_posters.ensures ∙ one_same c.loop-place._place one

pub returns : goal.returns
returns g c =
    let all : c.loop-place._place ≡ 256 = omega (arith, c.loop-place-test.false, c.loop-place.auto._place-end) in
    c.loop-place.invariant ∙ ap (λ n. replicate n (Some (replicate c.args.realms None))) all
