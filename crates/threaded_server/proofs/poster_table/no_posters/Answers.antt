use Rattle.std.proofs.Common.{◌≡◌, [], ◌∷◌, ◌++◌, None, ap, ◌∙◌, arith, replicate}
use Rattle.threaded_server.proofs.Places.{one_same}
use Rattle.threaded_server.proofs.poster_table.no_posters.Goals as goal

pub loop-realm-preserved : goal.loop-realm-preserved
loop-realm-preserved g c = c.in_ok-push.ensures.items ∙ ap (λ l. l ++ None ∷ []) c.loop-realm.invariant ∙ one_same c.loop-realm._realm None

pub returns : goal.returns
returns g c =
    let all : c.loop-realm._realm ≡ c.args.realms = omega (arith, c.loop-realm-test.false, c.loop-realm.auto._realm-end) in
    c.loop-realm.invariant ∙ ap (λ n. replicate n None) all
