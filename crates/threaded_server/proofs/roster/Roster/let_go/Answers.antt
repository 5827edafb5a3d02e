use Rattle.std.proofs.Common.{[], ◌∷◌, ◌++◌, length, sym, ap, ◌∙◌, subst}
use Rattle.ghost_state.specs.GhostList.{items_of}
use Rattle.threaded_server.specs.Overs.{Found}
use Rattle.threaded_server.proofs.roster.Roster.let_go.Goals as goal

pub pass-requires-clause-found : goal.pass-requires-clause-found
pass-requires-clause-found g c κs within = subst (λ o. Found (items_of c.args.self.now.lent ++ c.of-2.result.value ∷ []) (length (items_of c.args.self.now.over.streams)) o) (sym c.of-3.ensures) tt

pub returns-clause-over : goal.returns-clause-over
returns-clause-over g c = record { shown = c.of.result; shows = c.of.ensures; added = c.pass.ensures.over ∙ ap (λ o. items_of c.args.self.now.over.streams ++ o ∷ []) c.of-3.ensures }
