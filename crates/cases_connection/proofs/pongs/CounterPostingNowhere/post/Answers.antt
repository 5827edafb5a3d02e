use Rattle.std.proofs.Common.{[], ◌∷◌, ◌++◌, ap, ◌∙◌}
use Rattle.ghost_state.specs.GhostList.{items_of}
use Rattle.cases_connection.proofs.PostedOutside.{outside_more}
use Rattle.cases_connection.proofs.pongs.CounterPostingNowhere.post.Goals as goal

pub returns-clause-posted : goal.returns-clause-posted
returns-clause-posted g c = outside_more (items_of c.args.self.now.acts) (items_of c.add-2.new.self) c.args.act (c.add-2.ensures ∙ ap (λ act. items_of c.args.self.now.acts ++ act ∷ []) c.of-2.ensures)
