use Rattle.std.proofs.Common.{◌∙◌, rules}
use Rattle.std.proofs.lemmas.Fn.{filter_same}
use Rattle.realm_actor.proofs.Parting.{parted_live}
use Rattle.realm_actor.proofs.settle.sweep.Goals as goal

pub returns-clause-rows : goal.returns-clause-rows
returns-clause-rows g c = filter_same _ _ _ (λ x b f' k. search rules) _ _ c.retain.ensures.filtered ∙ parted_live c.args.realm.now _ _ c.hand_over_in.ensures.rows
