use Rattle.std.proofs.Common.{◌&&◌, List, ℕ, subst}
use Rattle.wamp_ids.specs.Pattern.{PatternText, matches}
use Rattle.subscription_index.specs.Receiver.{names_topic}
use Rattle.subscription_index.specs.body.Found.{Adds}
use Rattle.subscription_index.specs.body.Names.{number_named}
use Rattle.subscription_index.proofs.SearchesTogether.{adds_others}
use Rattle.subscription_index.proofs.names.others.Goals as goal

pub returns : goal.returns
returns c =
    let names = c.args.names.now in
    let topic = c.args.topic.now in
    subst (λ (a : List ℕ). Adds (number_named names) (λ (p : PatternText). names_topic p.policy && matches p topic) a c.add_wildcards.new.numbers.items) c.new-numbers.ensures.items
    (adds_others names topic c.new-numbers.result.items c.add_beginnings.new.numbers.items c.add_wildcards.new.numbers.items c.in_ok-add_beginnings.ensures c.in_ok-add_wildcards.ensures)
