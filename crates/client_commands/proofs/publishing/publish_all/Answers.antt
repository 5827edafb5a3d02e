use Rattle.std.proofs.Common.{ap, subst, sym}
use Rattle.std.proofs.lemmas.Result.{on_ok_weaker}
use Rattle.rawsocket.specs.Steps.{failures_told}
use Rattle.rawsocket.proofs.Lemmas.{no_whole_steps, whole_fine}
use Rattle.client_commands.specs.Published.{IsReadToEnd}
use Rattle.client_commands.specs.declared.command.Arguments.{Arguments}
use Rattle.client_commands.proofs.FaultLemmas.{aside-input, aside-output}
use Rattle.client_commands.proofs.publishing.publish_all.Goals as goal

pub returns-in-Words-clause-lines : goal.returns-in-Words-clause-lines
returns-in-Words-clause-lines g c = whole_fine (aside-input c.publish_words.result c.publish_words.ensures.aside) (no_whole_steps _)

pub returns-in-Words-clause-unprinted : goal.returns-in-Words-clause-unprinted
returns-in-Words-clause-unprinted g c = ap failures_told (aside-output c.publish_words.result c.publish_words.ensures.aside)

pub returns-in-Words-clause-ended : goal.returns-in-Words-clause-ended
returns-in-Words-clause-ended g c =
    let none : IsReadToEnd c.args.command.now.arguments (g.J.Source.seen c.args.input.now).is_ended = subst (λ (a : Arguments). IsReadToEnd a (g.J.Source.seen c.args.input.now).is_ended) (sym c.in-Words.is) tt in
    on_ok_weaker c.publish_words.result (λ _. none) c.publish_words.ensures.published
