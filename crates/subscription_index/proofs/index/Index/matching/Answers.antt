use Rattle.std.proofs.Common.{sym, ap, ◌∙◌, subst}
use Rattle.wamp_ids.specs.Pattern.{matches}
use Rattle.subscription_index.specs.Index.{IsStrictlyAscending, matching}
use Rattle.subscription_index.specs.body.Receivers.{keys_of}
use Rattle.subscription_index.proofs.Keys.{ascending-filter}
use Rattle.subscription_index.proofs.ReceiverLemmas.{keys-at}
use Rattle.subscription_index.proofs.index.Index.matching.Goals as goal

pub returns-clause-found : goal.returns-clause-found
returns-clause-found c =
    let rows = c.args.self.now.rows in
    let topic = c.args.topic.now in
    c.in_ok-pairs_of.ensures ∙ (ap keys_of c.in_ok-receivers.ensures.found ∙ keys-at rows (matching rows topic))

pub returns-clause-ascending : goal.returns-clause-ascending
returns-clause-ascending c =
    let rows = c.args.self.now.rows in
    let topic = c.args.topic.now in
    let these = c.in_ok-pairs_of.ensures ∙ (ap keys_of c.in_ok-receivers.ensures.found ∙ keys-at rows (matching rows topic)) in
    subst IsStrictlyAscending (sym these) (ascending-filter (λ r. matches r.1 topic) rows c.in_ok-receivers.ensures.index.ascending)
