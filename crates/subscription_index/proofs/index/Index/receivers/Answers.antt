use Rattle.std.proofs.Common.{◌≡◌, ℕ, List, not, ap, ◌∙◌, subst, rules}
use Rattle.subscription_index.specs.Index.{Held}
use Rattle.subscription_index.specs.Receiver.{receivers}
use Rattle.subscription_index.specs.body.Receivers.{is_either, is_number, AreFound}
use Rattle.subscription_index.proofs.ReceiverLemmas.{found_receivers}
use Rattle.subscription_index.proofs.index.Index.receivers.Goals as goal

pub returns-clause-found : goal.returns-clause-found
returns-clause-found c =
    let rows = c.self.inside.rows.entries in
    let holders = c.self.inside.holders in
    let topic = c.as_bytes-topic.result.now in
    let same : c.as_bytes-topic.result.now ≡ c.args.topic.now = search rules in
    let exact = c.exact-exact.result in
    let found = c.in_ok-receivers_of.field-0 in
    let is = c.self.invariant in
    let these = subst (λ (ns : List ℕ). AreFound holders (is_either exact ns) (λ n. not (is_number exact n)) found) c.deref.ensures.value c.in_ok-receivers_of.ensures in
    found_receivers rows c.self.inside.names holders c.self.inside.counts topic exact c.in_ok-others.others.items found is.0.ascending is.0.named is.1 is.2 c.exact-exact.ensures c.in_ok-others.ensures these
    ∙ (ap (receivers rows) same ∙ ap (λ (v : Held). receivers v.rows c.args.topic.now) c.self.view_is)
