use Rattle.std.proofs.Common.{map, sym, ap, ◌∙◌}
use Rattle.subscription_index.specs.body.Receivers.{receiver_by}
use Rattle.subscription_index.proofs.ReceiverLemmas.{found-under}
use Rattle.subscription_index.proofs.shares.holders_of.Goals as goal

pub returns-in-Some : goal.returns-in-Some
returns-in-Some c =
    found-under c.args.holders.now c.args.number c.args.names_topic c.in-Some.conns.now c.of_one.result
    (c.of_one.ensures ∙ ap (map (λ d. receiver_by (λ n. c.args.names_topic) (d, c.args.number))) c.as_slice.ensures.all) c.as_slice.ensures.ascending (sym c.in-Some.ensures.value)
