use Rattle.std.proofs.Common.{map, not, ◌&&◌, ◌||◌, ap, ◌∙◌}
use Rattle.subscription_index.specs.body.Found.{has}
use Rattle.subscription_index.specs.body.Holders.{is_holder}
use Rattle.subscription_index.specs.body.Receivers.{is_either, is_number, receiver_by}
use Rattle.subscription_index.proofs.ReceiverLemmas.{found-keys, either-holder}
use Rattle.subscription_index.proofs.shares.merged.Goals as goal

pub returns : goal.returns
returns c =
    let holders = c.args.holders.now in
    let exact = c.args.exact.now in
    let others = c.args.others.now in
    found-keys holders (is_either exact others) (λ n. not (is_number exact n)) c.put_in_order.new.pairs.items c.listed.result
    (c.listed.ensures ∙ (c.in_ok-receivers_in.ensures ∙ ap (map (receiver_by (λ n. not (is_number exact n)))) c.deref.ensures.value)) c.in_ok-put_in_order.ensures.ascending
    (λ d n. c.in_ok-put_in_order.ensures.same (d, n) ∙ (c.in_ok-add_pairs_of.ensures d n ∙ (ap (λ b. b || (is_number exact n && is_holder holders d n)) (c.in_ok-pairs.ensures d n)
    ∙ either-holder (is_number exact n) (has others n) (is_holder holders d n))))
