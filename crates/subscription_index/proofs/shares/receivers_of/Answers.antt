use Rattle.subscription_index.proofs.ReceiverLemmas.{found-other, found-exact, one-long, none-long}
use Rattle.subscription_index.proofs.shares.receivers_of.Goals as goal

pub returns-in-len1 : goal.returns-in-len1
returns-in-len1 c =
    let alone = one-long c.args.others.now c.number-item.result c.in-len1.len_at_least c.in-len1.len_below c.number-item.is in
    found-other c.args.holders.now c.number-item.result c.args.exact.now c.args.others.now c.holders_of.result c.in-None.is alone c.holders_of.ensures

pub returns-in-empty-others : goal.returns-in-empty-others
returns-in-empty-others c =
    found-exact c.args.holders.now c.in-Some.number c.args.exact.now c.args.others.now c.holders_of-in-empty-others.result c.in-Some.is (none-long c.args.others.now c.in-empty-others.len_below)
    c.holders_of-in-empty-others.ensures
