use Rattle.std.proofs.Common.{ap, arith}
use Rattle.subscription_index.proofs.ReceiverLemmas.{one_more_receiver}
use Rattle.subscription_index.proofs.shares.receivers_in.Goals as goal

pub loop-conn-preserved : goal.loop-conn-preserved
loop-conn-preserved c =
    let k = c.loop-conn-item.result in
    record {
      items = one_more_receiver _ c.args.pairs.now c.loop-conn.conn-index k _ _ _ c.loop-conn-test.true c.loop-conn-item.is c.loop-conn.invariant.items c.push_reserved.ensures.items
          (ap (λ b. record { conn = k.0; number = k.1; names_topic = b }) c.is_other-names_topic.ensures);
      count = omega arith;
      room = omega arith;
    }
