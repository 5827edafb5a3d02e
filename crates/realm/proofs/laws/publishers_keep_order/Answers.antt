use Rattle.realm.proofs.PublisherOrder.{publishers-own, in-order}
use Rattle.realm.proofs.laws.publishers_keep_order.Goals as goal

pub returns : goal.returns
returns c = record { own = publishers-own; order = in-order }
