use Rattle.subscription_index.proofs.ConnsLemmas.{found-place}
use Rattle.subscription_index.proofs.conns.place_of.Goals as goal

pub returns : goal.returns
returns c = found-place _ _ _ c.requires c.binary_search.ensures.bound c.binary_search.ensures.position
