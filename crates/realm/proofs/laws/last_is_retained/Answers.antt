use Rattle.realm.proofs.LastIsRetained.{last, sent}
use Rattle.realm.proofs.laws.last_is_retained.Goals as goal

pub returns : goal.returns
returns c = record { last = last; sent = sent }
