use Rattle.std.proofs.Common.{refl, sym, ap, subst}
use Rattle.threaded_server.proofs.Accepting.{none_came}
use Rattle.threaded_server.specs.Stopping.{NoneStopped}
use Rattle.threaded_server.specs.Table.{books}
use Rattle.threaded_server.proofs.serve.open_and_accept.Goals as goal

pub returns-in-Err-clause-lent : goal.returns-in-Err-clause-lent
returns-in-Err-clause-lent g c = none_came _ _ _ _ _ _ refl refl (ap (λ r. books r.lent r.over.streams) c.in-Err.ensures.roster)

pub returns-in-Err-clause-asked : goal.returns-in-Err-clause-asked
returns-in-Err-clause-asked g c some = absurd (some refl)

pub returns-clause-stops : goal.returns-clause-stops
returns-clause-stops g c none = subst NoneStopped (sym c.accept_all.ensures.stops) (c.open.ensures.stops none)
