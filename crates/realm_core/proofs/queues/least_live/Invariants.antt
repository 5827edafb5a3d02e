use Rattle.std.proofs.Common.{◌≡◌, drop, None}
use Rattle.std.specs.List.{filter}
use Rattle.realm.specs.Sessions.{live}
use Rattle.realm_core.specs.body.Queues.{least_of}
use Rattle.realm_core.proofs.queues.least_live.Given as goal

abbrev pub invariant-loop-conn : goal.invariant-loop-conn
invariant-loop-conn l = least_of l.best (filter (live l.realm) (drop l.conn-index l.conns)) ≡ least_of None (filter (live l.realm) l.conns)
