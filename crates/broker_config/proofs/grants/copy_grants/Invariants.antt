use Rattle.std.proofs.Common.{◌≡◌, take}
use Rattle.realm.specs.Grants.{pairs_of}
use Rattle.broker_config.proofs.grants.copy_grants.Given as goal

abbrev pub invariant-loop-authid : goal.invariant-loop-authid
invariant-loop-authid l = pairs_of l.copy.items ≡ pairs_of (take l.authid-index l.grants)
