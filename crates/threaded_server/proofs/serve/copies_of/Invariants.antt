use Rattle.std.proofs.Common.{◌≡◌, take}
use Rattle.threaded_server.proofs.serve.copies_of.Given as goal

abbrev pub invariant-loop-realm : goal.invariant-loop-realm
invariant-loop-realm l = l.copies.items ≡ take l.realm-index l.realms
