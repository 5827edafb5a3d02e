use Rattle.std.proofs.Common.{◌≡◌, None, replicate}
use Rattle.realm.proofs.last_asked.LastAsked.new.Given as goal

abbrev pub invariant-loop : goal.invariant-loop
invariant-loop l = l.last.items ≡ replicate l.counter None
