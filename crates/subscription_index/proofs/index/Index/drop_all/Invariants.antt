use Rattle.std.proofs.Common.{◌≡◌, length}
use Rattle.subscription_index.specs.Index.{without_all}
use Rattle.subscription_index.proofs.index.Index.drop_all.Given as goal

abbrev pub invariant-loop-number : goal.invariant-loop-number
invariant-loop-number l = (without_all l.self.rows l.conn ≡ without_all l.fn.self.rows l.conn) × (l.self.opened ≡ l.fn.self.opened)

abbrev pub decreases-loop-number : goal.decreases-loop-number
decreases-loop-number l = length l.self.rows
