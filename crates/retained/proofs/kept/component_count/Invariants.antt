use Rattle.std.proofs.Common.{◌≡◌, ◌≤◌, take}
use Rattle.retained.proofs.CountLemmas.{dot_count}
use Rattle.retained.proofs.kept.component_count.Given as goal

abbrev pub invariant-loop-octet : goal.invariant-loop-octet
invariant-loop-octet l = (l.dots ≤ l.octet-index) × (l.dots ≡ dot_count (take l.octet-index l.text))
