use Rattle.std.proofs.Common.{◌≡◌, eqb, drop}
use Rattle.std.specs.List.{list_any}
use Rattle.replay.proofs.line_replay.LineReplay.is_named.Given as goal

abbrev pub invariant-loop-named : goal.invariant-loop-named
invariant-loop-named l = list_any (λ m. eqb m l.number) (drop l.named-index l.named-items) ≡ list_any (λ m. eqb m l.number) l.named-items
