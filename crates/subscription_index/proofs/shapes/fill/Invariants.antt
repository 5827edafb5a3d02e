use Rattle.std.proofs.Common.{◌≡◌, ◌++◌, map, drop}
use Rattle.subscription_index.specs.body.Shapes.{dotted, named}
use Rattle.subscription_index.proofs.shapes.fill.Given as goal

abbrev pub invariant-loop-place : goal.invariant-loop-place
invariant-loop-place l = dotted (named l.fn.mask (map (λ p. p.now) l.parts)) ≡ l.text.items ++ dotted (named l.left (drop l.place (map (λ p. p.now) l.parts)))
