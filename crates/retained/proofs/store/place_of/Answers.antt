use Rattle.std.proofs.Common.{rules}
use Rattle.std.proofs.lemmas.Fn.{always_returns_same}
use Rattle.std.specs.Cmp.Lexicographic.{slice_cmp}
use Rattle.std.specs.Ordering.{nat_cmp}
use Rattle.retained.proofs.Insertion.{found-place}
use Rattle.retained.proofs.store.place_of.Goals as goal

-- the closure compares a publication's topic with the topic that is looked for
pub returns : goal.returns
returns c =
    let halves = c.binary_search_by.ensures in
    found-place _ _ _ c.requires halves.bound (halves.position (λ p. slice_cmp nat_cmp p.topic c.args.topic.now) (always_returns_same _ _ _ (λ p o g called. search rules)))
