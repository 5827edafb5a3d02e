-- What a set of ids holds.
use Rattle.std.specs.Prelude.{ℕ, Bool, ◌||◌, ◌==◌}
use Rattle.std.specs.Ordering.{nat_cmp}
use Rattle.std.specs.BTreeSet.{contains}
use Rattle.std.specs.List.{list_any}
use Rattle.eligibility.specs.declared.id_set.IdSet.{IdSet}

abbrev pub holds : IdSet → ℕ → Bool
holds ids q = contains nat_cmp ids.small q || list_any (λ n. n == q) ids.large.items
