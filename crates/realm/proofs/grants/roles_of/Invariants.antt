use Rattle.std.proofs.Common.{◌≡◌, ℕ, List}
use Rattle.indexmap.specs.IndexMap.{get_by_text}
use Rattle.realm.specs.Grants.{first_of, pairs_of, role_in}
use Rattle.realm.proofs.grants.roles_of.Given as goal

abbrev pub invariant-loop-authid : goal.invariant-loop-authid
invariant-loop-authid l = (name : List ℕ) → first_of (get_by_text l.roles name) (role_in (pairs_of l.authid-iterator.rest.items) name) ≡ role_in (pairs_of l.fn.pairs.items) name
