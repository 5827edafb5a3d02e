-- The members of a list that takes no bytes.
use Rattle.std.specs.Prelude.{List, [], ◌∷◌, ◌++◌}
use Rattle.ghost_state.specs.declared.ghost_list.ListTrail.{ListTrail}
use Rattle.ghost_state.specs.declared.ghost_list.ListTrail.TheVariants.{Begun, Longer'}
use Rattle.ghost_state.specs.declared.ghost_list.GhostList.{GhostList}

module _ {T : Type 0} where
  abbrev pub members : ListTrail T → List T
  members Begun = []
  members (Longer' mark before last) = members before ++ last.value ∷ []

  -- the members, the oldest first
  abbrev pub items_of : GhostList T → List T
  items_of p = members p.trail.value
