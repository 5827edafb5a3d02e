-- What a count without bytes stands for.
use Rattle.std.specs.Prelude.{ℕ, suc}
use Rattle.ghost_state.specs.declared.ghost_count.CountTrail.{CountTrail}
use Rattle.ghost_state.specs.declared.ghost_count.CountTrail.TheVariants.{Begun, Longer'}

-- how many links the trail has
abbrev pub links : CountTrail → ℕ
links Begun = 0
links (Longer' mark before) = suc (links before)
