-- Lists without bytes are sets where their elements are: so that an inbox's name is one.
use Rattle.std.specs.Prelude.{◌≡◌, List, [], ◌∷◌, refl}
use Rattle.std.specs.Coded.{Coded, code_by, coded_list}
use Rattle.std.proofs.Common.{ap}
use Rattle.ghost_state.specs.declared.ghost_list.ListTrail.{ListTrail}
use Rattle.ghost_state.specs.declared.ghost_list.ListTrail.TheVariants.{Begun, Longer'}

module _ {T : Type 0} where
  -- what a list without bytes has, the newest first
  abbrev pub newest : ListTrail T → List T
  newest Begun = []
  newest (Longer' mark before last) = last.value ∷ newest before

  abbrev pub trail_of : List T → ListTrail T
  trail_of [] = Begun
  trail_of (x ∷ xs) = Longer' (record { marker = record {}; value = tt }) (trail_of xs) (record { marker = record {}; value = x })

  abbrev pub trail_of-newest : (t : ListTrail T) → trail_of (newest t) ≡ t
  trail_of-newest Begun = refl
  trail_of-newest (Longer' mark before last) = ap (λ (b : ListTrail T). Longer' mark b last) (trail_of-newest before)

  abbrev pub trail_code : Coded T → Coded (ListTrail T)
  trail_code c = code_by (List T) (coded_list c) newest trail_of trail_of-newest
