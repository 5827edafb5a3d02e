-- What a run of steps takes.
use Rattle.std.specs.Prelude.{ℕ, ◌≡◌, List, [], ◌∷◌, ◌++◌, None, Some}
use Rattle.std.specs.declared.option.Option.{Option}
use Rattle.wamp_messages.specs.declared.item.Item.{Item}
use Rattle.realm_core.specs.declared.step.Step.{Step}
use Rattle.realm_core.specs.declared.step.Step.TheVariants.{Take}
use Rattle.realm_core.specs.declared.step.Stepped.{Stepped}
use Rattle.realm_core.specs.declared.step.Stepped.TheVariants.{Took}
use Rattle.realm_core.specs.Worlds.{Course, Moves}

abbrev pub taker_of : Step → Option ℕ
taker_of (Take c) = Some c
taker_of step = None

-- what is taken by a step that takes from this queue
abbrev pub taken_with : Option ℕ → Stepped → List (ℕ × Item)
taken_with None stepped = []
taken_with (Some c) (Took item) = (c, item) ∷ []
taken_with (Some c) stepped = []

-- one step, and what was taken so far, before and after it
pub record Advances (w : Course) (step : Step) (v : Course) (before after : List (ℕ × Item)) : Type 0 where
  pub stepped : Stepped
  pub moves : Moves w step stepped v
  pub taken : after ≡ before ++ taken_with (taker_of step) stepped
