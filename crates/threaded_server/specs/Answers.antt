-- What accepting answered, and how serving ends by it.
use Rattle.std.specs.Prelude.{◌≡◌, ◌+◌, ◌<◌, ℕ, List, [], ◌∷◌, ◌++◌, Result, Ok, Err}
use Rattle.threaded_server.specs.declared.acceptor.Accepted.{Accepted}
use Rattle.threaded_server.specs.declared.acceptor.Accepted.TheVariants as accepted
use Rattle.threaded_server.specs.declared.answer.Answer.{Answer}
use Rattle.threaded_server.specs.declared.answer.Answer.TheVariants.{Came, Stopped, Failed}
use Rattle.broker_config.specs.declared.fault.Fault.{Fault}
use Rattle.broker_config.specs.declared.fault.Fault.TheVariants.{NoMemory, ListenFault}

module _ {T : Type 0} where
  -- an answer without its stream
  abbrev pub answer_of : Accepted T → Answer
  answer_of (accepted.Stream _) = Came
  answer_of accepted.Stop = Stopped
  answer_of accepted.Failed = Failed

-- how many streams came, by what accepting answered
abbrev pub came_in : List Answer → ℕ
came_in [] = 0
came_in (Came ∷ more) = came_in more + 1
came_in (Stopped ∷ more) = came_in more
came_in (Failed ∷ more) = came_in more

-- how many failures in a row stand at the end of answers, where so many came before them
abbrev pub in_a_row : ℕ → List Answer → ℕ
in_a_row before [] = before
in_a_row before (Failed ∷ more) = in_a_row (before + 1) more
in_a_row before (_ ∷ more) = in_a_row 0 more

-- nothing in the answers ends serving, where so many failures in a row came before them: neither a stop, nor 100 failures in a row
abbrev pub GoesOn : ℕ → List Answer → Type 0
GoesOn before [] = Unit {0}
GoesOn before (Came ∷ more) = GoesOn 0 more
GoesOn before (Failed ∷ more) = (before + 1 < 100) × GoesOn (before + 1) more
GoesOn before (Stopped ∷ more) = ⊥

-- what was answered, up to the last answer, which alone ends serving
pub record EndsWith (given : List Answer) (last : Answer) : Type 0 where
  pub until : List Answer
  pub given_are : given ≡ until ++ last ∷ []
  pub goes_on : GoesOn 0 until

-- by the end of serving: by a stop, by 100 failures in a row, or before anything was answered
abbrev pub EndsBy : Result Unit Fault → List Answer → Type 0
EndsBy (Ok _) given = EndsWith given Stopped
EndsBy (Err ListenFault) given = EndsWith given Failed × (in_a_row 0 given ≡ 100)
EndsBy (Err NoMemory) given = given ≡ []

-- what was answered since
pub record Serves (before now : List Answer) (result : Result Unit Fault) : Type 0 where
  pub given : List Answer
  pub answered : now ≡ before ++ given
  pub ends : EndsBy result given
