-- What is told beside the lines: which topics are subscribed to.
use Rattle.std.specs.Prelude.{◌≡◌, ◌≤◌, ℕ, List, [], ◌∷◌, ◌++◌, codes}
use Rattle.rawsocket.specs.Devices.{Writing}

-- what a device of notes took, and how often it failed
pub record Noting : Type 0 where
  pub taken : List ℕ
  pub failures : ℕ

abbrev pub noting : Writing → Noting
noting sink = record { taken = sink.taken; failures = sink.failures }

-- the note of a topic that is subscribed to: a line
abbrev pub note_of : List ℕ → List ℕ
note_of topic = codes "subscribed to " ++ (topic ++ 10 ∷ [])

-- these notes are told and nothing else is, unless the device failed
pub record IsNoted (notes : List ℕ) (before now : Noting) : Type 0 where
  pub told : now.failures ≡ before.failures → now.taken ≡ before.taken ++ notes
  pub failures : before.failures ≤ now.failures
