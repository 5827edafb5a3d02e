-- What holds of every replay.
use Rattle.std.specs.Prelude.{◌≡◌, ◌≤◌, ◌↔◌, ℕ, List, Some, decimal}
use Rattle.replay.specs.Lines.{number_in}
use Rattle.replay.specs.Transcript.{IsTranscript, Replay}

-- lines lead to one replay, and one text is printed for them
abbrev pub OneTranscript : Type 0
OneTranscript =
    (start s t : Replay) (lines : List (List ℕ)) (out other : List ℕ) → IsTranscript start lines s out → IsTranscript start lines t other → (s ≡ t) × (out ≡ other)

-- the text of a number is what that number is written as in decimal, and it is from 1 to 256
abbrev pub NumbersAreDecimal : Type 0
NumbersAreDecimal = (octets : List ℕ) (n : ℕ) → (number_in octets ≡ Some n) ↔ ((octets ≡ decimal n) × (1 ≤ n) × (n ≤ 256))
