-- A replay in the midst of its input.
use Rattle.std.specs.Prelude.{◌≡◌, ◌+◌, ◌<◌, ℕ, Bool, true, false, List, [], ◌∷◌, ◌++◌, length, None, ◌⊎◌}
use Rattle.replay.specs.Lines.{HaveNoLineFeed, has_line_feed, joined, line_of, lines_of}
use Rattle.replay.specs.Transcript.{IsTranscript, Replay, Tells}

-- the replay, the octets of the line that isn't ended yet, how many lines were told, and what is to be written
pub record ReplayInput : Type 0 where
  pub replay : Replay
  pub rest : List ℕ
  pub count : ℕ
  pub out : List ℕ

-- what one line adds to the output
pub record TellsMore (r : Replay) (octets : List ℕ) (next : Replay) (before after : List ℕ) : Type 0 where
  pub out : List ℕ
  pub is : after ≡ before ++ out
  pub tells : Tells r octets next out

-- of this input the whole lines are told, and `written` was written before what is to be written
pub record IsToldOf (start : Replay) (input written : List ℕ) (t : ReplayInput) : Type 0 where
  pub lines : List (List ℕ)
  pub split : input ≡ joined lines ++ t.rest
  pub lines_clean : HaveNoLineFeed lines
  pub rest_clean : has_line_feed t.rest ≡ false
  pub count : t.count ≡ length lines
  pub transcript : IsTranscript start lines t.replay (written ++ t.out)

-- a line is whole where LF ends it, or the input does behind an octet of it, and too long already where it has more than 2^20 octets
abbrev pub IsWhole : List ℕ → List ℕ → Bool → Type 0
IsWhole bad [] ended = (1048576 < length bad) ⊎ ((ended ≡ true) × (0 < length bad))
IsWhole bad (c ∷ rest) ended = (1048576 < length bad) ⊎ (c ≡ 10)

-- line k of the input is its first bad line, and the output is the transcript of the lines before it
pub record IsBadAt (start : Replay) (input : List ℕ) (ended : Bool) (k : ℕ) (out : List ℕ) : Type 0 where
  pub good : List (List ℕ)
  pub bad : List ℕ
  pub rest : List ℕ
  pub split : input ≡ joined good ++ (bad ++ rest)
  pub good_clean : HaveNoLineFeed good
  pub bad_clean : has_line_feed bad ≡ false
  pub whole : IsWhole bad rest ended
  pub is_bad : line_of bad ≡ None
  pub place : k ≡ length good + 1
  pub next : Replay
  pub transcript : IsTranscript start good next out

-- the line that isn't ended yet is bad, and nothing is changed
pub record IsRefused (t : ReplayInput) (k : ℕ) (u : ReplayInput) : Type 0 where
  pub is_bad : line_of t.rest ≡ None
  pub place : k ≡ t.count + 1
  pub unchanged : u ≡ t

-- these octets of the input lead on
abbrev pub Goes : ReplayInput → List ℕ → ReplayInput → Type 0
Goes t octets u = (start : Replay) (input written : List ℕ) → IsToldOf start input written t → IsToldOf start (input ++ octets) written u

-- with these octets comes a bad line
abbrev pub Stops : ReplayInput → List ℕ → Bool → ℕ → ReplayInput → Type 0
Stops t octets ended k u = (start : Replay) (input written : List ℕ) → IsToldOf start input written t → IsBadAt start (input ++ octets) ended k (written ++ u.out)

-- the output is the transcript of the whole input
pub record IsAllTold (start : Replay) (input out : List ℕ) : Type 0 where
  pub next : Replay
  pub transcript : IsTranscript start (lines_of input) next out

-- the input has ended
abbrev pub Completes : ReplayInput → ReplayInput → Type 0
Completes t u = (start : Replay) (input written : List ℕ) → IsToldOf start input written t → IsAllTold start input (written ++ u.out)
