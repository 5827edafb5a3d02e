-- What a replay keeps between two lines, and what the first line of a number prints.
use Rattle.std.specs.Prelude.{◌≡◌, ℕ, true, ◌&&◌, List, ◌++◌, None, Some}
use Rattle.std.specs.declared.option.Option.{Option}
use Rattle.std.specs.List.{list_all}
use Rattle.realm.specs.declared.entry.Entry.{Entry}
use Rattle.realm.specs.Sessions.{joined}
use Rattle.replay.specs.Lines.{is_number}
use Rattle.replay.specs.declared.speech.Speech.{Speech}
use Rattle.replay.specs.Transcript.{Prints, Replay, is_named, next_word, opening, refusal}

-- each connection that joined is the number of a line, and was named; and this is the next word
pub record IsLineReplay (r : Replay) (words : ℕ) : Type 0 where
  pub joined_named : list_all (λ d. is_number d && is_named r d) (joined r.history) ≡ true
  pub word : words ≡ next_word r.history

-- what the first line of a number adds to the output
abbrev pub PrintsFirst : Replay → ℕ → Speech → Option Entry → List ℕ → Type 0
PrintsFirst r n speech None out = out ≡ refusal n speech
PrintsFirst r n speech (Some e) out = Prints r.history e n out

pub record PrintsOpening (r : Replay) (n : ℕ) (speech : Speech) (before after : List ℕ) : Type 0 where
  pub out : List ℕ
  pub is : after ≡ before ++ out
  pub prints : PrintsFirst r n speech (opening r n speech) out
