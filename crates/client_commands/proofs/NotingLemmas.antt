-- Notes, one after another.
use Rattle.std.proofs.Common.{◌≡◌, ◌++◌, ◌∙◌, ℕ, List, [], ◌∷◌, take, drop, sym, ap, arith, append_assoc, append-nil}
use Rattle.std.proofs.lemmas.List.{take-append-drop}
use Rattle.client_messages.specs.declared.heard.Heard.{Heard}
use Rattle.client_commands.specs.Acts.{note_for, noted}
use Rattle.client_commands.specs.Notes.{IsNoted, Noting}

-- a piece is told, and the rest is left
pub piece-told : (whole taken now rest : List ℕ) (n : ℕ) → taken ++ rest ≡ whole → now ≡ taken ++ take n rest → now ++ drop n rest ≡ whole
piece-told whole taken now rest n is now_is =
    ap (λ xs. xs ++ drop n rest) now_is ∙ append_assoc taken (take n rest) (drop n rest) ∙ ap (λ xs. taken ++ xs) (take-append-drop n rest) ∙ is

-- nothing is noted yet
pub none-noted : (before now : Noting) → now ≡ before → IsNoted [] before now
none-noted before now is = record {
  told = λ _. ap (λ n. n.taken) is ∙ sym (append-nil before.taken);
  failures = omega (arith, ap (λ n. n.failures) is);
}

-- what is heard next is noted behind the others
pub noted-more : (topics : List (List ℕ)) (heards : List Heard) (heard : Heard) (before mid now : Noting) → IsNoted (noted topics heards) before mid → IsNoted (note_for topics heard) mid now
    → IsNoted (noted topics (heard ∷ heards)) before now
noted-more topics heards heard before mid now old next = record {
  told = λ same.
      next.told (omega (arith, same, old.failures, next.failures))
      ∙ ap (λ xs. xs ++ note_for topics heard) (old.told (omega (arith, same, old.failures, next.failures)))
      ∙ append_assoc before.taken (noted topics heards) (note_for topics heard);
  failures = omega (arith, old.failures, next.failures);
}
