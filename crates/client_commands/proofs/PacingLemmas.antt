-- Lines that are published in a window.
use Rattle.std.proofs.Common.{◌≡◌, ◌∙◌, ℕ, ◌+◌, List, [], ◌∷◌, length, add-one, refl, ap, inl, inr, subst, sym}
use Rattle.client_session.specs.Hearing.{Ear, HearsNoneYet, Terms}
use Rattle.client_commands.specs.Pacing.{Attends, HasRoom, Hears, IsAcknowledged, IsDue, IsPaced, Says, SaysLine, lines_of}
use Rattle.client_commands.specs.declared.command.PublishCommand.{PublishCommand}

-- one line more is counted
pub counts-one : (line : List ℕ) (lines : List (List ℕ)) (count more : ℕ) → length lines ≡ count → more ≡ count + 1 → length (line ∷ lines) ≡ more
counts-one line lines count more counted is = sym (add-one (length lines)) ∙ ap (λ n. n + 1) counted ∙ sym is

module _ (command : PublishCommand) (t : Terms) (before : Ear) where
  -- nothing is published yet
  pub paced-none : (now : Ear) (answered : ℕ) → now ≡ before → answered ≡ 0 → IsPaced command t before now [] answered
  paced-none now answered same none = record { acts = []; lines_are = refl; answered_are = sym none; does = same }

  -- one more line is published
  pub paced-line : (mid now : Ear) (lines : List (List ℕ)) (line : List ℕ) (answered : ℕ) → HasRoom command.wishes.acknowledge (length lines) answered
      → SaysLine command t (length lines + 1) line mid now → IsPaced command t before mid lines answered → IsPaced command t before now (line ∷ lines) answered
  paced-line mid now lines line answered room says p = record {
    acts = Says line ∷ p.acts;
    lines_are = ap (λ ls. line ∷ ls) p.lines_are;
    answered_are = p.answered_are;
    does = (
      mid,
      p.does,
      subst (λ n. HasRoom command.wishes.acknowledge (length (lines_of p.acts)) n) (sym p.answered_are) (subst (λ ls. HasRoom command.wishes.acknowledge (length ls) answered) (sym p.lines_are) room),
      subst (λ ls. SaysLine command t (length ls + 1) line mid now) (sym p.lines_are) says,
    );
  }

  -- the next acknowledgement is heard
  pub paced-answer : (mid now : Ear) (lines : List (List ℕ)) (answered answers : ℕ) → IsDue command.wishes.acknowledge (length lines) answered
      → IsAcknowledged t (answered + 1) mid now → answers ≡ answered + 1 → IsPaced command t before mid lines answered → IsPaced command t before now lines answers
  paced-answer mid now lines answered answers due answer more p = record {
    acts = Hears ∷ p.acts;
    lines_are = p.lines_are;
    answered_are = ap (λ n. n + 1) p.answered_are ∙ sym more;
    does = (
      mid,
      p.does,
      subst (λ n. IsDue command.wishes.acknowledge (length (lines_of p.acts)) n) (sym p.answered_are) (subst (λ ls. IsDue command.wishes.acknowledge (length ls) answered) (sym p.lines_are) due),
      subst (λ n. IsAcknowledged t (n + 1) mid now) (sym p.answered_are) answer,
    );
  }

  -- the broker is attended to
  pub paced-attending : (mid now : Ear) (lines : List (List ℕ)) (answered : ℕ) → HearsNoneYet t mid now → IsPaced command t before mid lines answered → IsPaced command t before now lines answered
  paced-attending mid now lines answered attends p = elim attends [
    | inl same ↦ subst (λ (e : Ear). IsPaced command t before e lines answered) (sym same) p
    | inr none ↦ record { acts = Attends ∷ p.acts; lines_are = p.lines_are; answered_are = p.answered_are; does = (mid, p.does, none) }
  ]
