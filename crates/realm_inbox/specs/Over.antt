-- When a history owes a connection nothing more, and whether it cut it.
use Rattle.std.specs.Prelude.{◌≡◌, ◌==◌, ◌||◌, ℕ, Bool, true, false}
use Rattle.std.specs.List.{list_any}
use Rattle.realm.specs.History.{History, Begins, begun, ◌▷◌}
use Rattle.realm.specs.declared.entry.Entry.TheVariants.{Cut}
use Rattle.realm.specs.Sessions.{IsHistory, joined}
use Rattle.realm.specs.Yield.{owed}

-- a Cut of c stands in the history
abbrev pub was_cut : History → ℕ → Bool
was_cut (begun grants) c = false
was_cut (h ▷ Cut d word) c = d == c || was_cut h c
was_cut (h ▷ e) c = was_cut h c

-- c has joined, or its Join was refused; and however h goes on, it owes c what it does now, and has no other Cut of c
pub record OwesNoMore (h : History) (c : ℕ) : Type 0 where
  pub asked : list_any (λ d. d == c) (joined h) ≡ true
  pub owes : (k : History) → Begins h k → IsHistory k → owed k c ≡ owed h c
  pub cuts : (k : History) → Begins h k → IsHistory k → was_cut k c ≡ was_cut h c
