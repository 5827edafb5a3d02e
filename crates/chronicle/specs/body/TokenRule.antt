-- What a chronicle and its tokens know.
use Rattle.std.specs.Prelude.{◌≡◌, ℕ, true, false, Option, None, List}
use mathlib.Core.Option.{some}
use lib.ListN.{get_elem?}
use Rattle.chronicle.specs.Recorded.{Reaches}
use Rattle.chronicle.specs.declared.rule.ChronicleView.{ChronicleView}

module _ {H : Type 0} where
  abbrev pub owner : Option H → Option H → ChronicleView H
  owner history checked = record { owns = true; history = history; checked = checked }

  abbrev pub token : Option H → ChronicleView H
  token history = record { owns = false; history = history; checked = None }

  -- the owner, before anything is recorded
  abbrev pub unwritten : ChronicleView H
  unwritten = owner None None

  -- the owner, who took a token in
  abbrev pub with_checked : ChronicleView H → ChronicleView H → ChronicleView H
  with_checked v taken = owner v.history taken.history

  abbrev pub nobody : ChronicleView H
  nobody = token None

module _ {H : Type 0} (begins : H → H → Type 0) where
  -- only the owner's view says that it owns, and it has the newest history; what the view of each is of, and has checked, begins
  -- that one
  pub record Fits (owner : ℕ) (newest : Option H) (place : ℕ) (v : ChronicleView H) : Type 0 where
    pub owns : v.owns ≡ true → (place ≡ owner) × (v.history ≡ newest)
    pub history : Reaches begins v.history newest
    pub checked : Reaches begins v.checked newest

  -- the views of all fit one owner and its history
  pub record BeginOwner (views : List (ChronicleView H)) : Type 0 where
    pub owner : ℕ
    pub newest : Option H
    pub each_view : (place : ℕ) (v : ChronicleView H) → get_elem? views place ≡ some v → Fits owner newest place v
