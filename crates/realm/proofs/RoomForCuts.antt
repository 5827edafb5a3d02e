-- After each entry there is room for a Cut of each live session.
use Rattle.std.proofs.Common.{◌≡◌, ℕ, ◌+◌, ◌≤◌, Bool, true, false, refl, arith}
use Rattle.realm.specs.declared.entry.Entry.{Entry}
use Rattle.realm.specs.Words.{is_silent}

-- of `many` entries, `live` sessions before and `after` sessions after e
pub room-left : (e : Entry) (many live after room more : ℕ) → many + live ≤ room → room ≤ more → (is_silent e ≡ false → many + (live + 2) ≤ more)
    → after ≤ live + 1 → (is_silent e ≡ true → after + 1 ≤ live) → many + 1 + after ≤ more
room-left e many live after room more before wider made grown shrunk = at (is_silent e) refl
  where
    at : (b : Bool) → is_silent e ≡ b → many + 1 + after ≤ more
    at true is = let fewer : after + 1 ≤ live = shrunk is in omega arith
    at false is = let wide : many + (live + 2) ≤ more = made is in omega arith
