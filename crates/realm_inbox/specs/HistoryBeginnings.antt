-- Histories that begin one another, and what they owe.
use Rattle.std.specs.Prelude.{ℕ}
use Rattle.std.proofs.Common.{sym}
use mathlib.Core.List.{IsPrefix}
use Rattle.realm.specs.History.{History, ◌▷◌, Begins, same, longer}
use Rattle.realm.specs.Yield.{owed}
use Rattle.realm.proofs.Lemmas.{owed-Begins}

pub begins_same : (h : History) → Begins h h
begins_same h = same

pub begins_longer : (h k l : History) → Begins h k → Begins k l → Begins h l
begins_longer h k l p same = p
begins_longer h k (l ▷ e) p (longer q) = longer (begins_longer h k l p q)

pub owed_more : (h k : History) (conn : ℕ) → Begins h k → IsPrefix (owed h conn) (owed k conn)
owed_more h k conn b = let p = owed-Begins h k conn b in (p.0, sym p.1)
