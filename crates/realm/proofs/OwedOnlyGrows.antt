-- What a history owes only grows.
use Rattle.std.proofs.Common.{ℕ, [], ◌++◌, sym, ap, ◌∙◌, append-nil, append_assoc}
use Rattle.realm.specs.History.{History, ◌▷◌, Begins, same, longer}
use Rattle.realm.specs.Yield.{owed, yield}
use Rattle.realm.specs.Laws.{BeginsList}

pub owed-Begins : (h k : History) (c : ℕ) → Begins h k → BeginsList (owed h c) (owed k c)
owed-Begins h k c same = ([], sym (append-nil (owed h c)))
owed-Begins h (k ▷ e) c (longer begins) =
    let before = owed-Begins h k c begins in
    (before.0 ++ yield k e c, ap (λ xs. xs ++ yield k e c) before.1 ∙ append_assoc (owed h c) before.0 (yield k e c))
