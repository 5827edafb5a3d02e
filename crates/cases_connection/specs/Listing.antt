-- Histories that owe a list of items.
use Rattle.std.specs.Prelude.{◌≡◌, ℕ, List, [], ◌++◌, Option, None, Some}
use Rattle.std.proofs.Common.{append-nil, subst}
use mathlib.Core.List.{IsPrefix}
use Rattle.wamp_messages.specs.declared.item.Item.{Item}
use Rattle.cases_connection.specs.declared.owed.Listed.{Listed}
use Rattle.cases_connection.specs.declared.owed.ListHistory.{ListHistory}

-- all its items, to each connection
abbrev pub owed : ListHistory → ℕ → List Item
owed h conn = h.of.value.items.value.items

-- a history begins itself alone
abbrev pub Same : ListHistory → ListHistory → Type 0
Same h k = h.of.value ≡ k.of.value

abbrev pub owes_on : (h k : ListHistory) (conn : ℕ) → Same h k → IsPrefix (owed h conn) (owed k conn)
owes_on h k conn e = subst (λ (l : Listed). IsPrefix (owed h conn) l.items.value.items) e ([], append-nil (owed h conn))

-- what was added last was owed by the history of these items
abbrev pub Names : Listed → Option ListHistory → Type 0
Names l None = Unit {0}
Names l (Some h) = h.of.value ≡ l

-- of its items these were added, and these come next
pub record Owes (h : Listed) (added left : List Item) : Type 0 where
  pub rest : List Item
  pub all : h.items.value.items ≡ added ++ (left ++ rest)
