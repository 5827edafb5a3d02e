-- The next item that is owed.
use Rattle.std.proofs.Common.{◌≡◌, ℕ, List, [], ◌∷◌, ◌++◌, length, Some, refl, sym, ap, ◌∙◌, append_assoc, append-nil}
use Rattle.std.specs.Prelude.{slice_get}
use Rattle.wamp_messages.specs.declared.item.Item.{Item}
use Rattle.cases_connection.specs.Listing.{owed, Owes}
use Rattle.cases_connection.specs.declared.owed.Listed.{Listed}
use Rattle.cases_connection.specs.declared.owed.ListHistory.{ListHistory}

behind : (added more : List Item) (item : Item) → slice_get (added ++ item ∷ more) (length added) ≡ Some item
behind [] more item = refl
behind (x ∷ xs) more item = behind xs more item

pub next_is_owed : (h : ListHistory) (l : Listed) (conn : ℕ) (added more : List Item) (item : Item) → h.of.value ≡ l → Owes l added (item ∷ more) → slice_get (owed h conn) (length added) ≡ Some item
next_is_owed h l conn added more item same w =
    ap (λ (k : Listed). slice_get k.items.value.items (length added)) same ∙ ap (λ xs. slice_get xs (length added)) w.all ∙ behind added (more ++ w.rest) item

pub one_is_added : (h : Listed) (added more : List Item) (item : Item) → Owes h added (item ∷ more) → Owes h (added ++ item ∷ []) more
one_is_added h added more item w = record { rest = w.rest; all = w.all ∙ sym (append_assoc added (item ∷ []) (more ++ w.rest)) }

pub none_is_left : (h : Listed) (added left : List Item) → Owes h added left → Owes h added []
none_is_left h added left w = record { rest = left ++ w.rest; all = w.all }

pub all_is_left : (h : Listed) (left : List Item) → h.items.value.items ≡ left → Owes h [] left
all_is_left h left is = record { rest = []; all = is ∙ sym (append-nil left) }
