-- A history as data: its grants, and its entries, the newest first.
use Rattle.std.specs.Prelude.{◌≡◌, List, [], ◌∷◌, refl}
use Rattle.std.specs.Coded.{Coded, code_by, coded×, coded_list, coded_ℕ}
use Rattle.std.proofs.Common.{ap}
use Rattle.realm.specs.declared.entry.Entry.{Entry}
use Rattle.realm.specs.contracts.entry.Entry.{the_row}
use Rattle.realm.specs.Grants.{Grants}
use Rattle.realm.specs.History.{History, begun, ◌▷◌, grants_of}

abbrev pub entries_of : History → List Entry
entries_of (begun grants) = []
entries_of (h ▷ e) = e ∷ entries_of h

abbrev pub history_of : Grants → List Entry → History
history_of grants [] = begun grants
history_of grants (e ∷ es) = history_of grants es ▷ e

abbrev pub history_of-entries : (h : History) → history_of (grants_of h) (entries_of h) ≡ h
history_of-entries (begun grants) = refl
history_of-entries (h ▷ e) = ap (λ k. k ▷ e) (history_of-entries h)

abbrev pub history_code : Coded History
history_code =
    code_by (Grants × List Entry) (coded× (coded_list (coded× (coded_list coded_ℕ) (coded_list coded_ℕ))) (coded_list the_row.coded))
    (λ h. (grants_of h, entries_of h)) (λ p. history_of p.0 p.1) history_of-entries
