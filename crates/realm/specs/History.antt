-- A realm's history: the grants with which it begins, and one entry after another.
-- (WAMP, "Realms, Sessions and Transports": a realm is the domain in which sessions publish and subscribe.)
use Rattle.realm.specs.declared.entry.Entry.{Entry}
use Rattle.realm.specs.Grants.{Grants}

-- `h ▷ e`: h, and then the entry e. So what stood before e is h
pub data History : Type 0 where
  begun : Grants → History
  ◌▷◌ : History → Entry → History

infixl 40 ◌▷◌
-- h begins k: k is h, and perhaps more entries
pub data Begins : History → History → Type 0 where
  same : {h : History} → Begins h h
  longer : {h k : History} {e : Entry} → Begins h k → Begins h (k ▷ e)

abbrev pub grants_of : History → Grants
grants_of (begun grants) = grants
grants_of (h ▷ e) = grants_of h
