-- The sessions that were found full, and those of them that are marked.
use Rattle.std.specs.Prelude.{ℕ, true, false, ◌≡◌, List, map}
use Rattle.std.specs.List.{filter}
use Rattle.wamp_messages.specs.declared.item.Item.{Item}
use Rattle.realm.specs.History.{History}
use Rattle.realm.specs.Sessions.{live, may_join}
use Rattle.realm_core.specs.Worlds.{is_in}

-- the connections of these items
abbrev pub conns_of : List (ℕ × Item) → List ℕ
conns_of items = map (λ x. x.0) items

-- whoever is live, or has an item that waits to be pushed, is marked where it was found full
pub record MarksAgree (h : History) (pushing : List (ℕ × Item)) (full marks : List ℕ) : Type 0 where
  pub still_live : filter (live h) full ≡ filter (live h) marks
  pub pushed : (c : ℕ) → is_in c (conns_of pushing) ≡ true → is_in c full ≡ is_in c marks

-- whoever was found full joins no more
abbrev pub NoneJoinsAgain : History → List ℕ → Type 0
NoneJoinsAgain h full = (c : ℕ) → is_in c full ≡ true → may_join h c ≡ false
