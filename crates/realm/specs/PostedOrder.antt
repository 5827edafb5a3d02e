-- What was posted, and what of it entered the history, in which order.
use Rattle.std.specs.Prelude.{◌≡◌, ℕ, Bool, true, false, cond, not, ◌==◌, ◌&&◌, List, [], ◌∷◌, ◌++◌}
use Rattle.std.specs.List.{list_any, filter}
use Rattle.realm.specs.declared.entry.Entry.{Entry}
use Rattle.realm.specs.declared.entry.Entry.TheVariants.{Join, Closed, Cut}
use Rattle.realm.specs.History.{History, begun, ◌▷◌}
use Rattle.realm.specs.Sessions.{conn_of, live}
use Rattle.realm.specs.Laws.{BeginsList}

abbrev pub is_join : Entry → Bool
is_join (Join c word authid) = true
is_join e = false

-- it is the realm's doing, and not the session's
abbrev pub is_cut_or_closed : Entry → Bool
is_cut_or_closed (Cut c word) = true
is_cut_or_closed (Closed c word) = true
is_cut_or_closed e = false

-- the posts of c, the oldest first
abbrev pub posts_of : ℕ → List Entry → List Entry
posts_of c posted = filter (λ e. conn_of e == c) posted

-- the entries of c, the oldest first, Cut and Closed left aside
abbrev pub said_by : ℕ → History → List Entry
said_by c (begun grants) = []
said_by c (h ▷ e) = said_by c h ++ cond (conn_of e == c && not (is_cut_or_closed e)) (e ∷ []) []

-- xs are some of ys, in their order, each once
pub data AreSome : List Entry → List Entry → Type 0 where
  none : AreSome [] []
  left_out : {xs ys : List Entry} {y : Entry} → AreSome xs ys → AreSome xs (y ∷ ys)
  taken_in : {xs ys : List Entry} {x : Entry} → AreSome xs ys → AreSome (x ∷ xs) (x ∷ ys)

-- the first is a Join, if there is one, and no later one is
abbrev pub joins_first_alone : List Entry → Bool
joins_first_alone [] = true
joins_first_alone (e ∷ es) = is_join e && not (list_any is_join es)

-- what was taken from the inbox, and what of it entered
pub record Ordered (h : History) (handled : List Entry) : Type 0 where
  pub some : (c : ℕ) → AreSome (said_by c h) (posts_of c handled)
  pub begins : (c : ℕ) → joins_first_alone (posts_of c handled) ≡ true → BeginsList (said_by c h) (posts_of c handled)
  -- of a live session, all
  pub all : (c : ℕ) → joins_first_alone (posts_of c handled) ≡ true → live h c ≡ true → said_by c h ≡ posts_of c handled
