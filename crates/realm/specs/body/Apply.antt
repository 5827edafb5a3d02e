-- What the body owes for one entry.
use Rattle.std.specs.Prelude.{ℕ, Bool, true, not, ◌≡◌, ◌+◌, ◌≤◌, List, [], ◌∷◌, length, is_some}
use Rattle.wamp_messages.specs.declared.item.Item.{Item}
use Rattle.realm.specs.declared.entry.Entry.{Entry}
use Rattle.realm.specs.declared.entry.Entry.TheVariants.{Join}
use Rattle.realm.specs.declared.state.State.{State}
use Rattle.realm.specs.History.{History, ◌▷◌}
use Rattle.realm.specs.Sessions.{conn_of, may_come}
use Rattle.realm.specs.Words.{is_silent}
use Rattle.realm.specs.Given.{GivesExactly}
use Rattle.realm.specs.body.LiveSessions.{session_of}
use Rattle.realm.specs.body.Refinement.{Agrees}

-- h, and then these entries
abbrev pub history_after : History → List Entry → History
history_after h [] = h
history_after h (e ∷ es) = history_after (h ▷ e) es

-- a Join of a connection without a session, or an entry of one that has one
abbrev pub may_turn : State → Entry → Bool
may_turn s (Join c word authid) = not (is_some (session_of s.sessions c))
may_turn s e = is_some (session_of s.sessions (conn_of e))

-- after each history that s agrees with, e gives what is given, and then t agrees; at most one session came, and a silent Cut ended one
pub record Turned (h : History) (e : Entry) (s t : State) (given : List (ℕ × Item)) : Type 0 where
  pub gives : GivesExactly h e given
  pub agrees : Agrees (h ▷ e) t
  pub grown : length t.sessions ≤ length s.sessions + 1
  pub shrunk : is_silent e ≡ true → length t.sessions + 1 ≤ length s.sessions

abbrev pub Turns : State → Entry → State → List (ℕ × Item) → Type 0
Turns s e t given = (h : History) → Agrees h s → may_come h e ≡ true → Turned h e s t given
