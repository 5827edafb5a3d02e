-- How what a realm keeps agrees with its history.
use Rattle.std.specs.Prelude.{ℕ, ◌==◌, ◌&&◌, ◌≡◌, length}
use Rattle.wamp_ids.specs.Pattern.{PatternText}
use Rattle.subscription_index.specs.Index.{IsIndex}
use Rattle.subscription_index.specs.Members.{has_row}
use Rattle.realm.specs.declared.state.State.{State}
use Rattle.realm.specs.History.{History, grants_of}
use Rattle.realm.specs.Sessions.{who, may_join, IsHistory}
use Rattle.realm.specs.Subscriptions.{holds, opened, number_among}
use Rattle.realm.specs.Publications.{retained}
use Rattle.realm.specs.body.LiveSessions.{session_of, AreByConn, may_join_by}

-- s is what is to be kept after h
pub record Agrees (h : History) (s : State) : Type 0 where
  pub is_history : IsHistory h
  pub grants : s.grants ≡ grants_of h
  pub ordered : AreByConn s.sessions
  pub sessions : (c : ℕ) → session_of s.sessions c ≡ who h c
  pub seated : length s.seats ≡ 256
  pub seats : (c : ℕ) → may_join_by s.seats c ≡ may_join h c
  pub index : IsIndex s.index
  pub rows : (c n : ℕ) (p : PatternText) → has_row s.index.rows ((c, n), p) ≡ (holds h c p && number_among (opened h) p == n)
  pub openings : s.index.opened ≡ length (opened h)
  pub store : s.store ≡ retained h
