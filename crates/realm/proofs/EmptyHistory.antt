-- An empty history, and one entry more.
use Rattle.std.proofs.Common.{◌≡◌, ℕ, zero, suc, ◌-◌, true, List, [], ◌∷◌, ◌++◌, get_or, map, replicate, arith, refl, ap, ◌∙◌, None, is_some}
use Rattle.std.specs.declared.option.Option.{Option}
use Rattle.std.proofs.lemmas.List.{map-append}
use Rattle.std.specs.declared.snapshot.Snapshot.{Snapshot}
use Rattle.wamp_ids.specs.Numbers.{seat_of}
use Rattle.realm.specs.declared.entry.Entry.{Entry}
use Rattle.realm.specs.declared.entry.Entry.TheVariants.{Join, Said, Ping, Spoilt, Gone, Cut, Closed}
use Rattle.realm.specs.declared.state.State.{State}
use Rattle.realm.specs.Grants.{Grants}
use Rattle.realm.specs.History.{History, begun, ◌▷◌}
use Rattle.realm.specs.Sessions.{who, may_come}
use Rattle.realm.specs.Subscriptions.{holds, opened}
use Rattle.realm.specs.Publications.{kept}
use Rattle.realm.specs.body.LiveSessions.{is_above, session_of}
use Rattle.realm.specs.body.Refinement.{Agrees}
use Rattle.realm.specs.body.Apply.{history_after, may_turn}
use Rattle.realm.proofs.Refinement.{none-joined}

none-read : (n i : ℕ) → get_or {A = Option ℕ} (replicate n None) i None ≡ None
none-read zero i = refl
none-read (suc n) zero = refl
none-read (suc n) (suc i) = none-read n i

-- nothing is kept of an empty history
pub agrees-begun : (s : State) → s.sessions ≡ [] → s.seats ≡ replicate 256 None → s.index ≡ record { rows = []; opened = 0 } → s.store ≡ [] → Agrees (begun s.grants) s
unfolding who holds opened kept
agrees-begun s sessions seats index store = record {
  is_history = tt;
  grants = refl;
  ordered = rw sessions tt;
  sessions = λ c. rw sessions refl;
  seated = rw seats refl;
  seats = λ c. rw seats (ap (λ o. is_above o c) (none-read 256 (seat_of c - 1)));
  index = rw index (record { ascending = tt; named = tt; numbered = tt; bounded = omega arith });
  rows = λ c n p. rw index refl;
  openings = rw index refl;
  store = store;
}

pub history_after-append : (h : History) (es : List Entry) (e : Entry) → history_after h (es ++ e ∷ []) ≡ history_after h es ▷ e
history_after-append h [] e = refl
history_after-append h (x ∷ es) e = history_after-append (h ▷ x) es e

-- the history with one entry more, whose grants stay
pub history-next : (g k : Grants) (past next : List (Snapshot Entry)) (one : Snapshot Entry) (e : Entry) → k ≡ g → next ≡ past ++ one ∷ [] → one.value ≡ e
    → history_after (begun k) (map (λ s. s.value) next) ≡ history_after (begun g) (map (λ s. s.value) past) ▷ e
history-next g k past next one e grants is value =
    rw (grants, is, map-append) (history_after-append (begun g) (map (λ s. s.value) past) one.value ∙ ap (λ x. history_after (begun g) (map (λ s. s.value) past) ▷ x) value)

-- an entry that may come meets what is kept
pub may-turn : (h : History) (s : State) (e : Entry) → Agrees h s → may_come h e ≡ true → may_turn s e ≡ true
may-turn h s (Join c word authid) agrees come = let none : session_of s.sessions c ≡ None = agrees.sessions c ∙ none-joined h c come in rw none refl
may-turn h s (Said c word said) agrees come = ap is_some (agrees.sessions c) ∙ come
may-turn h s (Ping c payload) agrees come = ap is_some (agrees.sessions c) ∙ come
may-turn h s (Spoilt c word) agrees come = ap is_some (agrees.sessions c) ∙ come
may-turn h s (Gone c word) agrees come = ap is_some (agrees.sessions c) ∙ come
may-turn h s (Cut c word) agrees come = ap is_some (agrees.sessions c) ∙ come
may-turn h s (Closed c word) agrees come = ap is_some (agrees.sessions c) ∙ come
