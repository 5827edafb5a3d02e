-- What a realm keeps after an entry, in the terms of what it keeps.
use Rattle.std.specs.Prelude.{ℕ, Bool, true, false, set, map, ◌≡◌, cond, ◌==◌, ◌-◌, List, [], ◌∷◌, None, Some, Ok, Err}
use Rattle.std.specs.declared.option.Option.{Option}
use Rattle.std.specs.declared.result.Result.{Result}
use Rattle.std.specs.List.{list_any, filter}
use Rattle.wamp_ids.specs.Numbers.{seat_of, id_of_word}
use Rattle.wamp_ids.specs.Pattern.{PatternText, matches}
use Rattle.wamp_ids.specs.declared.pattern.Policy.{Policy}
use Rattle.subscription_index.specs.Index.{Held, subscribed, holds_number, without, without_all}
use Rattle.eligibility.specs.declared.who.Who.{Who}
use Rattle.wamp_messages.specs.declared.item.Reason.{Reason}
use Rattle.wamp_messages.specs.declared.item.Reason.TheVariants.{TooManySubscriptions}
use Rattle.realm.specs.declared.state.State.{State}
use Rattle.realm.specs.Sessions.{admission_by, name_for, role_for}
use Rattle.wamp_messages.specs.declared.item.Publication.{Publication}
use Rattle.wamp_messages.specs.declared.item.Item.{Item}
use Rattle.wamp_messages.specs.declared.item.Item.TheVariants.{Welcome, Abort, Error, Published, Subscribed, Event}
use Rattle.wamp_messages.specs.declared.item.Request.TheVariants as kind
use Rattle.retained.specs.Store.{set_topic}
use Rattle.realm.specs.declared.publications.AcceptedPublication.{AcceptedPublication}
use Rattle.realm.specs.Publications.{Made, made_by, admits}
use Rattle.realm.specs.MetaEvents.{arrival, departure}
use Rattle.realm.specs.Yield.{names_topic, unsubscribe_reply}
use Rattle.realm.specs.body.Outputs.{all_for, all_events, put_before, put_first}
use Rattle.realm.specs.body.LiveSessions.{session_of, others, added}

-- what is kept before an entry and after it, and what it gives
pub record Turn : Type 0 where
  pub old : State
  pub new : State
  pub given : List (ℕ × Item)

-- who asks, and by which request
pub record Asking : Type 0 where
  pub conn : ℕ
  pub request : ℕ

-- after the session of c ended
abbrev pub ended : State → ℕ → State
ended s c = record s {
  sessions = others c s.sessions;
  index = record { rows = without_all s.index.rows c; opened = s.index.opened };
}

-- the answer to a Join
abbrev pub admitted : State → ℕ → ℕ → Option (List ℕ) → Result Who Reason
admitted s c word authid = admission_by (list_any (λ w. w.id == id_of_word word) s.sessions) c word (name_for authid) (role_for s.grants authid)

-- after a Join with this answer
abbrev pub joined_by : State → ℕ → Result Who Reason → State
joined_by s c (Err reason) = record s { seats = set s.seats (seat_of c - 1) (Some c) }
joined_by s c (Ok w) = record s { seats = set s.seats (seat_of c - 1) (Some c); sessions = added w s.sessions }

abbrev pub is_some_true : Option Bool → Bool
is_some_true None = false
is_some_true (Some b) = b

-- what a PUBLISH makes whose topic and options are accepted
abbrev pub made_with : ℕ → Who → Result AcceptedPublication Reason → Result Made Reason
made_with word w (Err reason) = Err reason
made_with word w (Ok accepted) = Ok (made_by word w accepted.topic accepted.args accepted.options)

-- ERROR for a PUBLISH, where it asked for an answer
abbrev pub refused : ℕ → ℕ → Option Bool → Reason → List (ℕ × Item)
refused c request acknowledge reason = cond (is_some_true acknowledge) (all_for c (Error kind.Publish request reason ∷ [])) []

-- EVENTs, and PUBLISHED where that was asked for
abbrev pub told : State → ℕ → ℕ → Option Bool → Publication → List (ℕ × Item)
told s c request acknowledge p =
    cond (is_some_true acknowledge) (put_before c (Published request p.id) (all_events s.sessions s.index.rows p)) (all_events s.sessions s.index.rows p)

-- what is retained after p, where it is to be
abbrev pub stored : State → Made → List Publication
stored s made = cond made.retained (set_topic made.publication s.store) s.store

-- the answer to a PUBLISH, and what is kept after it
abbrev pub IsPublished : Turn → Asking → Option Bool → Result Made Reason → Type 0
IsPublished t a acknowledge (Err reason) = (t.given ≡ refused a.conn a.request acknowledge reason) × (t.new ≡ t.old)
IsPublished t a acknowledge (Ok made) = (t.given ≡ told t.old a.conn a.request acknowledge made.publication) × (t.new ≡ record t.old { store = stored t.old made })

-- the EVENT of what is retained
abbrev pub retained_event : ℕ → Policy → Publication → Item
retained_event n policy p = Event n p (names_topic policy) true

-- what is retained, matches and admits w, where it is asked for
abbrev pub wanted : List Publication → Option Bool → PatternText → Who → List Publication
wanted store (Some true) pattern w = filter (λ p. admits p w) (filter (λ p. matches pattern p.topic) store)
wanted store _ pattern w = []

abbrev pub held_by : Turn → Asking → PatternText → List Publication → Option (ℕ × Held) → Type 0
held_by t a pattern retained None = (t.given ≡ all_for a.conn (Error kind.Subscribe a.request TooManySubscriptions ∷ [])) × (t.new ≡ t.old)
held_by t a pattern retained (Some held) =
    (t.given ≡ all_for a.conn (Subscribed a.request held.0 ∷ map (retained_event held.0 pattern.policy) retained)) × (t.new ≡ record t.old { index = held.1 })

-- the answer to a SUBSCRIBE of the pattern, with these retained publications, and what is kept after it
abbrev pub IsHeld : Turn → Asking → PatternText → List Publication → Type 0
IsHeld t a pattern retained = held_by t a pattern retained (subscribed t.old.index a.conn pattern)

-- the answer to a SUBSCRIBE, and what is kept after it
abbrev pub IsSubscribed : Turn → Asking → Option Bool → Who → Result PatternText Reason → Type 0
IsSubscribed t a get_retained w (Err reason) = (t.given ≡ all_for a.conn (Error kind.Subscribe a.request reason ∷ [])) × (t.new ≡ t.old)
IsSubscribed t a get_retained w (Ok pattern) = IsHeld t a pattern (wanted t.old.store get_retained pattern w)

abbrev pub released : State → ℕ → ℕ → Bool → State
released s c n true = record s { index = record { rows = without s.index.rows c n; opened = s.index.opened } }
released s c n false = s

-- the answer to an UNSUBSCRIBE, and what is kept after it
abbrev pub IsUnsubscribed : Turn → Asking → ℕ → Type 0
IsUnsubscribed t a n =
    (t.given ≡ all_for a.conn (unsubscribe_reply a.request (holds_number t.old.index.rows a.conn n) ∷ []))
    × (t.new ≡ released t.old a.conn n (holds_number t.old.index.rows a.conn n))

-- ABORT, or WELCOME and what the others are given for the arrival
abbrev pub welcomed : State → ℕ → ℕ → Result Who Reason → List (ℕ × Item)
welcomed s c word (Err reason) = all_for c (Abort reason ∷ [])
welcomed s c word (Ok w) = put_before c (Welcome w) (all_events s.sessions s.index.rows (arrival word w))

-- the answer to a Join, and what is kept after it
abbrev pub IsJoined : Turn → ℕ → ℕ → Result Who Reason → Type 0
IsJoined t c word r = (t.given ≡ welcomed t.old c word r) × (t.new ≡ joined_by t.old c r)

-- the session of c has ended: what c is given last, what the others are given for the departure, and what is kept after it
abbrev pub HasLeft : Turn → ℕ → ℕ → Option Item → Type 0
HasLeft t c word last =
    ((w : Who) → session_of t.old.sessions c ≡ Some w → t.given ≡ put_first c last (all_events t.old.sessions t.old.index.rows (departure word w)))
    × (t.new ≡ ended t.old c)

-- the session of c was cut: as one that has left, or, without a word, so that nobody is told
abbrev pub HasBeenCut : Turn → ℕ → Option ℕ → Type 0
HasBeenCut t c None = (t.given ≡ []) × (t.new ≡ ended t.old c)
HasBeenCut t c (Some word) = HasLeft t c word None
