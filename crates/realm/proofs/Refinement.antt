-- What the realm keeps agrees with its history, entry by entry.
use Rattle.std.proofs.Common.{◌≡◌, ℕ, ◌-◌, Bool, true, false, cond, not, ◌&&◌, ◌||◌, eqb, ltb, List, length, length-set, set, refl, sym, ap, ◌∙◌, None, Some, Ok, Err}
use Rattle.std.specs.declared.option.Option.{Option}
use Rattle.std.specs.declared.result.Result.{Result}
use Rattle.std.specs.List.{list_all}
use Rattle.std.specs.Result.{result_ok}
use Rattle.std.proofs.lemmas.Bool.{eqb-true}
use Rattle.std.proofs.Math.Bool.{and-true, and-false}
use Rattle.wamp_ids.specs.Numbers.{seat_of, id_of_word}
use Rattle.subscription_index.proofs.Lemmas.{has_row-left, left_over}
use Rattle.retained.specs.Store.{retained_of}
use Rattle.eligibility.specs.declared.who.Who.{Who}
use Rattle.wamp_messages.specs.declared.item.Reason.{Reason}
use Rattle.realm.specs.declared.entry.Entry.{Entry}
use Rattle.realm.specs.declared.entry.Entry.TheVariants.{Join}
use Rattle.realm.specs.declared.state.State.{State}
use Rattle.realm.specs.History.{History, ◌▷◌, grants_of}
use Rattle.realm.specs.Sessions.{who, live, joined, admission, admission_by, name_for, role_for, id_in_use, may_join, may_come}
use Rattle.realm.specs.Subscriptions.{holds, opened, number_among}
use Rattle.realm.specs.Publications.{retained}
use Rattle.realm.specs.body.LiveSessions.{session_of, AreByConn, added}
use Rattle.realm.specs.body.Refinement.{Agrees}
use Rattle.realm.specs.body.Transitions.{ended, joined_by}
use Rattle.realm.proofs.LiveList.{others-of, eqb-comm}
use Rattle.realm.proofs.LiveListOrder.{added-of, ordered-others, ordered-added}
use Rattle.realm.proofs.SeatLemmas.{noted}
use Rattle.realm.proofs.NothingAfterAnEnding.{no_more}
use Rattle.realm.proofs.LiveSessions.{live-joined}
use Rattle.realm.proofs.ModelSteps.{IsEnding, KeepsSessions, KeepsHeld, join-held, join-kept}

may_join-same : (xs ys : List ℕ) (c : ℕ) → xs ≡ ys → list_all (λ d. not (eqb (seat_of d) (seat_of c)) || ltb d c) xs ≡ list_all (λ d. not (eqb (seat_of d) (seat_of c)) || ltb d c) ys
may_join-same xs ys c same = ap (list_all (λ d. not (eqb (seat_of d) (seat_of c)) || ltb d c)) same

-- an ending
pub agrees-ended : (h : History) (e : Entry) (c : ℕ) (s : State) → Agrees h s → may_come h e ≡ true → grants_of (h ▷ e) ≡ grants_of h → IsEnding h e c → Agrees (h ▷ e) (ended s c)
agrees-ended h e c s agrees come grants ending = record {
  is_history = (agrees.is_history, come);
  grants = agrees.grants ∙ sym grants;
  ordered = ordered-others c s.sessions agrees.ordered;
  sessions = λ d. others-of c d s.sessions ∙ (ap (λ o. cond (eqb c d) None o) (agrees.sessions d) ∙ sym (ending.who d));
  seated = agrees.seated;
  seats = λ d. agrees.seats d ∙ sym (may_join-same (joined (h ▷ e)) (joined h) d ending.joined);
  index = left_over s.index c None agrees.index;
  rows = λ d n p. has_row-left s.index.rows c None ((d, n), p) ∙ (rw (agrees.rows d n p, ending.holds d p, ending.opened) (swap (eqb d c) (eqb c d) (holds h d p) (eqb (number_among (opened h) p) n) (eqb-comm d c)));
  openings = agrees.openings ∙ ap length (sym ending.opened);
  store = agrees.store ∙ ap retained_of (sym ending.kept);
}
  where
    swap : (a b x y : Bool) → a ≡ b → not a && (x && y) ≡ (x && not b) && y
    swap true true x y same = ap (λ b. b && y) (sym (and-false x))
    swap false false x y same = ap (λ b. b && y) (sym (and-true x))
    swap true false x y same = absurd (cc)
    swap false true x y same = absurd (cc)

-- an entry that leaves the sessions and what they hold
pub agrees-kept : (h : History) (e : Entry) (s t : State) → Agrees h s → may_come h e ≡ true → grants_of (h ▷ e) ≡ grants_of h → KeepsSessions h e → KeepsHeld h e
    → t.grants ≡ s.grants → t.sessions ≡ s.sessions → t.seats ≡ s.seats → t.index ≡ s.index → t.store ≡ retained (h ▷ e) → Agrees (h ▷ e) t
agrees-kept h e s t agrees come grants keeps keeps_held t_grants t_sessions t_seats t_index t_store = record {
  is_history = (agrees.is_history, come);
  grants = t_grants ∙ (agrees.grants ∙ sym grants);
  ordered = rw t_sessions agrees.ordered;
  sessions = λ d. rw t_sessions (agrees.sessions d ∙ sym (keeps.who d));
  seated = rw t_seats agrees.seated;
  seats = λ d. rw t_seats (agrees.seats d ∙ sym (may_join-same (joined (h ▷ e)) (joined h) d keeps.joined));
  index = rw t_index agrees.index;
  rows = λ d n p. rw (t_index, keeps_held.holds d p, keeps_held.opened) (agrees.rows d n p);
  openings = rw t_index (agrees.openings ∙ ap length (sym keeps_held.opened));
  store = t_store;
}

-- a Join
pub none-joined : (h : History) (c : ℕ) → may_join h c ≡ true → who h c ≡ None
none-joined h c may = at (who h c) refl
  where
    at : (o : Option Who) → who h c ≡ o → o ≡ None
    at None is = refl
    at (Some w) is =
        let lives : live h c ≡ true = rw is refl in
        let never : may_join h c ≡ false = no_more (joined h) c (live-joined h c lives) in
        absurd (let e = sym may ∙ never in cc)

pub admitted-conn : (taken : Bool) (c word : ℕ) (name : List ℕ) (role : Option (List ℕ)) (w : Who) → admission_by taken c word name role ≡ Ok w → w.conn ≡ c
admitted-conn taken c word name None w is = absurd (cc)
admitted-conn true c word name (Some role) w is = absurd (cc)
admitted-conn false c word name (Some role) w is =
    let same : record { conn = c; id = id_of_word word; authid = name; authrole = role } ≡ w = cc in ap (λ x. x.conn) (sym same)

pub who-join : (h : History) (c word : ℕ) (authid : Option (List ℕ)) (d : ℕ) → who (h ▷ Join c word authid) d ≡ cond (eqb c d) (result_ok (admission h c word authid)) (who h d)
unfolding who
who-join h c word authid d = refl

-- a Join notes its seat, whatever it makes of the sessions
seats-joined : (h : History) (c word : ℕ) (authid : Option (List ℕ)) (s : State) (sessions : List Who) → Agrees h s → may_join h c ≡ true → AreByConn sessions → ((d : ℕ) → session_of sessions d ≡ who (h ▷ Join c word authid) d)
    → Agrees (h ▷ Join c word authid) (record s { seats = set s.seats (seat_of c - 1) (Some c); sessions = sessions })
seats-joined h c word authid s sessions agrees may ordered are = record {
  is_history = (agrees.is_history, may);
  grants = agrees.grants;
  ordered = ordered;
  sessions = are;
  seated = seated s.seats agrees.seated;
  seats = λ d. noted s.seats c d agrees.seated (agrees.seats c ∙ may) ∙ ap (λ b. (not (eqb (seat_of c) (seat_of d)) || ltb c d) && b) (agrees.seats d);
  index = agrees.index;
  rows = λ d n p. rw ((join-held h c word authid).holds d p, (join-held h c word authid).opened) (agrees.rows d n p);
  openings = agrees.openings ∙ ap length (sym (join-held h c word authid).opened);
  store = agrees.store ∙ ap retained_of (sym (join-kept h c word authid));
}
  where
    seated : (xs : List (Option ℕ)) → length xs ≡ 256 → length (set xs (seat_of c - 1) (Some c)) ≡ 256
    seated xs long = rw length-set long

pub agrees-joined : (h : History) (c word : ℕ) (authid : Option (List ℕ)) (s : State) (r : Result Who Reason) → Agrees h s → may_join h c ≡ true → admission h c word authid ≡ r
    → Agrees (h ▷ Join c word authid) (joined_by s c r)
agrees-joined h c word authid s (Err reason) agrees may is =
    seats-joined h c word authid s s.sessions agrees may agrees.ordered (λ d. agrees.sessions d ∙ sym (who-join h c word authid d ∙ rw is (at d (eqb c d) refl)))
  where
    at : (d : ℕ) (b : Bool) → eqb c d ≡ b → cond b None (who h d) ≡ who h d
    at d true own = sym (ap (who h) (sym (eqb-true c d own)) ∙ none-joined h c may)
    at d false own = refl
agrees-joined h c word authid s (Ok w) agrees may is =
    let conn : w.conn ≡ c = admitted-conn (id_in_use h (id_of_word word)) c word (name_for authid) (role_for (grants_of h) authid) w is in
    let free : session_of s.sessions w.conn ≡ None = ap (session_of s.sessions) conn ∙ (agrees.sessions c ∙ none-joined h c may) in
    seats-joined h c word authid s (added w s.sessions) agrees may (ordered-added w s.sessions free agrees.ordered) (λ d. added-of w d s.sessions ∙ sym (who-join h c word authid d ∙ rw (is, conn, agrees.sessions d) refl))
