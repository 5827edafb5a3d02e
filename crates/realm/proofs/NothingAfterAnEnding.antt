-- A connection whose session has ended stays without one.
use Rattle.std.proofs.Common.{◌≡◌, ℕ, Bool, true, false, not, ◌&&◌, ◌||◌, eqb, ltb, List, [], ◌∷◌, ◌++◌, append-nil, refl, sym, ap, ◌∙◌, None, Some, arith}
use Rattle.std.specs.declared.option.Option.{Option}
use Rattle.std.specs.List.{list_all}
use Rattle.std.proofs.lemmas.Bool.{eqb-true, eq-eqb, ne_eqb, and_parts, and_right, or_right}
use Rattle.std.proofs.lemmas.Bool.Decides.{nat_tests}
use Rattle.wamp_ids.specs.Numbers.{seat_of}
use Rattle.wamp_ids.specs.Pattern.{PatternText}
use Rattle.realm.specs.declared.entry.Entry.{Entry}
use Rattle.realm.specs.declared.entry.Entry.TheVariants.{Join, Said, Ping, Spoilt, Gone, Cut, Closed}
use Rattle.wamp_messages.specs.declared.said.Said.TheVariants.{Subscribe}
use Rattle.wamp_messages.specs.declared.item.Publication.{Publication}
use Rattle.realm.specs.History.{History, ◌▷◌, Begins, same, longer}
use Rattle.realm.specs.Sessions.{who, live, ends, joined, conn_of, may_join, may_come, IsHistory, is_last_word}
use Rattle.realm.specs.Subscriptions.{held}
use Rattle.realm.proofs.Conditionals.{clash, cond-same}
use Rattle.realm.proofs.LiveSessions.{has, live-joined}
use Rattle.realm.specs.Yield.{owed, yield, events, publication_of, sent_events}

-- c has joined, and is not live
pub record IsOver (h : History) (c : ℕ) : Type 0 where
  pub joined : has (joined h) c ≡ true
  pub ended : who h c ≡ None

ended-live : (h : History) (c : ℕ) → who h c ≡ None → live h c ≡ false
ended-live h c e = rw e

-- who has joined joins no more
pub no_more : (xs : List ℕ) (c : ℕ) → has xs c ≡ true → list_all (λ d. not (eqb (seat_of d) (seat_of c)) || ltb d c) xs ≡ false
no_more [] c here = absurd (cc)
no_more (x ∷ xs) c here = at (eqb x c) refl here (no_more xs c)
  where
    at : (b : Bool) → eqb x c ≡ b → b || has xs c ≡ true → (has xs c ≡ true → list_all (λ d. not (eqb (seat_of d) (seat_of c)) || ltb d c) xs ≡ false)
        → (not (eqb (seat_of x) (seat_of c)) || ltb x c) && list_all (λ d. not (eqb (seat_of d) (seat_of c)) || ltb d c) xs ≡ false
    at true is some rest =
        let same_conn : x ≡ c = eqb-true x c is in
        let seat : eqb (seat_of x) (seat_of c) ≡ true = eq-eqb (seat_of x) (seat_of c) (ap seat_of same_conn) in
        let small : ltb x c ≡ false = grind (arith, nat_tests) in
        rw (seat, small)
    at false is some rest = and_right (not (eqb (seat_of x) (seat_of c)) || ltb x c) (list_all (λ d. not (eqb (seat_of d) (seat_of c)) || ltb d c) xs) (rest some)

other : (h : History) (d c : ℕ) → IsOver h c → live h d ≡ true → eqb d c ≡ false
other h d c over is_live = ne_eqb d c (λ same_conn. clash (live h d) is_live (ap (live h) same_conn ∙ ended-live h c over.ended))

-- an entry of another connection leaves it so, and one of its own can't come
over-entry : (h : History) (c : ℕ) (f : Entry) → IsOver h c → may_come h f ≡ true → eqb (conn_of f) c ≡ false
over-entry h c (Join d word authid) over come = ne_eqb d c (λ same_conn. clash (may_join h d) come (ap (may_join h) same_conn ∙ no_more (joined h) c over.joined))
over-entry h c (Said d word said) over come = other h d c over come
over-entry h c (Ping d payload) over come = other h d c over come
over-entry h c (Spoilt d word) over come = other h d c over come
over-entry h c (Gone d word) over come = other h d c over come
over-entry h c (Cut d word) over come = other h d c over come
over-entry h c (Closed d word) over come = other h d c over come

over-next : (k : History) (c : ℕ) (f : Entry) → IsOver k c → may_come k f ≡ true → IsOver (k ▷ f) c
unfolding who
over-next k c (Join d word authid) over come =
    let elsewhere : eqb d c ≡ false = over-entry k c (Join d word authid) over come in
    record { joined = or_right (eqb d c) (has (joined k) c) over.joined; ended = rw elsewhere over.ended }
over-next k c f over come = record { joined = over.joined; ended = rw over.ended (cond-same (ends f c) None) }

pub ends-conn : (e : Entry) (c : ℕ) → ends e c ≡ true → eqb (conn_of e) c ≡ true
ends-conn (Join d word authid) c ending = absurd (cc)
ends-conn (Said d word said) c ending = (and_parts (eqb d c) (is_last_word said) ending).0
ends-conn (Ping d payload) c ending = absurd (cc)
ends-conn (Spoilt d word) c ending = ending
ends-conn (Gone d word) c ending = ending
ends-conn (Cut d word) c ending = ending
ends-conn (Closed d word) c ending = ending

over-ending : (h : History) (e : Entry) (c : ℕ) → ends e c ≡ true → may_come h e ≡ true → IsOver (h ▷ e) c
unfolding who
over-ending h (Join d word authid) c ending come = absurd (cc)
over-ending h (Ping d payload) c ending come = absurd (cc)
over-ending h e c ending come =
    let same_conn : conn_of e ≡ c = eqb-true (conn_of e) c (ends-conn e c ending) in
    record { joined = live-joined h c (sym (ap (live h) same_conn) ∙ come); ended = rw ending }

over-all : (b k : History) (c : ℕ) → Begins b k → (IsHistory b → IsOver b c) → IsHistory k → IsOver k c
over-all b k c same over is_history = over is_history
over-all b (k ▷ f) c (longer begins) over is_history = over-next k c f (over-all b k c begins over is_history.0) is_history.1

sent-none : (o : Option Publication) (hs : List (ℕ × PatternText)) → sent_events o None hs ≡ []
sent-none None hs = refl
sent-none (Some p) hs = refl

pub no_events : (k : History) (f : Entry) (c : ℕ) → who k c ≡ None → eqb (conn_of f) c ≡ false → events k f c ≡ []
no_events k (Said d word (Subscribe request options topic)) c ended elsewhere = rw elsewhere refl
no_events k f c ended elsewhere = ap (λ o. sent_events (publication_of k f) o (held k c)) ended ∙ sent-none (publication_of k f) (held k c)

pub nothing-given : (h k : History) (e f : Entry) (c : ℕ) → ends e c ≡ true → Begins (h ▷ e) k → IsHistory (k ▷ f) → yield k f c ≡ []
unfolding yield
nothing-given h k e f c ending begins is_history =
    let over : IsOver k c = over-all (h ▷ e) k c begins (λ is. over-ending h e c ending is.1) is_history.0 in
    let elsewhere : eqb (conn_of f) c ≡ false = over-entry k c f over is_history.1 in
    rw (elsewhere, no_events k f c over.ended elsewhere)

over-yield : (k : History) (f : Entry) (c : ℕ) → IsOver k c → may_come k f ≡ true → yield k f c ≡ []
unfolding yield
over-yield k f c over come = let elsewhere : eqb (conn_of f) c ≡ false = over-entry k c f over come in rw (elsewhere, no_events k f c over.ended elsewhere)

-- it is owed nothing more, however the history goes on
pub owed-over : (h k : History) (c : ℕ) → IsOver h c → Begins h k → IsHistory k → owed k c ≡ owed h c
owed-over h k c over same is_history = refl
owed-over h (k ▷ f) c over (longer begins) is_history =
    let there : IsOver k c = over-all h k c begins (λ _. over) is_history.0 in
    let nothing : yield k f c ≡ [] = over-yield k f c there is_history.1 in
    ap (λ l. owed k c ++ l) nothing ∙ append-nil (owed k c) ∙ owed-over h k c over begins is_history.0
