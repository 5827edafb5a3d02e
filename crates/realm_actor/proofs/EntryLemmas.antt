-- An entry keeps the rows in step with the history.
use Rattle.std.proofs.Common.{◌≡◌, ◌≢◌, ℕ, zero, suc, ◌<◌, Bool, true, false, cond, not, ◌&&◌, ◌||◌, eqb, List, [], ◌∷◌, ◌++◌, length, set, get_or, take, refl, sym, ap, ◌∙◌, subst, inl, inr, ⊎_elim, append-nil, append_assoc, arith}
use Rattle.std.specs.Prelude.{Option, Some, None, ⊤, slice_get, MatchOption, option_map}
use Rattle.std.proofs.lemmas.Bool.{eqb-true, eq-eqb, or_parts, not-true, ne_eqb, or_cases, or_left, or_right}
use Rattle.std.proofs.Math.Bool.{and-false}
use Rattle.outbox_queue.specs.Rule.{Grows}
use Rattle.wamp_messages.specs.declared.item.Item.{Item}
use Rattle.realm.specs.declared.entry.Entry.{Entry}
use Rattle.realm.specs.declared.entry.Entry.TheVariants.{Join}
use Rattle.realm.specs.History.{History, ◌▷◌, Begins, longer}
use Rattle.realm.specs.Sessions.{who, live, joined, conn_of, may_join, may_come}
use Rattle.realm.specs.Yield.{yield}
use Rattle.realm.specs.Given.{items_for, GivesExactly}
use Rattle.realm.proofs.Lemmas.{no_events, no_more, live-joined, live-elsewhere, clash, not-some}
use Rattle.realm_actor.specs.declared.row.HeldOutbox.{HeldOutbox}
use Rattle.realm_actor.specs.declared.row.Row.{Row}
use Rattle.outbox_queue.specs.Tied.{history_of}
use Rattle.realm_actor.specs.OutboxHistory.{Box, Follows}
use Rattle.realm_actor.specs.Rows.{BoxGoes, Rose, box_in, RowDue, RowGoes, Each, Ascending, EachDue, EachGoes, NoneRose}
use Rattle.realm_actor.specs.Tables.{has_joined, IsOpen, Went, BoxWent, BoxEnds, HasRow, RowWent, EachWent, RowEnds, EachEnds, Sound, Ready}
use Rattle.realm_actor.proofs.RowPlaces.{same_place, one_place, beside, pairs_set}
use Rattle.realm_actor.proofs.Causes.{accounts_went}

-- Booleans

shut_here : (b l : Bool) → cond (not b && true) true (not (l || true)) ≡ not b
shut_here true true = refl
shut_here true false = refl
shut_here false true = refl
shut_here false false = refl

shut_there : (b l : Bool) → cond (not b && false) true (not (l || false)) ≡ not l
shut_there true true = refl
shut_there true false = refl
shut_there false true = refl
shut_there false false = refl

-- who may join hasn't joined
pub not_joined : (h : History) (c : ℕ) → may_join h c ≡ true → has_joined h c ≡ true → ⊥
not_joined h c may has = clash (may_join h c) may (no_more (joined h) c has)

pub joined_after : (h : History) (e : Entry) (c : ℕ) → may_come h e ≡ true → has_joined h c || eqb (conn_of e) c ≡ true → has_joined (h ▷ e) c ≡ true
joined_after h (Join d word authid) c come j = ⊎_elim (or_right (eqb d c) (has_joined h c)) (or_left (eqb d c) (has_joined h c)) (or_cases (has_joined h c) (eqb d c) j)
joined_after h e c come j = ⊎_elim
    (λ (is : has_joined h c ≡ true). is)
    (λ (here : eqb (conn_of e) c ≡ true). subst (λ d. has_joined h d ≡ true) (eqb-true (conn_of e) c here) (live-joined h (conn_of e) come))
    (or_cases (has_joined h c) (eqb (conn_of e) c) j)

-- who isn't live is given nothing by an entry of another
pub quiet : (h : History) (e : Entry) (c : ℕ) → live h c || eqb (conn_of e) c ≡ false → yield h e c ≡ []
unfolding yield
quiet h e c n =
    let both = or_parts (live h c) (eqb (conn_of e) c) n in
    let elsewhere : eqb (conn_of e) c ≡ false = both.1 in
    let none : who h c ≡ None = not-some (who h c) both.0 in
    rw (elsewhere, no_events h e c none elsewhere)

-- what is due by an entry

seen_longer : (h : History) (e : Entry) (k : Option History) → Grows Begins k (Some h) → Grows Begins k (Some (h ▷ e))
seen_longer h e None g = tt
seen_longer h e (Some k) g = longer g

Follows-entry : (h : History) (e : Entry) (xs : List Item) (o : Box) (c : ℕ) → o.conn ≡ c → xs ≡ yield h e c → Follows h [] o
    → o.is_closed ≡ not (live h c || eqb (conn_of e) c) → Follows (h ▷ e) xs o
Follows-entry h e xs o c own is f is_open =
    let y : xs ≡ yield h e o.conn = is ∙ ap (yield h e) (sym own) in
    record {
      begins = (f.begins.0 ++ yield h e o.conn, sym (append_assoc o.added f.begins.0 (yield h e o.conn)) ∙ ap (λ l. l ++ yield h e o.conn) f.begins.1);
      whole = λ never. ap (λ l. o.added ++ l) y ∙ ap (λ l. l ++ yield h e o.conn) (sym (append-nil o.added) ∙ f.whole never);
      stood = f.stood;
      seen = seen_longer h e (history_of o.history) f.seen;
      closed = λ shut. is ∙ quiet h e c (not-true (live h c || eqb (conn_of e) c) (sym is_open ∙ shut));
    }

module _ {S : Type 0} where
  due_row : (h : History) (e : Entry) (xs : List Item) (r : Row S) → xs ≡ yield h e r.conn → RowDue h [] r
      → IsOpen (live h r.conn || eqb (conn_of e) r.conn) (box_in r) → RowDue (h ▷ e) xs r
  due_row h e xs r is due is_open = at r.held refl due is_open
    where
      at : (held : Option (HeldOutbox S)) → r.held ≡ held → MatchOption held ⊤ (λ x. Follows h [] x.outbox)
          → IsOpen (live h r.conn || eqb (conn_of e) r.conn) (option_map (λ x. x.outbox) held) → MatchOption held ⊤ (λ x. Follows (h ▷ e) xs x.outbox)
      at None here due is_open = tt
      at (Some x) here due is_open = Follows-entry h e xs x.outbox r.conn (r.of_conn x here) is due is_open

  pub due_all : (h : History) (e : Entry) (rows : List (Row S)) (given : List (ℕ × Item)) → Ready e h rows → GivesExactly h e given → EachDue (h ▷ e) given rows
  due_all h e rows given ready gives k r get = due_row h e (items_for r.conn given) r (gives.each r.conn) (ready.in_step k r get) (ready.is_open k r get)

-- what becomes of a row

went_ends : (shut : Bool) (o m p : Option Box) → BoxGoes o m → BoxEnds shut m p → BoxWent o p
went_ends shut None None None g e = tt
went_ends shut None None (Some p) g e = e
went_ends shut None (Some m) p g e = absurd g
went_ends shut (Some o) None p g e = absurd g
went_ends shut (Some o) (Some m) None g e = e
went_ends shut (Some o) (Some m) (Some p) g e = subst (λ q. Went o q) (sym e) (record {
  queue = g.queue;
  capacity = g.capacity;
  conn = g.conn;
  chronicle = g.chronicle;
  added = g.added;
  finds = g.finds;
  marked = g.marked;
  room = g.room;
  shut = λ c. stays shut m.is_closed (g.is_closed ∙ c);
})
  where
    stays : (shut closed : Bool) → closed ≡ true → cond shut true closed ≡ true
    stays true closed c = refl
    stays false closed c = c

rose_ends : (shut : Bool) (o m p : Option Box) → BoxEnds shut m p → Rose o p → Rose o m
rose_ends shut None m p e r = absurd r
rose_ends shut (Some o) m None e r = absurd r
rose_ends shut (Some o) None (Some p) e r = absurd e
rose_ends shut (Some o) (Some m) (Some p) e r = subst (λ (q : Box). o.full_finds < q.full_finds) e r

rose_ended : (shut : Bool) (o m p : Option Box) → BoxEnds shut m p → Rose o m → Rose o p
rose_ended shut None m p e r = absurd r
rose_ended shut (Some o) None p e r = absurd r
rose_ended shut (Some o) (Some m) None e r = absurd e
rose_ended shut (Some o) (Some m) (Some p) e r = subst (λ (q : Box). o.full_finds < q.full_finds) (sym e) r

open_ends : (lb la shut : Bool) (o m p : Option Box) → cond shut true (not lb) ≡ not la → IsOpen lb o → BoxGoes o m → BoxEnds shut m p → IsOpen la p
open_ends lb la shut o m None is is_open g e = tt
open_ends lb la shut o None (Some p) is is_open g e = absurd e
open_ends lb la shut None (Some m) (Some p) is is_open g e = absurd g
open_ends lb la shut (Some o) (Some m) (Some p) is is_open g e =
    ap (λ (q : Box). q.is_closed) e ∙ ap (λ b. cond shut true b) (g.is_closed ∙ is_open) ∙ is

follows_ends : (h : History) (shut : Bool) (m p : Option Box) → BoxEnds shut m p → MatchOption m ⊤ (λ o. Follows h [] o) → MatchOption p ⊤ (λ o. Follows h [] o)
follows_ends h shut m None e f = tt
follows_ends h shut None (Some p) e f = absurd e
follows_ends h shut (Some m) (Some p) e f = subst (λ q. Follows h [] q) (sym e) (record { begins = f.begins; whole = f.whole; stood = f.stood; seen = f.seen; closed = λ _. refl })

module _ {S : Type 0} where
  to_box : (h : History) (r : Row S) → RowDue h [] r → MatchOption (box_in r) ⊤ (λ o. Follows h [] o)
  to_box h r due = at r.held due
    where
      at : (held : Option (HeldOutbox S)) → MatchOption held ⊤ (λ x. Follows h [] x.outbox) → MatchOption (option_map (λ x. x.outbox) held) ⊤ (λ o. Follows h [] o)
      at None due = tt
      at (Some x) due = due

  pub of_box : (h : History) (r : Row S) → MatchOption (box_in r) ⊤ (λ o. Follows h [] o) → RowDue h [] r
  of_box h r due = at r.held due
    where
      at : (held : Option (HeldOutbox S)) → MatchOption (option_map (λ x. x.outbox) held) ⊤ (λ o. Follows h [] o) → MatchOption held ⊤ (λ x. Follows h [] x.outbox)
      at None due = tt
      at (Some x) due = due

  row_went : (c : ℕ) (b : Bool) (o m p : Row S) → RowGoes o m → RowEnds c b m p → RowWent o p
  row_went c b o m p g e = record {
    conn = e.conn ∙ g.conn;
    box = went_ends (not b && eqb c m.conn) (box_in o) (box_in m) (box_in p) g.box e.box;
    still = λ x. e.is_cut ∙ g.still x;
    rose = λ x. e.is_cut ∙ g.rose (rose_ends (not b && eqb c m.conn) (box_in o) (box_in m) (box_in p) e.box x);
    only = λ x. ⊎_elim (λ (y : o.is_cut ≡ true). inl y) (λ (y : Rose (box_in o) (box_in m)). inr (rose_ended (not b && eqb c m.conn) (box_in o) (box_in m) (box_in p) e.box y)) (g.only (sym e.is_cut ∙ x));
    is_lost = e.is_lost ∙ g.is_lost;
    was_lost = e.was_lost ∙ g.was_lost;
  }

  module _ (h : History) (e : Entry) (c : ℕ) (olds mid news : List (Row S)) (own : conn_of e ≡ c) (come : may_come h e ≡ true) (ready : Ready e h olds)
      (goes : EachGoes olds mid) (due : EachDue (h ▷ e) [] mid) (ended : EachEnds c (live (h ▷ e) c) mid news) where
    abbrev after : History
    after = h ▷ e

    pub went_all : EachWent olds news
    went_all = (
      ended.0 ∙ goes.0,
      λ k o p eo ep.
          let em = beside olds mid k o goes.0 eo in
          row_went c (live after c) o (get_or mid k o) p (goes.1 k o (get_or mid k o) eo em) (ended.1 k (get_or mid k o) p em ep),
    )

    has_after : (d : ℕ) → HasRow olds d → HasRow news d
    has_after d has =
        let k = has.0 in
        let s = has.1 in
        let l = went_all.0 in
        let inside = s.0 in
        let en = beside olds news k s.1 l s.2 in
        let w : k < length news = omega (arith, inside, l) in
        (k, (w, get_or news k s.1, en, (went_all.1 k s.1 (get_or news k s.1) s.2 en).conn ∙ s.3))

    open_row : (o m p : Row S) → IsOpen (live h o.conn || eqb (conn_of e) o.conn) (box_in o) → RowGoes o m → RowEnds c (live after c) m p → IsOpen (live after p.conn) (box_in p)
    open_row o m p is_open g x =
        let same_conn : m.conn ≡ p.conn = sym x.conn in
        at (eqb c m.conn) refl
      where
        at : (b : Bool) → eqb c m.conn ≡ b → IsOpen (live after p.conn) (box_in p)
        at true is =
            let here : c ≡ m.conn = eqb-true c m.conn is in
            let test : eqb (conn_of e) o.conn ≡ true = eq-eqb (conn_of e) o.conn (own ∙ here ∙ g.conn) in
            let told : cond (not (live after c) && eqb c m.conn) true (not (live h o.conn || eqb (conn_of e) o.conn)) ≡ not (live after p.conn) =
            (ap (λ b. cond (not (live after c) && b) true (not (live h o.conn || eqb (conn_of e) o.conn))) is
            ∙ ap (λ b. cond (not (live after c) && true) true (not (live h o.conn || b))) test
            ∙ shut_here (live after c) (live h o.conn)
            ∙ ap (λ d. not (live after d)) (here ∙ sym x.conn)) in
            open_ends (live h o.conn || eqb (conn_of e) o.conn) (live after p.conn) (not (live after c) && eqb c m.conn) (box_in o) (box_in m) (box_in p) told is_open g.box x.box
        at false is =
            let test : eqb (conn_of e) o.conn ≡ false = ap (λ d. eqb d o.conn) own ∙ ap (eqb c) (sym g.conn) ∙ is in
            let told : cond (not (live after c) && eqb c m.conn) true (not (live h o.conn || eqb (conn_of e) o.conn)) ≡ not (live after p.conn) =
            (ap (λ b. cond (not (live after c) && b) true (not (live h o.conn || eqb (conn_of e) o.conn))) is
            ∙ ap (λ b. cond (not (live after c) && false) true (not (live h o.conn || b))) test
            ∙ shut_there (live after c) (live h o.conn)
            ∙ ap not (sym (live-elsewhere h e o.conn test))
            ∙ ap (λ d. not (live after d)) (sym (x.conn ∙ g.conn))) in
            open_ends (live h o.conn || eqb (conn_of e) o.conn) (live after p.conn) (not (live after c) && eqb c m.conn) (box_in o) (box_in m) (box_in p) told is_open g.box x.box

    ascending_after : Ascending news
    ascending_after i j r s less er es =
        let l = went_all.0 in
        let ri = beside news olds i r (sym l) er in
        let sj = beside news olds j s (sym l) es in
        let before = ready.ascending i j (get_or olds i r) (get_or olds j s) less ri sj in
        let a = (went_all.1 i (get_or olds i r) r ri er).conn in
        let b = (went_all.1 j (get_or olds j s) s sj es).conn in
        omega (arith, before, a, b)

    live_has : (d : ℕ) → live after d ≡ true → HasRow news d
    live_has d is_live = at (eqb (conn_of e) d) refl
      where
        at : (b : Bool) → eqb (conn_of e) d ≡ b → HasRow news d
        at true is = subst (λ x. HasRow news x) (eqb-true (conn_of e) d is) (has_after (conn_of e) ready.own)
        at false is = has_after d (ready.has_rows d (sym (live-elsewhere h e d is) ∙ is_live))

    pub sound_after : Sound after news
    sound_after = record {
      ascending = ascending_after;
      in_step = λ k p ep.
          let l = ended.0 in
          let em = beside news mid k p (sym l) ep in
          let x = ended.1 k (get_or mid k p) p em ep in
          of_box after p (follows_ends after (not (live after c) && eqb c (get_or mid k p).conn) (box_in (get_or mid k p)) (box_in p) x.box (to_box after (get_or mid k p) (due k (get_or mid k p) em)));
      is_open = λ k p ep.
          let em = beside news mid k p (sym ended.0) ep in
          let eo = beside news olds k p (sym went_all.0) ep in
          open_row (get_or olds k p) (get_or mid k p) p (ready.is_open k (get_or olds k p) eo) (goes.1 k (get_or olds k p) (get_or mid k p) eo em) (ended.1 k (get_or mid k p) p em ep);
      joined = λ k p ep.
          let eo = beside news olds k p (sym went_all.0) ep in
          let same_conn = (went_all.1 k (get_or olds k p) p eo ep).conn in
          subst (λ d. has_joined after d ≡ true) (sym same_conn) (joined_after h e (get_or olds k p).conn come (ready.joined k (get_or olds k p) eo));
      accounted = λ k p ep.
          let eo = beside news olds k p (sym went_all.0) ep in
          accounts_went after (get_or olds k p) p (went_all.1 k (get_or olds k p) p eo ep) (ready.accounted k (get_or olds k p) eo);
      has_rows = live_has;
      legal = (ready.legal, come);
    }

-- closing

BoxEnds-same : (shut : Bool) (o : Option Box) → shut ≡ false → BoxEnds shut o o
BoxEnds-same shut None is = tt
BoxEnds-same shut (Some o) is = ap (λ b. let q : Box = record o { is_closed = cond b true o.is_closed } in q) (sym is)

BoxEnds-by : (shut : Bool) (o p : Option Box) → shut ≡ true → BoxEnds true o p → BoxEnds shut o p
BoxEnds-by shut o p is e = subst (λ b. BoxEnds b o p) (sym is) e

module _ {S : Type 0} where
  RowEnds-other : (c : ℕ) (b : Bool) (r : Row S) → not b && eqb c r.conn ≡ false → RowEnds c b r r
  RowEnds-other c b r is = record { conn = refl; is_cut = refl; is_lost = refl; was_lost = refl; box = BoxEnds-same (not b && eqb c r.conn) (box_in r) is }

  RowEnds-away : (c : ℕ) (b : Bool) (r : Row S) → r.conn ≢ c → RowEnds c b r r
  RowEnds-away c b r n = RowEnds-other c b r (ap (λ x. not b && x) (ne_eqb c r.conn (λ same. n (sym same))) ∙ and-false (not b))

  pub ends_live : (c : ℕ) (b : Bool) (rows : List (Row S)) → b ≡ true → EachEnds c b rows rows
  ends_live c b rows is = (refl, λ k o p eo ep. subst (λ q. RowEnds c b o q) (same_place rows k o p eo ep) (RowEnds-other c b o (ap (λ x. not x && eqb c o.conn) is)))

  pub ends_nowhere : (c : ℕ) (b : Bool) (rows : List (Row S)) → Each (λ r. r.conn ≢ c) rows → EachEnds c b rows rows
  ends_nowhere c b rows none = (refl, λ k o p eo ep. subst (λ q. RowEnds c b o q) (same_place rows k o p eo ep) (RowEnds-away c b o (none k o eo)))

  pub ends_here : (c : ℕ) (b : Bool) (rows : List (Row S)) (p : ℕ) (r s : Row S) → b ≡ false → Ascending rows → slice_get rows p ≡ Some r → r.conn ≡ c
      → s.conn ≡ r.conn → s.is_cut ≡ r.is_cut → s.is_lost ≡ r.is_lost → s.was_lost ≡ r.was_lost → BoxEnds true (box_in r) (box_in s) → EachEnds c b rows (set rows p s)
  ends_here c b rows p r s dead up get own kept cut lost was_lost box =
      let shut : not b && eqb c r.conn ≡ true = ap (λ x. not x && eqb c r.conn) dead ∙ eq-eqb c r.conn (sym own) in
      pairs_set rows p r s (RowEnds c b) get
      (record { conn = kept; is_cut = cut; is_lost = lost; was_lost = was_lost; box = BoxEnds-by (not b && eqb c r.conn) (box_in r) (box_in s) shut box })
      (λ k o away eo. RowEnds-away c b o (λ same. away (one_place rows c k p o r up eo get same own)))

pub taken_whole : {A : Type 0} (n : ℕ) (xs ys : List A) → length xs ≡ n → take n (xs ++ ys) ≡ xs
taken_whole zero [] ys e = refl
taken_whole (suc n) [] ys e = absurd (omega (arith, e))
taken_whole zero (x ∷ xs) ys e = absurd (omega (arith, e))
taken_whole (suc n) (x ∷ xs) ys e = ap (λ l. x ∷ l) (taken_whole n xs ys (omega (arith, e)))

-- where no item was refused, no row is found full after the closing either
pub none_ends : {S : Type 0} (c : ℕ) (b : Bool) (olds mid news : List (Row S)) → EachGoes olds mid → EachEnds c b mid news → NoneRose olds mid → NoneRose olds news
none_ends c b olds mid news goes ended none k o p eo ep h =
    let em = beside olds mid k o goes.0 eo in
    let x = ended.1 k (get_or mid k o) p em ep in
    none k o (get_or mid k o) eo em (rose_ends (not b && eqb c (get_or mid k o).conn) (box_in o) (box_in (get_or mid k o)) (box_in p) x.box h)
