-- The history keeps the order of what was handled, and of what was posted.
use Rattle.std.proofs.Common.{◌≡◌, ℕ, Bool, true, false, true≢false, cond, not, eqb, List, [], ◌∷◌, ◌++◌, refl, sym, ap, subst, ◌∙◌, append-nil, append_assoc}
use Rattle.std.proofs.lemmas.Bool.{eqb-true, eq-eqb}
use Rattle.std.proofs.lemmas.List.Elements.{filter-append}
use Rattle.wamp_ids.specs.Numbers.{seat_of}
use Rattle.realm.specs.declared.entry.Entry.{Entry}
use Rattle.realm.specs.declared.entry.Entry.TheVariants as entry
use Rattle.realm.specs.Grants.{Grants}
use Rattle.realm.specs.History.{History, begun, ◌▷◌}
use Rattle.realm.specs.Sessions.{conn_of, who, live, may_come, may_join}
use Rattle.realm.specs.PostedOrder.{posts_of, said_by, AreSome, Ordered}
use Rattle.realm.proofs.Lemmas.{order-begun, order-accepted, order-dropped, order-lost, order-lost-cut, order-cut, some-more, joins-before, said-kept, some-before}
use Rattle.realm_inbox.specs.declared.act.Act as the
use Rattle.realm_inbox.specs.declared.act.Act.TheVariants.{Join, Said, Ping, Spoilt, Gone}
use Rattle.realm_inbox.specs.declared.letter.Halt.{Halt}
use Rattle.realm_inbox.specs.declared.letter.Letter.{Letter}
use Rattle.realm_inbox.specs.declared.letter.Post.{Post}
use Rattle.realm_inbox.specs.declared.letter.Post.TheVariants.{Act, Stop}
use Rattle.realm_inbox.specs.Seats.{said, adds_at, at_seat}
use Rattle.realm_actor.specs.Handle.{entry_of, is_dropped}
use Rattle.realm_actor.specs.HistoryGrowth.{AfterCuts, AfterClosing, Makes, applied, dropped, lost, stopped, MakesAll}
use Rattle.realm_actor.specs.HistoryGrowth as making
use Rattle.realm_actor.specs.PostedOrder.{acts_of, acts_for, AreEntries, KeepsOrder, HandledKeepsOrder, HistoryKeepsOrder}
use Rattle.realm_actor.specs.PostedOrder as of
use Rattle.realm_inbox.proofs.Lemmas.{begins_posted}

flip : (a b : Bool) → not a ≡ b → a ≡ not b
flip true true e = absurd (true≢false (sym e))
flip true false e = refl
flip false true e = refl
flip false false e = absurd (true≢false e)

-- a Closed leaves the order acts it is
live-closed : (h : History) (c word d : ℕ) → live (h ▷ entry.Closed c word) d ≡ true → live h d ≡ true
unfolding who
live-closed h c word d e = some-before (eqb c d) (who h d) e

order-closed : (h : History) (es : List Entry) (c word : ℕ) → Ordered h es → Ordered (h ▷ entry.Closed c word) es
order-closed h es c word before = record {
  some = λ d. subst (λ l. AreSome l (posts_of d es)) (sym (said-kept d h (entry.Closed c word) refl)) (before.some d);
  begins = λ d joins. let b = before.begins d joins in (b.0, b.1 ∙ ap (λ l. l ++ b.0) (sym (said-kept d h (entry.Closed c word) refl)));
  all = λ d joins is_live. said-kept d h (entry.Closed c word) refl ∙ before.all d joins (live-closed h c word d is_live);
}

after-cuts : (h k : History) (es : List Entry) → Ordered h es → AfterCuts h k → Ordered k es
after-cuts h k es before making.AfterCuts.none = before
after-cuts h k es before (making.AfterCuts.one_more c word more) = order-cut _ es c word (after-cuts h _ es before more)

pub after-closing : (h k : History) (es : List Entry) → Ordered h es → AfterClosing h k → Ordered k es
after-closing h k es before making.AfterClosing.none = before
after-closing h k es before (making.AfterClosing.closed c word is_live more) = order-closed _ es c word (after-closing h _ es before more)
after-closing h k es before (making.AfterClosing.cut c word more) = order-cut _ es c word (after-closing h _ es before more)

module _ {S : Type 0} where
  conn_of-entry : (c : ℕ) (act : the.Act S) (word : ℕ) → conn_of (entry_of c act word) ≡ c
  conn_of-entry c (Join joining) word = refl
  conn_of-entry c (Said words) word = refl
  conn_of-entry c (Ping payload) word = refl
  conn_of-entry c Spoilt word = refl
  conn_of-entry c Gone word = refl

  -- an act that isn't dropped may come
  come-of : (h : History) (c : ℕ) (act : the.Act S) (word : ℕ) (b : Bool) → is_dropped h c act ≡ b → may_come h (entry_of c act word) ≡ not b
  come-of h c (Join joining) word b e = flip (may_join h c) b e
  come-of h c (Said words) word b e = flip (live h c) b e
  come-of h c (Ping payload) word b e = flip (live h c) b e
  come-of h c Spoilt word b e = flip (live h c) b e
  come-of h c Gone word b e = flip (live h c) b e

  -- the entries of all acts among these posts
  pub data AreAll : List (Post S) → List Entry → Type 0 where
    nothing : AreAll [] []
    an_act : (ps : List (Post S)) (es : List Entry) (l : Letter S) (word : ℕ) → AreAll ps es → AreAll (ps ++ Act l ∷ []) (es ++ entry_of l.conn l.act word ∷ [])
    a_stop : (ps : List (Post S)) (es : List Entry) (halt : Halt) → AreAll ps es → AreAll (ps ++ Stop halt ∷ []) es

  pub record Kept (ps : List (Post S)) (h : History) : Type 0 where
    pub entries : List Entry
    pub are : AreAll ps entries
    pub ordered : Ordered h entries

  kept-act : (ps : List (Post S)) (h k : History) (l : Letter S) (word : ℕ) (kept : Kept ps h) → Ordered k (kept.entries ++ entry_of l.conn l.act word ∷ []) → Kept (ps ++ Act l ∷ []) k
  kept-act ps h k l word kept o = record { entries = kept.entries ++ entry_of l.conn l.act word ∷ []; are = an_act ps kept.entries l word kept.are; ordered = o }

  -- a stop enters nobody's act
  pub kept-stop : (ps : List (Post S)) (h k : History) (halt : Halt) (kept : Kept ps h) → AfterClosing h k → Kept (ps ++ Stop halt ∷ []) k
  kept-stop ps h k halt kept closing = record { entries = kept.entries; are = a_stop ps kept.entries halt kept.are; ordered = after-closing h k kept.entries kept.ordered closing }

  kept-on : (ps : List (Post S)) (h k : History) (p : Post S) → Kept ps h → Makes h p k → Kept (ps ++ p ∷ []) k
  kept-on ps h k p kept (applied l word comes cuts) =
      let e : Entry = entry_of l.conn l.act word in
      kept-act ps h k l word kept (after-cuts (h ▷ e) k (kept.entries ++ e ∷ []) (order-accepted h kept.entries e kept.ordered (come-of h l.conn l.act word false comes)) cuts)
  kept-on ps h k p kept (dropped l is) =
      kept-act ps h h l 0 kept (order-dropped h kept.entries (entry_of l.conn l.act 0) kept.ordered (come-of h l.conn l.act 0 true is))
  kept-on ps h k p kept (lost l dead) =
      kept-act ps h h l 0 kept (order-lost h kept.entries (entry_of l.conn l.act 0) kept.ordered (ap (λ c. live h c) (conn_of-entry l.conn l.act 0) ∙ dead))
  kept-on ps h k p kept (making.Makes.cut l word cuts) =
      let e : Entry = entry_of l.conn l.act 0 in
      let o : Ordered (h ▷ entry.Cut l.conn word) (kept.entries ++ e ∷ []) =
      subst (λ c. Ordered (h ▷ entry.Cut c word) (kept.entries ++ e ∷ [])) (conn_of-entry l.conn l.act 0) (order-lost-cut h kept.entries e word kept.ordered) in
      kept-act ps h k l 0 kept (after-cuts (h ▷ entry.Cut l.conn word) k (kept.entries ++ e ∷ []) o cuts)
  kept-on ps h k p kept (stopped halt closing) = kept-stop ps h k halt kept closing

  kept-all : (h k : History) (ps : List (Post S)) → Kept [] h → MakesAll h ps k → Kept ps k
  kept-all h k ps kept making.MakesAll.none = kept
  kept-all h k ps kept (making.MakesAll.one_more p before last) = kept-on _ _ k p (kept-all h _ _ kept before) last

  pub kept-begun : (grants : Grants) (ps : List (Post S)) (h : History) → MakesAll (begun grants) ps h → Kept ps h
  kept-begun grants ps h all = kept-all (begun grants) h ps (record { entries = []; are = nothing; ordered = order-begun grants }) all

  -- the acts of one connection
  abbrev own_act : ℕ → Letter S → List (the.Act S)
  own_act c l = cond (eqb l.conn c) (l.act ∷ []) []

  acts_of-append : (c : ℕ) (ps qs : List (Post S)) → acts_of c (ps ++ qs) ≡ acts_of c ps ++ acts_of c qs
  acts_of-append c [] qs = refl
  acts_of-append c (Act l ∷ ps) qs = at (eqb l.conn c) (acts_of-append c ps qs)
    where
      at : (b : Bool) → acts_of c (ps ++ qs) ≡ acts_of c ps ++ acts_of c qs
          → cond b (l.act ∷ acts_of c (ps ++ qs)) (acts_of c (ps ++ qs)) ≡ cond b (l.act ∷ acts_of c ps) (acts_of c ps) ++ acts_of c qs
      at true e = ap (λ t. l.act ∷ t) e
      at false e = e
  acts_of-append c (Stop halt ∷ ps) qs = acts_of-append c ps qs

  acts_for-append : (c : ℕ) (xs ys : List (ℕ × the.Act S)) → acts_for c (xs ++ ys) ≡ acts_for c xs ++ acts_for c ys
  acts_for-append c [] ys = refl
  acts_for-append c (x ∷ xs) ys = at (eqb x.0 c) (acts_for-append c xs ys)
    where
      at : (b : Bool) → acts_for c (xs ++ ys) ≡ acts_for c xs ++ acts_for c ys
          → cond b (x.1 ∷ acts_for c (xs ++ ys)) (acts_for c (xs ++ ys)) ≡ cond b (x.1 ∷ acts_for c xs) (acts_for c xs) ++ acts_for c ys
      at true e = ap (λ t. x.1 ∷ t) e
      at false e = e

  are-append : (c : ℕ) (acts bs : List (the.Act S)) (es fs : List Entry) → AreEntries c acts es → AreEntries c bs fs → AreEntries c (acts ++ bs) (es ++ fs)
  are-append c acts bs es fs of.AreEntries.none more = more
  are-append c acts bs es fs (of.AreEntries.one_more act word are) more = of.AreEntries.one_more act word (are-append c _ bs _ fs are more)

  one-entry : (c : ℕ) (l : Letter S) (word : ℕ) (b : Bool) → eqb l.conn c ≡ b → AreEntries c (cond b (l.act ∷ []) []) (cond b (entry_of l.conn l.act word ∷ []) [])
  one-entry c l word true e = subst (λ d. AreEntries c (l.act ∷ []) (entry_of d l.act word ∷ [])) (sym (eqb-true l.conn c e)) (of.AreEntries.one_more l.act word of.AreEntries.none)
  one-entry c l word false e = of.AreEntries.none

  pub entries-of : (c : ℕ) (ps : List (Post S)) (es : List Entry) → AreAll ps es → AreEntries c (acts_of c ps) (posts_of c es)
  entries-of c _ _ nothing = of.AreEntries.none
  entries-of c _ _ (an_act ps es l word more) =
      let e : Entry = entry_of l.conn l.act word in
      let one : AreEntries c (own_act c l) (cond (eqb (conn_of e) c) (e ∷ []) []) =
      subst (λ d. AreEntries c (own_act c l) (cond (eqb d c) (e ∷ []) [])) (sym (conn_of-entry l.conn l.act word)) (one-entry c l word (eqb l.conn c) refl) in
      let both = are-append c (acts_of c ps) (own_act c l) (posts_of c es) (cond (eqb (conn_of e) c) (e ∷ []) []) (entries-of c ps es more) one in
      subst (λ (y : List (the.Act S) × List Entry). AreEntries c y.0 y.1)
      (λ i. (sym (acts_of-append c ps (Act l ∷ [])) i, sym (filter-append (λ x. eqb (conn_of x) c) es (e ∷ [])) i)) both
  entries-of c _ _ (a_stop ps es halt more) =
      subst (λ acts. AreEntries c acts (posts_of c es)) (sym (acts_of-append c ps (Stop halt ∷ []) ∙ append-nil (acts_of c ps))) (entries-of c ps es more)

  pub keeps : (ps : List (Post S)) (h : History) → Kept ps h → (c : ℕ) → KeepsOrder c (acts_of c ps) h
  keeps ps h kept c = record { entries = posts_of c kept.entries; are = entries-of c ps kept.entries kept.are; some_of = kept.ordered.some c; begins = kept.ordered.begins c }

  -- acts that were posted and not handled yet change nothing
  abbrev entries_by_0 : ℕ → List (the.Act S) → List Entry
  entries_by_0 c [] = []
  entries_by_0 c (act ∷ acts) = entry_of c act 0 ∷ entries_by_0 c acts

  are_by_0 : (c : ℕ) (acts : List (the.Act S)) → AreEntries c acts (entries_by_0 c acts)
  are_by_0 c [] = of.AreEntries.none
  are_by_0 c (act ∷ acts) = of.AreEntries.one_more act 0 (are_by_0 c acts)

  pub keeps-longer : (c : ℕ) (acts more : List (the.Act S)) (h : History) → KeepsOrder c acts h → KeepsOrder c (acts ++ more) h
  keeps-longer c acts more h k = record {
    entries = k.entries ++ entries_by_0 c more;
    are = are-append c acts more k.entries (entries_by_0 c more) k.are (are_by_0 c more);
    some_of = some-more (said_by c h) k.entries (entries_by_0 c more) k.some_of;
    begins = λ joins. let b = k.begins (joins-before k.entries (entries_by_0 c more) joins) in (b.0 ++ entries_by_0 c more, ap (λ l. l ++ entries_by_0 c more) b.1 ∙ append_assoc (said_by c h) b.0 (entries_by_0 c more));
  }

  -- the acts of a connection stand at its seat
  one-seat : (c : ℕ) (l : Letter S) (b d : Bool) → (d ≡ true → b ≡ true) → eqb l.conn c ≡ d → acts_for c (cond b (said l ∷ []) []) ≡ cond d (l.act ∷ []) []
  one-seat c l true d here e = ap (λ x. cond x (l.act ∷ []) []) e
  one-seat c l false true here e = absurd (true≢false (sym (here refl)))
  one-seat c l false false here e = refl

  seat-acts : (c : ℕ) (ps : List (Post S)) → acts_for c (at_seat (seat_of c) ps) ≡ acts_of c ps
  seat-acts c [] = refl
  seat-acts c (Act l ∷ ps) =
      acts_for-append c (adds_at (seat_of c) (Act l)) (at_seat (seat_of c) ps)
      ∙ ap (λ t. t ++ acts_for c (at_seat (seat_of c) ps)) (one-seat c l (eqb (seat_of l.conn) (seat_of c)) (eqb l.conn c) (λ e. eq-eqb (seat_of l.conn) (seat_of c) (ap seat_of (eqb-true l.conn c e))) refl)
      ∙ ap (λ t. own_act c l ++ t) (seat-acts c ps) ∙ at (eqb l.conn c)
    where
      at : (b : Bool) → cond b (l.act ∷ []) [] ++ acts_of c ps ≡ cond b (l.act ∷ acts_of c ps) (acts_of c ps)
      at true = refl
      at false = refl
  seat-acts c (Stop halt ∷ ps) = seat-acts c ps

pub handled_keeps : (S : Type 0) → HandledKeepsOrder S
handled_keeps S grants handled h all = keeps handled h (kept-begun grants handled h all)

pub history_keeps : (S : Type 0) → HistoryKeepsOrder S
history_keeps S grants handled h all items views b reader seat n c got posted rule at_reader at_seat' same =
    let k = seat_of c in
    let is : posted ≡ at_seat k handled ++ at_seat k items = begins_posted S items views b reader seat n k got posted rule at_reader at_seat' ∙ ap (λ t. t ++ at_seat k items) (sym (same k)) in
    let acts_are : acts_for c posted ≡ acts_of c handled ++ acts_for c (at_seat k items) =
    ap (λ t. acts_for c t) is ∙ acts_for-append c (at_seat k handled) (at_seat k items) ∙ ap (λ t. t ++ acts_for c (at_seat k items)) (seat-acts c handled) in
    subst (λ acts. KeepsOrder c acts h) (sym acts_are) (keeps-longer c (acts_of c handled) (acts_for c (at_seat k items)) h (keeps handled h (kept-begun grants handled h all) c))
