-- Whom a post names.
use Rattle.std.proofs.Common.{◌≡◌, ◌≢◌, ◌⊎◌, ℕ, zero, suc, ◌+◌, ◌<◌, ◌≤◌, Bool, true, false, cond, ◌||◌, eqb, List, [], ◌∷◌, ◌++◌, length, get_or, refl, sym, ap, ◌∙◌, subst, inl, inr, ⊎_elim, append-nil, append_assoc, arith}
use Rattle.std.specs.Prelude.{Option, Some, None, slice_get, option_map}
use Rattle.std.specs.List.{insert}
use Rattle.std.proofs.lemmas.Bool.{eqb-true, eq-eqb, or_cases, or_left, or_right, ne_eqb}
use Rattle.std.proofs.Math.Bool.{or_assoc, or-false}
use Rattle.std.proofs.lemmas.List.Folds.{list_any-append}
use Rattle.realm.specs.declared.entry.Entry.{Entry}
use Rattle.realm_actor.specs.declared.row.Row.{Row}
use Rattle.realm_actor.specs.OutboxHistory.{Box}
use Rattle.realm_actor.specs.Rows.{Rose, box_in, Each, Ascending}
use Rattle.realm_actor.specs.Tables.{Standing, Went, BoxWent, RowWent, EachWent, EachMarked}
use Rattle.realm_actor.specs.Cuts.{Cuts, none, one_more, Accepted}
use Rattle.realm_actor.specs.Handle.{EachUnmarked}
use Rattle.realm_actor.specs.LastCut.{is_named, named_conns, is_in, finds_in, finds_of, outbox_of, NoMarks, Names, Ascends}
use Rattle.realm_actor.proofs.RowPlaces.{same_place, below_or, beside}

-- one entry after another

Went-same : (o : Box) → Went o o
Went-same o = record { queue = refl; capacity = refl; conn = refl; chronicle = refl; added = ([], append-nil o.added); finds = omega arith; marked = λ _. (refl, refl); room = λ h. absurd (omega (arith, h)); shut = λ h. h }

pub Went-on : (o p q : Box) → Went o p → Went p q → Went o q
Went-on o p q a b = record {
  queue = b.queue ∙ a.queue;
  capacity = b.capacity ∙ a.capacity;
  conn = b.conn ∙ a.conn;
  chronicle = b.chronicle ∙ a.chronicle;
  added = (a.added.0 ++ b.added.0, sym (append_assoc o.added a.added.0 b.added.0) ∙ ap (λ l. l ++ b.added.0) a.added.1 ∙ b.added.1);
  finds = let x = a.finds in let y = b.finds in omega (arith, x, y);
  marked = λ h. let x = a.marked h in let y = b.marked (subst (λ n. 0 < n) (sym x.1) h) in (y.0 ∙ x.0, y.1 ∙ x.1);
  room = λ h. ⊎_elim
      (λ (first : o.full_finds < p.full_finds). let r = a.room first in let same = (b.marked (let m = a.finds in omega (arith, first, m))).0 in subst (λ l. o.capacity ≤ length l) (sym same) r)
      (λ (later : p.full_finds ≤ o.full_finds). subst (λ n. n ≤ length q.added) a.capacity (b.room (omega (arith, later, h))))
      (below_or o.full_finds p.full_finds);
  shut = λ h. b.shut (a.shut h);
}

BoxWent-same : (o : Option Box) → BoxWent o o
BoxWent-same None = tt
BoxWent-same (Some o) = Went-same o

BoxWent-on : (o p q : Option Box) → BoxWent o p → BoxWent p q → BoxWent o q
BoxWent-on None None None a b = tt
BoxWent-on None None (Some q) a b = absurd b
BoxWent-on None (Some p) q a b = absurd a
BoxWent-on (Some o) None q a b = absurd a
BoxWent-on (Some o) (Some p) None a b = absurd b
BoxWent-on (Some o) (Some p) (Some q) a b = Went-on o p q a b

pub rose_once : (o p q : Option Box) → BoxWent o p → BoxWent p q → Rose o q → Rose o p ⊎ Rose p q
rose_once None p q a b h = absurd h
rose_once (Some o) None q a b h = absurd a
rose_once (Some o) (Some p) None a b h = absurd b
rose_once (Some o) (Some p) (Some q) a b h = ⊎_elim (λ (x : o.full_finds < p.full_finds). inl x) (λ (x : p.full_finds ≤ o.full_finds). inr (omega (arith, x, h))) (below_or o.full_finds p.full_finds)

pub rose_first : (o p q : Option Box) → BoxWent o p → BoxWent p q → Rose o p → Rose o q
rose_first None p q a b h = absurd h
rose_first (Some o) None q a b h = absurd h
rose_first (Some o) (Some p) None a b h = absurd b
rose_first (Some o) (Some p) (Some q) a b h = let m = b.finds in omega (arith, h, m)

pub rose_later : (o p q : Option Box) → BoxWent o p → BoxWent p q → Rose p q → Rose o q
rose_later None None q a b h = absurd h
rose_later None (Some p) q a b h = absurd a
rose_later (Some o) None q a b h = absurd h
rose_later (Some o) (Some p) None a b h = absurd b
rose_later (Some o) (Some p) (Some q) a b h = let m = a.finds in omega (arith, h, m)

pub not_above : (o : Option Box) → Rose o o → ⊥
not_above None h = h
not_above (Some o) h = omega (arith, h)

finds_rose : (o p : Option Box) → Rose o p → finds_in o < finds_in p
finds_rose None p h = absurd h
finds_rose (Some o) None h = absurd h
finds_rose (Some o) (Some p) h = h

rose_finds : (o p : Option Box) → BoxWent o p → finds_in o < finds_in p → Rose o p
rose_finds None None w h = absurd (omega (arith, h))
rose_finds None (Some p) w h = absurd w
rose_finds (Some o) None w h = absurd w
rose_finds (Some o) (Some p) w h = h

pub insert_length : {A : Type 0} (xs : List A) (i : ℕ) (x : A) → length (insert xs i x) ≤ length xs + 1
insert_length [] zero x = omega arith
insert_length [] (suc i) x = omega arith
insert_length (y ∷ xs) zero x = omega arith
insert_length (y ∷ xs) (suc i) x = let h = insert_length xs i x in omega (arith, h)

module _ {S : Type 0} where
  RowWent-same : (r : Row S) → RowWent r r
  RowWent-same r = record { conn = refl; box = BoxWent-same (box_in r); still = λ h. h; rose = λ h. absurd (not_above (box_in r) h); only = λ h. inl h; is_lost = refl; was_lost = refl }

  RowWent-on : (o p q : Row S) → RowWent o p → RowWent p q → RowWent o q
  RowWent-on o p q a b = record {
    conn = b.conn ∙ a.conn;
    box = BoxWent-on (box_in o) (box_in p) (box_in q) a.box b.box;
    still = λ h. b.still (a.still h);
    rose = λ h. ⊎_elim (λ (x : Rose (box_in o) (box_in p)). b.still (a.rose x)) (λ (x : Rose (box_in p) (box_in q)). b.rose x) (rose_once (box_in o) (box_in p) (box_in q) a.box b.box h);
    only = λ h. ⊎_elim
        (λ (x : p.is_cut ≡ true). ⊎_elim (λ (y : o.is_cut ≡ true). inl y) (λ (y : Rose (box_in o) (box_in p)). inr (rose_first (box_in o) (box_in p) (box_in q) a.box b.box y)) (a.only x))
        (λ (x : Rose (box_in p) (box_in q)). inr (rose_later (box_in o) (box_in p) (box_in q) a.box b.box x))
        (b.only h);
    is_lost = b.is_lost ∙ a.is_lost;
    was_lost = b.was_lost ∙ a.was_lost;
  }

  pub EachWent-same : (rows : List (Row S)) → EachWent rows rows
  EachWent-same rows = (refl, λ k o p e f. subst (λ q. RowWent o q) (same_place rows k o p e f) (RowWent-same o))

  pub EachWent-on : (xs ys zs : List (Row S)) → EachWent xs ys → EachWent ys zs → EachWent xs zs
  EachWent-on xs ys zs a b = (
    b.0 ∙ a.0,
    λ k o q e g.
        let here : slice_get ys k ≡ Some (get_or ys k o) = beside xs ys k o a.0 e in
        RowWent-on o (get_or ys k o) q (a.1 k o (get_or ys k o) e here) (b.1 k (get_or ys k o) q here g),
  )

  pub cuts_went : {old new : Standing S} {drawn : List ℕ} → Cuts old drawn new → EachWent old.rows new.rows
  cuts_went {old = old} none = EachWent-same old.rows
  cuts_went {old = old} {new = new} (one_more {mid = mid} c word so_far sound least cut is went) = EachWent-on old.rows mid.rows new.rows (cuts_went so_far) went

  pub length_all : {old new : Standing S} {drawn : List ℕ} → Cuts old drawn new → length new.rows ≡ length old.rows
  length_all cuts = (cuts_went cuts).0

  pub accepted_went : {old new : Standing S} {e : Entry} {drawn : List ℕ} → Accepted old e drawn new → EachWent old.rows new.rows
  accepted_went {old = old} {new = new} a = EachWent-on old.rows a.mid new.rows a.went (cuts_went a.cuts)

  -- what stands for a connection

  pub found : (rows : List (Row S)) (c : ℕ) (o : Box) → outbox_of rows c ≡ Some o → (k : ℕ) × (r : Row S) × (slice_get rows k ≡ Some r) × (r.conn ≡ c) × (box_in r ≡ Some o)
  found [] c o e = absurd (cc)
  found (x ∷ rows) c o e = at (eqb x.conn c) refl (found rows c o) e
    where
      at : (b : Bool) → eqb x.conn c ≡ b → (outbox_of rows c ≡ Some o → (k : ℕ) × (r : Row S) × (slice_get rows k ≡ Some r) × (r.conn ≡ c) × (box_in r ≡ Some o)) → cond b (box_in x) (outbox_of rows c) ≡ Some o → (k : ℕ) × (r : Row S) × (slice_get (x ∷ rows) k ≡ Some r) × (r.conn ≡ c) × (box_in r ≡ Some o)
      at true is on f = (0, x, refl, eqb-true x.conn c is, f)
      at false is on f = let t = on f in (suc t.0, t.1, t.2, t.3, t.4)

  pub holds_nowhere : (rows : List (Row S)) (c : ℕ) → Each (λ r. r.conn ≢ c) rows → outbox_of rows c ≡ None
  holds_nowhere rows c other = at (outbox_of rows c) refl
    where
      at : (o : Option Box) → outbox_of rows c ≡ o → o ≡ None
      at None is = refl
      at (Some o) is = let t = found rows c o is in absurd (other t.0 t.1 t.2 t.3)

  tail_ascends : (x : Row S) (rows : List (Row S)) → Ascending (x ∷ rows) → Ascending rows
  tail_ascends x rows up i j r s h e f = up (suc i) (suc j) r s (omega (arith, h)) e f

  pub looked_up : (rows : List (Row S)) (k : ℕ) (r : Row S) → Ascending rows → slice_get rows k ≡ Some r → outbox_of rows r.conn ≡ box_in r
  looked_up [] k r up e = absurd (cc e)
  looked_up (x ∷ rows) zero r up e =
      let same : x ≡ r = cc in
      let here : eqb x.conn r.conn ≡ true = eq-eqb x.conn r.conn (ap (λ (y : Row S). y.conn) same) in
      ap (λ b. cond b (box_in x) (outbox_of rows r.conn)) here ∙ ap box_in same
  looked_up (x ∷ rows) (suc k) r up e =
      let less : x.conn < r.conn = up zero (suc k) x r (omega arith) refl e in
      ap (λ b. cond b (box_in x) (outbox_of rows r.conn)) (ne_eqb x.conn r.conn (λ same. omega (arith, less, same))) ∙ looked_up rows k r (tail_ascends x rows up) e

  pub same_after : (olds news : List (Row S)) (c : ℕ) → EachUnmarked olds news → outbox_of news c ≡ outbox_of olds c
  same_after [] [] c w = refl
  same_after [] (p ∷ news) c w = absurd (let l = w.0 in omega (arith, l))
  same_after (o ∷ olds) [] c w = absurd (let l = w.0 in omega (arith, l))
  same_after (o ∷ olds) (p ∷ news) c w =
      let first = w.1 0 o p refl refl in
      let rest = same_after olds news c ((let l = w.0 in omega (arith, l)), λ k r s e f. w.1 (suc k) r s e f) in
      ap (λ d. cond (eqb d c) (box_in p) (outbox_of news c)) first.conn
      ∙ ap (λ held. cond (eqb o.conn c) (option_map (λ e. e.outbox) held) (outbox_of news c)) first.held
      ∙ ap (λ x. cond (eqb o.conn c) (box_in o) x) rest

  pub insert_other : (xs : List (Row S)) (i : ℕ) (a : Row S) (d : ℕ) → eqb a.conn d ≡ false → outbox_of (insert xs i a) d ≡ outbox_of xs d
  insert_other [] zero a d n = rw n refl
  insert_other [] (suc i) a d n = rw n refl
  insert_other (x ∷ xs) zero a d n = rw n refl
  insert_other (x ∷ xs) (suc i) a d n = ap (λ o. cond (eqb x.conn d) (box_in x) o) (insert_other xs i a d n)

  pub insert_here : (xs : List (Row S)) (i : ℕ) (a : Row S) (c : ℕ) → Each (λ r. r.conn ≢ c) xs → a.conn ≡ c → outbox_of (insert xs i a) c ≡ box_in a
  insert_here [] zero a c n own = let is : eqb a.conn c ≡ true = eq-eqb a.conn c own in rw is refl
  insert_here [] (suc i) a c n own = let is : eqb a.conn c ≡ true = eq-eqb a.conn c own in rw is refl
  insert_here (x ∷ xs) zero a c n own = let is : eqb a.conn c ≡ true = eq-eqb a.conn c own in rw is refl
  insert_here (x ∷ xs) (suc i) a c n own = other (eqb x.conn c) refl (insert_here xs i a c (λ k r e. n (suc k) r e) own)
    where
      other : (b : Bool) → eqb x.conn c ≡ b → outbox_of (insert xs i a) c ≡ box_in a → cond b (box_in x) (outbox_of (insert xs i a) c) ≡ box_in a
      other true is on = absurd (n 0 x refl (eqb-true x.conn c is))
      other false is on = on

  -- whom the rows name

  pub named_row : (rows : List (Row S)) (c : ℕ) → is_in c (named_conns rows) ≡ true
      → (k : ℕ) × (r : Row S) × (slice_get rows k ≡ Some r) × (r.conn ≡ c) × (is_named r ≡ true)
  named_row [] c e = absurd (cc)
  named_row (x ∷ rows) c e = at (is_named x) refl (λ e. let t = named_row rows c e in (suc t.0, t.1, t.2, t.3, t.4)) e
    where
      at : (b : Bool) → is_named x ≡ b
          → (is_in c (named_conns rows) ≡ true → (k : ℕ) × (r : Row S) × (slice_get (x ∷ rows) k ≡ Some r) × (r.conn ≡ c) × (is_named r ≡ true))
          → is_in c (cond b (x.conn ∷ named_conns rows) (named_conns rows)) ≡ true
          → (k : ℕ) × (r : Row S) × (slice_get (x ∷ rows) k ≡ Some r) × (r.conn ≡ c) × (is_named r ≡ true)
      at true is on e = ⊎_elim (λ (y : eqb x.conn c ≡ true). (0, x, refl, eqb-true x.conn c y, is)) (λ (y : is_in c (named_conns rows) ≡ true). on y) (or_cases (eqb x.conn c) (is_in c (named_conns rows)) e)
      at false is on e = on e

  pub row_named : (rows : List (Row S)) (k : ℕ) (r : Row S) → slice_get rows k ≡ Some r → is_named r ≡ true → is_in r.conn (named_conns rows) ≡ true
  row_named [] k r e n = absurd (cc e)
  row_named (x ∷ rows) zero r e n =
      let same : x ≡ r = cc in
      let named : is_named x ≡ true = ap (λ y. is_named y) same ∙ n in
      ap (λ b. is_in r.conn (cond b (x.conn ∷ named_conns rows) (named_conns rows))) named
      ∙ or_left (eqb x.conn r.conn) (is_in r.conn (named_conns rows)) (eq-eqb x.conn r.conn (ap (λ (y : Row S). y.conn) same))
  row_named (x ∷ rows) (suc k) r e n = at (is_named x) (row_named rows k r e n)
    where
      at : (b : Bool) → is_in r.conn (named_conns rows) ≡ true → is_in r.conn (cond b (x.conn ∷ named_conns rows) (named_conns rows)) ≡ true
      at true h = or_right (eqb x.conn r.conn) (is_in r.conn (named_conns rows)) h
      at false h = h

  pub named_ascend : (rows : List (Row S)) → Ascending rows → Ascends (named_conns rows)
  named_ascend [] up = tt
  named_ascend (x ∷ rows) up = at (is_named x) (named_ascend rows (tail_ascends x rows up))
    where
      at : (b : Bool) → Ascends (named_conns rows) → Ascends (cond b (x.conn ∷ named_conns rows) (named_conns rows))
      at true rest = (λ d e. let t = named_row rows d e in let less = up zero (suc t.0) x t.1 (omega arith) refl t.2 in subst (λ c. x.conn < c) t.3 less, rest)
      at false rest = rest

  -- from rows without marks to rows with marks

  -- p is the row o after entries, marked as cut where its outbox was found full, and as lost where its connection is one of these
  pub record RowMoved (lost : List ℕ) (o p : Row S) : Type 0 where
    pub conn : p.conn ≡ o.conn
    pub box : BoxWent (box_in o) (box_in p)
    pub still : o.is_cut ≡ true → p.is_cut ≡ true
    pub rose : Rose (box_in o) (box_in p) → p.is_cut ≡ true
    pub only : p.is_cut ≡ true → (o.is_cut ≡ true) ⊎ Rose (box_in o) (box_in p)
    pub is_lost : p.is_lost ≡ o.is_lost || is_in o.conn lost

  abbrev pub EachMoved : List ℕ → List (Row S) → List (Row S) → Type 0
  EachMoved lost olds news =
      (length news ≡ length olds)
      × ((k : ℕ) (o p : Row S) → slice_get olds k ≡ Some o → slice_get news k ≡ Some p → RowMoved lost o p)

  pub moved_went : (olds news : List (Row S)) → EachWent olds news → EachMoved [] olds news
  moved_went olds news w = (
    w.0,
    λ k o p e f. let t = w.1 k o p e f in record { conn = t.conn; box = t.box; still = t.still; rose = t.rose; only = t.only; is_lost = t.is_lost ∙ sym (or-false o.is_lost) },
  )

  same_box : (o p : Row S) → p.held ≡ o.held → box_in p ≡ box_in o
  same_box o p e = ap (λ held. option_map (λ e. e.outbox) held) e

  pub moved_marked : (c : ℕ) (olds news : List (Row S)) → EachMarked c olds news → EachMoved (c ∷ []) olds news
  moved_marked c olds news m = (
    m.0,
    λ k o p e f.
        let t = m.1 k o p e f in
        let same = same_box o p t.held in
        record {
          conn = t.conn;
          box = subst (λ b. BoxWent (box_in o) b) (sym same) (BoxWent-same (box_in o));
          still = λ h. t.is_cut ∙ h;
          rose = λ h. absurd (not_above (box_in o) (subst (λ b. Rose (box_in o) b) same h));
          only = λ h. inl (sym t.is_cut ∙ h);
          is_lost = t.is_lost ∙ ap (λ b. o.is_lost || b) (sym (or-false (eqb c o.conn)));
        },
  )

  pub moved_on : (first second : List ℕ) (xs ys zs : List (Row S)) → EachMoved first xs ys → EachMoved second ys zs → EachMoved (first ++ second) xs zs
  moved_on first second xs ys zs a b = (
    b.0 ∙ a.0,
    λ k o q e g.
        let here : slice_get ys k ≡ Some (get_or ys k o) = beside xs ys k o a.0 e in
        let p : Row S = get_or ys k o in
        let x = a.1 k o p e here in
        let y = b.1 k p q here g in
        record {
          conn = y.conn ∙ x.conn;
          box = BoxWent-on (box_in o) (box_in p) (box_in q) x.box y.box;
          still = λ h. y.still (x.still h);
          rose = λ h. ⊎_elim (λ (z : Rose (box_in o) (box_in p)). y.still (x.rose z)) (λ (z : Rose (box_in p) (box_in q)). y.rose z) (rose_once (box_in o) (box_in p) (box_in q) x.box y.box h);
          only = λ h. ⊎_elim
              (λ (z : p.is_cut ≡ true). ⊎_elim (λ (u : o.is_cut ≡ true). inl u) (λ (u : Rose (box_in o) (box_in p)). inr (rose_first (box_in o) (box_in p) (box_in q) x.box y.box u)) (x.only z))
              (λ (z : Rose (box_in p) (box_in q)). inr (rose_later (box_in o) (box_in p) (box_in q) x.box y.box z))
              (y.only h);
          is_lost = y.is_lost
              ∙ ap (λ d. p.is_lost || is_in d second) x.conn
              ∙ ap (λ b. b || is_in o.conn second) x.is_lost
              ∙ or_assoc o.is_lost (is_in o.conn first) (is_in o.conn second)
              ∙ ap (λ b. o.is_lost || b) (sym (list_any-append (λ d. eqb d o.conn) first second));
        },
  )

  pub moved_by : (lost : List ℕ) (olds news : List (Row S)) (c : ℕ) → EachMoved lost olds news → BoxWent (outbox_of olds c) (outbox_of news c)
  moved_by lost [] [] c w = tt
  moved_by lost [] (p ∷ news) c w = absurd (let l = w.0 in omega (arith, l))
  moved_by lost (o ∷ olds) [] c w = absurd (let l = w.0 in omega (arith, l))
  moved_by lost (o ∷ olds) (p ∷ news) c w =
      let first = w.1 0 o p refl refl in
      let rest = moved_by lost olds news c ((let l = w.0 in omega (arith, l)), λ k r s e f. w.1 (suc k) r s e f) in
      at (eqb o.conn c) (eqb p.conn c) (ap (λ d. eqb d c) (sym first.conn)) first.box rest
    where
      at : (a b : Bool) → a ≡ b → BoxWent (box_in o) (box_in p) → BoxWent (outbox_of olds c) (outbox_of news c)
          → BoxWent (cond a (box_in o) (outbox_of olds c)) (cond b (box_in p) (outbox_of news c))
      at true true is x y = x
      at true false is x y = absurd (cc)
      at false true is x y = absurd (cc)
      at false false is x y = y

  ascend_back : (lost : List ℕ) (olds news : List (Row S)) → EachMoved lost olds news → Ascending news → Ascending olds
  ascend_back lost olds news w up i j r s h e f =
      let ei = beside olds news i r w.0 e in
      let ej = beside olds news j s w.0 f in
      let less = up i j (get_or news i r) (get_or news j s) h ei ej in
      let a = (w.1 i r (get_or news i r) e ei).conn in
      let b = (w.1 j s (get_or news j s) f ej).conn in
      omega (arith, less, a, b)

  -- from rows without marks to rows with marks, these are named
  pub names_moved : (lost : List ℕ) (P : ℕ → Type 0) (olds ends news : List (Row S)) → Ascending ends → NoMarks olds → EachMoved lost olds ends → EachUnmarked ends news
      → ((k : ℕ) (r : Row S) → slice_get ends k ≡ Some r → is_in r.conn lost ≡ true → P r.conn)
      → ((d : ℕ) → P d → (k : ℕ) × (r : Row S) × (slice_get ends k ≡ Some r) × (r.conn ≡ d) × (is_in d lost ≡ true))
      → Names P olds news (named_conns ends)
  names_moved lost P olds ends news up unmarked w u to of = record {
    rose = λ c h.
        let later : finds_in (outbox_of olds c) < finds_in (outbox_of ends c) = subst (λ o. finds_in (outbox_of olds c) < finds_in o) (same_after ends news c u) h in
        rises c (outbox_of ends c) refl later;
    cut = λ c p.
        let t = of c p in
        let l : t.1.is_lost ≡ true = (moved t.0 t.1 t.2).is_lost ∙ or_right (get_or olds t.0 t.1).is_lost (is_in (get_or olds t.0 t.1).conn lost) (ap (λ d. is_in d lost) (sym (moved t.0 t.1 t.2).conn ∙ t.3) ∙ t.4) in
        subst (λ d. is_in d (named_conns ends) ≡ true) t.3 (row_named ends t.0 t.1 t.2 (or_right t.1.is_cut t.1.is_lost l));
    only = λ c e.
        let t = named_row ends c e in
        ⊎_elim
        (λ (marked : t.1.is_cut ≡ true). inl (subst (λ d. finds_of olds d < finds_of news d) t.3 (rose_at t.0 t.1 t.2 marked)))
        (λ (gone : t.1.is_lost ≡ true). inr (subst P t.3 (to t.0 t.1 t.2 (lost_at t.0 t.1 t.2 gone))))
        (or_cases t.1.is_cut t.1.is_lost t.4);
    ascending = named_ascend ends up;
  }
    where
      before : (k : ℕ) (r : Row S) → slice_get ends k ≡ Some r → slice_get olds k ≡ Some (get_or olds k r)
      before k r e = beside ends olds k r (sym w.0) e

      moved : (k : ℕ) (r : Row S) → slice_get ends k ≡ Some r → RowMoved lost (get_or olds k r) r
      moved k r e = w.1 k (get_or olds k r) r (before k r e) e

      lost_at : (k : ℕ) (r : Row S) → slice_get ends k ≡ Some r → r.is_lost ≡ true → is_in r.conn lost ≡ true
      lost_at k r e gone =
          let none = (unmarked k (get_or olds k r) (before k r e)).1 in
          ap (λ d. is_in d lost) (moved k r e).conn ∙ ap (λ b. b || is_in (get_or olds k r).conn lost) (sym none) ∙ sym (moved k r e).is_lost ∙ gone

      old_box : (k : ℕ) (r : Row S) → slice_get ends k ≡ Some r → outbox_of olds r.conn ≡ box_in (get_or olds k r)
      old_box k r e = ap (outbox_of olds) (moved k r e).conn ∙ looked_up olds k (get_or olds k r) (ascend_back lost olds ends w up) (before k r e)

      rose_at : (k : ℕ) (r : Row S) → slice_get ends k ≡ Some r → r.is_cut ≡ true → finds_of olds r.conn < finds_of news r.conn
      rose_at k r e marked =
          let eo = before k r e in
          let went = moved k r e in
          ⊎_elim
          (λ (x : (get_or olds k r).is_cut ≡ true). let none = (unmarked k (get_or olds k r) eo).0 in absurd (cc))
          (λ (x : Rose (box_in (get_or olds k r)) (box_in r)).
          let more = finds_rose (box_in (get_or olds k r)) (box_in r) x in
          let a = ap finds_in (old_box k r e) in
          let b = ap finds_in (same_after ends news r.conn u ∙ looked_up ends k r up e) in
          omega (arith, more, a, b))
          (went.only marked)

      rises : (c : ℕ) (o : Option Box) → outbox_of ends c ≡ o → finds_in (outbox_of olds c) < finds_in (outbox_of ends c) → is_in c (named_conns ends) ≡ true
      rises c None is h = let z = ap finds_in is in absurd (omega (arith, h, z))
      rises c (Some o) is h =
          let t = found ends c o is in
          let went = moved t.0 t.1 t.2 in
          let a = ap finds_in (ap (outbox_of olds) (sym t.3) ∙ old_box t.0 t.1 t.2) in
          let b = ap finds_in (is ∙ sym t.4) in
          let more : finds_in (box_in (get_or olds t.0 t.1)) < finds_in (box_in t.1) = omega (arith, h, a, b) in
          let marked = went.rose (rose_finds (box_in (get_or olds t.0 t.1)) (box_in t.1) went.box more) in
          subst (λ d. is_in d (named_conns ends) ≡ true) t.3 (row_named ends t.0 t.1 t.2 (or_left t.1.is_cut t.1.is_lost marked))
