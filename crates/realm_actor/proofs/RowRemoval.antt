-- Rows go, or lose their outbox.
use Rattle.std.proofs.Common.{◌≡◌, ◌≢◌, ℕ, zero, suc, ◌<◌, ◌≤◌, Bool, true, false, cond, eqb, List, [], ◌∷◌, ◌++◌, filter, append-nil, length, set, get_or, refl, sym, ap, ◌∙◌, subst, ⊎_elim, arith}
use Rattle.std.specs.Prelude.{Option, Some, None, ⊤, slice_get, MatchOption, option_map, Result, Ok, Err, IfOk, IfErr}
use Rattle.std.proofs.Math.ListN.{length-set}
use Rattle.std.proofs.lemmas.Bool.{eqb-true, ne_eqb}
use Rattle.std.proofs.lemmas.Option.{slice_get_read}
use Rattle.std.proofs.lemmas.List.{set-get_or}
use mathlib.Core.List.{IsPrefix}
use Rattle.outbox_queue.specs.Ends.{Taking}
use Rattle.outbox_queue.specs.Tied.{Kept, history_of}
use Rattle.outbox_queue.specs.Rule.{Grows}
use Rattle.wamp_messages.specs.declared.item.Item.{Item}
use Rattle.realm.specs.History.{History, begun, Begins}
use Rattle.realm.specs.Grants.{Grants}
use Rattle.realm.specs.Sessions.{live, who}
use Rattle.realm.specs.Yield.{owed}
use Rattle.realm_actor.specs.declared.row.Row.{Row}
use Rattle.realm_actor.specs.declared.row.HeldOutbox.{HeldOutbox}
use Rattle.realm_actor.specs.ActorView.{Acting}
use Rattle.realm_inbox.specs.HistoryBeginnings.{begins_longer}
use Rattle.realm_actor.specs.Settle.{Settles, Sweeps, EmptiesOne}
use Rattle.realm_actor.specs.OutboxHistory.{Box, Follows}
use Rattle.realm_actor.specs.Rows.{box_in, RowDue, Each, Ascending, StandsAt}
use Rattle.realm_actor.specs.Tables.{has_joined, Accounts, IsOpen}
use Rattle.realm_actor.specs.Cuts.{IsFull}
use Rattle.realm_actor.specs.LastCut.{outbox_of}
use Rattle.realm_actor.specs.Invariant.{Stands}
use Rattle.realm_actor.proofs.RowPlaces.{read, within, same_place, written, each_set}
use Rattle.realm_actor.proofs.LastCutLemmas.{looked_up, holds_nowhere}
use Rattle.realm_actor.proofs.Causes.{accounts_emptied}

nobody : (grants : Grants) (c : ℕ) → live (begun grants) c ≡ true → ⊥
unfolding who
nobody grants c e = absurd (cc)

module _ {S : Type 0} where
  pub stands_new : (h : History) (grants : Grants) (rows : List (Row S)) → h ≡ begun grants → rows ≡ [] → Stands h rows
  stands_new h grants rows is none = subst (λ k. Stands k rows) (sym is) (subst (λ l. Stands (begun grants) l) (sym none) (record {
    sound = record {
      ascending = λ i j r s less e f. absurd (cc e);
      in_step = λ k r e. absurd (cc e);
      is_open = λ k r e. absurd (cc e);
      joined = λ k r e. absurd (cc e);
      accounted = λ k r e. absurd (cc e);
      has_rows = λ c e. absurd (nobody grants c e);
      legal = tt;
    };
    none_full = λ k r e. absurd (cc e);
    unmarked = λ k r e. absurd (cc e);
  }))

  -- who has a row at a place

  pub holds_at : (rows : List (Row S)) (c k : ℕ) (r : Row S) → Ascending rows → slice_get rows k ≡ Some r → r.conn ≡ c → outbox_of rows c ≡ box_in r
  holds_at rows c k r up e own = ap (outbox_of rows) (sym own) ∙ looked_up rows k r up e

  -- the rows of live sessions stay

  module _ (test : Row S → Bool) where
    pub source : (rows : List (Row S)) (k : ℕ) (r : Row S) → slice_get (filter test rows) k ≡ Some r → (j : ℕ) × (slice_get rows j ≡ Some r) × (test r ≡ true)
    source [] k r e = absurd (cc e)
    source (x ∷ rows) k r e = at (test x) refl (source rows) k e
      where
        at : (b : Bool) → test x ≡ b → ((k : ℕ) (r : Row S) → slice_get (filter test rows) k ≡ Some r → (j : ℕ) × (slice_get rows j ≡ Some r) × (test r ≡ true))
            → (k : ℕ) → slice_get (cond b (x ∷ filter test rows) (filter test rows)) k ≡ Some r → (j : ℕ) × (slice_get (x ∷ rows) j ≡ Some r) × (test r ≡ true)
        at true is on zero e = let same : x ≡ r = cc in (0, e, ap test (sym same) ∙ is)
        at true is on (suc k) e = let t = on k r e in (suc t.0, t.1, t.2)
        at false is on k e = let t = on k r e in (suc t.0, t.1, t.2)

    remains : (rows : List (Row S)) (k : ℕ) (r : Row S) → slice_get rows k ≡ Some r → test r ≡ true → (j : ℕ) × (slice_get (filter test rows) j ≡ Some r)
    remains [] k r e is = absurd (cc e)
    remains (x ∷ rows) zero r e is =
        let same : x ≡ r = cc in
        let kept : test x ≡ true = ap test same ∙ is in
        (0, ap (λ b. slice_get (cond b (x ∷ filter test rows) (filter test rows)) 0) kept ∙ e)
    remains (x ∷ rows) (suc k) r e is = at (test x) (remains rows k r e is)
      where
        at : (b : Bool) → (j : ℕ) × (slice_get (filter test rows) j ≡ Some r) → (j : ℕ) × (slice_get (cond b (x ∷ filter test rows) (filter test rows)) j ≡ Some r)
        at true t = (suc t.0, t.1)
        at false t = t

    ascends_cons : (x : Row S) (rows : List (Row S)) → Each (λ r. x.conn < r.conn) rows → Ascending rows → Ascending (x ∷ rows)
    ascends_cons x rows above up zero zero r s less e f = absurd (omega (arith, less))
    ascends_cons x rows above up zero (suc j) r s less e f = let same : x ≡ r = cc in subst (λ (y : Row S). y.conn < s.conn) same (above j s f)
    ascends_cons x rows above up (suc i) zero r s less e f = absurd (omega (arith, less))
    ascends_cons x rows above up (suc i) (suc j) r s less e f = up i j r s (omega (arith, less)) e f

    ascends_filter : (rows : List (Row S)) → Ascending rows → Ascending (filter test rows)
    ascends_filter [] up = up
    ascends_filter (x ∷ rows) up = at (test x) (ascends_filter rows (λ i j r s less e f. up (suc i) (suc j) r s (omega (arith, less)) e f))
      where
        at : (b : Bool) → Ascending (filter test rows) → Ascending (cond b (x ∷ filter test rows) (filter test rows))
        at true rest = ascends_cons x (filter test rows) (λ k r e. let t = source rows k r e in up zero (suc t.0) x r (omega arith) refl t.1) rest
        at false rest = rest

  pub stands_swept : (h : History) (rows : List (Row S)) → Stands h rows → Stands h (filter (λ r. live h r.conn) rows)
  stands_swept h rows s =
      let test : Row S → Bool = λ r. live h r.conn in
      record {
        sound = record {
          ascending = ascends_filter test rows s.sound.ascending;
          in_step = λ k r e. let t = source test rows k r e in s.sound.in_step t.0 r t.1;
          is_open = λ k r e. let t = source test rows k r e in s.sound.is_open t.0 r t.1;
          joined = λ k r e. let t = source test rows k r e in s.sound.joined t.0 r t.1;
          accounted = λ k r e. let t = source test rows k r e in s.sound.accounted t.0 r t.1;
          has_rows = λ c is.
              let row = s.sound.has_rows c is in
              let t = remains test rows row.0 row.1.1 row.1.2 (ap (live h) row.1.3 ∙ is) in
              (t.0, (within (filter test rows) t.0 row.1.1 t.1, row.1.1, t.1, row.1.3));
          legal = s.sound.legal;
        };
        none_full = λ k r e. let t = source test rows k r e in s.none_full t.0 r t.1;
        unmarked = λ k r e. let t = source test rows k r e in s.unmarked t.0 r t.1;
      }

  pub swept_live : (h : History) (rows : List (Row S)) (c : ℕ) → Ascending rows → live h c ≡ true → outbox_of (filter (λ r. live h r.conn) rows) c ≡ outbox_of rows c
  swept_live h [] c up is = refl
  swept_live h (x ∷ rows) c up is = at (live h x.conn) (eqb x.conn c) refl refl (swept_live h rows c (λ i j r s less e f. up (suc i) (suc j) r s (omega (arith, less)) e f) is)
    where
      at : (a b : Bool) → live h x.conn ≡ a → eqb x.conn c ≡ b → outbox_of (filter (λ r. live h r.conn) rows) c ≡ outbox_of rows c
          → outbox_of (cond a (x ∷ filter (λ r. live h r.conn) rows) (filter (λ r. live h r.conn) rows)) c ≡ cond b (box_in x) (outbox_of rows c)
      at true b l e rest = ap (λ o. cond (eqb x.conn c) (box_in x) o) rest ∙ ap (λ t. cond t (box_in x) (outbox_of rows c)) e
      at false true l e rest = let dead : live h c ≡ false = ap (live h) (sym (eqb-true x.conn c e)) ∙ l in absurd (cc)
      at false false l e rest = rest

  pub swept_dead : (h : History) (rows : List (Row S)) (c : ℕ) → live h c ≡ false → outbox_of (filter (λ r. live h r.conn) rows) c ≡ None
  swept_dead h rows c dead = holds_nowhere (filter (λ r. live h r.conn) rows) c
      (λ k r e own. let t = source (λ r. live h r.conn) rows k r e in let no : live h r.conn ≡ false = ap (live h) own ∙ dead in let yes = t.2 in absurd (cc))

  -- an outbox was put together with its drain

  pub at_place : (rows seen : List (Row S)) (c p : ℕ) (r : Row S) → seen ≡ rows → StandsAt seen c p → r ≡ get_or rows p r → (slice_get rows p ≡ Some r) × (r.conn ≡ c)
  at_place rows seen c p r is s e =
      let t = subst (λ l. StandsAt l c p) is s in
      let get = slice_get_read rows (length rows) p r refl t.0 e in
      (get, ap (λ (x : Row S). x.conn) (same_place rows p r t.1 get t.2) ∙ t.3)

  pub set_same : (rows : List (Row S)) (p : ℕ) (r : Row S) → r ≡ get_or rows p r → set rows p r ≡ rows
  set_same rows p r e = ap (set rows p) e ∙ set-get_or rows p r

  -- who has another connection keeps its row
  others_keep : (rows : List (Row S)) (p : ℕ) (r s : Row S) (d : ℕ) → slice_get rows p ≡ Some r → s.conn ≡ r.conn → r.conn ≢ d → outbox_of (set rows p s) d ≡ outbox_of rows d
  others_keep [] p r s d e own n = refl
  others_keep (x ∷ rows) zero r s d e own n =
      let same : x ≡ r = cc in
      let first : eqb x.conn d ≡ false = ne_eqb x.conn d (λ h. n (ap (λ (y : Row S). y.conn) (sym same) ∙ h)) in
      let second : eqb s.conn d ≡ false = ne_eqb s.conn d (λ h. n (sym own ∙ h)) in
      ap (λ b. cond b (box_in s) (outbox_of rows d)) second ∙ sym (ap (λ b. cond b (box_in x) (outbox_of rows d)) first)
  others_keep (x ∷ rows) (suc p) r s d e own n = ap (λ o. cond (eqb x.conn d) (box_in x) o) (others_keep rows p r s d e own n)

  written_at : (rows : List (Row S)) (p : ℕ) (r s : Row S) → slice_get rows p ≡ Some r → slice_get (set rows p s) p ≡ Some s
  written_at [] p r s e = absurd (cc e)
  written_at (x ∷ rows) zero r s e = refl
  written_at (x ∷ rows) (suc p) r s e = written_at rows p r s e

  module _ (rows : List (Row S)) (p : ℕ) (r s : Row S) (get : slice_get rows p ≡ Some r) (own : s.conn ≡ r.conn) (none : s.held ≡ None) (cut : s.is_cut ≡ r.is_cut) (lost : s.is_lost ≡ r.is_lost) (was_lost : s.was_lost ≡ r.was_lost) where
    conn_at : (k : ℕ) (t : Row S) → slice_get (set rows p s) k ≡ Some t → (o : Row S) × (slice_get rows k ≡ Some o) × (t.conn ≡ o.conn)
    conn_at k t e = ⊎_elim
        (λ (at : (k ≡ p) × (s ≡ t)). (r, ap (slice_get rows) at.0 ∙ get, ap (λ (x : Row S). x.conn) (sym at.1) ∙ own))
        (λ (at : (k ≢ p) × (slice_get rows k ≡ Some t)). (t, at.1, refl))
        (written rows p k s t e)

    ascends_set : Ascending rows → Ascending (set rows p s)
    ascends_set up i j a b less ea eb =
        let x = conn_at i a ea in
        let y = conn_at j b eb in
        let before = up i j x.0 y.0 less x.1 y.1 in
        let u = x.2 in
        let v = y.2 in
        omega (arith, before, u, v)

    pub stands_emptied : (h : History) → Stands h rows → Stands h (set rows p s)
    stands_emptied h was = record {
      sound = record {
        ascending = ascends_set was.sound.ascending;
        in_step = each_set rows p s (λ x. RowDue h [] x) (subst (λ held. MatchOption held ⊤ (λ z. Follows h [] z.outbox)) (sym none) tt) was.sound.in_step;
        is_open = each_set rows p s (λ x. IsOpen (live h x.conn) (box_in x)) (subst (λ held. IsOpen (live h s.conn) (option_map (λ z. z.outbox) held)) (sym none) tt) was.sound.is_open;
        joined = each_set rows p s (λ x. has_joined h x.conn ≡ true) (ap (has_joined h) own ∙ was.sound.joined p r get) was.sound.joined;
        accounted = each_set rows p s (λ x. Accounts h x) (accounts_emptied h r s own none was_lost (was.sound.accounted p r get)) was.sound.accounted;
        has_rows = λ c is.
            let row = was.sound.has_rows c is in
            let l = length-set rows p s in
            let inside = row.1.0 in
            let less : row.0 < length (set rows p s) = omega (arith, inside, l) in
            let en = read (set rows p s) row.0 row.1.1 less in
            let t = conn_at row.0 (get_or (set rows p s) row.0 row.1.1) en in
            (row.0, (less, get_or (set rows p s) row.0 row.1.1, en, t.2 ∙ ap (λ (x : Row S). x.conn) (same_place rows row.0 t.0 row.1.1 t.1 row.1.2) ∙ row.1.3));
        legal = was.sound.legal;
      };
      none_full = each_set rows p s (λ x. IsFull (box_in x) → ⊥) (subst (λ held. IsFull (option_map (λ z. z.outbox) held) → ⊥) (sym none) (λ f. f)) was.none_full;
      unmarked = each_set rows p s (λ x. (x.is_cut ≡ false) × (x.is_lost ≡ false)) (let t = was.unmarked p r get in (cut ∙ t.0, lost ∙ t.1)) was.unmarked;
    }

    pub gone_there : Ascending rows → outbox_of (set rows p s) r.conn ≡ None
    gone_there up = holds_at (set rows p s) r.conn p s (ascends_set up) (written_at rows p r s get) own ∙ ap (option_map (λ z. z.outbox)) none

    pub others_there : (d : ℕ) → d ≢ r.conn → outbox_of (set rows p s) d ≡ outbox_of rows d
    others_there d n = others_keep rows p r s d get own (λ h. n (sym h))

  -- what an outbox that follows the history shows, once it was put together with its drain
  pub settles : (c : ℕ) (drain : Taking Item (Kept History)) (rest : List Item) (old new : Acting S) → Stands old.history old.rows → EmptiesOne c drain rest old.rows new.rows
      → new.history ≡ old.history → new.words ≡ old.words → new.last_cut ≡ old.last_cut → new.handled ≡ old.handled → Settles c drain rest old new
  settles c drain rest old new s e history words last_cut handled =
      let m = e.emptied in
      let due = follows_box old.history e.old m.outbox m.was (s.sound.in_step e.place e.old e.stands) in
      let f = due.0 in
      let conn : m.outbox.conn ≡ c = due.1 ∙ e.own in
      record {
        rows = e;
        outbox = m.outbox;
        was = holds_at old.rows c e.place e.old s.sound.ascending e.stands e.own ∙ m.was;
        added = m.joins.whole;
        begins = subst (λ d. IsPrefix (drain.taken ++ rest) (owed old.history d)) conn (subst (λ l. IsPrefix l (owed old.history m.outbox.conn)) (sym m.joins.whole) f.begins);
        whole = λ never. m.joins.whole ∙ sym (append-nil m.outbox.added) ∙ f.whole never ∙ ap (owed old.history) conn;
        stood = λ full. ap length m.joins.whole ∙ f.stood full;
        seen = grows_on (history_of drain.seen) (history_of m.outbox.history) (Some old.history) m.joins.seen f.seen;
        gone = ap (λ l. outbox_of l c) e.after ∙ ap (outbox_of (set old.rows e.place e.new)) (sym e.own) ∙ gone_there old.rows e.place e.old e.new e.stands m.conn m.held m.is_cut m.is_lost m.was_lost s.sound.ascending;
        others = λ d n. ap (λ l. outbox_of l d) e.after ∙ others_there old.rows e.place e.old e.new e.stands m.conn m.held m.is_cut m.is_lost m.was_lost d (λ h. n (h ∙ e.own));
        history = history;
        words = words;
        last_cut = last_cut;
        handled = handled;
      }
    where
      grows_on : (a b d : Option History) → Grows Begins a b → Grows Begins b d → Grows Begins a d
      grows_on None b d x y = tt
      grows_on (Some a) None d x y = absurd x
      grows_on (Some a) (Some b) None x y = absurd y
      grows_on (Some a) (Some b) (Some d) x y = begins_longer a b d x y

      follows_box : (h : History) (r : Row S) (o : Box) → box_in r ≡ Some o → RowDue h [] r → Follows h [] o × (o.conn ≡ r.conn)
      follows_box h r o is due = at r.held refl is due
        where
          at : (held : Option (HeldOutbox S)) → r.held ≡ held → option_map (λ x. x.outbox) held ≡ Some o → MatchOption held ⊤ (λ x. Follows h [] x.outbox) → Follows h [] o × (o.conn ≡ r.conn)
          at None here is due = absurd (cc)
          at (Some x) here is due =
              let same : x.outbox ≡ o = cc in
              (subst (λ b. Follows h [] b) same due, ap (λ (b : Box). b.conn) (sym same) ∙ r.of_conn x here)

  pub sweeps : (old new : Acting S) → Stands old.history old.rows → new.rows ≡ filter (λ r. live old.history r.conn) old.rows → new.history ≡ old.history → new.words ≡ old.words
      → new.last_cut ≡ old.last_cut → new.handled ≡ old.handled → Sweeps old new
  sweeps old new s rows history words last_cut handled = record {
    rows = rows;
    lives = λ c is. ap (λ l. outbox_of l c) rows ∙ swept_live old.history old.rows c s.sound.ascending is;
    others = λ c is. ap (λ l. outbox_of l c) rows ∙ swept_dead old.history old.rows c is;
    history = history;
    words = words;
    last_cut = last_cut;
    handled = handled;
  }

  pub stands_one : (h : History) (c : ℕ) (drain : Taking Item (Kept History)) (rest : List Item) (olds news : List (Row S)) → Stands h olds → EmptiesOne c drain rest olds news → Stands h news
  stands_one h c drain rest olds news s e = subst (λ l. Stands h l) (sym e.after) (stands_emptied olds e.place e.old e.new e.stands e.emptied.conn e.emptied.held e.emptied.is_cut e.emptied.is_lost e.emptied.was_lost h s)

  pub length_one : (c : ℕ) (drain : Taking Item (Kept History)) (rest : List Item) (olds news : List (Row S)) → EmptiesOne c drain rest olds news → length news ≡ length olds
  length_one c drain rest olds news e = ap length e.after ∙ length-set olds e.place e.new

  -- either way, the rows stand
  pub stands_either : {T E : Type 0} (r : Result T E) (h : History) (olds news : List (Row S)) (P : T → Type 0) (Q : E → Type 0) → ((x : T) → P x → Stands h news × (length news ≡ length olds))
      → Stands h olds → IfOk r P → IfErr r (λ e. (news ≡ olds) × Q e) → Stands h news × (length news ≡ length olds)
  stands_either (Ok x) h olds news P Q f s ok err = f x ok
  stands_either (Err e) h olds news P Q f s ok err = (subst (λ l. Stands h l) (sym err.0) s, ap length err.0)

  pub fewer : (test : Row S → Bool) (rows : List (Row S)) → length (filter test rows) ≤ length rows
  fewer test [] = omega arith
  fewer test (x ∷ rows) = at (test x) (fewer test rows)
    where
      at : (b : Bool) → length (filter test rows) ≤ length rows → length (cond b (x ∷ filter test rows) (filter test rows)) ≤ suc (length rows)
      at true h = omega (arith, h)
      at false h = omega (arith, h)
