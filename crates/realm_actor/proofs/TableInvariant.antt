-- What a table knows of its rows stays right.
use Rattle.std.proofs.Common.{◌≡◌, ◌≢◌, ◌⊎◌, ℕ, suc, ◌<◌, ◌≤◌, Bool, true, false, cond, not, ◌||◌, eqb, List, [], ◌∷◌, get_or, set, refl, sym, ap, ◌∙◌, subst, inl, inr, ⊎_elim, arith}
use Rattle.std.specs.Prelude.{Option, Some, None, slice_get, Result, Ok, Err, IfOk, IfErr}
use Rattle.std.specs.List.{insert, filter}
use Rattle.std.proofs.lemmas.Bool.{eqb-true, eq-eqb, or_parts, not-false, ne_eqb, or_right, false_from_ne_true}
use Rattle.std.proofs.Math.Bool.{or-false}
use Rattle.realm.specs.declared.entry.Entry.{Entry}
use Rattle.realm.specs.History.{History, ◌▷◌}
use Rattle.realm.specs.Sessions.{live, conn_of}
use Rattle.realm.proofs.Lemmas.{clash, live-elsewhere}
use Rattle.realm_actor.specs.declared.row.Row.{Row}
use Rattle.realm_actor.specs.declared.state.ActorState.{ActorState}
use Rattle.realm_actor.specs.declared.table.Table.{Table}
use Rattle.realm_actor.specs.OutboxHistory.{Box}
use Rattle.realm_actor.specs.Rows.{Rose, box_in, Each, NoneRose, Ascending}
use Rattle.realm_actor.specs.Tables.{BoxWent, RowWent, EachWent, RowMarked, EachMarked}
use Rattle.realm_actor.specs.Cuts.{IsFull, NoneFull}
use Rattle.realm_actor.specs.LastCut.{NoMarks}
use Rattle.realm_actor.specs.Handle.{EachUnmarked}
use Rattle.realm_actor.specs.Settle.{EmptiesOne}
use Rattle.outbox_queue.specs.Ends.{Taking}
use Rattle.outbox_queue.specs.Tied.{Kept}
use Rattle.wamp_messages.specs.declared.item.Item.{Item}
use Rattle.realm_actor.specs.Invariant.{KeepsRest, KeepsTable, Knows}
use Rattle.realm_actor.proofs.RowPlaces.{same_place, below_or, one_place, beside, each_set, insert_all, pairs_set}
use Rattle.realm_actor.proofs.MarkedRows.{unmarked_after}
use Rattle.realm_actor.proofs.RowRemoval.{source}

full_before : (o p : Option Box) → BoxWent o p → (Rose o p → ⊥) → IsFull p → IsFull o
full_before None None w n f = f
full_before None (Some p) w n f = absurd w
full_before (Some o) None w n f = absurd f
full_before (Some o) (Some p) w n f =
    let more = f.0 in
    let up = w.finds in
    let same : o.full_finds ≡ p.full_finds = ⊎_elim (λ (h : o.full_finds < p.full_finds). absurd (n h)) (λ (h : p.full_finds ≤ o.full_finds). omega (arith, up, h)) (below_or o.full_finds p.full_finds) in
    (omega (arith, more, same), false_from_ne_true o.is_closed (λ is. clash p.is_closed (w.shut is) f.1))

module _ {S : Type 0} where
  -- nothing changed
  pub keeps_none : (t : Table S) → KeepsTable t t
  keeps_none t = record { chronicle = refl; knows = λ k. k }

  -- one change after another
  pub keeps_on : {a b c : Table S} → KeepsTable a b → KeepsTable b c → KeepsTable a c
  keeps_on first second = record { chronicle = second.chronicle ∙ first.chronicle; knows = λ k. second.knows (first.knows k) }

  pub keeps_rest : {W : Type 0} → (s : ActorState S W) → KeepsRest s s
  keeps_rest s = record { handled = refl; table = keeps_none s.table }

  -- where no row was found full, none is full that wasn't
  pub still_none : (olds news : List (Row S)) → EachWent olds news → NoneRose olds news → NoneFull olds → NoneFull news
  still_none olds news w none full k p e is =
      let eo = beside news olds k p (sym w.0) e in
      full k (get_or olds k p) eo (full_before (box_in (get_or olds k p)) (box_in p) (w.1 k (get_or olds k p) p eo e).box (none k (get_or olds k p) p eo e) is)

  kept : (o p : Row S) → RowWent o p → (Rose (box_in o) (box_in p) → ⊥) → o.is_cut ≡ false → p.is_cut ≡ false
  kept o p t none was = false_from_ne_true p.is_cut (λ is. ⊎_elim (λ (x : o.is_cut ≡ true). clash o.is_cut x was) (λ (x : Rose (box_in o) (box_in p)). none x) (t.only is))

  still_unmarked : (olds news : List (Row S)) → EachWent olds news → NoneRose olds news → NoMarks olds → NoMarks news
  still_unmarked olds news w none unmarked k p e =
      let eo = beside news olds k p (sym w.0) e in
      let o : Row S = get_or olds k p in
      let t = w.1 k o p eo e in
      let was = unmarked k o eo in
      (kept o p t (none k o p eo e) was.0, t.is_lost ∙ was.1)

  still_live : (h : History) (e : Entry) (c : ℕ) (olds news : List (Row S)) → conn_of e ≡ c → EachWent olds news → live (h ▷ e) c ≡ true → Each (λ r. (live h r.conn ≡ true) ⊎ (r.conn ≡ c)) olds → Each (λ r. live (h ▷ e) r.conn ≡ true) news
  still_live h e c olds news own w is all k p get =
      let eo = beside news olds k p (sym w.0) get in
      let o : Row S = get_or olds k p in
      at (eqb (conn_of e) p.conn) refl (⊎_elim (λ (x : live h o.conn ≡ true). inl (ap (live h) (w.1 k o p eo get).conn ∙ x)) (λ (x : o.conn ≡ c). inr ((w.1 k o p eo get).conn ∙ x)) (all k o eo))
    where
      at : (b : Bool) → eqb (conn_of e) p.conn ≡ b → (live h p.conn ≡ true) ⊎ (p.conn ≡ c) → live (h ▷ e) p.conn ≡ true
      at true here either = ap (live (h ▷ e)) (sym (eqb-true (conn_of e) p.conn here) ∙ own) ∙ is
      at false away either = ⊎_elim (λ (x : live h p.conn ≡ true). live-elsewhere h e p.conn away ∙ x) (λ (x : p.conn ≡ c). ap (live (h ▷ e)) x ∙ is) either

  -- after an entry of c
  pub knows_entry : (old new : Table S) (h : History) (e : Entry) (c : ℕ) (is_full is_live : Bool) → conn_of e ≡ c → new.realm ≡ h ▷ e → old.realm ≡ h → is_live ≡ live (h ▷ e) c
      → EachWent old.rows.items new.rows.items → (is_full ≡ false → NoneRose old.rows.items new.rows.items) → new.has_marks ≡ old.has_marks || is_full → new.has_ended ≡ old.has_ended || not is_live
      → Knows old → Knows new
  knows_entry old new h e c is_full is_live own realm was lives w none marks ended knows = record {
    marks = λ quiet. let t = or_parts old.has_marks is_full (sym marks ∙ quiet) in still_unmarked old.rows.items new.rows.items w (none t.1) (knows.marks t.0);
    ended = λ quiet.
        let t = or_parts old.has_ended (not is_live) (sym ended ∙ quiet) in
        let all : Each (λ r. live h r.conn ≡ true) old.rows.items = subst (λ k. Each (λ r. live k r.conn ≡ true) old.rows.items) was (knows.ended t.0) in
        subst (λ k. Each (λ r. live k r.conn ≡ true) new.rows.items) (sym realm)
        (still_live h e c old.rows.items new.rows.items own w (sym lives ∙ not-false is_live t.1) (λ k r get. inl (all k r get)));
  }

  -- the same where a row of c without marks came first
  pub knows_join : (old new : Table S) (h : History) (e : Entry) (c place : ℕ) (row : Row S) (is_full is_live : Bool) → conn_of e ≡ c → new.realm ≡ h ▷ e → old.realm ≡ h → is_live ≡ live (h ▷ e) c
      → row.conn ≡ c → row.is_cut ≡ false → row.is_lost ≡ false
      → EachWent (insert old.rows.items place row) new.rows.items → (is_full ≡ false → NoneRose (insert old.rows.items place row) new.rows.items) → new.has_marks ≡ old.has_marks || is_full → new.has_ended ≡ old.has_ended || not is_live
      → Knows old → Knows new
  knows_join old new h e c place row is_full is_live own realm was lives conn is_cut is_lost w none marks ended knows =
      let rows = insert old.rows.items place row in
      record {
        marks = λ quiet.
            let t = or_parts old.has_marks is_full (sym marks ∙ quiet) in
            still_unmarked rows new.rows.items w (none t.1) (insert_all (λ r. (r.is_cut ≡ false) × (r.is_lost ≡ false)) old.rows.items place row (knows.marks t.0) (is_cut, is_lost));
        ended = λ quiet.
            let t = or_parts old.has_ended (not is_live) (sym ended ∙ quiet) in
            let all : Each (λ r. live h r.conn ≡ true) old.rows.items = subst (λ k. Each (λ r. live k r.conn ≡ true) old.rows.items) was (knows.ended t.0) in
            subst (λ k. Each (λ r. live k r.conn ≡ true) new.rows.items) (sym realm)
            (still_live h e c rows new.rows.items own w (sym lives ∙ not-false is_live t.1)
            (insert_all (λ r. (live h r.conn ≡ true) ⊎ (r.conn ≡ c)) old.rows.items place row (λ k r get. inl (all k r get)) (inr conn)));
      }

  -- a row of which none is full joins rows of which none is
  pub none_inserted : (rows : List (Row S)) (place : ℕ) (row : Row S) (o : Box) → box_in row ≡ Some o → o.full_finds ≡ 0 → NoneFull rows → NoneFull (insert rows place row)
  none_inserted rows place row o box never none =
      insert_all (λ r. IsFull (box_in r) → ⊥) rows place row none
      (λ f. let g : IsFull (Some o) = subst (λ b. IsFull b) box f in let more = g.0 in omega (arith, more, never))

  -- the row of c is marked as lost

  marked_other : (c : ℕ) (r : Row S) → r.conn ≢ c → RowMarked c r r
  marked_other c r n = record { conn = refl; held = refl; is_cut = refl; is_lost = unchanged r.is_lost; was_lost = unchanged r.was_lost }
    where
      unchanged : (b : Bool) → b ≡ b || eqb c r.conn
      unchanged b = sym (ap (λ t. b || t) (ne_eqb c r.conn (λ same. n (sym same))) ∙ or-false b)

  pub marked_nowhere : (c : ℕ) (rows : List (Row S)) → Each (λ r. r.conn ≢ c) rows → EachMarked c rows rows
  marked_nowhere c rows none = (refl, λ k o p eo ep. subst (λ q. RowMarked c o q) (same_place rows k o p eo ep) (marked_other c o (none k o eo)))

  pub marked_here : (c : ℕ) (rows : List (Row S)) (p : ℕ) (r s : Row S) → Ascending rows → slice_get rows p ≡ Some r → r.conn ≡ c → s.conn ≡ r.conn → s.held ≡ r.held → s.is_cut ≡ r.is_cut → s.is_lost ≡ true → s.was_lost ≡ true
      → EachMarked c rows (set rows p s)
  marked_here c rows p r s up get own conn held is_cut is_lost was_lost = pairs_set rows p r s (RowMarked c) get
      (record {
        conn = conn;
        held = held;
        is_cut = is_cut;
        is_lost = is_lost ∙ sym (or_right r.is_lost (eqb c r.conn) (eq-eqb c r.conn (sym own)));
        was_lost = was_lost ∙ sym (or_right r.was_lost (eqb c r.conn) (eq-eqb c r.conn (sym own)));
      })
      (λ k o away eo. marked_other c o (λ same. away (one_place rows c k p o r up eo get same own)))

  pub knows_marked : (old new : Table S) (c : ℕ) → new.realm ≡ old.realm → EachMarked c old.rows.items new.rows.items → new.has_marks ≡ true → new.has_ended ≡ old.has_ended → Knows old → Knows new
  knows_marked old new c realm m marks ended knows = record {
    marks = λ quiet. absurd (cc);
    ended = λ quiet. λ k p e.
        let eo = beside new.rows.items old.rows.items k p (sym m.0) e in
        ap (λ h. live h p.conn) realm ∙ ap (live old.realm) (m.1 k (get_or old.rows.items k p) p eo e).conn ∙ knows.ended (sym ended ∙ quiet) k (get_or old.rows.items k p) eo;
  }

  -- the marks were taken away
  pub knows_unmarked : (old new : Table S) → EachUnmarked old.rows.items new.rows.items → Knows old → new.realm ≡ old.realm → new.has_ended ≡ old.has_ended → Knows new
  knows_unmarked old new u knows realm ended = record {
    marks = λ quiet. unmarked_after old.rows.items new.rows.items u;
    ended = λ quiet. λ k p e.
        let eo = beside new.rows.items old.rows.items k p (sym u.0) e in
        ap (λ h. live h p.conn) realm ∙ ap (live old.realm) (u.1 k (get_or old.rows.items k p) p eo e).conn ∙ knows.ended (sym ended ∙ quiet) k (get_or old.rows.items k p) eo;
  }

  -- a row was emptied
  pub knows_emptied : (old new : Table S) (c : ℕ) (drain : Taking Item (Kept History)) (rest : List Item) → EmptiesOne c drain rest old.rows.items new.rows.items
      → new.realm ≡ old.realm → new.has_marks ≡ old.has_marks → new.has_ended ≡ old.has_ended → Knows old → Knows new
  knows_emptied old new c drain rest e realm marks ended knows = record {
    marks = λ quiet. subst (λ l. NoMarks l) (sym e.after)
        (each_set old.rows.items e.place e.new (λ r. (r.is_cut ≡ false) × (r.is_lost ≡ false))
        (let t = knows.marks (sym marks ∙ quiet) e.place e.old e.stands in (e.emptied.is_cut ∙ t.0, e.emptied.is_lost ∙ t.1))
        (knows.marks (sym marks ∙ quiet)));
    ended = λ quiet. subst (λ l. Each (λ r. live new.realm r.conn ≡ true) l) (sym e.after)
        (subst (λ h. Each (λ r. live h r.conn ≡ true) (set old.rows.items e.place e.new)) (sym realm)
        (each_set old.rows.items e.place e.new (λ r. live old.realm r.conn ≡ true)
        (ap (live old.realm) e.emptied.conn ∙ knows.ended (sym ended ∙ quiet) e.place e.old e.stands)
        (knows.ended (sym ended ∙ quiet))));
  }

  pub knows_same : (old new : Table S) → new.rows.items ≡ old.rows.items → new.realm ≡ old.realm → new.has_marks ≡ old.has_marks → new.has_ended ≡ old.has_ended → Knows old → Knows new
  knows_same old new rows realm marks ended knows = record {
    marks = λ quiet. subst (λ l. NoMarks l) (sym rows) (knows.marks (sym marks ∙ quiet));
    ended = λ quiet. subst (λ l. Each (λ r. live new.realm r.conn ≡ true) l) (sym rows) (subst (λ h. Each (λ r. live h r.conn ≡ true) old.rows.items) (sym realm) (knows.ended (sym ended ∙ quiet)));
  }

  pub knows_settled : {T E : Type 0} (r : Result T E) (old new : Table S) (c : ℕ) (drain : Taking Item (Kept History)) (rest : T → List Item) (Q : E → Type 0) → IfOk r (λ x. EmptiesOne c drain (rest x) old.rows.items new.rows.items)
      → IfErr r (λ e. (new.rows.items ≡ old.rows.items) × Q e) → new.realm ≡ old.realm → new.has_marks ≡ old.has_marks → new.has_ended ≡ old.has_ended → Knows old → Knows new
  knows_settled (Ok x) old new c drain rest Q ok err = knows_emptied old new c drain (rest x) ok
  knows_settled (Err e) old new c drain rest Q ok err = knows_same old new err.0

  -- the rows of live sessions alone are left
  pub knows_swept : (old new : Table S) → new.rows.items ≡ filter (λ r. live old.realm r.conn) old.rows.items → new.realm ≡ old.realm → new.has_marks ≡ old.has_marks → Knows old → Knows new
  knows_swept old new rows realm marks knows = record {
    marks = λ quiet. subst (λ l. NoMarks l) (sym rows) (λ k r e. let t = source (λ r. live old.realm r.conn) old.rows.items k r e in knows.marks (sym marks ∙ quiet) t.0 r t.1);
    ended = λ quiet. subst (λ l. Each (λ r. live new.realm r.conn ≡ true) l) (sym rows) (subst (λ h. Each (λ r. live h r.conn ≡ true) (filter (λ r. live old.realm r.conn) old.rows.items)) (sym realm) (λ k r e. (source (λ r. live old.realm r.conn) old.rows.items k r e).2));
  }

  -- where each row stays, nothing is swept
  pub none_swept : (h : History) (rows : List (Row S)) → Each (λ r. live h r.conn ≡ true) rows → rows ≡ filter (λ r. live h r.conn) rows
  none_swept h [] all = refl
  none_swept h (x ∷ rows) all = ap (λ l. x ∷ l) (none_swept h rows (λ k r e. all (suc k) r e)) ∙ sym (ap (λ b. cond b (x ∷ filter (λ r. live h r.conn) rows) (filter (λ r. live h r.conn) rows)) (all 0 x refl))
