-- What the handling of an act does.
use Rattle.std.proofs.Common.{◌≡◌, ◌≢◌, ℕ, ◌<◌, Bool, true, false, not, eqb, List, [], ◌∷◌, length, get_or, refl, sym, ap, ◌∙◌, subst, inl, inr, ⊎_elim, arith}
use Rattle.std.specs.Prelude.{Option, Some, None, ⊤, slice_get, MatchOption, option_map}
use Rattle.std.proofs.lemmas.Bool.{eqb-true, eq-eqb, or_cases, or_left, ne_eqb, true_from_ne_false, not_from_false}
use Rattle.realm.specs.declared.entry.Entry.TheVariants as entry
use Rattle.realm.specs.History.{History}
use Rattle.realm.specs.Sessions.{live, may_join}
use Rattle.realm_actor.specs.declared.row.Row.{Row}
use Rattle.realm_inbox.specs.declared.joining.Joining.{Joining}
use Rattle.realm_inbox.specs.declared.act.Act.{Act}
use Rattle.realm_inbox.specs.declared.act.Act.TheVariants.{Join, Said, Ping, Spoilt, Gone}
use Rattle.realm_inbox.specs.declared.letter.Letter.{Letter}
use Rattle.realm_actor.specs.declared.outcome.Outcome.{Outcome}
use Rattle.realm_actor.specs.declared.outcome.Outcome.TheVariants.{Applied, Dropped, NoMemory}
use Rattle.realm_actor.specs.OutboxHistory.{Box, Follows}
use Rattle.realm_actor.specs.Rows.{box_in, Each}
use Rattle.realm_actor.specs.Tables.{has_joined, IsOpen, Went, BoxWent, EachWent, EachMarked, Ready, Sound}
use Rattle.realm_actor.specs.Cuts.{NoneFull, IsFull}
use Rattle.realm_actor.specs.ActorView.{Working}
use Rattle.realm_actor.specs.Handle.{Applies, Loses, cut, not_live, nothing_drawn, Brings, EachUnmarked, Acts, Does, is_dropped, WithRow}
use Rattle.realm_actor.specs.LastCut.{named_conns, is_in, finds_in, finds_of, outbox_of, NoMarks, Names}
use Rattle.realm_actor.specs.Invariant.{Stands}
use Rattle.realm_actor.proofs.RowPlaces.{read, beside, insert_all}
use Rattle.realm_actor.proofs.MarkedRows.{unmarked_after}
use Rattle.realm_actor.proofs.LastCutLemmas.{EachMoved, EachWent-same, accepted_went, moved_went, moved_marked, moved_on, moved_by, names_moved, found, same_after, insert_other, insert_here, holds_nowhere}
use Rattle.realm_actor.proofs.EntryLemmas.{not_joined}
use Rattle.realm_actor.proofs.FoundFull.{InStep, steps_of, ready_for}
use Rattle.realm_actor.proofs.Causes.{accounts_marked, accounts_same}

-- who isn't refused is taken
taken : (b : Bool) → (not b ≡ true → ⊥) → b ≡ true
taken b kept = true_from_ne_false b (λ is. kept (not_from_false b is))

went_some : (o : Box) (q : Option Box) → BoxWent (Some o) q → (p : Box) × (q ≡ Some p) × Went o p
went_some o None w = absurd w
went_some o (Some p) w = (p, refl, w)

pub one_in : (c d : ℕ) → is_in d (c ∷ []) ≡ true → c ≡ d
one_in c d e = ⊎_elim (λ (y : eqb c d ≡ true). eqb-true c d y) (λ (y : false ≡ true). absurd (cc)) (or_cases (eqb c d) false e)

module _ {S : Type 0} where
  -- whom the loss marks: a session that was live
  pub record Lost (c : ℕ) (h : History) (olds news : List (Row S)) : Type 0 where
    pub lost : List ℕ
    pub moved : EachMoved lost olds news
    pub of : (d : ℕ) → is_in d lost ≡ true → c ≡ d
    pub cut : live h c ≡ true → is_in c lost ≡ true

  pub loses_moved : {c : ℕ} {act : Act S} {old new : Working S} → Loses c act old new → Lost c old.history old.rows new.rows
  loses_moved {old = old} (not_live lost dead told few) = record { lost = []; moved = moved_went old.rows old.rows (EachWent-same old.rows); of = λ d e. absurd (cc e); cut = λ is. absurd (cc) }
  loses_moved {old = old} (nothing_drawn dead) = record { lost = []; moved = moved_went old.rows old.rows (EachWent-same old.rows); of = λ d e. absurd (cc e); cut = λ is. absurd (cc) }
  loses_moved {c = c} {old = old} {new = new} (cut lost word drawn e marked few is marks accepted words) = record {
    lost = c ∷ [];
    moved = moved_on (c ∷ []) [] old.rows marked new.rows (moved_marked c old.rows marked marks) (moved_went marked new.rows (accepted_went accepted));
    of = one_in c;
    cut = λ _. or_left (eqb c c) false (eq-eqb c c refl);
  }

  loses_none : {c : ℕ} {act : Act S} {old new : Working S} → Loses c act old new → NoneFull old.rows → NoneFull new.rows
  loses_none (not_live lost dead told few) n = n
  loses_none (nothing_drawn dead) n = n
  loses_none (cut lost word drawn e marked few is marks accepted words) n = accepted.none_full

  -- who has a row, and is cut for want of memory, was live
  lost_live : (c : ℕ) (act : Act S) (h : History) → (is_dropped h c act ≡ true → ⊥) → has_joined h c ≡ true → live h c ≡ true
  lost_live c (Join joining) h kept has = absurd (not_joined h c (taken (may_join h c) kept) has)
  lost_live c (Said said) h kept has = taken (live h c) kept
  lost_live c (Ping payload) h kept has = taken (live h c) kept
  lost_live c Spoilt h kept has = taken (live h c) kept
  lost_live c Gone h kept has = taken (live h c) kept

  -- the rows that the act starts from: none is marked, and for each connection the same was found full before; an outbox that
  -- was held is held, and a Join's is its own
  pub record Starts (c : ℕ) (act : Act S) (olds rows : List (Row S)) : Type 0 where
    pub unmarked : NoMarks rows
    pub finds : (d : ℕ) → finds_of rows d ≡ finds_of olds d
    pub held : (d : ℕ) (o : Box) → outbox_of olds d ≡ Some o → outbox_of rows d ≡ Some o
    pub brought : (joining : Joining S) → act ≡ Join joining → outbox_of rows c ≡ Some joining.outbox

  starts_same : (c : ℕ) (act : Act S) (olds rows : List (Row S)) → rows ≡ olds → ((joining : Joining S) → act ≡ Join joining → ⊥) → NoMarks olds → Starts c act olds rows
  starts_same c act olds rows is other unmarked = record {
    unmarked = subst (λ l. NoMarks l) (sym is) unmarked;
    finds = λ d. ap (λ l. finds_of l d) is;
    held = λ d o e. ap (λ l. outbox_of l d) is ∙ e;
    brought = λ joining e. absurd (other joining e);
  }

  starts_join : (c : ℕ) (joining : Joining S) (olds rows : List (Row S)) → Each (λ r. r.conn ≢ c) olds → NoMarks olds → Brings c joining olds rows → Starts c (Join joining) olds rows
  starts_join c joining olds rows none unmarked b =
      let own : outbox_of rows c ≡ Some joining.outbox = ap (λ l. outbox_of l c) b.rows_are ∙ insert_here olds b.place b.row c none b.conn ∙ b.outbox in
      let other : (d : ℕ) → eqb c d ≡ false → outbox_of rows d ≡ outbox_of olds d = λ d n. ap (λ l. outbox_of l d) b.rows_are ∙ insert_other olds b.place b.row d (ap (λ x. eqb x d) b.conn ∙ n) in
      record {
        unmarked = subst (λ l. NoMarks l) (sym b.rows_are) (insert_all (λ r. (r.is_cut ≡ false) × (r.is_lost ≡ false)) olds b.place b.row unmarked (b.is_cut, b.is_lost));
        finds = λ d. at d own other (eqb c d) refl;
        held = λ d o e. other d (apart d o e) ∙ e;
        brought = λ joining e. own_of joining e own;
      }
    where
      at : (d : ℕ) → outbox_of rows c ≡ Some joining.outbox → ((d : ℕ) → eqb c d ≡ false → outbox_of rows d ≡ outbox_of olds d) → (t : Bool) → eqb c d ≡ t → finds_of rows d ≡ finds_of olds d
      at d own other true is =
          let same : c ≡ d = eqb-true c d is in
          subst (λ x. finds_of rows x ≡ finds_of olds x) same (ap finds_in own ∙ b.never ∙ sym (ap finds_in (holds_nowhere olds c none)))
      at d own other false is = ap finds_in (other d is)

      apart : (d : ℕ) (o : Box) → outbox_of olds d ≡ Some o → eqb c d ≡ false
      apart d o e = ne_eqb c d (λ same. let t = found olds d o e in none t.0 t.1 t.2 (t.3 ∙ sym same))

      own_of : (other : Joining S) → Join joining ≡ Join other → outbox_of rows c ≡ Some joining.outbox → outbox_of rows c ≡ Some other.outbox
      own_of other e own = let same : joining ≡ other = cc in own ∙ ap (λ (j : Joining S). Some j.outbox) same

  no_row : (h : History) (c : ℕ) (rows : List (Row S)) → Sound h rows → may_join h c ≡ true → Each (λ r. r.conn ≢ c) rows
  no_row h c rows sound may k r e own = not_joined h c may (ap (has_joined h) (sym own) ∙ sound.joined k r e)

  starts : (c : ℕ) (act : Act S) (old new : Working S) → Stands old.history old.rows → (is_dropped old.history c act ≡ true → ⊥) → (a : Applies c act old new) → Starts c act old.rows a.rows
  starts c (Join joining) old new s kept a = starts_join c joining old.rows a.rows (no_row old.history c old.rows s.sound (taken (may_join old.history c) kept)) s.unmarked a.brought
  starts c (Said said) old new s kept a = starts_same c (Said said) old.rows a.rows a.brought (λ joining e. absurd (cc)) s.unmarked
  starts c (Ping payload) old new s kept a = starts_same c (Ping payload) old.rows a.rows a.brought (λ joining e. absurd (cc)) s.unmarked
  starts c Spoilt old new s kept a = starts_same c Spoilt old.rows a.rows a.brought (λ joining e. absurd (cc)) s.unmarked
  starts c Gone old new s kept a = starts_same c Gone old.rows a.rows a.brought (λ joining e. absurd (cc)) s.unmarked

  names_start : (P : ℕ → Type 0) (olds rows news : List (Row S)) (named : List ℕ) → ((d : ℕ) → finds_of rows d ≡ finds_of olds d) → Names P rows news named → Names P olds news named
  names_start P olds rows news named same n = record {
    rose = λ d h. n.rose d (subst (λ m. m < finds_of news d) (sym (same d)) h);
    cut = n.cut;
    only = λ d e. ⊎_elim (λ (h : finds_of rows d < finds_of news d). inl (subst (λ m. m < finds_of news d) (same d) h)) (λ (p : P d). inr p) (n.only d e);
    ascending = n.ascending;
  }

  pub held_by : (lost : List ℕ) (rows ends news : List (Row S)) → EachMoved lost rows ends → EachUnmarked ends news → (d : ℕ) (o : Box) → outbox_of rows d ≡ Some o
      → (p : Box) × (outbox_of news d ≡ Some p) × Went o p
  held_by lost rows ends news w u d o e =
      let t = went_some o (outbox_of ends d) (subst (λ x. BoxWent x (outbox_of ends d)) e (moved_by lost rows ends d w)) in
      (t.0, same_after ends news d u ∙ t.1, t.2)

  pub does : (result : Outcome) (letter : Letter S) (old new : Working S) (ends : List (Row S)) (named : List ℕ) → Stands old.history old.rows → Sound new.history ends
      → Acts result letter.conn letter.act old (record new { rows = ends }) → (is_dropped old.history letter.conn letter.act ≡ true → result ≡ Dropped)
      → EachUnmarked ends new.rows → named ≡ named_conns ends → Does result letter old new named
  does Applied letter old new ends named s sound a exact u is =
      let c = letter.conn in
      let olds = old.rows in
      let news = new.rows in
      let kept : is_dropped old.history c letter.act ≡ true → ⊥ = λ e. let never = exact e in absurd (cc) in
      let start = starts c letter.act old (record new { rows = ends }) s kept a in
      let w = moved_went a.rows ends (accepted_went a.accepted) in
      let P : ℕ → Type 0 = λ d. (Applied ≡ NoMemory) × (live old.history d ≡ true) × (d ≡ c) in
      record {
        ends = ends;
        acts = a;
        unmarked = u;
        names = subst (Names P olds news) (sym is) (names_start P olds a.rows news (named_conns ends) start.finds
            (names_moved [] P a.rows ends news sound.ascending start.unmarked w u (λ k r e f. absurd (cc f)) (λ d p. let never = p.0 in absurd (cc))));
        held = λ d o e. held_by [] a.rows ends news w u d o (start.held d o e);
        joined = λ joining e _. held_by [] a.rows ends news w u c joining.outbox (start.brought joining e);
      }
  does Dropped letter old new ends named s sound a exact u is =
      let c = letter.conn in
      let olds = old.rows in
      let news = new.rows in
      let w = moved_went olds ends (subst (λ x. EachWent olds x) (sym a.0.1) (EachWent-same olds)) in
      let P : ℕ → Type 0 = λ d. (Dropped ≡ NoMemory) × (live old.history d ≡ true) × (d ≡ c) in
      record {
        ends = ends;
        acts = a;
        unmarked = u;
        names = subst (Names P olds news) (sym is) (names_moved [] P olds ends news sound.ascending s.unmarked w u (λ k r e f. absurd (cc f)) (λ d p. let never = p.0 in absurd (cc)));
        held = λ d o e. held_by [] olds ends news w u d o e;
        joined = λ joining e n. absurd (cc);
      }
  does NoMemory letter old new ends named s sound a exact u is =
      let c = letter.conn in
      let h = old.history in
      let olds = old.rows in
      let news = new.rows in
      let kept : is_dropped h c letter.act ≡ true → ⊥ = λ e. let never = exact e in absurd (cc) in
      let t = loses_moved a in
      let w = t.moved in
      let P : ℕ → Type 0 = λ d. (NoMemory ≡ NoMemory) × (live h d ≡ true) × (d ≡ c) in
      record {
        ends = ends;
        acts = a;
        unmarked = u;
        names = subst (Names P olds news) (sym is) (names_moved t.lost P olds ends news sound.ascending s.unmarked w u
            (λ k r e f.
            let own : c ≡ r.conn = t.of r.conn f in
            let eo = beside ends olds k r (sym w.0) e in
            let first = (w.1 k (get_or olds k r) r eo e).conn in
            let has : has_joined h c ≡ true = ap (has_joined h) (own ∙ first) ∙ s.sound.joined k (get_or olds k r) eo in
            (refl, ap (live h) (sym own) ∙ lost_live c letter.act h kept has, sym own))
            (λ d p.
            let row = s.sound.has_rows d p.1 in
            let l = w.0 in
            let inside = row.1.0 in
            let en = read ends row.0 row.1.1 (omega (arith, inside, l)) in
            (row.0, get_or ends row.0 row.1.1, en, (w.1 row.0 row.1.1 (get_or ends row.0 row.1.1) row.1.2 en).conn ∙ row.1.3, ap (λ x. is_in x t.lost) p.2 ∙ t.cut (ap (live h) (sym p.2) ∙ p.1))));
        held = λ d o e. held_by t.lost olds ends news w u d o e;
        joined = λ joining e n. absurd (cc);
      }

  -- rows of the same connections with the same outboxes

  abbrev pub EachSame : List (Row S) → List (Row S) → Type 0
  EachSame olds news =
      (length news ≡ length olds)
      × ((k : ℕ) (o p : Row S) → slice_get olds k ≡ Some o → slice_get news k ≡ Some p → (p.conn ≡ o.conn) × (p.held ≡ o.held))

  pub same_unmarked : (olds news : List (Row S)) → EachUnmarked olds news → EachSame olds news
  same_unmarked olds news u = (u.0, λ k o p e f. let t = u.1 k o p e f in (t.conn, t.held))

  pub same_marked : (c : ℕ) (olds news : List (Row S)) → EachMarked c olds news → EachSame olds news
  same_marked c olds news m = (m.0, λ k o p e f. let t = m.1 k o p e f in (t.conn, t.held))

  module _ (olds news : List (Row S)) (u : EachSame olds news) where
    was : (k : ℕ) (r : Row S) → slice_get news k ≡ Some r → slice_get olds k ≡ Some (get_or olds k r)
    was k r e = beside news olds k r (sym u.0) e

    steps_same : (h : History) → InStep h olds → InStep h news
    steps_same h sound = record {
      ascending = λ i j r s less er es.
          let x = was i r er in
          let y = was j s es in
          let before = sound.ascending i j (get_or olds i r) (get_or olds j s) less x y in
          let a = (u.1 i (get_or olds i r) r x er).0 in
          let b = (u.1 j (get_or olds j s) s y es).0 in
          omega (arith, before, a, b);
      in_step = λ k r e. let x = was k r e in subst (λ held. MatchOption held ⊤ (λ z. Follows h [] z.outbox)) (sym (u.1 k (get_or olds k r) r x e).1) (sound.in_step k (get_or olds k r) x);
      is_open = λ k r e.
          let x = was k r e in
          let m = u.1 k (get_or olds k r) r x e in
          subst (λ d. IsOpen (live h d) (box_in r)) (sym m.0) (subst (λ held. IsOpen (live h (get_or olds k r).conn) (option_map (λ z. z.outbox) held)) (sym m.1) (sound.is_open k (get_or olds k r) x));
      joined = λ k r e. let x = was k r e in subst (λ d. has_joined h d ≡ true) (sym (u.1 k (get_or olds k r) r x e).0) (sound.joined k (get_or olds k r) x);
      has_rows = λ c is.
          let row = sound.has_rows c is in
          let l = u.0 in
          let inside = row.1.0 in
          let less : row.0 < length news = omega (arith, inside, l) in
          let en = read news row.0 row.1.1 less in
          (row.0, (less, get_or news row.0 row.1.1, en, (u.1 row.0 row.1.1 (get_or news row.0 row.1.1) row.1.2 en).0 ∙ row.1.3));
      legal = sound.legal;
    }

    pub sound_same : (h : History) → ((k : ℕ) (o p : Row S) → slice_get olds k ≡ Some o → slice_get news k ≡ Some p → p.was_lost ≡ o.was_lost) → Sound h olds → Sound h news
    sound_same h lost sound =
        let steps = steps_same h (steps_of h olds sound) in
        record {
          ascending = steps.ascending;
          in_step = steps.in_step;
          is_open = steps.is_open;
          joined = steps.joined;
          accounted = λ k r e.
              let x = was k r e in
              let t = u.1 k (get_or olds k r) r x e in
              accounts_same h (get_or olds k r) r t.0 t.1 (lost k (get_or olds k r) r x e) (sound.accounted k (get_or olds k r) x);
          has_rows = steps.has_rows;
          legal = steps.legal;
        }

    pub none_same_full : NoneFull olds → NoneFull news
    none_same_full none k r e = let x = was k r e in subst (λ held. IsFull (option_map (λ z. z.outbox) held) → ⊥) (sym (u.1 k (get_or olds k r) r x e).1) (none k (get_or olds k r) x)

  -- whose row was marked as lost may be cut
  pub ready_marked : (h : History) (c : ℕ) (word : Option ℕ) (olds news : List (Row S)) → live h c ≡ true → EachMarked c olds news → Sound h olds → Ready (entry.Cut c word) h news
  ready_marked h c word olds news is_live m sound =
      let u = same_marked c olds news m in
      ready_for h (entry.Cut c word) c news refl is_live (steps_same olds news u h (steps_of h olds sound))
      (λ k p e. let x = was olds news u k p e in accounts_marked h c word (get_or olds k p) p (m.1 k (get_or olds k p) p x e) (sound.accounted k (get_or olds k p) x))

  pub stands_after : (h : History) (ends news : List (Row S)) → Sound h ends → NoneFull ends → EachUnmarked ends news → Stands h news
  stands_after h ends news sound none u = record {
    sound = sound_same ends news (same_unmarked ends news u) h (λ k o p e f. (u.1 k o p e f).was_lost) sound;
    none_full = none_same_full ends news (same_unmarked ends news u) none;
    unmarked = unmarked_after ends news u;
  }

  pub none_after : (result : Outcome) (c : ℕ) (act : Act S) (old new : Working S) → NoneFull old.rows → Acts result c act old new → NoneFull new.rows
  none_after Applied c act old new n a = a.accepted.none_full
  none_after Dropped c act old new n a = subst (λ x. NoneFull x) (sym a.0.1) n
  none_after NoMemory c act old new n a = loses_none a n

  -- there are as many rows after an act that isn't a Join

  kept_rows : (c : ℕ) (act : Act S) (olds rows : List (Row S)) → ((joining : Joining S) → act ≡ Join joining → ⊥) → WithRow c act olds rows → rows ≡ olds
  kept_rows c (Join joining) olds rows other b = absurd (other joining refl)
  kept_rows c (Said said) olds rows other b = b
  kept_rows c (Ping payload) olds rows other b = b
  kept_rows c Spoilt olds rows other b = b
  kept_rows c Gone olds rows other b = b

  pub as_many : (result : Outcome) (c : ℕ) (act : Act S) (old new : Working S) → ((joining : Joining S) → act ≡ Join joining → ⊥) → Acts result c act old new → length new.rows ≡ length old.rows
  as_many Applied c act old new other a = (accepted_went a.accepted).0 ∙ ap length (kept_rows c act old.rows a.rows other a.brought)
  as_many Dropped c act old new other a = ap length a.0.1
  as_many NoMemory c act old new other a = (loses_moved a).moved.0
