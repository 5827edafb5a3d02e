-- A stop closes each live session.
use Rattle.std.proofs.Common.{◌≡◌, ℕ, ◌<◌, ◌≤◌, Bool, true, false, ◌&&◌, eqb, List, [], ◌∷◌, ◌++◌, length, get_or, refl, sym, ap, ◌∙◌, subst, ⊎_elim, arith}
use Rattle.std.specs.Prelude.{Some, None, slice_get}
use Rattle.std.proofs.lemmas.Bool.{eq-eqb, or_cases, false_from_ne_true}
use Rattle.std.proofs.lemmas.List.Folds.{list_any-append}
use Rattle.realm.specs.declared.entry.Entry.{Entry}
use Rattle.realm.specs.declared.entry.Entry.TheVariants.{Cut, Closed}
use Rattle.realm.specs.History.{History, ◌▷◌}
use Rattle.realm.specs.Sessions.{who, live}
use Rattle.realm.proofs.Lemmas.{clash, none-since, taken-away}
use Rattle.realm_actor.specs.declared.row.Row.{Row}
use Rattle.realm_actor.specs.declared.outcome.Outcome.{Outcome}
use Rattle.realm_actor.specs.declared.outcome.Outcome.TheVariants.{Applied, NoMemory}
use Rattle.realm_actor.specs.Tables.{Sound, Standing}
use Rattle.realm_actor.specs.ActorView.{Working, standing_in}
use Rattle.realm_actor.specs.Cuts.{Cuts, none, one_more as one_cut, IsCutOf}
use Rattle.realm_actor.specs.Handle.{EachUnmarked}
use Rattle.realm_actor.specs.LastCut.{is_in, named_conns, Names}
use Rattle.realm_actor.specs.Stop.{ClosesOne, passed, closed, refused, Closes, first, one_more, is_nil, outcome_of, Stops}
use Rattle.realm_actor.specs.Invariant.{Stands}
use Rattle.realm_actor.proofs.RowPlaces.{same_place, below_or, beside}
use Rattle.realm_actor.proofs.LastCutLemmas.{EachMoved, EachWent-same, accepted_went, moved_went, moved_marked, moved_on, names_moved}
use Rattle.realm_actor.proofs.HandleLemmas.{held_by, one_in}
use Rattle.realm_actor.specs.Words.{◌⊕◌}

-- who isn't live stays so

pub still_dead : (h : History) (c d : ℕ) (e : Entry) → IsCutOf d c e → (x : ℕ) → live h x ≡ false → live (h ▷ e) x ≡ false
unfolding who
still_dead h c d e is x dead = ⊎_elim
    (λ (one : e ≡ Cut d (Some c)). subst (λ f. live (h ▷ f) x ≡ false) (sym one) (none-since (eqb d x) (who h x) dead))
    (λ (two : e ≡ Cut d None). subst (λ f. live (h ▷ f) x ≡ false) (sym two) (none-since (eqb d x) (who h x) dead))
    is

cut_dead : (h : History) (word c : ℕ) (e : Entry) → IsCutOf c word e → live (h ▷ e) c ≡ false
unfolding who
cut_dead h word c e is = ⊎_elim
    (λ (one : e ≡ Cut c (Some word)). subst (λ f. live (h ▷ f) c ≡ false) (sym one) (taken-away (eqb c c) (who h c) (eq-eqb c c refl)))
    (λ (two : e ≡ Cut c None). subst (λ f. live (h ▷ f) c ≡ false) (sym two) (taken-away (eqb c c) (who h c) (eq-eqb c c refl)))
    is

closed_dead : (h : History) (c word : ℕ) → live (h ▷ Closed c word) c ≡ false
unfolding who
closed_dead h c word = taken-away (eqb c c) (who h c) (eq-eqb c c refl)

closed_still : (h : History) (c word x : ℕ) → live h x ≡ false → live (h ▷ Closed c word) x ≡ false
unfolding who
closed_still h c word x dead = none-since (eqb c x) (who h x) dead

module _ {S : Type 0} where
  pub cuts_dead : {old new : Standing S} {drawn : List ℕ} (x : ℕ) → Cuts old drawn new → live old.history x ≡ false → live new.history x ≡ false
  cuts_dead x none dead = dead
  cuts_dead x (one_cut c word so_far sound least cut is went) dead = subst (λ k. live k x ≡ false) (sym is) (still_dead _ word c _ cut x (cuts_dead x so_far dead))

  -- what a stop does for one row

  pub one_moved : {i : ℕ} {old new : Standing S} {words lost : List ℕ} → ClosesOne i old words lost new → EachMoved lost old.rows new.rows
  one_moved {old = old} (passed r at dead) = moved_went old.rows old.rows (EachWent-same old.rows)
  one_moved {old = old} {new = new} (closed r word drawn at is accepted) = moved_went old.rows new.rows (accepted_went accepted)
  one_moved {old = old} {new = new} (refused r lost word drawn e marked at is cut marks accepted) =
      moved_on (r.conn ∷ []) [] old.rows marked new.rows (moved_marked r.conn old.rows marked marks) (moved_went marked new.rows (accepted_went accepted))

  pub one_dead : {i : ℕ} {old new : Standing S} {words lost : List ℕ} (x : ℕ) → ClosesOne i old words lost new → live old.history x ≡ false → live new.history x ≡ false
  one_dead x (passed r at dead) still = still
  one_dead {old = old} x (closed r word drawn at is accepted) still = cuts_dead x accepted.cuts (closed_still old.history r.conn word x still)
  one_dead {old = old} x (refused r lost word drawn e marked at is cut marks accepted) still = cuts_dead x accepted.cuts (still_dead old.history word r.conn e cut x still)

  pub own_dead : {i : ℕ} {old new : Standing S} {words lost : List ℕ} (o : Row S) → slice_get old.rows i ≡ Some o → ClosesOne i old words lost new → live new.history o.conn ≡ false
  own_dead {i = i} {old = old} o get (passed r at dead) = subst (λ (q : Row S). live old.history q.conn ≡ false) (same_place old.rows i r o at get) dead
  own_dead {i = i} {old = old} {new = new} o get (closed r word drawn at is accepted) =
      subst (λ (q : Row S). live new.history q.conn ≡ false) (same_place old.rows i r o at get) (cuts_dead r.conn accepted.cuts (closed_dead old.history r.conn word))
  own_dead {i = i} {old = old} {new = new} o get (refused r lost word drawn e marked at is cut marks accepted) =
      subst (λ (q : Row S). live new.history q.conn ≡ false) (same_place old.rows i r o at get) (cuts_dead r.conn accepted.cuts (cut_dead old.history word r.conn e cut))

  -- for all rows

  pub closes_moved : {old : Standing S} {i : ℕ} {new : Standing S} {words lost : List ℕ} → Closes old i words lost new → EachMoved lost old.rows new.rows
  closes_moved {old = old} first = moved_went old.rows old.rows (EachWent-same old.rows)
  closes_moved {old = old} {new = new} (one_more {lost = lost} {gone = more} {mid = mid} so_far one) = moved_on lost more old.rows mid.rows new.rows (closes_moved so_far) (one_moved one)

  -- the sessions of the rows before the place aren't live
  pub closes_dead : {old : Standing S} {i : ℕ} {new : Standing S} {words lost : List ℕ} → Closes old i words lost new → (k : ℕ) (r : Row S) → k < i → slice_get new.rows k ≡ Some r → live new.history r.conn ≡ false
  closes_dead first k r less get = absurd (omega (arith, less))
  closes_dead {new = new} (one_more {i} {mid = mid} so_far one) k r less get =
      let moved = one_moved one in
      let before : slice_get mid.rows k ≡ Some (get_or mid.rows k r) = beside new.rows mid.rows k r (sym moved.0) get in
      let conn = (moved.1 k (get_or mid.rows k r) r before get).conn in
      ap (live new.history) conn ∙ ⊎_elim
      (λ (low : k < i). one_dead (get_or mid.rows k r).conn one (closes_dead so_far k (get_or mid.rows k r) low before))
      (λ (high : i ≤ k). let here : k ≡ i = omega (arith, less, high) in own_dead (get_or mid.rows k r) (sym (ap (slice_get mid.rows) here) ∙ before) one)
      (below_or k i)

  pub none_live : (old new : Standing S) (words lost : List ℕ) → Closes old (length old.rows) words lost new → Sound new.history new.rows → (c : ℕ) → live new.history c ≡ false
  none_live old new words lost closes sound c = false_from_ne_true (live new.history c) (λ is.
      let row = sound.has_rows c is in
      let n = (closes_moved closes).0 in
      let inside = row.1.0 in
      let dead = closes_dead closes row.0 row.1.1 (omega (arith, inside, n)) row.1.2 in
      clash (live new.history c) is (ap (live new.history) (sym row.1.3) ∙ dead))

  -- who is lost has a row

  pub one_lost : {i : ℕ} {old new : Standing S} {words lost : List ℕ} (d : ℕ) → ClosesOne i old words lost new → is_in d lost ≡ true
      → (k : ℕ) × (r : Row S) × (slice_get old.rows k ≡ Some r) × (r.conn ≡ d)
  one_lost d (passed r at dead) e = absurd (cc e)
  one_lost d (closed r word drawn at is accepted) e = absurd (cc e)
  one_lost {i = i} d (refused r lost word drawn f marked at is cut marks accepted) e = (i, r, at, one_in r.conn d e)

  onto : (lost : List ℕ) (olds news : List (Row S)) (d : ℕ) → EachMoved lost olds news → (k : ℕ) × (r : Row S) × (slice_get olds k ≡ Some r) × (r.conn ≡ d)
      → (k : ℕ) × (r : Row S) × (slice_get news k ≡ Some r) × (r.conn ≡ d)
  onto lost olds news d m t =
      let en = beside olds news t.0 t.1 m.0 t.2 in
      (t.0, get_or news t.0 t.1, en, (m.1 t.0 t.1 (get_or news t.0 t.1) t.2 en).conn ∙ t.3)

  pub all_lost : {old : Standing S} {i : ℕ} {new : Standing S} {words lost : List ℕ} (d : ℕ) → Closes old i words lost new → is_in d lost ≡ true
      → (k : ℕ) × (r : Row S) × (slice_get new.rows k ≡ Some r) × (r.conn ≡ d)
  all_lost d first e = absurd (cc e)
  all_lost {new = new} d (one_more {lost = lost} {gone = more} {mid = mid} so_far one) e =
      ⊎_elim
      (λ (f : is_in d lost ≡ true). onto more mid.rows new.rows d (one_moved one) (all_lost d so_far f))
      (λ (f : is_in d more ≡ true). onto more mid.rows new.rows d (one_moved one) (one_lost d one f))
      (or_cases (is_in d lost) (is_in d more) (sym (list_any-append (λ x. eqb x d) lost more) ∙ e))

  pub stops : (result : Outcome) (old new : Working S) (ends : List (Row S)) (words lost named : List ℕ) → Stands old.history old.rows → Sound new.history ends
      → Closes (standing_in old) (length old.rows) words lost (record { history = new.history; rows = ends })
      → result ≡ outcome_of lost → EachUnmarked ends new.rows → new.words ≡ old.words ⊕ words → named ≡ named_conns ends → Stops result old new named
  stops result old new ends words lost named s sound closes outcome u given is =
      let olds = old.rows in
      let news = new.rows in
      let w = closes_moved closes in
      let P : ℕ → Type 0 = λ d. is_in d lost ≡ true in
      record {
        words = words;
        lost = lost;
        ends = ends;
        closes = closes;
        outcome = outcome;
        unmarked = u;
        given = given;
        names = subst (Names P olds news) (sym is) (names_moved lost P olds ends news sound.ascending s.unmarked w u
            (λ k r e f. f)
            (λ d e. let t = all_lost d closes e in (t.0, t.1, t.2, t.3, e)));
        held = λ d o e. held_by lost olds ends news w u d o e;
        none_live = none_live (standing_in old) (record { history = new.history; rows = ends }) words lost closes sound;
      }

-- who is lost, by whether anyone is

pub nil_append : (xs ys : List ℕ) (a b : Bool) → a ≡ is_nil xs → b ≡ is_nil ys → a && b ≡ is_nil (xs ++ ys)
nil_append [] ys a b ea eb = ap (λ x. x && b) ea ∙ eb
nil_append (x ∷ xs) ys a b ea eb = ap (λ t. t && b) ea

pub outcome_applied : (lost : List ℕ) → is_nil lost ≡ true → outcome_of lost ≡ Applied
outcome_applied [] e = refl
outcome_applied (c ∷ cs) e = absurd (cc)

pub outcome_refused : (lost : List ℕ) → is_nil lost ≡ false → outcome_of lost ≡ NoMemory
outcome_refused [] e = absurd (cc)
outcome_refused (c ∷ cs) e = refl
