-- Each step of a chronicle keeps the rule.
use Rattle.std.proofs.Common.{◌≡◌, ◌⊎◌, inl, inr, ◌≢◌, ℕ, zero, suc, true, true≢false, List, [], ◌∷◌, ◌++◌, length, set, sym, refl, ap, ◌∙◌, subst, ⊎_elim}
use Rattle.std.specs.Prelude.{Option, Some, None}
use mathlib.Core.Option.{some, some-injective, some-ne-none}
use lib.ListN.{get_elem?}
use Rattle.crossbeam_queue.specs.Fifo.{Forks, Merges, Learns}
use Rattle.crossbeam_queue.proofs.Lists.{at_set}
use Rattle.chronicle.specs.declared.rule.ChronicleView.{ChronicleView}
use Rattle.chronicle.specs.Recorded.{Reaches}
use Rattle.chronicle.specs.body.TokenRule.{owner, token, unwritten, with_checked, nobody, Fits, BeginOwner}

module _ {A : Type 0} where
  -- what stands in a list behind which one more was put
  stood_or_last : (last : A) (front : List A) (place : ℕ) (found : A) → get_elem? (front ++ last ∷ []) place ≡ some found → (get_elem? front place ≡ some found) ⊎ ((place ≡ length front) × (last ≡ found))
  stood_or_last last [] zero found at = inr (refl, some-injective last found at)
  stood_or_last last [] (suc place) found at = absurd (some-ne-none found (sym at))
  stood_or_last last (y ∷ front) zero found at = inl at
  stood_or_last last (y ∷ front) (suc place) found at = ⊎_elim (λ (stood : get_elem? front place ≡ some found). inl stood) (λ (new : (place ≡ length front) × (last ≡ found)). inr (ap suc new.0, new.1)) (stood_or_last last front place found at)

  abbrev Each : (ℕ → A → Type 0) → List A → Type 0
  Each F views = (place : ℕ) (v : A) → get_elem? views place ≡ some v → F place v

  moved : (F : ℕ → A → Type 0) (i j : ℕ) (v u : A) → j ≡ i → v ≡ u → F i v → F j u
  moved F i j v u here same fact = subst (λ k. F k u) (sym here) (subst (λ x. F i x) same fact)

  -- what is true of a view that is put in the place of another, and of the others where they stood, is true of each
  each_set : (F : ℕ → A → Type 0) (views : List A) (place : ℕ) (v : A) → F place v → ((j : ℕ) (u : A) → j ≢ place → get_elem? views j ≡ some u → F j u) → Each F (set views place v)
  each_set F views place v mine others j u at =
      ⊎_elim (λ (put : (j ≡ place) × (v ≡ u)). moved F place j v u put.0 put.1 mine) (λ (stood : (j ≢ place) × (get_elem? views j ≡ some u)). others j u stood.0 stood.1) (at_set views place j v u at)

  -- what is true of each view, and of one that is put behind them, is true of each
  each_with : (F : ℕ → A → Type 0) (views : List A) (v : A) → Each F views → F (length views) v → Each F (views ++ v ∷ [])
  each_with F views v each last j u at =
      ⊎_elim (λ (stood : get_elem? views j ≡ some u). each j u stood) (λ (new : (j ≡ length views) × (v ≡ u)). moved F (length views) j v u new.0 new.1 last) (stood_or_last v views j u at)

module _ {H : Type 0} (begins : H → H → Type 0) (itself : (h : H) → begins h h) (on : (h k l : H) → begins h k → begins k l → begins h l) where
  reaches_itself : (a : Option H) → Reaches begins a a
  reaches_itself None = tt
  reaches_itself (Some h) = itself h

  reaches_on : (a b c : Option H) → Reaches begins a b → Reaches begins b c → Reaches begins a c
  reaches_on None b c p q = tt
  reaches_on (Some h) None c p q = absurd p
  reaches_on (Some h) (Some k) None p q = absurd q
  reaches_on (Some h) (Some k) (Some l) p q = on h k l p q

  -- who owns nothing fits every owner, where what it is of and has checked begins the history
  fits_unowned : (owner place : ℕ) (history : Option H) (v : ChronicleView H) → v.owns ≢ true → Reaches begins v.history history → Reaches begins v.checked history → Fits begins owner history place v
  fits_unowned owner place history v not before checked = record { owns = λ is. absurd (not is); history = before; checked = checked }

  pub begun : BeginOwner {H = H} begins (unwritten ∷ [])
  begun =
      let F : ℕ → ChronicleView H → Type 0 = Fits begins 0 None in
      let none : Each F [] = λ j u at. absurd (some-ne-none u (sym at)) in
      record {
        owner = 0;
        newest = None;
        each_view = each_with F [] unwritten none (record { owns = λ _. (refl, refl); history = tt; checked = tt });
      }

  abbrev Rule : List (Unit {0}) → List (ChronicleView H) → Type 0
  Rule items views = BeginOwner begins views

  pub records : (place : ℕ) (v : ChronicleView H) (next : Option H) → v.owns ≡ true → Reaches begins v.history next → Forks Rule place v (owner next v.checked) (token next)
  records place v next may longer items views rule at =
      let mine = rule.each_view place v at in let is = mine.owns may in
      let on_ : Reaches begins rule.newest next = subst (λ h. Reaches begins h next) is.1 longer in
      let F : ℕ → ChronicleView H → Type 0 = Fits begins place next in
      let own : ChronicleView H = owner next v.checked in let vs = set views place own in
      let each : Each F vs = each_set F views place own
      (record { owns = λ _. (refl, refl); history = reaches_itself next; checked = reaches_on v.checked rule.newest next mine.checked on_ })
      (λ j u other stood. let fits = rule.each_view j u stood in
      fits_unowned place j next u (λ p. other ((fits.owns p).0 ∙ sym is.0)) (reaches_on u.history rule.newest next fits.history on_) (reaches_on u.checked rule.newest next fits.checked on_)) in
      record {
        owner = place;
        newest = next;
        each_view = each_with F vs (token next) each (fits_unowned place (length vs) next (token next) (λ p. true≢false (sym p)) (reaches_itself next) tt);
      }

  pub checks : (place : ℕ) (v : ChronicleView H) (other : ℕ) (taken : ChronicleView H) → v.owns ≡ true → Merges Rule place v other taken (with_checked v taken) nobody
  checks place v other taken may items views rule at two at' =
      let mine = rule.each_view place v at in let is = mine.owns may in
      let F : ℕ → ChronicleView H → Type 0 = Fits begins place rule.newest in
      let own : ChronicleView H = with_checked v taken in let vs = set views place own in
      let stood : get_elem? views other ≡ some taken = ⊎_elim (λ (put : (other ≡ place) × (own ≡ taken)). absurd (two put.0)) (λ (old : (other ≢ place) × (get_elem? views other ≡ some taken)). old.1) (at_set views place other own taken at') in
      let each : Each F vs = each_set F views place own
      (record { owns = λ _. (refl, is.1); history = mine.history; checked = (rule.each_view other taken stood).history })
      (λ j u apart was. let fits = rule.each_view j u was in fits_unowned place j rule.newest u (λ p. apart ((fits.owns p).0 ∙ sym is.0)) fits.history fits.checked) in
      record {
        owner = place;
        newest = rule.newest;
        each_view = each_set F vs other nobody (fits_unowned place other rule.newest nobody (λ p. true≢false (sym p)) tt tt) (λ j u apart was. each j u was);
      }

  pub shows : (place : ℕ) (v : ChronicleView H) → v.owns ≡ true → Learns Rule place v (λ items. Reaches begins v.checked v.history)
  shows place v may items views rule at = let mine = rule.each_view place v at in subst (λ h. Reaches begins v.checked h) (sym (mine.owns may).1) mine.checked
