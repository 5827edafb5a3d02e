-- Posts come into their lines, and are given out of them.
use Rattle.std.proofs.Common.{◌≡◌, ◌≢◌, ℕ, ◌≤◌, Bool, true, false, true≢false, cond, eqb, eq-eqb, eqb-true, ne_eqb, List, [], ◌∷◌, ◌++◌, length, drop, refl, sym, ap, ◌∙◌, subst, append_assoc, le_of_eq, zero-le, arith}
use Rattle.std.proofs.lemmas.Bool.{eqb-false}
use Rattle.std.proofs.lemmas.List.{append-nil}
use native.Mathlib.Bridge.{le_prop}
use Rattle.wamp_ids.specs.Numbers.{seat_of}
use Rattle.std.specs.Prelude.{Option}
use Rattle.atomic_table.specs.Seated.{TableId, table_id_coded}
use denote.RattleType.{RattleType}
use Rattle.std.specs.Coded.{Coded-set, coded_list, coded×, coded_ℕ, coded_option}
use Rattle.std.proofs.Math.Logic.{∥∥₁_elim}
use Rattle.std.proofs.Math.Seq.{drop-append_seam}
use mathlib.Core.List.{IsPrefix}
use Rattle.realm_inbox.specs.declared.act.Act as the
use Rattle.realm_inbox.specs.contracts.act.Act as Act
use Rattle.realm_inbox.specs.declared.letter.Post.{Post}
use Rattle.realm_inbox.specs.declared.letter.Post.TheVariants.{Act, Stop}
use Rattle.realm_inbox.specs.Seats.{said, adds_at, at_seat, IsNext, InOrder, IsHomed, EachHomed}
use Rattle.realm_inbox.specs.Behind.{behind, HasAll, IsBehind, AllBehind, adds_told, told_by}
use Rattle.realm_inbox.specs.SeatLines.{place_of_post, own_part, first_part, AllAt, Waits, IsDealt}
use Rattle.realm_inbox.proofs.PostLists.{at_seat_append, at_seat_snoc, adds_elsewhere, in_order_snoc, homed_snoc, HasMore, more_append, has_more, behind_more, all_behind_more, all_behind_snoc, told_append, told_snoc}

module _ {S : Type 0} where
  -- of a post that may wait at the place k
  adds_own : (k : ℕ) (p : Post S) (b : Bool) → eqb (place_of_post p) k ≡ b → at_seat k (cond b (p ∷ []) []) ≡ adds_at k p
  adds_own k (Act l) true e = append-nil (adds_at k (Act l))
  adds_own k (Act l) false e = sym (ap (λ (b : Bool). cond b (said l ∷ []) []) e)
  adds_own k (Stop halt) true e = refl
  adds_own k (Stop halt) false e = refl

  -- and of what the stops tell, which wait at 0
  tells_own : (k : ℕ) (p : Post S) (b : Bool) → eqb (place_of_post p) k ≡ b → k ≡ 0 → told_by (cond b (p ∷ []) []) ≡ adds_told p
  tells_own k (Act l) true e zero = refl
  tells_own k (Act l) false e zero = refl
  tells_own k (Stop halt) true e zero = refl
  tells_own k (Stop halt) false e zero = absurd (true≢false (sym (eq-eqb 0 k (sym zero)) ∙ e))

  next_same : (k : ℕ) (g h : List (Post S)) (p : Post S) → at_seat k g ≡ at_seat k h → place_of_post p ≡ k → IsNext g p → IsNext h p
  next_same k g h (Act l) same own next = next ∙ subst (λ n. at_seat n g ≡ at_seat n h) (sym own) same
  next_same k g h (Stop halt) same own next = tt

  -- a line at the place k looks at what was given there alone
  in_order_same : (k : ℕ) (g h line : List (Post S)) → at_seat k g ≡ at_seat k h → AllAt k line → InOrder g line → InOrder h line
  in_order_same k g h [] same all o = tt
  in_order_same k g h (p ∷ ps) same all o = (
    next_same k g h p same all.0 o.0,
    in_order_same k (g ++ p ∷ []) (h ++ p ∷ []) ps (at_seat_snoc k g p ∙ (ap (λ t. t ++ adds_at k p) same ∙ sym (at_seat_snoc k h p))) all.1 o.1,
  )

  all_at_snoc : (k : ℕ) (line : List (Post S)) (p : Post S) → AllAt k line → place_of_post p ≡ k → AllAt k (line ++ p ∷ [])
  all_at_snoc k [] p all own = (own, tt)
  all_at_snoc k (x ∷ line) p all own = (all.0, all_at_snoc k line p all.1 own)

  -- no act stands at the place of stops
  no_seat : (ps : List (Post S)) → at_seat 0 ps ≡ []
  no_seat [] = refl
  no_seat (Act l ∷ ps) = ap (λ t. t ++ at_seat 0 ps) (adds_elsewhere 0 l (λ e. omega (arith, e))) ∙ no_seat ps
  no_seat (Stop halt ∷ ps) = no_seat ps

  behind_given : (taken given : List (Post S)) (place : ℕ) (p : Post S) → IsBehind taken p → place_of_post p ≡ place → (place ≡ 0 → HasMore taken given) → IsBehind given p
  behind_given taken given place (Act l) is own more = tt
  behind_given taken given place (Stop halt) is own more = has_more taken given (behind halt) (more (sym own)) is

  module _ (home : Option TableId) (taken given : List (Post S)) where
    -- nothing was taken that isn't given
    pub none_waits : (at : ℕ → List (Post S)) → given ≡ taken → ((k : ℕ) → at k ≡ []) → IsDealt home taken given at
    none_waits at same none k = subst (λ (line : List (Post S)). Waits home taken given k line) (sym (none k)) (record {
      sum = ap (λ g. at_seat k g) (sym same) ∙ sym (append-nil (at_seat k given));
      in_order = tt;
      homed = tt;
      own = tt;
      behind = tt;
      stops = λ zero. ap (λ g. told_by g) (sym same) ∙ sym (append-nil (told_by given));
    })

    pub same_waits : (at at' : ℕ → List (Post S)) → IsDealt home taken given at → ((k : ℕ) → at' k ≡ at k) → IsDealt home taken given at'
    same_waits at at' d same k = subst (λ (line : List (Post S)). Waits home taken given k line) (sym (same k)) (d k)

    -- a post is taken, and put behind its line
    module _ (taken' : List (Post S)) (p : Post S) (is : taken' ≡ taken ++ p ∷ []) (next : IsNext taken p) (homed : IsHomed home p) (last : IsBehind taken p) where
      grows : HasMore taken taken'
      grows = subst (λ t. HasMore taken t) (sym is) (more_append taken (p ∷ []))

      told_with : (k : ℕ) (line part : List (Post S)) → (k ≡ 0 → told_by part ≡ adds_told p) → (k ≡ 0 → told_by taken ≡ told_by given ++ told_by line) → k ≡ 0 → told_by taken' ≡ told_by given ++ told_by (line ++ part)
      told_with k line part adds sum zero =
          ap (λ t. told_by t) is
          ∙ told_snoc taken p
          ∙ ap (λ t. t ++ adds_told p) (sum zero)
          ∙ append_assoc (told_by given) (told_by line) (adds_told p)
          ∙ ap (λ t. told_by given ++ t) (ap (λ t. told_by line ++ t) (sym (adds zero)) ∙ sym (told_append line part))

      sum_with : (k : ℕ) (line part : List (Post S)) → at_seat k part ≡ adds_at k p → at_seat k taken ≡ at_seat k given ++ at_seat k line → at_seat k taken' ≡ at_seat k given ++ at_seat k (line ++ part)
      sum_with k line part adds sum =
          ap (λ t. at_seat k t) is
          ∙ at_seat_snoc k taken p
          ∙ ap (λ t. t ++ adds_at k p) sum
          ∙ append_assoc (at_seat k given) (at_seat k line) (adds_at k p)
          ∙ ap (λ t. at_seat k given ++ t) (ap (λ t. at_seat k line ++ t) (sym adds) ∙ sym (at_seat_append k line part))

      with_part : (k : ℕ) (line : List (Post S)) (b : Bool) → eqb (place_of_post p) k ≡ b → Waits home taken given k line → Waits home taken' given k (line ++ cond b (p ∷ []) [])
      with_part k line true e w =
          let own : place_of_post p ≡ k = eqb-true (place_of_post p) k e in
          let same : at_seat k taken ≡ at_seat k (given ++ line) = w.sum ∙ sym (at_seat_append k given line) in
          record {
            sum = sum_with k line (p ∷ []) (adds_own k p true e) w.sum;
            in_order = in_order_snoc given line p w.in_order (next_same k taken (given ++ line) p same own next);
            homed = homed_snoc home line p w.homed homed;
            own = all_at_snoc k line p w.own own;
            behind = all_behind_snoc taken' line p (all_behind_more taken taken' line grows w.behind) (behind_more taken taken' p grows last);
            stops = told_with k line (p ∷ []) (tells_own k p true e) w.stops;
          }
      with_part k line false e w = record {
        sum = sum_with k line [] (adds_own k p false e) w.sum;
        in_order = subst (λ l. InOrder given l) (sym (append-nil line)) w.in_order;
        homed = subst (λ l. EachHomed home l) (sym (append-nil line)) w.homed;
        own = subst (λ l. AllAt k l) (sym (append-nil line)) w.own;
        behind = subst (λ l. AllBehind taken' l) (sym (append-nil line)) (all_behind_more taken taken' line grows w.behind);
        stops = told_with k line [] (tells_own k p false e) w.stops;
      }

      pub taken_in : (at at' : ℕ → List (Post S)) → IsDealt home taken given at → ((k : ℕ) → at' k ≡ at k ++ own_part k p) → IsDealt home taken' given at'
      taken_in at at' d longer k = subst (λ (l : List (Post S)). Waits home taken' given k l) (sym (longer k)) (with_part k (at k) (eqb (place_of_post p) k) refl (d k))

    -- the first post of a place is given
    module _ (given' : List (Post S)) (place : ℕ) (p : Post S) (is : given' ≡ given ++ p ∷ []) (own : place_of_post p ≡ place) where
      adds_given : (k : ℕ) → at_seat k given' ≡ at_seat k given ++ adds_at k p
      adds_given k = ap (λ t. at_seat k t) is ∙ at_seat_snoc k given p

      told_given : told_by given' ≡ told_by given ++ adds_told p
      told_given = ap (λ t. told_by t) is ∙ told_snoc given p

      without_part : (k : ℕ) (rest : List (Post S)) (b : Bool) → eqb place k ≡ b → Waits home taken given k (cond b (p ∷ []) [] ++ rest) → Waits home taken given' k rest
      without_part k rest true e w = record {
        sum = w.sum ∙ sym (append_assoc (at_seat k given) (adds_at k p) (at_seat k rest)) ∙ ap (λ t. t ++ at_seat k rest) (sym (adds_given k));
        in_order = subst (λ g. InOrder g rest) (sym is) w.in_order.1;
        homed = w.homed.1;
        own = w.own.1;
        behind = w.behind.1;
        stops = λ zero. w.stops zero ∙ sym (append_assoc (told_by given) (adds_told p) (told_by rest)) ∙ ap (λ t. t ++ told_by rest) (sym told_given);
      }
      without_part k rest false e w =
          let none : adds_at k p ≡ [] = sym (adds_own k p false (ap (λ n. eqb n k) own ∙ e)) in
          let same : at_seat k given ≡ at_seat k given' = sym (adds_given k ∙ (ap (λ t. at_seat k given ++ t) none ∙ append-nil (at_seat k given))) in
          let tells : k ≡ 0 → told_by given ≡ told_by given' = λ zero.
          sym (told_given ∙ (ap (λ t. told_by given ++ t) (sym (tells_own k p false (ap (λ n. eqb n k) own ∙ e) zero)) ∙ append-nil (told_by given))) in
          record {
            sum = w.sum ∙ ap (λ t. t ++ at_seat k rest) same;
            in_order = in_order_same k given given' rest same w.own w.in_order;
            homed = w.homed;
            own = w.own;
            behind = w.behind;
            stops = λ zero. w.stops zero ∙ ap (λ t. t ++ told_by rest) (tells zero);
          }

      pub given_out : (at at' : ℕ → List (Post S)) → IsDealt home taken given at → ((k : ℕ) → at k ≡ first_part place k p ++ at' k) → IsDealt home taken given' at'
      given_out at at' d shorter k = without_part k (at' k) (eqb place k) refl (subst (λ (l : List (Post S)). Waits home taken given k l) (shorter k) (d k))

    -- what is first in its line
    first_of : (at at' : ℕ → List (Post S)) (place : ℕ) (p : Post S) → IsDealt home taken given at → ((k : ℕ) → at k ≡ first_part place k p ++ at' k) → Waits home taken given place (p ∷ at' place)
    first_of at at' place p d shorter =
        subst (λ (l : List (Post S)). Waits home taken given place l) (shorter place ∙ ap (λ (b : Bool). cond b (p ∷ []) [] ++ at' place) (eq-eqb place place refl)) (d place)

    pub first_own : (at at' : ℕ → List (Post S)) (place : ℕ) (p : Post S) → IsDealt home taken given at → ((k : ℕ) → at k ≡ first_part place k p ++ at' k) → place_of_post p ≡ place
    first_own at at' place p d shorter = (first_of at at' place p d shorter).own.0

    pub first_next : (at at' : ℕ → List (Post S)) (place : ℕ) (p : Post S) → IsDealt home taken given at → ((k : ℕ) → at k ≡ first_part place k p ++ at' k) → IsNext given p
    first_next at at' place p d shorter = (first_of at at' place p d shorter).in_order.0

    pub first_homed : (at at' : ℕ → List (Post S)) (place : ℕ) (p : Post S) → IsDealt home taken given at → ((k : ℕ) → at k ≡ first_part place k p ++ at' k) → IsHomed home p
    first_homed at at' place p d shorter = (first_of at at' place p d shorter).homed.0

    -- where nothing waits but stops, what was given has all that was taken
    all_but_stops : (at : ℕ → List (Post S)) → IsDealt home taken given at → ((k : ℕ) → k ≢ 0 → at k ≡ []) → HasMore taken given
    all_but_stops at d none k = by (eqb k 0) refl
      where
        by : (b : Bool) → eqb k 0 ≡ b → length (at_seat k taken) ≤ length (at_seat k given)
        by true e = subst (λ n. length (at_seat n taken) ≤ length (at_seat n given)) (sym (eqb-true k 0 e)) (subst (λ l. length l ≤ length (at_seat 0 given)) (sym (no_seat taken)) zero-le)
        by false e = le_of_eq (ap length ((d k).sum ∙ ap (λ l. at_seat k given ++ at_seat k l) (none k (eqb-false k 0 e)) ∙ append-nil (at_seat k given)))

    pub first_behind : (at at' : ℕ → List (Post S)) (place : ℕ) (p : Post S) → IsDealt home taken given at → ((k : ℕ) → at k ≡ first_part place k p ++ at' k) → (place ≡ 0 → (k : ℕ) → k ≢ 0 → at k ≡ []) → IsBehind given p
    first_behind at at' place p d shorter last =
        let w = first_of at at' place p d shorter in
        behind_given taken given place p w.behind.0 w.own.0 (λ zero. all_but_stops at d (last zero))

    pub dealt_out : (given' : List (Post S)) (at at' : ℕ → List (Post S)) (place : ℕ) (p : Post S) → given' ≡ given ++ p ∷ [] → IsDealt home taken given at → ((k : ℕ) → at k ≡ first_part place k p ++ at' k) → IsDealt home taken given' at'
    dealt_out given' at at' place p is d shorter = given_out given' place p is (first_own at at' place p d shorter) at at' d shorter

  -- a post whose line is empty passes through it
  pub through : (at : ℕ → List (Post S)) (p : Post S) → at (place_of_post p) ≡ [] → (k : ℕ) → at k ++ own_part k p ≡ first_part (place_of_post p) k p ++ at k
  through at p none k = by (eqb (place_of_post p) k) refl
    where
      by : (b : Bool) → eqb (place_of_post p) k ≡ b → at k ++ cond b (p ∷ []) [] ≡ cond b (p ∷ []) [] ++ at k
      by true e =
          let free : at k ≡ [] = ap at (sym (eqb-true (place_of_post p) k e)) ∙ none in
          ap (λ l. l ++ p ∷ []) free ∙ ap (λ l. p ∷ l) (sym free)
      by false e = append-nil (at k)

  -- nor does a stop, where nothing waits at all, put a post where none was
  pub still_none : (at : ℕ → List (Post S)) (p : Post S) → (place_of_post p ≡ 0 → (k : ℕ) → k ≢ 0 → at k ≡ []) → place_of_post p ≡ 0 → (k : ℕ) → k ≢ 0 → at k ++ own_part k p ≡ []
  still_none at p last zero k seat = ap (λ (b : Bool). at k ++ cond b (p ∷ []) []) (ne_eqb (place_of_post p) k (λ e. seat (sym e ∙ zero))) ∙ append-nil (at k) ∙ last zero k seat

  -- a post is put behind its line, and the first of that place is given
  module _ (home : Option TableId) (taken taken' given : List (Post S)) (at at' : ℕ → List (Post S)) (place : ℕ) (p first : Post S) (more : taken' ≡ taken ++ p ∷ []) (next : IsNext taken p) (homed : IsHomed home p) (last : IsBehind taken p)
      (moved : (k : ℕ) → at k ++ own_part k p ≡ first_part place k first ++ at' k) (d : IsDealt home taken given at) where
    abbrev longer : ℕ → List (Post S)
    longer k = at k ++ own_part k p

    put_behind : IsDealt home taken' given longer
    put_behind = taken_in home taken given taken' p more next homed last at longer d (λ k. refl)

    pub exchanged : (given' : List (Post S)) → given' ≡ given ++ first ∷ [] → IsDealt home taken' given' at'
    exchanged given' is = dealt_out home taken' given given' longer at' place first is put_behind moved

    pub next_exchanged : IsNext given first
    next_exchanged = first_next home taken' given longer at' place first put_behind moved

    pub homed_exchanged : IsHomed home first
    homed_exchanged = first_homed home taken' given longer at' place first put_behind moved

    pub behind_exchanged : (place ≡ 0 → (k : ℕ) → k ≢ 0 → at k ++ own_part k p ≡ []) → IsBehind given first
    behind_exchanged none = first_behind home taken' given longer at' place first put_behind moved none

module _ (S : RattleType) where
  acts_set : IsSet (List (ℕ × the.Act S.Denot))
  acts_set = Coded-set (coded_list (coded× coded_ℕ (Act.the_row S).coded))

  home_set : IsSet (Option TableId)
  home_set = Coded-set (coded_option table_id_coded)

  next_prop : (g : List (Post S.Denot)) (p : Post S.Denot) → IsProp (IsNext g p)
  next_prop g (Act l) = acts_set _ _
  next_prop g (Stop halt) = λ x y. refl

  has_prop : (g : List (Post S.Denot)) (seats : List (ℕ × ℕ)) → IsProp (HasAll g seats)
  has_prop g [] = λ x y. refl
  has_prop g (s ∷ seats) = λ x y i. (le_prop x.0 y.0 i, has_prop g seats x.1 y.1 i)

  behind_prop : (g : List (Post S.Denot)) (p : Post S.Denot) → IsProp (IsBehind g p)
  behind_prop g (Act l) = λ x y. refl
  behind_prop g (Stop halt) = has_prop g (behind halt)

  told_set : IsSet (List (List (ℕ × ℕ)))
  told_set = Coded-set (coded_list (coded_list (coded× coded_ℕ coded_ℕ)))

  homed_prop : (home : Option TableId) (p : Post S.Denot) → IsProp (IsHomed home p)
  homed_prop home (Act l) = λ x y i joining chronicle is brings. home_set _ _ (x joining chronicle is brings) (y joining chronicle is brings) i
  homed_prop home (Stop halt) = λ x y. refl

  module _ (home : Option TableId) (taken given : List (Post S.Denot)) where
    -- of what waits, whatever it is
    pub told_next : (at at' : ℕ → List (Post S.Denot)) (place : ℕ) (p : Post S.Denot) → ∥ IsDealt home taken given at ∥₁ → ((k : ℕ) → at k ≡ first_part place k p ++ at' k) → IsNext given p
    told_next at at' place p d shorter = ∥∥₁_elim d (next_prop given p) (λ w. first_next home taken given at at' place p w shorter)

    pub told_homed : (at at' : ℕ → List (Post S.Denot)) (place : ℕ) (p : Post S.Denot) → ∥ IsDealt home taken given at ∥₁ → ((k : ℕ) → at k ≡ first_part place k p ++ at' k) → IsHomed home p
    told_homed at at' place p d shorter = ∥∥₁_elim d (homed_prop home p) (λ w. first_homed home taken given at at' place p w shorter)

    pub told_behind : (at at' : ℕ → List (Post S.Denot)) (place : ℕ) (p : Post S.Denot) → ∥ IsDealt home taken given at ∥₁ → ((k : ℕ) → at k ≡ first_part place k p ++ at' k) → (place ≡ 0 → (k : ℕ) → k ≢ 0 → at k ≡ []) → IsBehind given p
    told_behind at at' place p d shorter last = ∥∥₁_elim d (behind_prop given p) (λ w. first_behind home taken given at at' place p w shorter last)

    module _ (taken' : List (Post S.Denot)) (at at' : ℕ → List (Post S.Denot)) (place : ℕ) (p first : Post S.Denot) (more : taken' ≡ taken ++ p ∷ []) (next : IsNext taken p) (homed : IsHomed home p) (last : IsBehind taken p)
        (moved : (k : ℕ) → at k ++ own_part k p ≡ first_part place k first ++ at' k) (d : ∥ IsDealt home taken given at ∥₁) where
      pub told_next_exchanged : IsNext given first
      told_next_exchanged = ∥∥₁_elim d (next_prop given first) (next_exchanged home taken taken' given at at' place p first more next homed last moved)

      pub told_homed_exchanged : IsHomed home first
      told_homed_exchanged = ∥∥₁_elim d (homed_prop home first) (homed_exchanged home taken taken' given at at' place p first more next homed last moved)

      pub told_behind_exchanged : (place ≡ 0 → (k : ℕ) → k ≢ 0 → at k ++ own_part k p ≡ []) → IsBehind given first
      told_behind_exchanged none = ∥∥₁_elim d (behind_prop given first) (λ w. behind_exchanged home taken taken' given at at' place p first more next homed last moved w none)

    -- where nothing of a seat waits, all that was taken of it was given
    pub all_given : (at : ℕ → List (Post S.Denot)) (k : ℕ) → ∥ IsDealt home taken given at ∥₁ → at k ≡ [] → at_seat k given ≡ at_seat k taken
    all_given at k d none = ∥∥₁_elim d (acts_set _ _) (λ w. sym ((w k).sum ∙ ap (λ l. at_seat k given ++ at_seat k l) none ∙ append-nil (at_seat k given)))

    sum_told : (at : ℕ → List (Post S.Denot)) (k : ℕ) → ∥ IsDealt home taken given at ∥₁ → at_seat k taken ≡ at_seat k given ++ drop (length (at_seat k given)) (at_seat k taken)
    sum_told at k d = ∥∥₁_elim d (acts_set _ _) (λ w.
        let sum = (w k).sum in
        sum ∙ ap (λ l. at_seat k given ++ l) (sym (ap (λ l. drop (length (at_seat k given)) l) sum ∙ drop-append_seam (at_seat k given) (at_seat k (at k)))))

    -- what was given of a seat begins what was posted there
    pub given_begins : (at : ℕ → List (Post S.Denot)) (j k : ℕ) (posted : List (ℕ × the.Act S.Denot)) → ∥ IsDealt home taken given at ∥₁ → k ≡ j → IsPrefix (at_seat k taken) posted → IsPrefix (at_seat j given) posted
    given_begins at j k posted d same begins =
        let rest = drop (length (at_seat k given)) (at_seat k taken) in
        subst (λ n. IsPrefix (at_seat n given) posted) same
        (rest ++ begins.0, sym (append_assoc (at_seat k given) rest begins.0) ∙ (ap (λ l. l ++ begins.0) (sym (sum_told at k d)) ∙ begins.1))

    -- what the stops told that were given begins what the door's told
    pub told_begins : (at : ℕ → List (Post S.Denot)) (told : List (List (ℕ × ℕ))) → ∥ IsDealt home taken given at ∥₁ → IsPrefix (told_by taken) told → IsPrefix (told_by given) told
    told_begins at told d begins =
        let rest = drop (length (told_by given)) (told_by taken) in
        let sum : told_by taken ≡ told_by given ++ rest = ∥∥₁_elim d (told_set _ _) (λ w.
        let sum = (w 0).stops refl in
        sum ∙ ap (λ l. told_by given ++ l) (sym (ap (λ l. drop (length (told_by given)) l) sum ∙ drop-append_seam (told_by given) (told_by (at 0))))) in
        (rest ++ begins.0, sym (append_assoc (told_by given) rest begins.0) ∙ (ap (λ l. l ++ begins.0) (sym sum) ∙ begins.1))
