-- Each step of an inbox keeps its rule.
use Rattle.std.proofs.Common.{◌≡◌, ◌≢◌, ◌⊎◌, inl, inr, ⊎_elim, ℕ, zero, suc, ◌+◌, ◌<◌, true, cond, eqb, eq-eqb, ne_eqb, List, [], ◌∷◌, ◌++◌, length, set, sym, refl, ap, ◌∙◌, subst, arith, append_assoc, le_of_eq}
use Rattle.std.proofs.lemmas.List.{append-nil}
use Rattle.std.proofs.Math.Nat.{add_assoc, add-zero}
use Rattle.std.specs.Prelude.{Option, None}
use Rattle.atomic_table.specs.Seated.{TableId}
use mathlib.Core.Option.{some, some-injective, some-ne-none}
use lib.ListN.{get_elem?}
use Rattle.atomic_table.proofs.Lists.{at_set}
use Rattle.crossbeam_channel.specs.Fifo.{Pushes, Pops, Forks, Merges, Learns}
use Rattle.wamp_ids.specs.Numbers.{seat_of}
use Rattle.realm_inbox.specs.declared.act.Act as the
use Rattle.realm_inbox.specs.declared.letter.Halt.{Halt}
use Rattle.realm_inbox.specs.declared.letter.Letter.{Letter}
use Rattle.realm_inbox.specs.declared.letter.Post.{Post}
use Rattle.realm_inbox.specs.declared.letter.Post.TheVariants.{Act, Stop}
use Rattle.realm_inbox.specs.declared.rule.InboxView.{InboxView}
use Rattle.realm_inbox.specs.declared.rule.InboxView.TheVariants.{Reader, Seat, Door, Both, Shown, Heard, Nobody}
use Rattle.realm_inbox.specs.Seats.{before, adds_at, at_seat, IsNext, InOrder, BringsHome, IsHomed, EachHomed}
use Rattle.realm_inbox.specs.Behind.{behind, HasAll, IsBehind, EachBehind, told_by}
use Rattle.realm_inbox.proofs.PostLists.{at_seat_append, at_seat_snoc, adds_here, adds_elsewhere, in_order_snoc, homed_snoc, HasMore, more_append, has_more, has_snoc, each_behind_snoc, told_append, told_snoc}
use Rattle.realm_inbox.specs.InTurn.{fresh, new_door, after_post, after_stop, nobody, Agrees, AgreesWith, Receipt, dealt, Fits, Keeps}

module _ {A : Type 0} where
  -- a fact of each place of a list and of what stands there
  abbrev Stand : (ℕ → A → Type 0) → List A → Type 0
  Stand F xs = (place : ℕ) (x : A) → get_elem? xs place ≡ some x → F place x

  -- one member is put in the place of another: the new fact is shown of it, and of each other by the old one
  changed : (F G : ℕ → A → Type 0) (xs : List A) (at : ℕ) (new : A) → Stand F xs → G at new → ((place : ℕ) (x : A) → place ≢ at → F place x → G place x) → Stand G (set xs at new)
  changed F G [] at new old mine others place x e = absurd (some-ne-none x (sym e))
  changed F G (y ∷ ys) zero new old mine others zero x e = subst (λ z. G 0 z) (some-injective new x e) mine
  changed F G (y ∷ ys) zero new old mine others (suc place) x e = others (suc place) x (λ h. omega arith) (old (suc place) x e)
  changed F G (y ∷ ys) (suc at) new old mine others zero x e = others 0 x (λ h. omega arith) (old 0 x e)
  changed F G (y ∷ ys) (suc at) new old mine others (suc place) x e =
      changed (λ k. F (suc k)) (λ k. G (suc k)) ys at new (λ k. old (suc k)) mine (λ k z n f. others (suc k) z (λ h. n (omega (arith, h))) f) place x e

  -- one member more, behind the others
  joined : (F : ℕ → A → Type 0) (xs : List A) (new : A) → Stand F xs → F (length xs) new → Stand F (xs ++ new ∷ [])
  joined F [] new old mine zero x e = subst (λ z. F 0 z) (some-injective new x e) mine
  joined F [] new old mine (suc place) x e = absurd (some-ne-none x (sym e))
  joined F (y ∷ ys) new old mine zero x e = old 0 x e
  joined F (y ∷ ys) new old mine (suc place) x e = joined (λ k. F (suc k)) ys new (λ k. old (suc k)) mine place x e

  nothing_behind : (xs ys : List A) → xs ++ ys ≡ [] → ys ≡ []
  nothing_behind [] ys e = e
  nothing_behind (x ∷ xs) ys e = absurd (omega (arith, ap length e))

-- the pass of the seat k, once it has another
owner_here : (owner : ℕ → ℕ) (k new : ℕ) → new ≡ cond (eqb k k) new (owner k)
owner_here owner k new = sym (ap (λ b. cond b new (owner k)) (eq-eqb k k refl))

-- the numbers but k have their passes
abbrev pub AllBut : ℕ → (ℕ → ℕ) → (ℕ → ℕ) → Type 0
AllBut k owner owner' = (i : ℕ) → i ≢ k → owner' i ≡ owner i

moved_alone : (owner : ℕ → ℕ) (k new : ℕ) → AllBut k owner (λ i. cond (eqb i k) new (owner i))
moved_alone owner k new i n = ap (λ b. cond b new (owner i)) (ne_eqb i k n)

module _ {S : Type 0} where
  -- a view still fits where neither its seat nor, if it is the door's, what the stops tell has grown
  fits_all : (home : Option TableId) (got all all' : List (Post S)) (owner : ℕ → ℕ) (reader next j : ℕ) (u : InboxView S) → HasMore all all' → ((k : ℕ) → j ≡ owner k → at_seat k all' ≡ at_seat k all) → (j ≡ owner 0 → told_by all' ≡ told_by all)
      → Fits (dealt home got all owner reader next) j u → Fits (dealt home got all' owner reader next) j u
  fits_all home got all all' owner reader next j (Reader b n r) more same stops f = f
  fits_all home got all all' owner reader next j (Seat b k posted) more same stops f = (f.0, f.1, f.2 ∙ sym (same k f.0), f.3)
  fits_all home got all all' owner reader next j (Door b seen told) more same stops f = (f.0, f.1, f.2 ∙ sym (stops f.0), has_more all all' seen more f.3, f.4)
  fits_all home got all all' owner reader next j (Both b n r c k posted) more same stops f = (f.0, f.1, f.2, f.3 ∙ sym (same k f.1), f.4)
  fits_all home got all all' owner reader next j (Shown b seen told c k posted) more same stops f =
      ((f.0.0, f.0.1, f.0.2 ∙ sym (stops f.0.0), has_more all all' seen more f.0.3, f.0.4), f.1, f.2, f.3 ∙ sym (same k f.1), f.4)
  fits_all home got all all' owner reader next j (Heard b n r c seen told) more same stops f = (f.0, f.1, f.2, f.3 ∙ sym (stops f.1), has_more all all' seen more f.4, f.5)
  fits_all home got all all' owner reader next j Nobody more same stops f = tt

  pub begins : Keeps {S = S} [] (fresh ∷ [])
  begins = record {
    home = None;
    got = [];
    owner = λ k. 0;
    reader = 0;
    next = 0;
    each_view = joined (Fits (dealt None [] [] (λ k. 0) 0 0)) [] fresh (λ j u e. absurd (some-ne-none u (sym e))) (refl, refl, refl, refl);
    no_post = λ k h. refl;
    no_stop = λ e. refl;
    in_order = tt;
    homed = tt;
    behind = tt;
  }

  pub posts_seat : (b : Option TableId) (n pass k : ℕ) (posted : List (ℕ × the.Act S)) (l : Letter S) → seat_of l.conn ≡ k → before l ≡ posted → BringsHome b l.act → Pushes Keeps n pass (Seat b k posted) (Act l) (λ w. w ≡ after_post (Seat b k posted) (Act l))
  posts_seat b n pass k posted l here told own items views room h at =
      let mine = h.each_view pass (Seat b k posted) at in
      let w : InboxView S = Seat b k (posted ++ adds_at k (Act l)) in
      let all : List (Post S) = h.got ++ items in
      let all' : List (Post S) = h.got ++ (items ++ Act l ∷ []) in
      let grown : all' ≡ all ++ Act l ∷ [] = sym (append_assoc h.got items (Act l ∷ [])) in
      let more : (j : ℕ) → at_seat j all' ≡ at_seat j all ++ adds_at j (Act l) = λ j. ap (λ t. at_seat j t) grown ∙ at_seat_snoc j all (Act l) in
      let same : (j : ℕ) → seat_of l.conn ≢ j → at_seat j all' ≡ at_seat j all = λ j n. more j ∙ ap (λ t. at_seat j all ++ t) (adds_elsewhere j l n) ∙ append-nil (at_seat j all) in
      let no_more : told_by all' ≡ told_by all = ap (λ t. told_by t) grown ∙ told_snoc all (Act l) ∙ append-nil (told_by all) in
      let grows : HasMore all all' = subst (λ t. HasMore all t) (sym grown) (more_append all (Act l ∷ [])) in
      let F = Fits (dealt h.home h.got all h.owner h.reader h.next) in let G = Fits (dealt h.home h.got all' h.owner h.reader h.next) in (
        w,
        record {
          home = h.home;
          got = h.got;
          owner = h.owner;
          reader = h.reader;
          next = h.next;
          each_view = changed F G views pass w h.each_view (mine.0, mine.1, ap (λ t. t ++ adds_at k (Act l)) mine.2 ∙ sym (more k), mine.3)
              (λ j u other f. fits_all h.home h.got all all' h.owner h.reader h.next j u grows (λ i at_i. same i (λ e'. other (at_i ∙ ap h.owner (sym e' ∙ here) ∙ sym mine.0))) (λ _. no_more) f);
          no_post = λ j le. same j (λ e. absurd (omega (arith, e, here, mine.1))) ∙ h.no_post j le;
          no_stop = λ e. absurd (omega (arith, e, mine.1));
          in_order = in_order_snoc h.got items (Act l) h.in_order (told ∙ mine.2 ∙ ap (λ i. at_seat i all) (sym here));
          homed = homed_snoc h.home items (Act l) h.homed (subst (λ c. BringsHome c l.act) mine.3 own);
          behind = each_behind_snoc h.got items (Act l) h.behind tt;
        },
        refl,
      )

  pub stops_door : (b : Option TableId) (n pass : ℕ) (seen : List (ℕ × ℕ)) (told : List (List (ℕ × ℕ))) (halt : Halt) → behind halt ≡ seen → Pushes (Keeps {S = S}) n pass (Door b seen told) (Stop halt) (λ w. w ≡ after_stop (Door b seen told))
  stops_door b n pass seen told halt tells items views room h at =
      let mine = h.each_view pass (Door b seen told) at in
      let w : InboxView S = Door b seen (told ++ seen ∷ []) in
      let all : List (Post S) = h.got ++ items in
      let all' : List (Post S) = h.got ++ (items ++ Stop halt ∷ []) in
      let grown : all' ≡ all ++ Stop halt ∷ [] = sym (append_assoc h.got items (Stop halt ∷ [])) in
      let same : (j : ℕ) → at_seat j all' ≡ at_seat j all = λ j. ap (λ t. at_seat j t) grown ∙ at_seat_snoc j all (Stop halt) ∙ append-nil (at_seat j all) in
      let more : told_by all' ≡ told_by all ++ seen ∷ [] = ap (λ t. told_by t) grown ∙ told_snoc all (Stop halt) ∙ ap (λ s. told_by all ++ s ∷ []) tells in
      let grows : HasMore all all' = subst (λ t. HasMore all t) (sym grown) (more_append all (Stop halt ∷ [])) in
      let F = Fits (dealt h.home h.got all h.owner h.reader h.next) in let G = Fits (dealt h.home h.got all' h.owner h.reader h.next) in (
        w,
        record {
          home = h.home;
          got = h.got;
          owner = h.owner;
          reader = h.reader;
          next = h.next;
          each_view = changed F G views pass w h.each_view (mine.0, mine.1, ap (λ t. t ++ seen ∷ []) mine.2 ∙ sym more, has_more all all' seen grows mine.3, mine.4)
              (λ j u other f. fits_all h.home h.got all all' h.owner h.reader h.next j u grows (λ i at_i. same i) (λ door. absurd (other (door ∙ sym mine.0))) f);
          no_post = λ j le. same j ∙ h.no_post j le;
          no_stop = λ e. absurd (omega (arith, e, mine.1));
          in_order = in_order_snoc h.got items (Stop halt) h.in_order tt;
          homed = homed_snoc h.home items (Stop halt) h.homed tt;
          behind = each_behind_snoc h.got items (Stop halt) h.behind (subst (λ s. HasAll all s) (sym tells) mine.3);
        },
        refl,
      )

  -- the other views, where the reader got one more
  fits_got : (home : Option TableId) (got got' all all' : List (Post S)) (owner : ℕ → ℕ) (reader next j : ℕ) (u : InboxView S) → j ≢ reader → all' ≡ all → Fits (dealt home got all owner reader next) j u → Fits (dealt home got' all' owner reader next) j u
  fits_got home got got' all all' owner reader next j (Reader b n r) other is f = absurd (other f.0)
  fits_got home got got' all all' owner reader next j (Seat b k posted) other is f = (f.0, f.1, f.2 ∙ ap (λ t. at_seat k t) (sym is), f.3)
  fits_got home got got' all all' owner reader next j (Door b seen told) other is f = (f.0, f.1, f.2 ∙ ap (λ t. told_by t) (sym is), subst (λ t. HasAll t seen) (sym is) f.3, f.4)
  fits_got home got got' all all' owner reader next j (Both b n r c k posted) other is f = absurd (other f.0.0)
  fits_got home got got' all all' owner reader next j (Shown b seen told c k posted) other is f =
      ((f.0.0, f.0.1, f.0.2 ∙ ap (λ t. told_by t) (sym is), subst (λ t. HasAll t seen) (sym is) f.0.3, f.0.4), f.1, f.2, f.3 ∙ ap (λ t. at_seat k t) (sym is), f.4)
  fits_got home got got' all all' owner reader next j (Heard b n r c seen told) other is f = absurd (other f.0.0)
  fits_got home got got' all all' owner reader next j Nobody other is f = tt

  pub receives_reader : (b : Option TableId) (pass n : ℕ) (r : List (Post S)) → Pops Keeps pass (Reader b n r) (λ x w. Receipt (Reader b n r) x w)
  receives_reader b pass n r x items views h at =
      let mine = h.each_view pass (Reader b n r) at in
      let w : InboxView S = Reader b n (r ++ x ∷ []) in
      let got' : List (Post S) = h.got ++ x ∷ [] in
      let is : got' ++ items ≡ h.got ++ (x ∷ items) = append_assoc h.got (x ∷ []) items in
      let F = Fits (dealt h.home h.got (h.got ++ (x ∷ items)) h.owner h.reader h.next) in let G = Fits (dealt h.home got' (got' ++ items) h.owner h.reader h.next) in (
        w,
        record {
          home = h.home;
          got = got';
          owner = h.owner;
          reader = h.reader;
          next = h.next;
          each_view = changed F G views pass w h.each_view (mine.0, mine.1, ap (λ t. t ++ x ∷ []) mine.2, mine.3)
              (λ j u other f. fits_got h.home h.got got' (h.got ++ (x ∷ items)) (got' ++ items) h.owner h.reader h.next j u (λ e. other (e ∙ sym mine.0)) is f);
          no_post = λ k le. ap (λ t. at_seat k t) is ∙ h.no_post k le;
          no_stop = λ e. ap (λ t. told_by t) is ∙ h.no_stop e;
          in_order = h.in_order.1;
          homed = h.homed.1;
          behind = h.behind.1;
        },
        (refl, subst (λ t. IsNext t x) (sym mine.2) h.in_order.0, subst (λ c. IsHomed c x) (sym mine.3) h.homed.0, subst (λ t. IsBehind t x) (sym mine.2) h.behind.0),
      )

  -- the other views, where the next number was cut, and the chronicle perhaps picked
  fits_cut : (home now : Option TableId) (got all : List (Post S)) (owner : ℕ → ℕ) (reader next new j : ℕ) (u : InboxView S) → ((k : ℕ) → k < next → now ≡ home) → j ≢ reader → Fits (dealt home got all owner reader next) j u → Fits (dealt now got all (λ k. cond (eqb k next) new (owner k)) reader (next + 1)) j u
  fits_cut home now got all owner reader next new j (Reader b n r) moved other f = absurd (other f.0)
  fits_cut home now got all owner reader next new j (Seat b k posted) moved other f =
      (f.0 ∙ ap (λ b. cond b new (owner k)) (sym (ne_eqb k next (λ e. absurd (omega (arith, e, f.1))))), omega (arith, f.1), f.2, f.3 ∙ sym (moved k f.1))
  fits_cut home now got all owner reader next new j (Door b seen told) moved other f =
      (f.0 ∙ ap (λ b. cond b new (owner 0)) (sym (ne_eqb 0 next (λ e. absurd (omega (arith, e, f.1))))), omega (arith, f.1), f.2, f.3, f.4 ∙ sym (moved 0 f.1))
  fits_cut home now got all owner reader next new j (Both b n r c k posted) moved other f = absurd (other f.0.0)
  fits_cut home now got all owner reader next new j (Shown b seen told c k posted) moved other f = (
    (f.0.0 ∙ ap (λ b. cond b new (owner 0)) (sym (ne_eqb 0 next (λ e. absurd (omega (arith, e, f.0.1))))), omega (arith, f.0.1), f.0.2, f.0.3, f.0.4 ∙ sym (moved 0 f.0.1)),
    f.1 ∙ ap (λ b. cond b new (owner k)) (sym (ne_eqb k next (λ e. absurd (omega (arith, e, f.2))))),
    omega (arith, f.2),
    f.3,
    f.4 ∙ sym (moved k f.2),
  )
  fits_cut home now got all owner reader next new j (Heard b n r c seen told) moved other f = absurd (other f.0.0)
  fits_cut home now got all owner reader next new j Nobody moved other f = tt

  -- where nothing stands at any seat, no post is a Join
  none_brings : (home : Option TableId) (ps : List (Post S)) → ((k : ℕ) → at_seat k ps ≡ []) → EachHomed home ps
  none_brings home [] none = tt
  none_brings home (Act l ∷ ps) none =
      absurd (omega (arith, ap length (ap (λ t. t ++ at_seat (seat_of l.conn) ps) (sym (adds_here (seat_of l.conn) l refl)) ∙ none (seat_of l.conn))))
  none_brings home (Stop halt ∷ ps) none = (tt, none_brings home ps none)

  -- a view is cut for the next number, which fits where nothing was posted under it; before the first number is, the chronicle is picked
  cuts_next : (b now : Option TableId) (pass n : ℕ) (r : List (Post S)) (v : InboxView S) → (n ≡ 0) ⊎ (now ≡ b)
      → ((got all : List (Post S)) (owner : ℕ → ℕ) (reader j : ℕ) → owner n ≡ j → at_seat n all ≡ [] → (n ≡ 0 → told_by all ≡ []) → Fits (dealt now got all owner reader (n + 1)) j v)
      → Forks Keeps pass (Reader b n r) (Reader now (n + 1) r) v
  cuts_next b now pass n r v moves fits items views h at =
      let mine = h.each_view pass (Reader b n r) at in
      let all : List (Post S) = h.got ++ items in
      let left : InboxView S = Reader now (n + 1) r in
      let vs : List (InboxView S) = set views pass left in
      let owner' : ℕ → ℕ = λ k. cond (eqb k h.next) (length vs) (h.owner k) in
      let here : eqb n h.next ≡ true = eq-eqb n h.next mine.1 in
      let moved : (k : ℕ) → k < h.next → now ≡ h.home = λ k below. ⊎_elim (λ (zero : n ≡ 0). absurd (omega (arith, zero, mine.1, below))) (λ (same : now ≡ b). same ∙ mine.3) moves in
      let F = Fits (dealt h.home h.got all h.owner h.reader h.next) in let G = Fits (dealt now h.got all owner' h.reader (h.next + 1)) in
      let old = changed F G views pass left h.each_view (mine.0, ap (λ t. t + 1) mine.1, mine.2, refl)
      (λ j u other f. fits_cut h.home now h.got all h.owner h.reader h.next (length vs) j u moved (λ e. other (e ∙ sym mine.0)) f) in
      let new : Fits (dealt now h.got all owner' h.reader (n + 1)) (length vs) v =
      fits h.got all owner' h.reader (length vs) (ap (λ c. cond c (length vs) (h.owner n)) here) (h.no_post n (omega (arith, mine.1))) (λ e. h.no_stop (sym mine.1 ∙ e)) in
      record {
        home = now;
        got = h.got;
        owner = owner';
        reader = h.reader;
        next = h.next + 1;
        each_view = joined G vs v old (subst (λ k. Fits (dealt now h.got all owner' h.reader k) (length vs) v) (ap (λ t. t + 1) mine.1) new);
        no_post = λ k le. h.no_post k (omega (arith, le));
        no_stop = λ e. absurd (omega (arith, e));
        in_order = h.in_order;
        behind = h.behind;
        homed =
            ⊎_elim (λ (zero : n ≡ 0). none_brings now items (λ k. nothing_behind (at_seat k h.got) (at_seat k items) (sym (at_seat_append k h.got items) ∙ h.no_post k (omega (arith, zero, mine.1)))))
            (λ (same : now ≡ b). subst (λ c. EachHomed c items) (sym (same ∙ mine.3)) h.homed) moves;
      }

  pub cuts_seat : (b : Option TableId) (pass n : ℕ) (r : List (Post S)) → Forks Keeps pass (Reader b n r) (Reader b (n + 1) r) (Seat b n [])
  cuts_seat b pass n r = cuts_next b b pass n r (Seat b n []) (inr refl) (λ got all owner reader j own none no. (sym own, omega arith, sym none, refl))

  pub cuts_new_door : (b home : Option TableId) (pass : ℕ) (r : List (Post S)) → Forks Keeps pass (Reader b 0 r) (Reader home 1 r) (new_door home)
  cuts_new_door b home pass r = cuts_next b home pass 0 r (new_door home) (inl refl) (λ got all owner reader j own none no. (sym own, omega arith, sym (no refl), tt, refl))

  -- the other views, where the seat k has another pass
  fits_moved : (home : Option TableId) (got all : List (Post S)) (owner : ℕ → ℕ) (reader next k new j : ℕ) (u : InboxView S) → j ≢ owner k → Fits (dealt home got all owner reader next) j u
      → Fits (dealt home got all (λ i. cond (eqb i k) new (owner i)) reader next) j u
  fits_moved home got all owner reader next k new j (Reader b n r) other f = f
  fits_moved home got all owner reader next k new j (Seat b i posted) other f =
      (f.0 ∙ ap (λ b. cond b new (owner i)) (sym (ne_eqb i k (λ e. other (f.0 ∙ ap owner e)))), f.1, f.2, f.3)
  fits_moved home got all owner reader next k new j (Door b seen told) other f =
      (f.0 ∙ ap (λ b. cond b new (owner 0)) (sym (ne_eqb 0 k (λ e. other (f.0 ∙ ap owner e)))), f.1, f.2, f.3, f.4)
  fits_moved home got all owner reader next k new j (Both b n r c i posted) other f =
      (f.0, f.1 ∙ ap (λ b. cond b new (owner i)) (sym (ne_eqb i k (λ e. other (f.1 ∙ ap owner e)))), f.2, f.3, f.4)
  fits_moved home got all owner reader next k new j (Shown b seen told c i posted) other f = (
    (f.0.0 ∙ ap (λ b. cond b new (owner 0)) (sym (ne_eqb 0 k (λ e. other (f.0.0 ∙ ap owner e)))), f.0.1, f.0.2, f.0.3, f.0.4),
    f.1 ∙ ap (λ b. cond b new (owner i)) (sym (ne_eqb i k (λ e. other (f.1 ∙ ap owner e)))),
    f.2,
    f.3,
    f.4,
  )
  fits_moved home got all owner reader next k new j (Heard b n r c seen told) other f =
      (f.0, f.1 ∙ ap (λ b. cond b new (owner 0)) (sym (ne_eqb 0 k (λ e. other (f.1 ∙ ap owner e)))), f.2, f.3, f.4, f.5)
  fits_moved home got all owner reader next k new j Nobody other f = tt

  -- a view that can be lent: it fits the pass of the number k, and fits any other pass that k has then
  abbrev pub Lent : ℕ → InboxView S → Type 0
  Lent k u = (home : Option TableId) (got all : List (Post S)) (owner : ℕ → ℕ) (reader next pass : ℕ) → Fits (dealt home got all owner reader next) pass u
      → (pass ≡ owner k) × ((owner' : ℕ → ℕ) (pass' : ℕ) → pass' ≡ owner' k → Fits (dealt home got all owner' reader next) pass' u)

  pub seat_lent : (c : Option TableId) (k : ℕ) (posted : List (ℕ × the.Act S)) → Lent k (Seat c k posted)
  seat_lent c k posted home got all owner reader next pass f = (f.0, λ owner' pass' e. (e, f.1, f.2, f.3))

  pub door_lent : (c : Option TableId) (seen : List (ℕ × ℕ)) (told : List (List (ℕ × ℕ))) → Lent 0 (Door c seen told)
  door_lent c seen told home got all owner reader next pass f = (f.0, λ owner' pass' e. (e, f.1, f.2, f.3, f.4))

  -- what is left of v where u goes
  abbrev pub Leaves : ℕ → InboxView S → InboxView S → Type 0
  Leaves k v left = (home : Option TableId) (got all : List (Post S)) (owner owner' : ℕ → ℕ) (reader next pass : ℕ) → AllBut k owner owner' → Fits (dealt home got all owner reader next) pass v → Fits (dealt home got all owner' reader next) pass left

  -- a view that has another in it gives that to a new pass
  gives_lent : (pass k : ℕ) (u v left : InboxView S) → Lent k u
      → ((home : Option TableId) (got all : List (Post S)) (owner : ℕ → ℕ) (reader next : ℕ) → Fits (dealt home got all owner reader next) pass v → Fits (dealt home got all owner reader next) pass u)
      → Leaves k v left → Forks Keeps pass v left u
  gives_lent pass k u v left lent own rest items views h at =
      let all : List (Post S) = h.got ++ items in
      let vs : List (InboxView S) = set views pass left in
      let owner' : ℕ → ℕ = λ i. cond (eqb i k) (length vs) (h.owner i) in
      let fits = h.each_view pass v at in
      let mine = lent h.home h.got all h.owner h.reader h.next pass (own h.home h.got all h.owner h.reader h.next fits) in
      let F = Fits (dealt h.home h.got all h.owner h.reader h.next) in
      let G = Fits (dealt h.home h.got all owner' h.reader h.next) in
      let old = changed F G views pass left h.each_view (rest h.home h.got all h.owner owner' h.reader h.next pass (moved_alone h.owner k (length vs)) fits)
      (λ j w apart f. fits_moved h.home h.got all h.owner h.reader h.next k (length vs) j w (λ e. apart (e ∙ sym mine.0)) f) in
      record {
        home = h.home;
        got = h.got;
        owner = owner';
        reader = h.reader;
        next = h.next;
        each_view = joined G vs u old (mine.1 owner' (length vs) (owner_here h.owner k (length vs)));
        no_post = h.no_post;
        no_stop = h.no_stop;
        in_order = h.in_order;
        homed = h.homed;
        behind = h.behind;
      }

  -- a view takes in another
  takes_lent : (pass other k : ℕ) (u v both : InboxView S) → Lent k u
      → ((home : Option TableId) (got all : List (Post S)) (owner owner' : ℕ → ℕ) (reader next : ℕ) → AllBut k owner owner' → Fits (dealt home got all owner reader next) pass v → Fits (dealt home got all owner' reader next) pass u → Fits (dealt home got all owner' reader next) pass both)
      → Merges Keeps pass v other u both nobody
  takes_lent pass other k u v both lent fit items views h at two at' =
      let all : List (Post S) = h.got ++ items in
      let vs : List (InboxView S) = set views pass both in
      let owner' : ℕ → ℕ = λ i. cond (eqb i k) pass (h.owner i) in
      let was : get_elem? views other ≡ some u = ⊎_elim (λ x. absurd (two x.0)) (λ x. x.1) (at_set views pass other both u at') in
      let theirs = lent h.home h.got all h.owner h.reader h.next other (h.each_view other u was) in
      let F = Fits (dealt h.home h.got all h.owner h.reader h.next) in
      let G = Fits (dealt h.home h.got all owner' h.reader h.next) in
      let H : ℕ → InboxView S → Type 0 = λ j w. j ≢ other → G j w in
      let here : G pass both = fit h.home h.got all h.owner owner' h.reader h.next (moved_alone h.owner k pass) (h.each_view pass v at) (theirs.1 owner' pass (owner_here h.owner k pass)) in
      let now = changed F H views pass both h.each_view (λ _. here)
      (λ j w apart f far. fits_moved h.home h.got all h.owner h.reader h.next k pass j w (λ e. far (e ∙ sym theirs.0)) f) in
      record {
        home = h.home;
        got = h.got;
        owner = owner';
        reader = h.reader;
        next = h.next;
        each_view = changed H G vs other nobody now tt (λ j w apart g. g apart);
        no_post = h.no_post;
        no_stop = h.no_stop;
        in_order = h.in_order;
        homed = h.homed;
        behind = h.behind;
      }

  -- a view is lent
  pub lends : (pass k : ℕ) (u : InboxView S) → Lent k u → Forks Keeps pass u nobody u
  lends pass k u lent = gives_lent pass k u u nobody lent (λ home got all owner reader next f. f) (λ home got all owner owner' reader next p rest f. tt)

  -- and comes back
  pub returns : (pass other k : ℕ) (u : InboxView S) → Lent k u → Merges Keeps pass nobody other u u nobody
  returns pass other k u lent = takes_lent pass other k u nobody u lent (λ home got all owner owner' reader next rest f own. own)

  -- the reader takes a seat's view in
  pub merges_seat : (b : Option TableId) (pass n : ℕ) (r : List (Post S)) (other : ℕ) (c : Option TableId) (k : ℕ) (posted : List (ℕ × the.Act S)) → Merges Keeps pass (Reader b n r) other (Seat c k posted) (Both b n r c k posted) nobody
  merges_seat b pass n r other c k posted =
      takes_lent pass other k (Seat c k posted) (Reader b n r) (Both b n r c k posted) (seat_lent c k posted) (λ home got all owner owner' reader next rest f own. (f, own.0, own.1, own.2, own.3))

  -- and lets it go
  pub forks_seat : (b : Option TableId) (pass n : ℕ) (r : List (Post S)) (c : Option TableId) (k : ℕ) (posted : List (ℕ × the.Act S)) → Forks Keeps pass (Both b n r c k posted) (Reader b n r) (Seat c k posted)
  forks_seat b pass n r c k posted =
      gives_lent pass k (Seat c k posted) (Both b n r c k posted) (Reader b n r) (seat_lent c k posted) (λ home got all owner reader next f. (f.1, f.2, f.3, f.4)) (λ home got all owner owner' reader next p rest f. f.0)

  -- the reader takes the door's view in
  pub merges_door : (b : Option TableId) (pass n : ℕ) (r : List (Post S)) (other : ℕ) (c : Option TableId) (seen : List (ℕ × ℕ)) (told : List (List (ℕ × ℕ))) → Merges Keeps pass (Reader b n r) other (Door c seen told) (Heard b n r c seen told) nobody
  merges_door b pass n r other c seen told =
      takes_lent pass other 0 (Door c seen told) (Reader b n r) (Heard b n r c seen told) (door_lent c seen told) (λ home got all owner owner' reader next rest f own. (f, own.0, own.1, own.2, own.3, own.4))

  -- and lets it go
  pub forks_door : (b : Option TableId) (pass n : ℕ) (r : List (Post S)) (c : Option TableId) (seen : List (ℕ × ℕ)) (told : List (List (ℕ × ℕ))) → Forks Keeps pass (Heard b n r c seen told) (Reader b n r) (Door c seen told)
  forks_door b pass n r c seen told =
      gives_lent pass 0 (Door c seen told) (Heard b n r c seen told) (Reader b n r) (door_lent c seen told) (λ home got all owner reader next f. (f.1, f.2, f.3, f.4, f.5)) (λ home got all owner owner' reader next p rest f. f.0)

  -- the door takes a seat's view in
  pub shows_seat : (b : Option TableId) (pass : ℕ) (seen : List (ℕ × ℕ)) (told : List (List (ℕ × ℕ))) (other : ℕ) (c : Option TableId) (k : ℕ) (posted : List (ℕ × the.Act S)) → k ≢ 0
      → Merges Keeps pass (Door b seen told) other (Seat c k posted) (Shown b seen told c k posted) nobody
  shows_seat b pass seen told other c k posted seat =
      takes_lent pass other k (Seat c k posted) (Door b seen told) (Shown b seen told c k posted) (seat_lent c k posted)
      (λ home got all owner owner' reader next rest f own. ((f.0 ∙ sym (rest 0 (λ e. seat (sym e))), f.1, f.2, f.3, f.4), own.0, own.1, own.2, own.3))

  -- and has seen, once it lets it go, how many acts had been posted there
  pub sees_seat : (b : Option TableId) (pass : ℕ) (seen : List (ℕ × ℕ)) (told : List (List (ℕ × ℕ))) (c : Option TableId) (k : ℕ) (posted : List (ℕ × the.Act S)) → k ≢ 0
      → Forks Keeps pass (Shown b seen told c k posted) (Door b (seen ++ (k, length posted) ∷ []) told) (Seat c k posted)
  sees_seat b pass seen told c k posted seat =
      gives_lent pass k (Seat c k posted) (Shown b seen told c k posted) (Door b (seen ++ (k, length posted) ∷ []) told) (seat_lent c k posted) (λ home got all owner reader next f. (f.1, f.2, f.3, f.4))
      (λ home got all owner owner' reader next p rest f. (f.0.0 ∙ sym (rest 0 (λ e. seat (sym e))), f.0.1, f.0.2, has_snoc all seen (k, length posted) f.0.3 (le_of_eq (ap length f.3)), f.0.4))

  -- what both know
  pub learns_both : (b : Option TableId) (pass n : ℕ) (r : List (Post S)) (c : Option TableId) (k : ℕ) (posted : List (ℕ × the.Act S)) → Learns Keeps pass (Both b n r c k posted) (λ items. Agrees (Both b n r c k posted))
  learns_both b pass n r c k posted items views h at =
      let mine = h.each_view pass (Both b n r c k posted) at in
      (at_seat k items, ap (λ t. at_seat k t ++ at_seat k items) mine.0.2 ∙ sym (at_seat_append k h.got items) ∙ sym mine.3)

  -- where the channel is known, both know what waits of the seat
  pub learns_rest : (b : Option TableId) (pass n : ℕ) (r : List (Post S)) (c : Option TableId) (k : ℕ) (posted : List (ℕ × the.Act S)) → Learns Keeps pass (Both b n r c k posted) (λ items. AgreesWith (Both b n r c k posted) items)
  learns_rest b pass n r c k posted items views h at =
      let mine = h.each_view pass (Both b n r c k posted) at in
      mine.3 ∙ at_seat_append k h.got items ∙ ap (λ t. at_seat k t ++ at_seat k items) (sym mine.0.2)

  -- what the reader and the door know
  pub learns_heard : (b : Option TableId) (pass n : ℕ) (r : List (Post S)) (c : Option TableId) (seen : List (ℕ × ℕ)) (told : List (List (ℕ × ℕ))) → Learns Keeps pass (Heard b n r c seen told) (λ items. Agrees (Heard b n r c seen told))
  learns_heard b pass n r c seen told items views h at =
      let mine = h.each_view pass (Heard b n r c seen told) at in
      (told_by items, ap (λ t. told_by t ++ told_by items) mine.0.2 ∙ sym (told_append h.got items) ∙ sym mine.3)

  -- the reader receives, with a seat's view beside its own
  pub receives_both : (b : Option TableId) (pass n : ℕ) (r : List (Post S)) (c : Option TableId) (k : ℕ) (posted : List (ℕ × the.Act S)) → Pops Keeps pass (Both b n r c k posted) (λ x w. Receipt (Both b n r c k posted) x w)
  receives_both b pass n r c k posted x items views h at =
      let mine = h.each_view pass (Both b n r c k posted) at in
      let w : InboxView S = Both b n (r ++ x ∷ []) c k posted in
      let got' : List (Post S) = h.got ++ x ∷ [] in
      let is : got' ++ items ≡ h.got ++ (x ∷ items) = append_assoc h.got (x ∷ []) items in
      let F = Fits (dealt h.home h.got (h.got ++ (x ∷ items)) h.owner h.reader h.next) in let G = Fits (dealt h.home got' (got' ++ items) h.owner h.reader h.next) in (
        w,
        record {
          home = h.home;
          got = got';
          owner = h.owner;
          reader = h.reader;
          next = h.next;
          each_view = changed F G views pass w h.each_view ((mine.0.0, mine.0.1, ap (λ t. t ++ x ∷ []) mine.0.2, mine.0.3), mine.1, mine.2, mine.3 ∙ ap (λ t. at_seat k t) (sym is), mine.4)
              (λ j u other f. fits_got h.home h.got got' (h.got ++ (x ∷ items)) (got' ++ items) h.owner h.reader h.next j u (λ e. other (e ∙ sym mine.0.0)) is f);
          no_post = λ i le. ap (λ t. at_seat i t) is ∙ h.no_post i le;
          no_stop = λ e. ap (λ t. told_by t) is ∙ h.no_stop e;
          in_order = h.in_order.1;
          homed = h.homed.1;
          behind = h.behind.1;
        },
        (refl, subst (λ t. IsNext t x) (sym mine.0.2) h.in_order.0, subst (λ i. IsHomed i x) (sym mine.0.3) h.homed.0, subst (λ t. IsBehind t x) (sym mine.0.2) h.behind.0),
      )
