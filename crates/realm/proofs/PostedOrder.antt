-- What of the posts entered the history, and in which order.
use Rattle.std.proofs.Common.{◌≡◌, ℕ, Bool, true, false, cond, not, eqb, ◌&&◌, ◌||◌, List, [], ◌∷◌, ◌++◌, refl, sym, ap, subst, ◌∙◌, append-nil, append_assoc, is_some}
use Rattle.std.specs.declared.option.Option.{Option}
use Rattle.std.specs.List.{list_any}
use Rattle.std.proofs.lemmas.Bool.{eqb-true, and_right, false_from_ne_true, false≢true}
use Rattle.std.proofs.lemmas.List.Folds.{list_any-append}
use Rattle.std.proofs.lemmas.List.Elements.{filter-append}
use Rattle.std.proofs.Math.Bool.{or-true}
use Rattle.eligibility.specs.declared.who.Who.{Who}
use Rattle.realm.specs.declared.entry.Entry.{Entry}
use Rattle.realm.specs.declared.entry.Entry.TheVariants.{Join, Cut, Closed}
use Rattle.realm.specs.Grants.{Grants}
use Rattle.realm.specs.History.{History, begun, ◌▷◌}
use Rattle.realm.specs.Sessions.{conn_of, who, live, ends, may_come}
use Rattle.realm.specs.Laws.{BeginsList}
use Rattle.realm.specs.PostedOrder.{is_join, is_cut_or_closed, posts_of, said_by, AreSome, none, left_out, taken_in, joins_first_alone, Ordered}
use Rattle.realm.proofs.Conditionals.{some-before, taken-away}
use Rattle.realm.proofs.LiveSessions.{live-elsewhere}

-- an entry of c
abbrev own : ℕ → Entry → List Entry
own c e = cond (eqb (conn_of e) c) (e ∷ []) []

abbrev own_said : ℕ → Entry → List Entry
own_said c e = cond (eqb (conn_of e) c && not (is_cut_or_closed e)) (e ∷ []) []

posts_of-last : (c : ℕ) (es : List Entry) (e : Entry) → posts_of c (es ++ e ∷ []) ≡ posts_of c es ++ own c e
posts_of-last c es e = filter-append (λ x. eqb (conn_of x) c) es (e ∷ [])

joins-last : (c : ℕ) (es : List Entry) (e : Entry) → joins_first_alone (posts_of c (es ++ e ∷ [])) ≡ true → joins_first_alone (posts_of c es ++ own c e) ≡ true
joins-last c es e joins = ap joins_first_alone (sym (posts_of-last c es e)) ∙ joins

some-none : (ys : List Entry) → AreSome [] ys
some-none [] = none
some-none (y ∷ ys) = left_out (some-none ys)

pub some-more : (xs ys zs : List Entry) → AreSome xs ys → AreSome xs (ys ++ zs)
some-more xs ys zs none = some-none zs
some-more xs ys zs (left_out s) = left_out (some-more _ _ zs s)
some-more xs ys zs (taken_in s) = taken_in (some-more _ _ zs s)

some-both : (xs ys : List Entry) (e : Entry) → AreSome xs ys → AreSome (xs ++ e ∷ []) (ys ++ e ∷ [])
some-both xs ys e none = taken_in none
some-both xs ys e (left_out s) = left_out (some-both _ _ e s)
some-both xs ys e (taken_in s) = taken_in (some-both _ _ e s)

some-one : (xs ys : List Entry) (e : Entry) (a b : Bool) → AreSome xs ys → AreSome (xs ++ cond (a && b) (e ∷ []) []) (ys ++ cond a (e ∷ []) [])
some-one xs ys e true true s = some-both xs ys e s
some-one xs ys e true false s = subst (λ l. AreSome l (ys ++ e ∷ [])) (sym (append-nil xs)) (some-more xs ys (e ∷ []) s)
some-one xs ys e false b s = subst (λ l. AreSome l (ys ++ [])) (sym (append-nil xs)) (some-more xs ys [] s)

-- what holds of a list holds of its beginnings
pub joins-before : (xs ys : List Entry) → joins_first_alone (xs ++ ys) ≡ true → joins_first_alone xs ≡ true
joins-before [] ys all = refl
joins-before (x ∷ xs) ys all = at (is_join x) (list_any is_join xs) (list_any is_join ys) (sym (ap (λ b. is_join x && not b) (list_any-append is_join xs ys)) ∙ all)
  where
    at : (a b d : Bool) → a && not (b || d) ≡ true → a && not b ≡ true
    at true true d e = absurd (cc)
    at true false d e = refl
    at false b d e = absurd (cc)

-- a Join is the first, and what isn't one isn't
first-join : (xs : List Entry) (e : Entry) → is_join e ≡ true → joins_first_alone (xs ++ e ∷ []) ≡ true → xs ≡ []
first-join [] e join all = refl
first-join (x ∷ xs) e join all = absurd (at (is_join x) (list_any is_join xs) (is_join e) join (sym (ap (λ b. is_join x && not b) (list_any-append is_join xs (e ∷ []))) ∙ all))
  where
    at : (a b d : Bool) → d ≡ true → a && not (b || (d || false)) ≡ true → ⊥
    at true true d join e = cc
    at true false true join e = cc
    at true false false join e = cc
    at false b d join e = cc

begins-nil : (xs ys : List Entry) → BeginsList xs ys → ys ≡ [] → xs ≡ []
begins-nil [] ys b nil = refl
begins-nil (x ∷ xs) ys b nil = let e : ◌≡◌ {A = List Entry} [] (x ∷ (xs ++ b.0)) = sym nil ∙ b.1 in absurd (cc)

begins-more : (xs ys zs : List Entry) → BeginsList xs ys → BeginsList xs (ys ++ zs)
begins-more xs ys zs b = (b.0 ++ zs, ap (λ l. l ++ zs) b.1 ∙ append_assoc xs b.0 zs)

-- a Cut or a Closed ends its session
dead-after : (h : History) (e : Entry) (c : ℕ) → is_cut_or_closed e ≡ true → eqb (conn_of e) c ≡ true → live (h ▷ e) c ≡ false
unfolding who
dead-after h (Closed d word) c is here = taken-away (eqb d c) (who h c) here
dead-after h (Cut d word) c is here = taken-away (eqb d c) (who h c) here
dead-after h e c is here = absurd (cc)

-- a Cut or a Closed is said by nobody
pub said-kept : (c : ℕ) (h : History) (e : Entry) → is_cut_or_closed e ≡ true → said_by c (h ▷ e) ≡ said_by c h
said-kept c h e is = ap (λ b. said_by c h ++ cond b (e ∷ []) []) (and_right (eqb (conn_of e) c) (not (is_cut_or_closed e)) (ap not is)) ∙ append-nil (said_by c h)

-- a live session said its Join
said-joined : (h : History) (c : ℕ) → live h c ≡ true → list_any is_join (said_by c h) ≡ true
unfolding who
said-joined (begun grants) c is_live = absurd (cc)
said-joined (h ▷ Join d word authid) c is_live = list_any-append is_join (said_by c h) (own_said c (Join d word authid)) ∙ at (eqb d c) _ (said-joined h c) is_live
  where
    at : (b : Bool) (o : Option Who) → (live h c ≡ true → list_any is_join (said_by c h) ≡ true) → is_some (cond b o (who h c)) ≡ true
        → list_any is_join (said_by c h) || list_any is_join (cond (b && true) (Join d word authid ∷ []) []) ≡ true
    at true o before is = or-true (list_any is_join (said_by c h))
    at false o before is = ap (λ b. b || false) (before is)
said-joined (h ▷ e) c is_live =
    list_any-append is_join (said_by c h) (own_said c e) ∙ ap (λ b. b || list_any is_join (own_said c e)) (said-joined h c (some-before (ends e c) (who h c) is_live))

join-said : (e : Entry) → is_join e ≡ true → is_cut_or_closed e ≡ false
join-said (Join c word authid) join = refl
join-said e join = absurd (cc)

come-live : (h : History) (e : Entry) → is_join e ≡ false → may_come h e ≡ live h (conn_of e)
come-live h (Join c word authid) other = absurd (cc)
come-live h e other = refl

pub order-begun : (grants : Grants) → Ordered (begun grants) []
unfolding who
order-begun grants = record { some = λ c. none; begins = λ c joins. ([], refl); all = λ c joins is_live. refl }

-- the entry enters
pub order-accepted : (h : History) (handled : List Entry) (e : Entry) → Ordered h handled → may_come h e ≡ true → Ordered (h ▷ e) (handled ++ e ∷ [])
order-accepted h handled e before come = record {
  some = λ c. subst (AreSome (said_by c (h ▷ e))) (sym (posts_of-last c handled e)) (some-one (said_by c h) (posts_of c handled) e (eqb (conn_of e) c) (not (is_cut_or_closed e)) (before.some c));
  begins = λ c joins. subst (BeginsList (said_by c (h ▷ e))) (sym (posts_of-last c handled e)) (begins c (eqb (conn_of e) c) refl (joins-last c handled e joins));
  all = λ c joins is_live. all c (eqb (conn_of e) c) refl (joins-last c handled e joins) is_live ∙ sym (posts_of-last c handled e);
}
  where
    -- an entry of c: all of its posts entered so far
    same : (c : ℕ) → eqb (conn_of e) c ≡ true → joins_first_alone (posts_of c handled ++ e ∷ []) ≡ true → said_by c h ≡ posts_of c handled
    same c here joins = at (is_join e) refl
      where
        at : (b : Bool) → is_join e ≡ b → said_by c h ≡ posts_of c handled
        at true join =
            let nothing : posts_of c handled ≡ [] = first-join (posts_of c handled) e join joins in
            begins-nil (said_by c h) (posts_of c handled) (before.begins c (joins-before (posts_of c handled) (e ∷ []) joins)) nothing ∙ sym nothing
        at false other =
            let conn : conn_of e ≡ c = eqb-true (conn_of e) c here in
            before.all c (joins-before (posts_of c handled) (e ∷ []) joins) (sym (ap (live h) conn) ∙ sym (come-live h e other) ∙ come)

    begins : (c : ℕ) (b : Bool) → eqb (conn_of e) c ≡ b → joins_first_alone (posts_of c handled ++ cond b (e ∷ []) []) ≡ true
        → BeginsList (said_by c h ++ cond (b && not (is_cut_or_closed e)) (e ∷ []) []) (posts_of c handled ++ cond b (e ∷ []) [])
    begins c false elsewhere joins =
        let old = before.begins c (joins-before (posts_of c handled) [] joins) in
        (old.0, append-nil (posts_of c handled) ∙ old.1 ∙ ap (λ l. l ++ old.0) (sym (append-nil (said_by c h))))
    begins c true here joins = at (is_cut_or_closed e)
      where
        at : (k : Bool) → BeginsList (said_by c h ++ cond (not k) (e ∷ []) []) (posts_of c handled ++ e ∷ [])
        at true = (e ∷ [], ap (λ l. l ++ e ∷ []) (sym (same c here joins) ∙ sym (append-nil (said_by c h))))
        at false = ([], ap (λ l. l ++ e ∷ []) (sym (same c here joins)) ∙ sym (append-nil (said_by c h ++ e ∷ [])))

    all : (c : ℕ) (b : Bool) → eqb (conn_of e) c ≡ b → joins_first_alone (posts_of c handled ++ cond b (e ∷ []) []) ≡ true → live (h ▷ e) c ≡ true
        → said_by c h ++ cond (b && not (is_cut_or_closed e)) (e ∷ []) [] ≡ posts_of c handled ++ cond b (e ∷ []) []
    all c false elsewhere joins is_live =
        ap (λ l. l ++ []) (before.all c (joins-before (posts_of c handled) [] joins) (sym (live-elsewhere h e c elsewhere) ∙ is_live))
    all c true here joins is_live = at (is_cut_or_closed e) refl
      where
        at : (k : Bool) → is_cut_or_closed e ≡ k → said_by c h ++ cond (not k) (e ∷ []) [] ≡ posts_of c handled ++ e ∷ []
        at true kills = let dead : live (h ▷ e) c ≡ false = dead-after h e c kills here in absurd (cc)
        at false kills = ap (λ l. l ++ e ∷ []) (same c here joins)

-- the entry does not enter, and its session isn't live
pub order-unused : (h : History) (handled : List Entry) (e : Entry) → Ordered h handled
    → ((c : ℕ) → eqb (conn_of e) c ≡ true → joins_first_alone (posts_of c handled ++ e ∷ []) ≡ true → live h c ≡ false) → Ordered h (handled ++ e ∷ [])
order-unused h handled e before dead = record {
  some = λ c. subst (AreSome (said_by c h)) (sym (posts_of-last c handled e)) (some-more (said_by c h) (posts_of c handled) (own c e) (before.some c));
  begins = λ c joins. subst (BeginsList (said_by c h)) (sym (posts_of-last c handled e)) (begins-more (said_by c h) (posts_of c handled) (own c e) (before.begins c (joins-before (posts_of c handled) (own c e) (joins-last c handled e joins))));
  all = λ c joins is_live. all c (eqb (conn_of e) c) refl (joins-last c handled e joins) is_live ∙ sym (posts_of-last c handled e);
}
  where
    all : (c : ℕ) (b : Bool) → eqb (conn_of e) c ≡ b → joins_first_alone (posts_of c handled ++ cond b (e ∷ []) []) ≡ true → live h c ≡ true → said_by c h ≡ posts_of c handled ++ cond b (e ∷ []) []
    all c false elsewhere joins is_live = before.all c (joins-before (posts_of c handled) [] joins) is_live ∙ sym (append-nil (posts_of c handled))
    all c true here joins is_live = let gone : live h c ≡ false = dead c here joins in absurd (cc)

pub order-dropped : (h : History) (handled : List Entry) (e : Entry) → Ordered h handled → may_come h e ≡ false → Ordered h (handled ++ e ∷ [])
order-dropped h handled e before refused = order-unused h handled e before (λ c here joins. at c here joins (is_join e) refl)
  where
    at : (c : ℕ) → eqb (conn_of e) c ≡ true → joins_first_alone (posts_of c handled ++ e ∷ []) ≡ true → (b : Bool) → is_join e ≡ b → live h c ≡ false
    at c here joins true join = false_from_ne_true (live h c) (λ is. false≢true (ap (list_any is_join) (sym silent) ∙ said-joined h c is))
      where
        silent : said_by c h ≡ []
        silent = begins-nil (said_by c h) (posts_of c handled) (before.begins c (joins-before (posts_of c handled) (e ∷ []) joins)) (first-join (posts_of c handled) e join joins)
    at c here joins false other =
        let conn : conn_of e ≡ c = eqb-true (conn_of e) c here in
        ap (live h) (sym conn) ∙ sym (come-live h e other) ∙ refused

pub order-lost : (h : History) (handled : List Entry) (e : Entry) → Ordered h handled → live h (conn_of e) ≡ false → Ordered h (handled ++ e ∷ [])
order-lost h handled e before dead = order-unused h handled e before (λ c here joins. ap (live h) (sym (eqb-true (conn_of e) c here)) ∙ dead)

pub order-cut : (h : History) (handled : List Entry) (c : ℕ) (word : Option ℕ) → Ordered h handled → Ordered (h ▷ Cut c word) handled
order-cut h handled c word before = record {
  some = λ d. subst (λ l. AreSome l (posts_of d handled)) (sym (same d)) (before.some d);
  begins = λ d joins. subst (λ l. BeginsList l (posts_of d handled)) (sym (same d)) (before.begins d joins);
  all = λ d joins is_live. same d ∙ before.all d joins (still d (eqb c d) refl is_live);
}
  where
    same : (d : ℕ) → said_by d (h ▷ Cut c word) ≡ said_by d h
    same d = said-kept d h (Cut c word) refl

    still : (d : ℕ) (b : Bool) → eqb c d ≡ b → live (h ▷ Cut c word) d ≡ true → live h d ≡ true
    still d true here is_live = let dead : live (h ▷ Cut c word) d ≡ false = dead-after h (Cut c word) d refl here in absurd (cc)
    still d false elsewhere is_live = sym (live-elsewhere h (Cut c word) d elsewhere) ∙ is_live

-- the entry is lost, and its session is cut
pub order-lost-cut : (h : History) (handled : List Entry) (e : Entry) (word : Option ℕ) → Ordered h handled → Ordered (h ▷ Cut (conn_of e) word) (handled ++ e ∷ [])
order-lost-cut h handled e word before =
    order-unused (h ▷ Cut (conn_of e) word) handled e (order-cut h handled (conn_of e) word before) (λ c here joins. dead-after h (Cut (conn_of e) word) c refl here)
