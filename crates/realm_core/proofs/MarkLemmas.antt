-- Who was found full, and who is marked, after each kind of change.
use Rattle.std.proofs.Common.{◌≡◌, ℕ, Bool, true, false, cond, eqb, ◌||◌, List, [], ◌∷◌, ◌++◌, refl, sym, ap, subst, ◌∙◌, Option, is_some, inl, inr}
use Rattle.std.specs.Prelude.{◌⊎◌}
use Rattle.std.specs.List.{list_any, filter}
use Rattle.std.specs.Result.{result_ok}
use Rattle.std.proofs.lemmas.Bool.{eqb-true, eq-eqb, or_cases, or_left, or_right, false_from_ne_true}
use Rattle.std.proofs.lemmas.List.Folds.{list_any-append}
use Rattle.std.proofs.lemmas.List.Elements.{filter-append}
use Rattle.std.proofs.Math.Bool.{and-false}
use Rattle.wamp_messages.specs.declared.item.Item.{Item}
use Rattle.eligibility.specs.declared.who.Who.{Who}
use Rattle.realm.specs.declared.entry.Entry.{Entry}
use Rattle.realm.specs.declared.entry.Entry.TheVariants.{Join, Cut}
use Rattle.realm.specs.History.{History, ◌▷◌}
use Rattle.realm.specs.Sessions.{who, live, ends, joined, conn_of, admission, may_join, may_come}
use Rattle.realm.specs.Yield.{yield}
use Rattle.realm.specs.Given.{items_for, GivesExactly}
use Rattle.realm.proofs.Lemmas.{clash, not-some, some-before, live-joined, no_more, no_events}
use Rattle.realm_core.specs.Worlds.{is_in}
use Rattle.realm_core.specs.body.Marks.{conns_of, MarksAgree, NoneJoinsAgain}

-- who has an item isn't left out
has-item : (c : ℕ) (xs : List (ℕ × Item)) → is_in c (conns_of xs) ≡ true → items_for c xs ≡ [] → ⊥
has-item c [] here none = absurd (cc)
has-item c (x ∷ xs) here none = at (eqb x.0 c) here none (has-item c xs)
  where
    at : (b : Bool) → b || is_in c (conns_of xs) ≡ true → cond b (x.1 ∷ items_for c xs) (items_for c xs) ≡ [] → (is_in c (conns_of xs) ≡ true → items_for c xs ≡ [] → ⊥) → ⊥
    at true some empty rest = cc
    at false some empty rest = rest some empty

-- an entry of another gives nothing to who isn't live
nothing-to : (h : History) (e : Entry) (c : ℕ) → live h c ≡ false → eqb (conn_of e) c ≡ false → yield h e c ≡ []
unfolding yield
nothing-to h e c dead elsewhere = rw (elsewhere, no_events h e c (not-some (who h c) dead) elsewhere) refl

-- whoever gets an item of an entry is live, or the entry is its own
gets : (h : History) (e : Entry) (given : List (ℕ × Item)) (c : ℕ) → GivesExactly h e given → is_in c (conns_of given) ≡ true → (live h c ≡ true) ⊎ (conn_of e ≡ c)
gets h e given c gives there = at (live h c) refl (eqb (conn_of e) c) refl
  where
    at : (b : Bool) → live h c ≡ b → (own : Bool) → eqb (conn_of e) c ≡ own → (live h c ≡ true) ⊎ (conn_of e ≡ c)
    at true is own own_is = inl is
    at false is true own_is = inr (eqb-true (conn_of e) c own_is)
    at false is false own_is = absurd (has-item c given there (gives.each c ∙ nothing-to h e c is own_is))

-- an entry that may come is of one who is live, or who may join
own-comes : (h : History) (e : Entry) (c : ℕ) → conn_of e ≡ c → may_come h e ≡ true → (live h c ≡ true) ⊎ (may_join h c ≡ true)
own-comes h (Join d word authid) c same come = inr (ap (may_join h) (sym same) ∙ come)
own-comes h e c same come = inl (ap (live h) (sym same) ∙ come)

gets-comes : (h : History) (e : Entry) (given : List (ℕ × Item)) (c : ℕ) → may_come h e ≡ true → GivesExactly h e given → is_in c (conns_of given) ≡ true
    → (live h c ≡ true) ⊎ (may_join h c ≡ true)
gets-comes h e given c come gives there = elim (gets h e given c gives there) [ inl is ↦ inl is | inr own ↦ own-comes h e c own come ]

-- whoever is live after an entry was so before, or might join
lived : (h : History) (e : Entry) (c : ℕ) → may_come h e ≡ true → live (h ▷ e) c ≡ true → (live h c ≡ true) ⊎ (may_join h c ≡ true)
unfolding who
lived h (Join d word authid) c come is = at (result_ok (admission h d word authid)) (eqb d c) refl is
  where
    at : (o : Option Who) (b : Bool) → eqb d c ≡ b → is_some (cond b o (who h c)) ≡ true → (live h c ≡ true) ⊎ (may_join h c ≡ true)
    at o true same after = inr (ap (may_join h) (sym (eqb-true d c same)) ∙ come)
    at o false other after = inl after
lived h e c come is = inl (some-before (ends e c) (who h c) is)

-- a Cut makes nobody live
lived-cut : (h : History) (d c : ℕ) (word : Option ℕ) → live (h ▷ Cut d word) c ≡ true → live h c ≡ true
unfolding who
lived-cut h d c word is = some-before (eqb d c) (who h c) is

-- those of a list that pass
pub in-passing : (p : ℕ → Bool) (c : ℕ) (xs : List ℕ) → p c ≡ true → is_in c (filter p xs) ≡ is_in c xs
in-passing p c [] passes = refl
in-passing p c (x ∷ xs) passes = at (p x) refl (eqb x c) refl (in-passing p c xs passes)
  where
    at : (b : Bool) → p x ≡ b → (own : Bool) → eqb x c ≡ own → is_in c (filter p xs) ≡ is_in c xs → is_in c (cond b (x ∷ filter p xs) (filter p xs)) ≡ own || is_in c xs
    at true is own own_is rest = ap (λ b. b || is_in c (filter p xs)) own_is ∙ ap (λ b. own || b) rest
    at false is true own_is rest = clash (p x) (ap p (eqb-true x c own_is) ∙ passes) is
    at false is false own_is rest = rest

none-passes : (p : ℕ → Bool) (xs : List ℕ) → ((c : ℕ) → is_in c xs ≡ true → p c ≡ false) → filter p xs ≡ []
none-passes p [] none = refl
none-passes p (x ∷ xs) none =
    let first : p x ≡ false = none x (or_left (eqb x x) (is_in x xs) (eq-eqb x x refl)) in
    ap (λ b. cond b (x ∷ filter p xs) (filter p xs)) first ∙ none-passes p xs (λ c here. none c (or_right (eqb x c) (is_in c xs) here))

-- to pass the stronger test after the weaker one is to pass it
stronger : (p q : ℕ → Bool) (xs : List ℕ) → ((c : ℕ) → q c ≡ true → p c ≡ true) → filter q (filter p xs) ≡ filter q xs
stronger p q [] implies = refl
stronger p q (x ∷ xs) implies = at (p x) refl (q x) refl (stronger p q xs implies)
  where
    at : (b : Bool) → p x ≡ b → (d : Bool) → q x ≡ d → filter q (filter p xs) ≡ filter q xs → filter q (cond b (x ∷ filter p xs) (filter p xs)) ≡ cond d (x ∷ filter q xs) (filter q xs)
    at true is d d_is rest = ap (λ b. cond b (x ∷ filter q (filter p xs)) (filter q (filter p xs))) d_is ∙ ap (λ l. cond d (x ∷ l) l) rest
    at false is true d_is rest = clash (p x) (implies x d_is) is
    at false is false d_is rest = rest

-- where none that was found full is live, whoever is live or might join was not found full
fresh : (h : History) (full : List ℕ) (c : ℕ) → filter (live h) full ≡ [] → NoneJoinsAgain h full → (live h c ≡ true) ⊎ (may_join h c ≡ true) → is_in c full ≡ false
fresh h full c none again known = elim known [
  | inl is ↦ sym (in-passing (live h) c full is) ∙ ap (is_in c) none
  | inr may ↦ false_from_ne_true (is_in c full) (λ here. clash (may_join h c) may (again c here))
]

-- an entry is accepted: nobody is marked then
pub marks-accepted : (h : History) (e : Entry) (given : List (ℕ × Item)) (full : List ℕ)
    → filter (live h) full ≡ [] → NoneJoinsAgain h full → may_come h e ≡ true → GivesExactly h e given → MarksAgree (h ▷ e) given full []
marks-accepted h e given full none again come gives = record {
  still_live = none-passes (live (h ▷ e)) full (λ c here. false_from_ne_true (live (h ▷ e) c) (λ is. clash (is_in c full) here (fresh h full c none again (lived h e c come is))));
  pushed = λ c there. fresh h full c none again (gets-comes h e given c come gives there);
}

-- a session is cut
pub marks-cut : (h : History) (d : ℕ) (word : Option ℕ) (before given : List (ℕ × Item)) (full marks : List ℕ)
    → live h d ≡ true → GivesExactly h (Cut d word) given → MarksAgree h before full marks → MarksAgree (h ▷ Cut d word) given full marks
marks-cut h d word before given full marks is_live gives m = record {
  still_live =
      sym (stronger (live h) (live (h ▷ Cut d word)) full (λ c. lived-cut h d c word)) ∙ ap (filter (live (h ▷ Cut d word))) m.still_live
      ∙ stronger (live h) (live (h ▷ Cut d word)) marks (λ c. lived-cut h d c word);
  pushed = λ c there. same c (elim (gets h (Cut d word) given c gives there) [ inl is ↦ is | inr own ↦ ap (live h) (sym own) ∙ is_live ]);
}
  where
    same : (c : ℕ) → live h c ≡ true → is_in c full ≡ is_in c marks
    same c is = sym (in-passing (live h) c full is) ∙ ap (is_in c) m.still_live ∙ in-passing (live h) c marks is

-- the same of what is equal
pub marked-as : (h k : History) (p q : List (ℕ × Item)) (full m n : List ℕ) → k ≡ h → q ≡ p → n ≡ m → MarksAgree h p full m → MarksAgree k q full n
marked-as h k p q full m n history items marks agree =
    subst (λ x. MarksAgree x q full n) (sym history) (subst (λ l. MarksAgree h l full n) (sym items) (subst (λ l. MarksAgree h p full l) (sym marks) agree))

-- the first item is pushed
pub marks-first : (h : History) (pushing rest : List (ℕ × Item)) (x : ℕ × Item) (full marks : List ℕ) → pushing ≡ x ∷ rest → MarksAgree h pushing full marks → is_in x.0 full ≡ is_in x.0 marks
marks-first h pushing rest x full marks front m = m.pushed x.0 (ap (λ l. is_in x.0 (conns_of l)) front ∙ or_left (eqb x.0 x.0) (is_in x.0 (conns_of rest)) (eq-eqb x.0 x.0 refl))

pub marks-rest : (h : History) (pushing rest : List (ℕ × Item)) (x : ℕ × Item) (full marks : List ℕ) → pushing ≡ x ∷ rest → MarksAgree h pushing full marks → MarksAgree h rest full marks
marks-rest h pushing rest x full marks front m = record {
  still_live = m.still_live;
  pushed = λ c there. m.pushed c (ap (λ l. is_in c (conns_of l)) front ∙ or_right (eqb x.0 c) (is_in c (conns_of rest)) there);
}

-- and found full
pub marks-more : (h : History) (rest : List (ℕ × Item)) (c : ℕ) (full marks : List ℕ) → MarksAgree h rest full marks → MarksAgree h rest (full ++ c ∷ []) (marks ++ c ∷ [])
marks-more h rest c full marks m = record {
  still_live = filter-append (live h) full (c ∷ []) ∙ ap (λ l. l ++ filter (live h) (c ∷ [])) m.still_live ∙ sym (filter-append (live h) marks (c ∷ []));
  pushed = λ d there.
      list_any-append (λ x. eqb x d) full (c ∷ []) ∙ ap (λ b. b || is_in d (c ∷ [])) (m.pushed d there) ∙ sym (list_any-append (λ x. eqb x d) marks (c ∷ []));
}

-- Whoever was found full, or has an item that waits to be pushed, has joined, and so joins no more.
pub record HaveJoined (h : History) (full : List ℕ) (pushing : List (ℕ × Item)) : Type 0 where
  pub found : NoneJoinsAgain h full
  pub pushed : (c : ℕ) → is_in c (conns_of pushing) ≡ true → may_join h c ≡ false

never-again : (h : History) (e : Entry) (c : ℕ) → may_join h c ≡ false → may_join (h ▷ e) c ≡ false
never-again h (Join d word authid) c none = rw none (and-false _)
never-again h e c none = none

live-no-more : (h : History) (c : ℕ) → live h c ≡ true → may_join h c ≡ false
live-no-more h c is = no_more (joined h) c (live-joined h c is)

-- after its own entry too
own-no-more : (h : History) (e : Entry) (c : ℕ) → conn_of e ≡ c → may_come h e ≡ true → may_join (h ▷ e) c ≡ false
own-no-more h (Join d word authid) c same come = no_more (d ∷ joined h) c (or_left (eqb d c) (list_any (λ x. eqb x c) (joined h)) (eq-eqb d c same))
own-no-more h e c same come = never-again h e c (live-no-more h c (ap (live h) (sym same) ∙ come))

pub joined-enters : (h : History) (e : Entry) (full : List ℕ) (before given : List (ℕ × Item))
    → may_come h e ≡ true → GivesExactly h e given → HaveJoined h full before → HaveJoined (h ▷ e) full given
joined-enters h e full before given come gives j = record {
  found = λ c here. never-again h e c (j.found c here);
  pushed = λ c there. elim (gets h e given c gives there) [ inl is ↦ never-again h e c (live-no-more h c is) | inr own ↦ own-no-more h e c own come ];
}

pub joined-rest : (h : History) (full : List ℕ) (pushing rest : List (ℕ × Item)) (x : ℕ × Item) → pushing ≡ x ∷ rest → HaveJoined h full pushing → HaveJoined h full rest
joined-rest h full pushing rest x front j = record {
  found = j.found;
  pushed = λ c there. j.pushed c (ap (λ l. is_in c (conns_of l)) front ∙ or_right (eqb x.0 c) (is_in c (conns_of rest)) there);
}

pub joined-more : (h : History) (full : List ℕ) (pushing rest : List (ℕ × Item)) (c : ℕ) (item : Item) → pushing ≡ (c, item) ∷ rest → HaveJoined h full pushing → HaveJoined h (full ++ c ∷ []) rest
joined-more h full pushing rest c item front j = record {
  found = λ d here. elim (or_cases (is_in d full) (is_in d (c ∷ [])) (sym (list_any-append (λ x. eqb x d) full (c ∷ [])) ∙ here)) [
    | inl before ↦ j.found d before
    | inr now ↦ j.pushed d (ap (λ l. is_in d (conns_of l)) front ∙ first d now)
  ];
  pushed = (joined-rest h full pushing rest (c, item) front j).pushed;
}
  where
    first : (d : ℕ) → eqb c d || false ≡ true → eqb c d || is_in d (conns_of rest) ≡ true
    first d now = elim (or_cases (eqb c d) false now) [ inl same ↦ or_left (eqb c d) (is_in d (conns_of rest)) same | inr never ↦ absurd (cc) ]
