-- Why a Cut stands in the history.
use Rattle.std.proofs.Common.{◌≡◌, ℕ, Bool, true, false, eqb, ◌||◌, List, [], ◌∷◌, ◌++◌, sym, ap, ◌∙◌}
use Rattle.std.specs.declared.option.Option.{Option}
use Rattle.std.specs.List.{list_any}
use Rattle.std.proofs.Common.{inl, inr}
use Rattle.std.proofs.lemmas.Bool.{eqb-true, or_cases, or_left, or_right}
use Rattle.std.proofs.lemmas.List.Folds.{list_any-append}
use Rattle.realm.specs.declared.entry.Entry.{Entry}
use Rattle.realm.specs.declared.entry.Entry.TheVariants.{Cut}
use Rattle.realm.specs.History.{History, ◌▷◌}
use Rattle.realm.specs.Sessions.{conn_of}
use Rattle.realm_core.specs.Worlds.{is_in}
use Rattle.realm_core.specs.Delivery.{is_cut_of, has_cut}
use Rattle.realm_core.proofs.ItemLists.{is_in-more}

abbrev pub is_of : ℕ → Entry → Bool
is_of c e = eqb (conn_of e) c

abbrev pub HaveCauses : History → List ℕ → List Entry → List Entry → Type 0
HaveCauses h full lost handled =
    (c : ℕ) → has_cut h c ≡ true → is_in c full || list_any (is_of c) lost || list_any (is_cut_of c) handled ≡ true

three : (a b d a' b' d' : Bool) → (a ≡ true → a' ≡ true) → (b ≡ true → b' ≡ true) → (d ≡ true → d' ≡ true) → a || b || d ≡ true → a' || b' || d' ≡ true
three a b d a' b' d' f g k any = elim (or_cases (a || b) d any) [
  | inl ab ↦ elim (or_cases a b ab) [ inl e ↦ or_left (a' || b') d' (or_left a' b' (f e)) | inr e ↦ or_left (a' || b') d' (or_right a' b' (g e)) ]
  | inr e ↦ or_right (a' || b') d' (k e)
]

any-more : (p : Entry → Bool) (xs : List Entry) (e : Entry) → list_any p xs ≡ true → list_any p (xs ++ e ∷ []) ≡ true
any-more p xs e here = list_any-append p xs (e ∷ []) ∙ or_left (list_any p xs) (p e || false) here

any-last : (p : Entry → Bool) (xs : List Entry) (e : Entry) → p e ≡ true → list_any p (xs ++ e ∷ []) ≡ true
any-last p xs e here = list_any-append p xs (e ∷ []) ∙ or_right (list_any p xs) (p e || false) (or_left (p e) false here)

pub causes-handled : (h : History) (full : List ℕ) (lost handled : List Entry) (e : Entry) → HaveCauses h full lost handled → HaveCauses h full lost (handled ++ e ∷ [])
causes-handled h full lost handled e before c cut =
    three (is_in c full) (list_any (is_of c) lost) (list_any (is_cut_of c) handled) (is_in c full) (list_any (is_of c) lost) (list_any (is_cut_of c) (handled ++ e ∷ []))
    (λ x. x) (λ x. x) (any-more (is_cut_of c) handled e) (before c cut)

pub causes-accepted : (h : History) (full : List ℕ) (lost handled : List Entry) (e : Entry) → HaveCauses h full lost handled → HaveCauses (h ▷ e) full lost (handled ++ e ∷ [])
causes-accepted h full lost handled e before c cut = elim (or_cases (is_cut_of c e) (has_cut h c) cut) [
  | inl now ↦ or_right (is_in c full || list_any (is_of c) lost) (list_any (is_cut_of c) (handled ++ e ∷ [])) (any-last (is_cut_of c) handled e now)
  | inr old ↦ causes-handled h full lost handled e before c old
]

pub causes-lost : (h : History) (full : List ℕ) (lost handled : List Entry) (e : Entry) → HaveCauses h full lost handled → HaveCauses h full (lost ++ e ∷ []) (handled ++ e ∷ [])
causes-lost h full lost handled e before c cut =
    three (is_in c full) (list_any (is_of c) lost) (list_any (is_cut_of c) handled) (is_in c full) (list_any (is_of c) (lost ++ e ∷ [])) (list_any (is_cut_of c) (handled ++ e ∷ []))
    (λ x. x) (any-more (is_of c) lost e) (any-more (is_cut_of c) handled e) (before c cut)

pub causes-lost-cut : (h : History) (full : List ℕ) (lost handled : List Entry) (e : Entry) (word : Option ℕ) → HaveCauses h full lost handled → HaveCauses (h ▷ Cut (conn_of e) word) full (lost ++ e ∷ []) (handled ++ e ∷ [])
causes-lost-cut h full lost handled e word before c cut = elim (or_cases (eqb (conn_of e) c) (has_cut h c) cut) [
  | inl now ↦ or_left (is_in c full || list_any (is_of c) (lost ++ e ∷ [])) (list_any (is_cut_of c) (handled ++ e ∷ [])) (or_right (is_in c full) (list_any (is_of c) (lost ++ e ∷ [])) (any-last (is_of c) lost e now))
  | inr old ↦ causes-lost h full lost handled e before c old
]

pub causes-left : (h : History) (full : List ℕ) (lost handled : List Entry) (d : ℕ) (word : Option ℕ) → is_in d full ≡ true → HaveCauses h full lost handled → HaveCauses (h ▷ Cut d word) full lost handled
causes-left h full lost handled d word here before c cut = elim (or_cases (eqb d c) (has_cut h c) cut) [
  | inl now ↦ or_left (is_in c full || list_any (is_of c) lost) (list_any (is_cut_of c) handled) (or_left (is_in c full) (list_any (is_of c) lost) (ap (λ n. is_in n full) (sym (eqb-true d c now)) ∙ here))
  | inr old ↦ before c old
]

pub causes-marked : (h : History) (full : List ℕ) (lost handled : List Entry) (d : ℕ) → HaveCauses h full lost handled → HaveCauses h (full ++ d ∷ []) lost handled
causes-marked h full lost handled d before c cut =
    three (is_in c full) (list_any (is_of c) lost) (list_any (is_cut_of c) handled) (is_in c (full ++ d ∷ [])) (list_any (is_of c) lost) (list_any (is_cut_of c) handled)
    (is_in-more c d full) (λ x. x) (λ x. x) (before c cut)

-- what waits in the inbox was posted too
pub causes-posted : (h : History) (full : List ℕ) (lost handled inbox : List Entry) → HaveCauses h full lost handled → HaveCauses h full lost (handled ++ inbox)
causes-posted h full lost handled inbox before c cut =
    three (is_in c full) (list_any (is_of c) lost) (list_any (is_cut_of c) handled) (is_in c full) (list_any (is_of c) lost) (list_any (is_cut_of c) (handled ++ inbox))
    (λ x. x) (λ x. x) (λ here. list_any-append (is_cut_of c) handled inbox ∙ or_left (list_any (is_cut_of c) handled) (list_any (is_cut_of c) inbox) here) (before c cut)
