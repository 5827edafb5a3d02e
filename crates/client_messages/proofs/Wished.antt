-- What a key finds among wishes, and how deep wishes nest.
use Rattle.std.proofs.Common.{◌≡◌, ◌≢◌, ◌≤◌, ℕ, List, [], ◌∷◌, Option, Some, None, Bool, true, false, cond, refl, ap, sym, ◌∙◌, arith, nat_cmp, codes}
use Rattle.std.specs.Prelude.{pos, map, ◌^◌}
use Rattle.std.proofs.lemmas.Bool.{lt-ltb}
use Rattle.std.specs.List.{AllByRecursion}
use Rattle.std.specs.Str.{bytes_eq}
use Rattle.wamp_ids.specs.Numbers.{IsId}
use Rattle.session.specs.ToClient.{number}
use Rattle.std.specs.Cmp.Lexicographic.{slice_cmp}
use Rattle.std.proofs.lemmas.Slice.Eq.{bytes_eq-Decides}
use Rattle.message_tree.specs.Data.{Data, Entries, no_entries, entry, put, find_entry, depth, items_depth, entries_depth}
use Rattle.message_tree.proofs.Lemmas.{whichever}
use Rattle.message_tree.proofs.Entries.{find_entry-put, find_entry-put-other}
use Rattle.eligibility.specs.Lists.{audience_of}
use Rattle.eligibility.specs.Options.{each_of, flag_or, number_of, text_of, list_or_none, with_first, some_list}
use Rattle.wamp_ids.specs.declared.pattern.Policy as policies
use Rattle.wamp_ids.specs.declared.pattern.Policy.TheVariants as policy
use Rattle.client_messages.specs.Wishes.{AreIds, put_some, put_lists, flag_wish, policy_wish, exclude_me_wish, integers, numbers, numbers_wish, texts, texts_wish, ids_in, authids_in, authroles_in, subscribe_options, publish_options, wished_audience}
use Rattle.client_messages.specs.declared.wishes.SubscribeWishes.{SubscribeWishes}
use Rattle.client_messages.specs.declared.wishes.PublishWishes.{PublishWishes}

-- an option, where it is wished
abbrev pub Wish : Type 0
Wish = List ℕ × Option Data

abbrev pub put_all : List Wish → Entries
put_all [] = no_entries
put_all (w ∷ ws) = put_some w.0 w.1 (put_all ws)

abbrev pub first_of : Option Data → Option Data → Option Data
first_of None later = later
first_of (Some d) later = Some d

abbrev pub wished : List ℕ → List Wish → Option Data
wished key [] = None
wished key (w ∷ ws) = cond (bytes_eq key w.0) (first_of w.1 (wished key ws)) (wished key ws)

same : (j k : List ℕ) → bytes_eq j k ≡ true → j ≡ k
same j k h = (bytes_eq-Decides j k).0 h

apart : (j k : List ℕ) → bytes_eq j k ≡ false → j ≢ k
apart j k h e = let f : true ≡ false = sym ((bytes_eq-Decides j k).1 e) ∙ h in cc

found : (b : Bool) (j k : List ℕ) (d : Data) (es : Entries) → bytes_eq j k ≡ b → find_entry j (put k d es) ≡ cond b (Some d) (find_entry j es)
found true j k d es h = ap (λ l. find_entry l (put k d es)) (same j k h) ∙ find_entry-put k d es
found false j k d es h = find_entry-put-other j k d es (apart j k h)

nothing : (b : Bool) (o : Option Data) → o ≡ cond b o o
nothing true o = refl
nothing false o = refl

-- a key finds what is wished for it
pub find_entry-put_all : (j : List ℕ) (ws : List Wish) → find_entry j (put_all ws) ≡ wished j ws
unfolding put_some
find_entry-put_all j [] = refl
find_entry-put_all j ((k, None) ∷ ws) = find_entry-put_all j ws ∙ nothing (bytes_eq j k) (wished j ws)
find_entry-put_all j ((k, Some d) ∷ ws) = found (bytes_eq j k) j k d (put_all ws) refl ∙ ap (cond (bytes_eq j k) (Some d)) (find_entry-put_all j ws)

pub first_of-None : (d : Option Data) → first_of d None ≡ d
first_of-None None = refl
first_of-None (Some d) = refl

abbrev pub IsShallow : ℕ → Option Data → Type 0
IsShallow n None = Unit {0}
IsShallow n (Some d) = depth d ≤ n

abbrev pub AreShallow : ℕ → List Wish → Type 0
AreShallow n [] = Unit {0}
AreShallow n (w ∷ ws) = IsShallow n w.1 × AreShallow n ws

depth-put : (n : ℕ) (k : List ℕ) (d : Data) (es : Entries) → depth d ≤ n → entries_depth es ≤ n → entries_depth (put k d es) ≤ n
depth-put n k d no_entries new old = omega arith
depth-put n k d (entry l e es) new old =
    whichever (λ x. entries_depth x ≤ n) (slice_cmp nat_cmp k l) (entry k d (entry l e es)) (entry l d es) (entry l e (put k d es))
    (omega arith) (omega arith) (let rest : entries_depth (put k d es) ≤ n = depth-put n k d es new (omega arith) in omega arith)

pub depth-put_all : (n : ℕ) (ws : List Wish) → AreShallow n ws → entries_depth (put_all ws) ≤ n
unfolding put_some
depth-put_all n [] h = omega arith
depth-put_all n ((k, None) ∷ ws) h = depth-put_all n ws h.1
depth-put_all n ((k, Some d) ∷ ws) h = depth-put n k d (put_all ws) h.0 (depth-put_all n ws h.1)

pub depth-texts : (ts : List (List ℕ)) → items_depth (texts ts) ≤ 0
depth-texts [] = omega arith
depth-texts (t ∷ ts) = omega (arith, depth-texts ts)

pub shallow-texts : (ts : Option (List (List ℕ))) → IsShallow 1 (texts_wish ts)
shallow-texts None = tt
shallow-texts (Some ts) = omega (arith, depth-texts ts)

pub depth-numbers : (ns : List ℕ) → items_depth (numbers ns) ≤ 0
depth-numbers [] = omega arith
depth-numbers (n ∷ ns) = omega (arith, depth-numbers ns)

pub shallow-numbers : (ns : Option (List ℕ)) → IsShallow 1 (numbers_wish ns)
shallow-numbers None = tt
shallow-numbers (Some ns) = omega (arith, depth-numbers ns)

each_of-texts : (ts : List (List ℕ)) → each_of text_of (texts ts) ≡ Some ts
each_of-texts [] = refl
each_of-texts (t ∷ ts) = ap (with_first (Some t)) (each_of-texts ts)

-- a list of texts is read as it was wished
pub list_or_none-texts : (ts : Option (List (List ℕ))) → list_or_none text_of (texts_wish ts) ≡ Some ts
list_or_none-texts None = refl
list_or_none-texts (Some ts) = ap some_list (each_of-texts ts)

number_of-number : (n : ℕ) → IsId n → number_of (number n) ≡ Some (pos n)
number_of-number n h = rw (lt-ltb n (2 ^ 64) (omega arith)) refl

each_of-numbers : (ns : List ℕ) → AllByRecursion IsId ns → each_of number_of (numbers ns) ≡ Some (map pos ns)
each_of-numbers [] h = refl
each_of-numbers (n ∷ ns) h = rw (number_of-number n h.0, each_of-numbers ns h.1) refl

-- a list of ids is read as it was wished
pub list_or_none-numbers : (ns : Option (List ℕ)) → AreIds ns → list_or_none number_of (numbers_wish ns) ≡ Some (integers ns)
list_or_none-numbers None h = refl
list_or_none-numbers (Some ns) h = ap some_list (each_of-numbers ns h)

flag-wished : (b : Bool) → flag_or false (flag_wish b) ≡ Some b
flag-wished true = refl
flag-wished false = refl

exclude_me-wished : (b : Bool) → flag_or true (exclude_me_wish b) ≡ Some b
exclude_me-wished true = refl
exclude_me-wished false = refl

shallow-flag : (n : ℕ) (b : Bool) → IsShallow n (flag_wish b)
shallow-flag n true = omega arith
shallow-flag n false = tt

shallow-exclude_me : (n : ℕ) (b : Bool) → IsShallow n (exclude_me_wish b)
shallow-exclude_me n true = tt
shallow-exclude_me n false = omega arith

shallow-policy : (p : policies.Policy) → IsShallow 0 (policy_wish p)
shallow-policy policy.Exact = tt
shallow-policy policy.Prefix = omega arith
shallow-policy policy.Wildcard = omega arith

-- what a key finds that is wished once
found_one : (key : List ℕ) (d : Option Data) (ws : List Wish) → wished key ws ≡ first_of d None → find_entry key (put_all ws) ≡ d
found_one key d ws h = find_entry-put_all key ws ∙ h ∙ first_of-None d

module _ (w : SubscribeWishes) where
  abbrev subscribe_wishes : List Wish
  subscribe_wishes = (codes "match", policy_wish w.policy) ∷ (codes "get_retained", flag_wish w.get_retained) ∷ []

  pub policy-asked : find_entry (codes "match") (subscribe_options w) ≡ policy_wish w.policy
  unfolding subscribe_options
  policy-asked = found_one (codes "match") (policy_wish w.policy) subscribe_wishes refl

  pub get_retained-asked : flag_or false (find_entry (codes "get_retained") (subscribe_options w)) ≡ Some w.get_retained
  unfolding subscribe_options
  get_retained-asked = ap (flag_or false) (found_one (codes "get_retained") (flag_wish w.get_retained) subscribe_wishes refl) ∙ flag-wished w.get_retained

  pub subscribe_options-shallow : entries_depth (subscribe_options w) ≤ 0
  unfolding subscribe_options
  subscribe_options-shallow = depth-put_all 0 subscribe_wishes (shallow-policy w.policy, (shallow-flag 0 w.get_retained, tt))

module _ (w : PublishWishes) where
  abbrev publish_wishes : List Wish
  publish_wishes =
      (codes "acknowledge", flag_wish w.acknowledge) ∷ (codes "disclose_me", flag_wish w.disclose_me)
      ∷ (codes "eligible", numbers_wish (ids_in w.eligible)) ∷ (codes "eligible_authid", texts_wish (authids_in w.eligible))
      ∷ (codes "eligible_authrole", texts_wish (authroles_in w.eligible)) ∷ (codes "exclude", numbers_wish (ids_in w.exclude))
      ∷ (codes "exclude_authid", texts_wish (authids_in w.exclude)) ∷ (codes "exclude_authrole", texts_wish (authroles_in w.exclude))
      ∷ (codes "exclude_me", exclude_me_wish w.exclude_me) ∷ (codes "retain", flag_wish w.retain) ∷ []

  pub acknowledge-asked : flag_or false (find_entry (codes "acknowledge") (publish_options w)) ≡ Some w.acknowledge
  unfolding publish_options put_lists
  acknowledge-asked = ap (flag_or false) (found_one (codes "acknowledge") (flag_wish w.acknowledge) publish_wishes refl) ∙ flag-wished w.acknowledge

  pub disclose_me-asked : flag_or false (find_entry (codes "disclose_me") (publish_options w)) ≡ Some w.disclose_me
  unfolding publish_options put_lists
  disclose_me-asked = ap (flag_or false) (found_one (codes "disclose_me") (flag_wish w.disclose_me) publish_wishes refl) ∙ flag-wished w.disclose_me

  pub retain-asked : flag_or false (find_entry (codes "retain") (publish_options w)) ≡ Some w.retain
  unfolding publish_options put_lists
  retain-asked = ap (flag_or false) (found_one (codes "retain") (flag_wish w.retain) publish_wishes refl) ∙ flag-wished w.retain

  pub audience-asked : AreIds (ids_in w.exclude) → AreIds (ids_in w.eligible) → audience_of (publish_options w) ≡ Some (wished_audience w)
  unfolding publish_options put_lists audience_of
  audience-asked excluded eligible =
      rw (
        found_one (codes "exclude_me") (exclude_me_wish w.exclude_me) publish_wishes refl,
        exclude_me-wished w.exclude_me,
        found_one (codes "exclude") (numbers_wish (ids_in w.exclude)) publish_wishes refl,
        list_or_none-numbers (ids_in w.exclude) excluded,
        found_one (codes "exclude_authid") (texts_wish (authids_in w.exclude)) publish_wishes refl,
        list_or_none-texts (authids_in w.exclude),
        found_one (codes "exclude_authrole") (texts_wish (authroles_in w.exclude)) publish_wishes refl,
        list_or_none-texts (authroles_in w.exclude),
        found_one (codes "eligible") (numbers_wish (ids_in w.eligible)) publish_wishes refl,
        list_or_none-numbers (ids_in w.eligible) eligible,
        found_one (codes "eligible_authid") (texts_wish (authids_in w.eligible)) publish_wishes refl,
        list_or_none-texts (authids_in w.eligible),
        found_one (codes "eligible_authrole") (texts_wish (authroles_in w.eligible)) publish_wishes refl,
        list_or_none-texts (authroles_in w.eligible),
      )
      refl

  pub publish_options-shallow : entries_depth (publish_options w) ≤ 1
  unfolding publish_options put_lists
  publish_options-shallow =
      depth-put_all 1 publish_wishes (
        shallow-flag 1 w.acknowledge,
        (
          shallow-flag 1 w.disclose_me,
          (
            shallow-numbers (ids_in w.eligible),
            (
              shallow-texts (authids_in w.eligible),
              (
                shallow-texts (authroles_in w.eligible),
                (
                  shallow-numbers (ids_in w.exclude),
                  (shallow-texts (authids_in w.exclude), (shallow-texts (authroles_in w.exclude), (shallow-exclude_me 1 w.exclude_me, (shallow-flag 1 w.retain, tt)))),
                ),
              ),
            ),
          ),
        ),
      )
