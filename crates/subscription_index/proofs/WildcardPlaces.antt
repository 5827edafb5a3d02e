-- Wildcards that stand in a table, one after another; and the two places of a wildcard.
use Rattle.std.proofs.Common.{◌≡◌, ℕ, Bool, true, false, cond, eqb, nat_lt, List, [], ◌∷◌, ◌++◌, Option, Some, None, Vec, Global, Ordering, Less, Equal, Greater, ◌⊎◌, inl, inr, refl, sym, ap, ◌∙◌, subst, option_map}
use Rattle.std.specs.List.{AllByRecursion}
use Rattle.std.specs.List.Sorted.{IsStrictlySortedBy}
use Rattle.std.specs.Map.{keys_of, remove_entry}
use Rattle.std.specs.BTreeMap.{insert_entry}
use Rattle.std.specs.Str.{bytes_eq}
use Rattle.std.specs.Ordering.{nat_cmp, is_eq, match_ordering}
use Rattle.std.specs.Cmp.Lexicographic.{slice_cmp}
use Rattle.std.proofs.lemmas.Map.Text.{is_eq-slice_cmp}
use Rattle.std.proofs.lemmas.Bool.{or_cases, or_right, eqb-true}
use Rattle.std.proofs.lemmas.List.{append_assoc}
use Rattle.std.proofs.lemmas.Option.{same_Some}
use Rattle.wamp_ids.proofs.Lemmas.{bytes_eq-true, bytes_eq-refl}
use Rattle.wamp_ids.specs.Uri.{components}
use Rattle.wamp_ids.specs.Pattern.{fits}
use Rattle.subscription_index.specs.body.Found.{has, Adds}
use Rattle.subscription_index.specs.body.Pieces.{AreMade, DeepNumbers, IsMade, deep_number, numbers_of}
use Rattle.subscription_index.specs.declared.pieces.Deep.{Deep}
use Rattle.subscription_index.specs.body.Shapes.{Shapes, is_deep, number_by_shape}
use Rattle.subscription_index.specs.body.Names.{wildcard_number}
use Rattle.subscription_index.proofs.FoundLemmas.{has_first, adds_append, adds_by}
use Rattle.subscription_index.proofs.Texts.{vec_cmp, at_text, slice_cmp-true}
use Rattle.subscription_index.proofs.Components.{as_long}

abbrev pub Entry : Type 0
Entry = Vec ℕ Global × ℕ

-- the numbers of the entries that fit
abbrev pub fitting : List Entry → List (List ℕ) → List ℕ
fitting [] parts = []
fitting (e ∷ es) parts = cond (fits (components e.0.items) parts) (e.1 ∷ fitting es parts) (fitting es parts)

-- the loop's step
pub fitting_more : (old new : List ℕ) (e : Entry) (es : List Entry) (parts : List (List ℕ)) (all : List ℕ) → new ≡ cond (fits (components e.0.items) parts) (old ++ e.1 ∷ []) old → old ++ fitting (e ∷ es) parts ≡ all → new ++ fitting es parts ≡ all
fitting_more old new e es parts all is h = ap (λ ns. ns ++ fitting es parts) is ∙ by_value (fits (components e.0.items) parts) h
  where
    by_value : (b : Bool) → old ++ cond b (e.1 ∷ fitting es parts) (fitting es parts) ≡ all → cond b (old ++ e.1 ∷ []) old ++ fitting es parts ≡ all
    by_value true k = append_assoc old (e.1 ∷ []) (fitting es parts) ∙ k
    by_value false k = k

found_listed : (es : List Entry) (parts : List (List ℕ)) (q : List ℕ) (n : ℕ) → at_text q es ≡ Some n → fits (components q) parts ≡ true → has (fitting es parts) n ≡ true
found_listed [] parts q n is h = cc
found_listed (e ∷ es) parts q n is h = by_value (found_listed es parts q n) (is_eq (slice_cmp nat_cmp q e.0.items)) refl is
  where
    by_value : (at_text q es ≡ Some n → fits (components q) parts ≡ true → has (fitting es parts) n ≡ true)
        → (b : Bool) → is_eq (slice_cmp nat_cmp q e.0.items) ≡ b → cond b (Some e.1) (at_text q es) ≡ Some n → has (fitting (e ∷ es) parts) n ≡ true
    by_value rest true f k =
        let same : q ≡ e.0.items = slice_cmp-true q e.0.items f in
        let fit : fits (components e.0.items) parts ≡ true = ap (λ t. fits (components t) parts) (sym same) ∙ h in
        ap (λ b. has (cond b (e.1 ∷ fitting es parts) (fitting es parts)) n) fit ∙ ap (λ m. has (m ∷ fitting es parts) n) (same_Some e.1 n k) ∙ has_first n (fitting es parts)
    by_value rest false f k = either_way (fits (components e.0.items) parts)
      where
        either_way : (b : Bool) → has (cond b (e.1 ∷ fitting es parts) (fitting es parts)) n ≡ true
        either_way true = or_right (eqb e.1 n) (has (fitting es parts) n) (rest k h)
        either_way false = rest k h

absent : (q : List ℕ) (es : List Entry) → AllByRecursion (λ (y : Vec ℕ Global). slice_cmp nat_cmp q y.items ≡ Less) (keys_of es) → at_text q es ≡ None
absent q [] h = refl
absent q (e ∷ es) h = ap (λ o. cond (is_eq o) (Some e.1) (at_text q es)) h.0 ∙ absent q es h.1

only_listed : (es : List Entry) (parts : List (List ℕ)) (n : ℕ) → IsStrictlySortedBy vec_cmp (keys_of es) → has (fitting es parts) n ≡ true → (q : List ℕ) × (at_text q es ≡ Some n) × (fits (components q) parts ≡ true)
unfolding IsStrictlySortedBy
only_listed [] parts n up h = let e : false ≡ true = h in cc
only_listed (e ∷ es) parts n up h = by_value (only_listed es parts n up.1) (fits (components e.0.items) parts) refl h
  where
    itself : is_eq (slice_cmp nat_cmp e.0.items e.0.items) ≡ true
    itself = is_eq-slice_cmp e.0.items e.0.items ∙ bytes_eq-refl e.0.items

    later : (q : List ℕ) × (at_text q es ≡ Some n) × (fits (components q) parts ≡ true) → (q : List ℕ) × (at_text q (e ∷ es) ≡ Some n) × (fits (components q) parts ≡ true)
    later r = (r.0, by_test (is_eq (slice_cmp nat_cmp r.0 e.0.items)) refl, r.2)
      where
        by_test : (b : Bool) → is_eq (slice_cmp nat_cmp r.0 e.0.items) ≡ b → cond b (Some e.1) (at_text r.0 es) ≡ Some n
        by_test true f =
            let none : at_text r.0 es ≡ None = ap (λ x. at_text x es) (slice_cmp-true r.0 e.0.items f) ∙ absent e.0.items es up.0 in
            let k : None ≡ Some n = sym none ∙ r.1 in
            cc
        by_test false f = r.1

    by_value : (has (fitting es parts) n ≡ true → (q : List ℕ) × (at_text q es ≡ Some n) × (fits (components q) parts ≡ true))
        → (b : Bool) → fits (components e.0.items) parts ≡ b → has (cond b (e.1 ∷ fitting es parts) (fitting es parts)) n ≡ true
        → (q : List ℕ) × (at_text q (e ∷ es) ≡ Some n) × (fits (components q) parts ≡ true)
    by_value rest true f k = by_first (or_cases (eqb e.1 n) (has (fitting es parts) n) k)
      where
        by_first : (eqb e.1 n ≡ true) ⊎ (has (fitting es parts) n ≡ true) → (q : List ℕ) × (at_text q (e ∷ es) ≡ Some n) × (fits (components q) parts ≡ true)
        by_first (inl g) = (e.0.items, ap (λ b. cond b (Some e.1) (at_text e.0.items es)) itself ∙ ap (λ m. Some m) (eqb-true e.1 n g), f)
        by_first (inr g) = later (rest g)
    by_value rest false f k = later (rest k)

pub same_keys : (es : List (Vec ℕ Global × Deep)) → keys_of (numbers_of es) ≡ keys_of es
same_keys [] = refl
same_keys (e ∷ es) = ap (λ ks. e.0 ∷ ks) (same_keys es)

-- what a text finds
pub number_found : (q : List ℕ) (es : List (Vec ℕ Global × Deep)) → deep_number (numbers_of es) q ≡ option_map (λ d. d.number) (at_text q es)
number_found q [] = refl
number_found q (e ∷ es) = by_value (number_found q es) (is_eq (slice_cmp nat_cmp q e.0.items))
  where
    by_value : deep_number (numbers_of es) q ≡ option_map (λ d. d.number) (at_text q es)
        → (b : Bool) → cond b (Some e.1.number) (deep_number (numbers_of es) q) ≡ option_map (λ d. d.number) (cond b (Some e.1) (at_text q es))
    by_value rest true = refl
    by_value rest false = rest

-- the number where what a text finds was changed
pub number_changed : (q : List ℕ) (b : Bool) (v : Option Deep) (old new : List (Vec ℕ Global × Deep)) → at_text q new ≡ cond b v (at_text q old) → deep_number (numbers_of new) q ≡ cond b (option_map (λ d. d.number) v) (deep_number (numbers_of old) q)
number_changed q b v old new e =
    number_found q new ∙ (ap (λ o. option_map (λ d. d.number) o) e ∙ (inside b (at_text q old) ∙ ap (λ o. cond b (option_map (λ d. d.number) v) o) (sym (number_found q old))))
  where
    inside : (b : Bool) (o : Option Deep) → option_map (λ d. d.number) (cond b v o) ≡ cond b (option_map (λ d. d.number) v) (option_map (λ d. d.number) o)
    inside true o = refl
    inside false o = refl

-- each wildcard stays that of its text
pub made-insert : (k : Vec ℕ Global) (v : Deep) (es : List (Vec ℕ Global × Deep)) → IsMade v k.items → AreMade es → AreMade (insert_entry vec_cmp es k v)
made-insert k v [] made all = (made, tt)
made-insert k v (e ∷ es) made all = by_order (made-insert k v es made all.1) (slice_cmp nat_cmp k.items e.0.items) refl
  where
    by_order : AreMade (insert_entry vec_cmp es k v) → (o : Ordering) → slice_cmp nat_cmp k.items e.0.items ≡ o → AreMade (match_ordering o ((k, v) ∷ e ∷ es) ((e.0, v) ∷ es) (e ∷ insert_entry vec_cmp es k v))
    by_order rest Less h = (made, all)
    by_order rest Equal h = (subst (λ t. IsMade v t) (slice_cmp-true k.items e.0.items (ap is_eq h)) made, all.1)
    by_order rest Greater h = (all.0, rest)

pub made-remove : (test : Vec ℕ Global → Bool) (es : List (Vec ℕ Global × Deep)) → AreMade es → AreMade (remove_entry test es)
made-remove test [] all = tt
made-remove test (e ∷ es) all = by_test (made-remove test es all.1) (test e.0)
  where
    by_test : AreMade (remove_entry test es) → (b : Bool) → AreMade (cond b es (e ∷ remove_entry test es))
    by_test rest true = all.1
    by_test rest false = (all.0, rest)

pub adds_listed : (es : List (Vec ℕ Global × Deep)) (parts : List (List ℕ)) (old new : List ℕ) → IsStrictlySortedBy vec_cmp (keys_of es) → new ≡ old ++ fitting (numbers_of es) parts
    → Adds (deep_number (numbers_of es)) (λ q. fits (components q) parts) old new
adds_listed es parts old new up e =
    adds_append (deep_number (numbers_of es)) (λ q. fits (components q) parts) old (fitting (numbers_of es) parts) new e (found_listed (numbers_of es) parts)
    (λ n k. only_listed (numbers_of es) parts n (subst (λ ks. IsStrictlySortedBy vec_cmp ks) (sym (same_keys es)) up) k)

-- a deep wildcard was changed
pub deep_changed : (deep other : DeepNumbers) (shapes : Shapes) (text : List ℕ) (v : Option ℕ) → is_deep text ≡ true → ((q : List ℕ) → deep_number other q ≡ cond (bytes_eq text q) v (deep_number deep q))
    → (q : List ℕ) → wildcard_number other shapes q ≡ cond (bytes_eq text q) v (wildcard_number deep shapes q)
deep_changed deep other shapes text v is change q = by_value (bytes_eq text q) refl
  where
    by_value : (b : Bool) → bytes_eq text q ≡ b → wildcard_number other shapes q ≡ cond b v (wildcard_number deep shapes q)
    by_value true h = ap (λ b. cond b (deep_number other q) (number_by_shape shapes q)) (ap is_deep (sym (bytes_eq-true text q h)) ∙ is) ∙ change q ∙ ap (λ b. cond b v (deep_number deep q)) h
    by_value false h = ap (λ n. cond (is_deep q) n (number_by_shape shapes q)) (change q ∙ ap (λ b. cond b v (deep_number deep q)) h)

-- a wildcard that stands by its shape was changed
pub shape_changed : (deep : DeepNumbers) (shapes other : Shapes) (text : List ℕ) (v : Option ℕ) → is_deep text ≡ false → ((q : List ℕ) → number_by_shape other q ≡ cond (bytes_eq text q) v (number_by_shape shapes q))
    → (q : List ℕ) → wildcard_number deep other q ≡ cond (bytes_eq text q) v (wildcard_number deep shapes q)
shape_changed deep shapes other text v is change q = by_value (bytes_eq text q) refl
  where
    by_value : (b : Bool) → bytes_eq text q ≡ b → wildcard_number deep other q ≡ cond b v (wildcard_number deep shapes q)
    by_value true h = ap (λ b. cond b (deep_number deep q) (number_by_shape other q)) (ap is_deep (sym (bytes_eq-true text q h)) ∙ is) ∙ change q ∙ ap (λ b. cond b v (number_by_shape shapes q)) h
    by_value false h = ap (λ n. cond (is_deep q) (deep_number deep q) n) (change q ∙ ap (λ b. cond b v (number_by_shape shapes q)) h)

pub wildcards_same : (deep other_deep : DeepNumbers) (shapes other : Shapes) → ((q : List ℕ) → deep_number other_deep q ≡ deep_number deep q) → ((q : List ℕ) → number_by_shape other q ≡ number_by_shape shapes q)
    → (q : List ℕ) → wildcard_number other_deep other q ≡ wildcard_number deep shapes q
wildcards_same deep other_deep shapes other e f q = ap (λ n. cond (is_deep q) n (number_by_shape other q)) (e q) ∙ ap (λ n. cond (is_deep q) (deep_number deep q) n) (f q)

-- only deep wildcards fit a deep topic, and no other topic
deep_alike : (q topic : List ℕ) → fits (components q) (components topic) ≡ true → is_deep q ≡ is_deep topic
deep_alike q topic h = ap (λ n. nat_lt 8 n) (as_long (components q) (components topic) h)

pub adds_deep : (deep : DeepNumbers) (shapes : Shapes) (topic a b : List ℕ) → is_deep topic ≡ true → Adds (deep_number deep) (λ q. fits (components q) (components topic)) a b → Adds (wildcard_number deep shapes) (λ q. fits (components q) (components topic)) a b
adds_deep deep shapes topic a b is =
    adds_by (deep_number deep) (λ q. fits (components q) (components topic)) (wildcard_number deep shapes) (λ q. fits (components q) (components topic)) a b (λ q n e h. (q, sym (there q h) ∙ e, h)) (λ q n e h. (q, there q h ∙ e, h))
  where
    there : (q : List ℕ) → fits (components q) (components topic) ≡ true → wildcard_number deep shapes q ≡ deep_number deep q
    there q h = ap (λ b. cond b (deep_number deep q) (number_by_shape shapes q)) (deep_alike q topic h ∙ is)

pub adds_by_shape : (deep : DeepNumbers) (shapes : Shapes) (topic a b : List ℕ) → is_deep topic ≡ false → Adds (number_by_shape shapes) (λ q. fits (components q) (components topic)) a b → Adds (wildcard_number deep shapes) (λ q. fits (components q) (components topic)) a b
adds_by_shape deep shapes topic a b is =
    adds_by (number_by_shape shapes) (λ q. fits (components q) (components topic)) (wildcard_number deep shapes) (λ q. fits (components q) (components topic)) a b (λ q n e h. (q, sym (there q h) ∙ e, h)) (λ q n e h. (q, there q h ∙ e, h))
  where
    there : (q : List ℕ) → fits (components q) (components topic) ≡ true → wildcard_number deep shapes q ≡ number_by_shape shapes q
    there q h = ap (λ b. cond b (deep_number deep q) (number_by_shape shapes q)) (deep_alike q topic h ∙ is)

-- what tells whether a text is deep
pub is_shallow : (b : Bool) (n m : ℕ) → Some m ≡ cond b None (Some n) → b ≡ false
is_shallow false n m e = refl
is_shallow true n m e = cc

pub has_value : (b : Bool) (n m : ℕ) → Some m ≡ cond b None (Some n) → m ≡ n
has_value false n m e = same_Some m n e
has_value true n m e = cc

pub is_deeper : (b : Bool) (n : ℕ) → None ≡ cond b None (Some n) → b ≡ true
is_deeper true n e = refl
is_deeper false n e = cc
