-- What stands in octets.
use Rattle.std.proofs.Common.{◌≡◌, ◌≤◌, ◌==◌, ℕ, zero, suc, ℤ, List, [], ◌∷◌, ◌++◌, length, Bool, true, false, ◌||◌, Option, Some, None, Ok, Err, drop, map, refl, sym, ap, ◌∙◌, subst, unwrap_or, arith}
use Rattle.std.specs.List.{list_any}
use Rattle.std.specs.Str.{bytes_eq}
use Rattle.std.proofs.lemmas.List.{append-nil}
use Rattle.std.proofs.lemmas.List.Folds.{list_any-append}
use Rattle.std.proofs.lemmas.Bool.Decides.{nat_tests}
use Rattle.std.proofs.lemmas.Slice.Eq.{bytes_eq-Decides}
use Rattle.message_tree.specs.Data as tree
use Rattle.message_tree.specs.Data.{Data}
use Rattle.msgpack_codec.specs.Grammar.{IsDeep, IsNoMessage, Spells}
use Rattle.msgpack_codec.specs.Tokens.{IsToken}
use Rattle.msgpack_codec.specs.Values.{is_text}
use Rattle.msgpack_codec.specs.body.Decoder.{Found, value_at}
use Rattle.msgpack_codec.specs.declared.tokens.Token.TheVariants.{List as ListOf}
use Rattle.msgpack_cursor.specs.Standing.{value_of, value_in, items_in, AreThere}
use Rattle.msgpack_codec.specs.declared.passing.Refusal.{Refusal}
use Rattle.msgpack_codec.specs.declared.passing.Refusal.TheVariants.{TooDeep, Malformed}
use Rattle.msgpack_cursor.proofs.Spellings.{in_message, not_deep}
use Rattle.msgpack_cursor.proofs.Readings.{front-value, list-inside, list-there, value-read}
use Rattle.eligibility.specs.Options.{with_first, each_of, some_list, list_or_none, text_of}
use Rattle.eligibility.specs.Lists.{has_number, has_text, is_number}
use Rattle.eligibility.specs.body.Standing.{listed, listed_in, is_bare, AreHeld, text_at, stands}

-- ---- one text

no-text : (d : Data) → is_text d ≡ false → text_of d ≡ None
no-text tree.null nay = refl
no-text (tree.flag b) nay = refl
no-text (tree.whole z) nay = refl
no-text (tree.text s) nay = absurd cc
no-text (tree.bytes b) nay = refl
no-text (tree.list ds) nay = refl
no-text (tree.dict es) nay = refl
no-text tree.uncarried nay = refl

pub none-read : (d : Data) → is_text d ≡ false → text_of d ≡ None
none-read d nay = no-text d nay

none-found : (x : Found Data) → ((k : Data) (rest : List ℕ) → x ≡ Ok (k, rest) → is_text k ≡ false) → unwrap_or (text_of (value_of x)) [] ≡ []
none-found (Ok x) none = ap (λ (o : Option (List ℕ)). unwrap_or o []) (no-text x.0 (none x.0 x.1 refl))
none-found (Err e) none = refl

-- where no text stands at a place
pub text-missing : (octets : List ℕ) (place : ℕ) → ((k : Data) (rest : List ℕ) → value_at 0 (drop place octets) ≡ Ok (k, rest) → is_text k ≡ false) → text_at octets place ≡ []
unfolding text_at value_in
text-missing octets place none = none-found (value_at 0 (drop place octets)) none

pub text-there : (octets : List ℕ) (place : ℕ) (s rest : List ℕ) → value_at 0 (drop place octets) ≡ Ok (tree.text s, rest) → text_at octets place ≡ s
unfolding text_at
text-there octets place s rest e = ap (λ d. unwrap_or (text_of d) []) (value-read 0 (drop place octets) (tree.text s) rest e)

-- ---- a list

pub value-spelled-is : (octets : List ℕ) (d : Data) → Spells 100 octets d → d ≡ value_in 100 octets
value-spelled-is octets d s = (front-value 100 octets octets [] d (sym (append-nil octets)) s).2

-- the members behind the head of a list
pub members : (n : ℕ) (octets rest : List ℕ) (ds : tree.Items) → IsToken (ListOf n) octets rest → Spells 100 octets (tree.list ds) → AreThere 99 n rest × (ds ≡ items_in 99 n rest)
members n octets rest ds head s =
    let v = front-value 100 octets octets [] (tree.list ds) (sym (append-nil octets)) s in
    let there = list-there 99 n rest (value_in 100 octets) [] (list-inside 100 n octets rest head v.1) in
    let same : tree.list ds ≡ tree.list (items_in 99 n rest) = v.2 ∙ there.1 in
    (there.0, cc)

-- what is listed is seen in the octets
pub seen-list : {X : Type 0} (kind : Data → Option X) (octets : List ℕ) (ds : tree.Items) (xs : List X) → Spells 100 octets (tree.list ds) → each_of kind ds ≡ Some xs → listed_in kind octets ≡ xs
unfolding listed_in
seen-list kind octets ds xs s e =
    ap (λ d. listed (list_or_none kind (Some d))) (sym (value-spelled-is octets (tree.list ds) s)) ∙ ap (λ o. listed (some_list o)) e

some-left : (n : ℕ) → false ≡ (suc n == 0)
some-left n = grind (arith, nat_tests)

first-some : {X : Type 0} (o : Option X) (rest : Option (List X)) (xs : List X) → with_first o rest ≡ Some xs → false ≡ (length xs == 0)
first-some None rest xs e = absurd cc
first-some (Some x) None xs e = absurd cc
first-some (Some x) (Some more) xs e = some-left (length more) ∙ ap (λ o. length (unwrap_or o []) == 0) e

-- what a list lists is empty where the list has no members
pub bare-list : {X : Type 0} (kind : Data → Option X) (ds : tree.Items) (xs : List X) → each_of kind ds ≡ Some xs → is_bare ds ≡ (length xs == 0)
bare-list kind tree.no_items xs e = ap (λ o. length (unwrap_or o []) == 0) e
bare-list kind (tree.item d ds) xs e = first-some (kind d) (each_of kind ds) xs e

-- so many members are none
pub bare-count : (n : ℕ) (rest : List ℕ) → (n == 0) ≡ is_bare (items_in 99 n rest)
unfolding items_in
bare-count zero rest = refl
bare-count (suc n) rest = sym (some-left n)

-- ---- numbers

pub held-some : (has : ℕ → Bool) (o : Option (List ℤ)) → AreHeld has o → (zs : List ℤ) × (o ≡ Some zs) × AreHeld has (Some zs)
held-some has None held = absurd held
held-some has (Some zs) held = (zs, refl, held)

-- ---- texts

any-of-map : {X Y : Type 0} (f : X → Y) (p : Y → Bool) (xs : List X) → list_any p (map f xs) ≡ list_any (λ x. p (f x)) xs
any-of-map f p [] = refl
any-of-map f p (x ∷ xs) = ap (λ b. p (f x) || b) (any-of-map f p xs)

pub stands-listed : (octets places : List ℕ) (s : List ℕ) → stands octets places s ≡ has_text s (map (text_at octets) places)
stands-listed octets places s = sym (any-of-map (text_at octets) (λ t. bytes_eq t s) places)

itself-there : (s : List ℕ) (more : Bool) → (bytes_eq s s || more) ≡ true
itself-there s more = ap (λ b. b || more) ((bytes_eq-Decides s s).1 refl)

-- no text is at no place, and some text is at a place
pub none-stand : (octets places : List ℕ) (texts : List (List ℕ)) → ((s : List ℕ) → stands octets places s ≡ has_text s texts) → (length places == 0) ≡ (length texts == 0)
none-stand octets [] [] same = refl
none-stand octets [] (t ∷ ts) same = let nay : false ≡ true = same t ∙ itself-there t (has_text t ts) in absurd cc
none-stand octets (p ∷ ps) [] same =
    let nay : true ≡ false = sym (itself-there (text_at octets p) (stands octets ps (text_at octets p))) ∙ same (text_at octets p) in
    absurd cc
none-stand octets (p ∷ ps) (t ∷ ts) same = sym (some-left (length ps)) ∙ some-left (length ts)

turned : (a b : Bool) → (a || (b || false)) ≡ (b || a)
turned true true = refl
turned true false = refl
turned false true = refl
turned false false = refl

-- one more number
pub held-more : (has new : ℕ → Bool) (q : ℕ) (done : List ℤ) (z : ℤ) → has_number q done ≡ has q → new q ≡ (is_number q z || has q) → has_number q (done ++ z ∷ []) ≡ new q
held-more has new q done z e f =
    list_any-append (is_number q) done (z ∷ []) ∙ (ap (λ b. b || (is_number q z || false)) e ∙ (turned (has q) (is_number q z) ∙ sym f))

-- ---- a message

pub not-refused : (e : Refusal) (octets : List ℕ) (d : Data) → Spells 100 octets d → (e ≡ TooDeep → IsDeep 100 octets) → (e ≡ Malformed → IsNoMessage octets) → ⊥
not-refused TooDeep octets d s deep none = not_deep 100 octets d s (deep refl)
not-refused Malformed octets d s deep none = (none refl).unspelled d s

-- a list that has less room
pub list-spelled : (room : ℕ) (octets : List ℕ) (d : Data) (ds : tree.Items) → tree.list ds ≡ d → room ≤ 100 → Spells room octets d → Spells 100 octets (tree.list ds)
list-spelled room octets d ds is le s = in_message room octets (tree.list ds) le (subst (Spells room octets) (sym is) s)
