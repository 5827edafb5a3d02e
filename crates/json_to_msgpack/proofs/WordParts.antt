-- Numbers, a part at a time, and literals.
use Rattle.std.proofs.Common.{◌≡◌, ◌≢◌, ℕ, ◌+◌, ◌-◌, ◌<◌, ◌≤◌, true, false, cond, ◌&&◌, nat_eq, List, [], ◌∷◌, ◌++◌, length, take, drop, Option, Some, None, option_and_then, refl, sym, ap, ◌∙◌, arith}
use Rattle.std.proofs.lemmas.Bool.{ne_eqb}
use Rattle.std.proofs.lemmas.List.{drop-drop, length-drop, length-append}
use Rattle.std.proofs.lemmas.List.Sums.{prefix_len-le-length}
use Rattle.std.proofs.lemmas.Bool.Decides.{Decides-eqb}
use Rattle.std.proofs.lemmas.Slice.Eq.{starts_is}
use Rattle.std.specs.Prelude.{⊤}
use Rattle.std.specs.Char.{is_ascii_digit}
use Rattle.std.specs.List.{prefix_len, starts_with}
use Rattle.json.specs.Token.{Token, boolean, null, number, bad}
use Rattle.json.specs.Ascii.{true_text, false_text, null_text}
use Rattle.json.specs.Word.{head, ends_word, after_digits, after_minus, after_sign, after_whole, after_fraction, after_exponent, after_number, number_before, literal, word}
use Rattle.json.specs.Lex.{other, class, in_word, lex}
use Rattle.json.specs.Cursor.{is_leaf}
use Rattle.json_to_msgpack.specs.body.Lexing.{IsPart, IsWordAt}
use Rattle.json_to_msgpack.proofs.Octets.{word_octet, digits_passed}

-- ---- parts

pub part_here : (t : List ℕ) (i : ℕ) (rest : Option (List ℕ)) → i ≤ length t → rest ≡ Some (drop i t) → IsPart t i rest i
part_here t i rest h e = record { is = e; passed = refl; forward = omega arith; within = h }

-- one octet
pub part_octet : (t : List ℕ) (i c : ℕ) (rest : Option (List ℕ)) → i < length t → drop i t ≡ c ∷ drop (i + 1) t → class c ≡ other → rest ≡ Some (drop (i + 1) t) → IsPart t i rest (i + 1)
part_octet t i c rest h e k is = record { is = is; passed = ap (lex in_word) e ∙ word_octet c (drop (i + 1) t) k; forward = omega arith; within = omega arith }

-- one part, and the next behind it
pub part_then : (t : List ℕ) (i j k : ℕ) (first second : Option (List ℕ)) → IsPart t i first j → IsPart t j second k → IsPart t i second k
part_then t i j k first second h g =
    let a = h.forward in
    let b = g.forward in
    record { is = g.is; passed = h.passed ∙ g.passed; forward = omega arith; within = g.within }

pub part_as : (t : List ℕ) (i j : ℕ) (rest same : Option (List ℕ)) → same ≡ rest → IsPart t i rest j → IsPart t i same j
part_as t i j rest same e h = record { is = e ∙ h.is; passed = h.passed; forward = h.forward; within = h.within }

pub digits_part : (t : List ℕ) (i j : ℕ) → i ≤ length t → j ≡ i + prefix_len is_ascii_digit (drop i t) → j ≢ i → IsPart t i (after_digits (drop i t)) j
digits_part t i j h e ne =
    let n = prefix_len is_ascii_digit (drop i t) in
    let some : n ≢ 0 = λ z. ne (omega arith) in
    let behind : drop n (drop i t) ≡ drop j t = drop-drop n i t ∙ ap (λ k. drop k t) (sym e) in
    record {
      is = ap (λ b. cond b None (Some (drop n (drop i t)))) (ne_eqb n 0 some) ∙ ap Some behind;
      passed = digits_passed (drop i t) ∙ ap (lex in_word) behind;
      forward = omega arith;
      within = omega (arith, prefix_len-le-length is_ascii_digit (drop i t), length-drop i t);
    }

-- one octet, and then a part
pub octet_then : (t : List ℕ) (i j c : ℕ) (rest behind : Option (List ℕ)) → i < length t → drop i t ≡ c ∷ drop (i + 1) t → class c ≡ other → rest ≡ behind → IsPart t (i + 1) behind j → IsPart t i rest j
octet_then t i j c rest behind h e k same g =
    part_as t i j behind rest same (part_then t i (i + 1) j (Some (drop (i + 1) t)) behind (part_octet t i c (Some (drop (i + 1) t)) h e k refl) g)

pub signed_part : (t : List ℕ) (i m j : ℕ) → IsPart t i (Some (after_sign (drop i t))) m → IsPart t m (after_digits (drop m t)) j → IsPart t i (after_digits (after_sign (drop i t))) j
signed_part t i m j sign digits =
    let same : after_sign (drop i t) ≡ drop m t = cc sign.is in
    part_as t i j (after_digits (drop m t)) (after_digits (after_sign (drop i t))) (ap after_digits same) (part_then t i m j (Some (after_sign (drop i t))) (after_digits (drop m t)) sign digits)

-- ---- the whole number

pub number_part : (t : List ℕ) (i m p q e : ℕ) → IsPart t i (Some (after_minus (drop i t))) m → IsPart t m (after_whole (drop m t)) p → IsPart t p (after_fraction (drop p t)) q → IsPart t q (after_exponent (drop q t)) e
    → IsPart t i (after_number (drop i t)) e
unfolding after_number
number_part t i m p q e minus whole fraction exponent =
    let a = minus.forward in
    let b = whole.forward in
    let c = fraction.forward in
    let d = exponent.forward in
    let digits : after_minus (drop i t) ≡ drop m t = cc minus.is in
    record {
      is = ap (λ l. option_and_then after_exponent (option_and_then after_fraction (after_whole l))) digits
          ∙ ap (λ o. option_and_then after_exponent (option_and_then after_fraction o)) whole.is
          ∙ ap (option_and_then after_exponent) fraction.is ∙ exponent.is;
      passed = minus.passed ∙ whole.passed ∙ fraction.passed ∙ exponent.passed;
      forward = omega arith;
      within = exponent.within;
    }

pub number_word : (t : List ℕ) (i e : ℕ) (s : List ℕ) → IsPart t i (after_number (drop i t)) e → class (head (drop i t)) ≡ other → head (drop i t) < 102 → s ≡ take (e - i) (drop i t) → IsWordAt t i (number s) e
unfolding word
number_word t i e s h begun small same =
    let x = head (drop i t) in
    let f = h.forward in
    let w = h.within in
    let taken : length (drop i t) - length (drop e t) ≡ e - i = omega (arith, length-drop i t, length-drop e t) in
    record {
      is = λ ends.
          (λ k. cond (ne_eqb x 116 (λ z. omega arith) k) (literal true_text (boolean true) (drop i t))
          (cond (ne_eqb x 102 (λ z. omega arith) k) (literal false_text (boolean false) (drop i t))
          (cond (ne_eqb x 110 (λ z. omega arith) k) (literal null_text null (drop i t)) (number_before (drop i t) (after_number (drop i t))))))
          ∙ ap (number_before (drop i t)) h.is ∙ ap (λ b. cond b (number (take (length (drop i t) - length (drop e t)) (drop i t))) bad) ends
          ∙ ap (λ n. number (take n (drop i t))) taken ∙ ap number (sym same);
      leaf = refl;
      begun = begun;
      passed = h.passed;
      within = w;
    }

-- ---- literals

-- a name, each of whose octets may stand in a word
abbrev AreOthers : List ℕ → Type 0
AreOthers [] = ⊤
AreOthers (x ∷ xs) = (class x ≡ other) × AreOthers xs

name_passed : (name t : List ℕ) → AreOthers name → lex in_word (name ++ t) ≡ lex in_word t
name_passed [] t h = refl
name_passed (x ∷ xs) t h = word_octet x (xs ++ t) h.0 ∙ name_passed xs t h.1

literal_word : (x : ℕ) (xs t : List ℕ) (token : Token) (i : ℕ) → i < length t → starts_with nat_eq (drop i t) (x ∷ xs) ≡ true → AreOthers (x ∷ xs) → is_leaf token ≡ true
    → ((rest : List ℕ) → word (x ∷ (xs ++ rest)) ≡ literal (x ∷ xs) token (x ∷ (xs ++ rest))) → IsWordAt t i token (i + length (x ∷ xs))
literal_word x xs t token i inside h others leaf named =
    let name = x ∷ xs in
    let rest = drop (length name) (drop i t) in
    let there : drop i t ≡ name ++ rest = (starts_is Decides-eqb (drop i t) name true (sym h)).0 refl in
    let behind : rest ≡ drop (i + length name) t = drop-drop (length name) i t in
    record {
      is = λ ends.
          let over : ends_word rest ≡ true = ap ends_word behind ∙ ends in
          ap word there ∙ named rest ∙ ap (literal name token) (sym there) ∙ (λ k. cond (h k && over k) token bad);
      leaf = leaf;
      begun = ap (λ l. class (head l)) there ∙ others.0;
      passed = ap (lex in_word) there ∙ name_passed name rest others ∙ ap (lex in_word) behind;
      within = omega (arith, ap length there, length-append name rest, length-drop i t);
    }

pub true_word : (t : List ℕ) (i : ℕ) → i < length t → starts_with nat_eq (drop i t) true_text ≡ true → IsWordAt t i (boolean true) (i + 4)
unfolding word
true_word t i inside h = literal_word 116 (114 ∷ 117 ∷ 101 ∷ []) t (boolean true) i inside h (refl, (refl, (refl, (refl, tt)))) refl (λ rest. refl)

pub false_word : (t : List ℕ) (i : ℕ) → i < length t → starts_with nat_eq (drop i t) false_text ≡ true → IsWordAt t i (boolean false) (i + 5)
unfolding word
false_word t i inside h = literal_word 102 (97 ∷ 108 ∷ 115 ∷ 101 ∷ []) t (boolean false) i inside h (refl, (refl, (refl, (refl, (refl, tt))))) refl (λ rest. refl)

pub null_word : (t : List ℕ) (i : ℕ) → i < length t → starts_with nat_eq (drop i t) null_text ≡ true → IsWordAt t i null (i + 4)
unfolding word
null_word t i inside h = literal_word 110 (117 ∷ 108 ∷ 108 ∷ []) t null i inside h (refl, (refl, (refl, (refl, tt)))) refl (λ rest. refl)
