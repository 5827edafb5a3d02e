-- What an octet does, by its class.
use Rattle.std.proofs.Common.{◌≡◌, ℕ, suc, ◌+◌, ◌<◌, ◌≤◌, Bool, true, false, cond, ◌||◌, ◌==◌, List, [], ◌∷◌, length, drop, get_or, refl, sym, ap, ◌∙◌, arith}
use Rattle.std.proofs.lemmas.Bool.{true≢false, false≢true, ne_eqb, leb-true, and_parts}
use Rattle.std.proofs.lemmas.List.{drop_more, length-drop}
use Rattle.std.specs.Char.{is_ascii_digit}
use Rattle.std.specs.List.{prefix_len}
use Rattle.json.specs.Word.{is_operator, is_space, ends_word}
use Rattle.json.specs.Lex.{Lexeme, Class, quote, backslash, operator, space, other, class, Mode, between, in_word, lex_byte, lex}
use Rattle.json.specs.Align.{is_blank}

-- ---- white space

blank_byte : (k : Class) (x : ℕ) (xs : List ℕ) (f : Mode → List Lexeme) → is_blank k ≡ true → lex_byte between k x xs f ≡ f between
blank_byte quote x xs f e = absurd (false≢true e)
blank_byte backslash x xs f e = absurd (false≢true e)
blank_byte operator x xs f e = absurd (false≢true e)
blank_byte space x xs f e = refl
blank_byte other x xs f e = absurd (false≢true e)

pub blank_passed : (x : ℕ) (xs : List ℕ) → is_blank (class x) ≡ true → lex between (x ∷ xs) ≡ lex between xs
unfolding lex
blank_passed x xs e = blank_byte (class x) x xs (λ m. lex m xs) e

-- ---- words

pub word_octet : (x : ℕ) (xs : List ℕ) → class x ≡ other → lex in_word (x ∷ xs) ≡ lex in_word xs
unfolding lex
word_octet x xs e = ap (λ k. lex_byte in_word k x xs (λ m. lex m xs)) e

same_byte : (q b o s : Bool) (x : ℕ) (xs : List ℕ) (f : Mode → List Lexeme) → q ≡ false → b ≡ false → (o || s) ≡ true
    → lex_byte in_word (cond q quote (cond b backslash (cond o operator (cond s space other)))) x xs f ≡ lex_byte between (cond q quote (cond b backslash (cond o operator (cond s space other)))) x xs f
same_byte true b o s x xs f q h e = absurd (true≢false q)
same_byte false true o s x xs f q h e = absurd (true≢false h)
same_byte false false true s x xs f q h e = refl
same_byte false false false true x xs f q h e = refl
same_byte false false false false x xs f q h e = absurd (false≢true e)

-- what ends a word begins what is next
pub word_over : (t : List ℕ) → ends_word t ≡ true → lex in_word t ≡ lex between t
unfolding lex
word_over [] e = refl
word_over (x ∷ xs) e =
    let ends = λ (y : ℕ). is_operator y || is_space y in
    same_byte (x == 34) (x == 92) (is_operator x) (is_space x) x xs (λ m. lex m xs) (ne_eqb x 34 (λ h. false≢true (sym (ap ends h) ∙ e))) (ne_eqb x 92 (λ h. false≢true (sym (ap ends h) ∙ e))) e

-- ---- digits

pub digit_class : (x : ℕ) → 48 ≤ x → x ≤ 57 → class x ≡ other
digit_class x low high =
    (λ i. cond (ne_eqb x 34 (λ z. omega arith) i) quote (cond (ne_eqb x 92 (λ z. omega arith) i) backslash
    (cond (ne_eqb x 123 (λ z. omega arith) i || ne_eqb x 125 (λ z. omega arith) i || ne_eqb x 91 (λ z. omega arith) i || ne_eqb x 93 (λ z. omega arith) i || ne_eqb x 58 (λ z. omega arith) i || ne_eqb x 44 (λ z. omega arith) i) operator
    (cond (ne_eqb x 32 (λ z. omega arith) i || ne_eqb x 9 (λ z. omega arith) i || ne_eqb x 10 (λ z. omega arith) i || ne_eqb x 13 (λ z. omega arith) i) space other))))

digit_is_other : (x : ℕ) → is_ascii_digit x ≡ true → class x ≡ other
digit_is_other x e = digit_class x (leb-true 48 x (and_parts _ _ e).0) (leb-true x 57 (and_parts _ _ e).1)

digits_step : (p : Bool) (x : ℕ) (xs : List ℕ) (n : ℕ) → is_ascii_digit x ≡ p → lex in_word xs ≡ lex in_word (drop n xs) → lex in_word (x ∷ xs) ≡ lex in_word (drop (cond p (1 + n) 0) (x ∷ xs))
digits_step false x xs n e h = refl
digits_step true x xs n e h =
    let next : suc n ≡ 1 + n = omega arith in
    word_octet x xs (digit_is_other x e) ∙ h ∙ ap (λ k. lex in_word (drop k (x ∷ xs))) next

pub digits_passed : (xs : List ℕ) → lex in_word xs ≡ lex in_word (drop (prefix_len is_ascii_digit xs) xs)
digits_passed [] = refl
digits_passed (x ∷ xs) = digits_step (is_ascii_digit x) x xs (prefix_len is_ascii_digit xs) refl (digits_passed xs)

-- ---- places

pub octet_of : (t : List ℕ) (i : ℕ) → i < length t → drop i t ≡ get_or t i 0 ∷ drop (i + 1) t
octet_of t i h = drop_more t i 0 h

pub two_at : (t : List ℕ) (i a b : ℕ) → i + 2 ≤ length t → get_or t i 0 ≡ a → get_or t (i + 1) 0 ≡ b → drop i t ≡ a ∷ b ∷ drop (i + 2) t
two_at t i a b h e f =
    let two : i + 1 + 1 ≡ i + 2 = omega arith in
    drop_more t i 0 (omega arith) ∙ ap (λ x. x ∷ drop (i + 1) t) e
    ∙ ap (λ l. a ∷ l) (drop_more t (i + 1) 0 (omega arith) ∙ ap (λ x. x ∷ drop (i + 1 + 1) t) f ∙ ap (λ n. b ∷ drop n t) two)

pub four_at : (t : List ℕ) (i : ℕ) → i + 4 ≤ length t → drop i t ≡ get_or t i 0 ∷ get_or t (i + 1) 0 ∷ get_or t (i + 2) 0 ∷ get_or t (i + 3) 0 ∷ drop (i + 4) t
four_at t i h =
    let two : i + 2 + 2 ≡ i + 4 = omega arith in
    let three : i + 2 + 1 ≡ i + 3 = omega arith in
    two_at t i _ _ (omega arith) refl refl ∙ ap (λ l. get_or t i 0 ∷ get_or t (i + 1) 0 ∷ l) (two_at t (i + 2) _ _ (omega arith) refl refl ∙ (λ k. get_or t (i + 2) 0 ∷ get_or t (three k) 0 ∷ drop (two k) t))

pub space_passed : (t : List ℕ) (i : ℕ) → i < length t → is_blank (class (get_or t i 0)) ≡ true → lex between (drop (i + 1) t) ≡ lex between (drop i t)
space_passed t i h e = sym (ap (lex between) (drop_more t i 0 h) ∙ blank_passed (get_or t i 0) (drop (i + 1) t) e)

blank_tests : (q b o s : Bool) → is_blank (cond q quote (cond b backslash (cond o operator (cond s space other)))) ≡ true → (o || s) ≡ true
blank_tests true b o s e = absurd (false≢true e)
blank_tests false true o s e = absurd (false≢true e)
blank_tests false false true s e = refl
blank_tests false false false true e = refl
blank_tests false false false false e = absurd (false≢true e)

pub space_ends : (t : List ℕ) (i : ℕ) → i < length t → is_blank (class (get_or t i 0)) ≡ true → ends_word (drop i t) ≡ true
space_ends t i h e = ap ends_word (drop_more t i 0 h) ∙ blank_tests (get_or t i 0 == 34) (get_or t i 0 == 92) (is_operator (get_or t i 0)) (is_space (get_or t i 0)) e

pub within : (t : List ℕ) (i c : ℕ) (r : List ℕ) → drop i t ≡ c ∷ r → i < length t
within t i c r e = omega (arith, length-drop i t, ap length e)
