-- A string, a piece at a time.
use Rattle.std.proofs.Common.{◌≡◌, ℕ, suc, ◌+◌, ◌-◌, ◌<◌, ◌≤◌, Bool, true, false, cond, not, ◌&&◌, ◌||◌, ◌==◌, nat_lt, nat_le, List, [], ◌∷◌, ◌++◌, length, take, drop, get_or, Option, Some, None, option_and_then, inl, inr, refl, sym, ap, ◌∙◌, subst, arith, append_assoc, append-nil}
use Rattle.std.proofs.lemmas.Bool.{true≢false, false≢true, ne_eqb, and_parts, cases_lt, lt-ltb, le-ltb, lt-leb, le-leb}
use Rattle.std.proofs.lemmas.Str.{IsUtf8-drop, IsCharBoundary-after_ascii}
use Rattle.std.proofs.lemmas.List.{drop-drop}
use Rattle.std.specs.Str.{IsUtf8}
use Rattle.std.specs.Char.{is_digit, encode_utf8, InScalarRange}
use Rattle.std.specs.List.{prefix_len}
use Rattle.json.specs.Text.{Within, plain, after_backslash, after_u, after_high, prepend, content, code_unit, short_escape, is_high_surrogate, is_low_surrogate, surrogate_pair}
use Rattle.json.specs.Word.{is_operator, is_space}
use Rattle.json.specs.Lex.{Lexeme, quote, backslash, operator, space, other, Mode, between, in_string, in_escape, lex_byte, lex}
use Rattle.json.specs.Run.{is_plain}
use Rattle.json_to_msgpack.proofs.Octets.{octet_of}
use Rattle.json_to_msgpack.specs.body.Lexing.{IsRead, IsStringAt, IsUnit, IsEscape}

-- ---- octets

kept : (q b o s : Bool) (x : ℕ) (xs : List ℕ) (f : Mode → List Lexeme) → q ≡ false → b ≡ false
    → lex_byte in_string (cond q quote (cond b backslash (cond o operator (cond s space other)))) x xs f ≡ f in_string
kept true b o s x xs f q h = absurd (true≢false q)
kept false true o s x xs f q h = absurd (true≢false h)
kept false false true s x xs f q h = refl
kept false false false true x xs f q h = refl
kept false false false false x xs f q h = refl

-- an octet that is no quote and no backslash leaves a string open
pub string_octet : (x : ℕ) (xs : List ℕ) → (x == 34) ≡ false → (x == 92) ≡ false → lex in_string (x ∷ xs) ≡ lex in_string xs
unfolding lex
string_octet x xs q b = kept (x == 34) (x == 92) (is_operator x) (is_space x) x xs (λ m. lex m xs) q b

no_tests : (q b l : Bool) → not (q || b || l) ≡ true → (q ≡ false) × (b ≡ false) × (l ≡ false)
no_tests true b l e = absurd (false≢true e)
no_tests false true l e = absurd (false≢true e)
no_tests false false true e = absurd (false≢true e)
no_tests false false false e = (refl, refl, refl)

last_of_tests : (q b l : Bool) (a c d e : Option (List ℕ)) → q ≡ false → b ≡ false → l ≡ false → cond q a (cond b c (cond l d e)) ≡ e
last_of_tests q b l a c d e h i j = (λ k. cond (h k) a (cond (i k) c (cond (j k) d e)))

plain_octet : (x : ℕ) (xs : List ℕ) → is_plain x ≡ true → IsRead (x ∷ xs) xs (x ∷ [])
unfolding content
plain_octet x xs e =
    let tests = no_tests (x == 34) (x == 92) (nat_lt x 32) e in
    record { read = last_of_tests _ _ _ _ _ _ _ tests.0 tests.1 tests.2; passed = string_octet x xs tests.0 tests.1 }

-- ---- runs

pub prepend_both : (a b : List ℕ) (r : Option (List ℕ)) → prepend a (prepend b r) ≡ prepend (a ++ b) r
prepend_both a b None = refl
prepend_both a b (Some s) = ap Some (sym (append_assoc a b s))

prepend_none : (r : Option (List ℕ)) → r ≡ prepend [] r
prepend_none None = refl
prepend_none (Some s) = refl

pub nothing_read : (t : List ℕ) → IsRead t t []
nothing_read t = record { read = prepend_none _; passed = refl }

pub read_on : (a b c u v : List ℕ) → IsRead a b u → IsRead b c v → IsRead a c (u ++ v)
read_on a b c u v h i = record { read = h.read ∙ ap (prepend u) i.read ∙ prepend_both u v _; passed = h.passed ∙ i.passed }

run_step : (p : Bool) (x : ℕ) (xs : List ℕ) (n : ℕ) → is_plain x ≡ p → IsRead xs (drop n xs) (take n xs) → IsRead (x ∷ xs) (drop (cond p (1 + n) 0) (x ∷ xs)) (take (cond p (1 + n) 0) (x ∷ xs))
run_step false x xs n e h = nothing_read (x ∷ xs)
run_step true x xs n e h =
    let next : suc n ≡ 1 + n = omega arith in
    subst (λ k. IsRead (x ∷ xs) (drop k (x ∷ xs)) (take k (x ∷ xs))) next (read_on (x ∷ xs) xs (drop n xs) (x ∷ []) (take n xs) (plain_octet x xs e) h)

-- plain octets stand for themselves
pub run_read : (xs : List ℕ) → IsRead xs (drop (prefix_len is_plain xs) xs) (take (prefix_len is_plain xs) xs)
run_read [] = nothing_read []
run_read (x ∷ xs) = run_step (is_plain x) x xs (prefix_len is_plain xs) refl (run_read xs)

-- the quote that closes a string
pub closed : (old s rest : List ℕ) → IsRead old (34 ∷ rest) s → (content plain old ≡ Some s) × (lex in_string old ≡ lex between rest)
unfolding content lex
closed old s rest h = (h.read ∙ ap Some (append-nil s), h.passed)

-- ---- escapes

utf8_behind : (x : ℕ) (xs : List ℕ) → x < 128 → IsUtf8 (x ∷ xs) → IsUtf8 xs
utf8_behind x xs small u = IsUtf8-drop (x ∷ xs) 1 u (IsCharBoundary-after_ascii (x ∷ xs) 0 u (omega arith) small)

-- a backslash begins an escape
pub escaped : (old s rest next : List ℕ) (c : ℕ) → IsRead old (92 ∷ rest) s → IsEscape after_backslash in_escape rest c next → IsRead old next (s ++ encode_utf8 c)
unfolding content lex
escaped old s rest next c h e = read_on old (92 ∷ rest) next s (encode_utf8 c) h (record { read = e.read; passed = e.passed })

pub backslash_behind : (rest : List ℕ) → IsUtf8 (92 ∷ rest) → IsUtf8 rest
backslash_behind rest u = utf8_behind 92 rest (omega arith) u

-- `\u` and what follows
pub unicode_escape : (rest next : List ℕ) (c : ℕ) → IsEscape after_u in_string rest c next → IsEscape after_backslash in_escape (117 ∷ rest) c next
unfolding content lex
unicode_escape rest next c e = record { read = e.read; passed = e.passed; utf8 = λ u. e.utf8 (utf8_behind 117 rest (omega arith) u) }

-- a letter that stands for a character
pub short_read : (x c : ℕ) (rest : List ℕ) → (x == 117) ≡ false → short_escape x ≡ Some c → x < 128 → encode_utf8 c ≡ c ∷ [] → IsEscape after_backslash in_escape (x ∷ rest) c rest
unfolding content lex
short_read x c rest other_letter is small one = record {
  read = ap (λ b. cond b (content after_u rest) (option_and_then (λ d. prepend (d ∷ []) (content plain rest)) (short_escape x))) other_letter
      ∙ ap (option_and_then (λ d. prepend (d ∷ []) (content plain rest))) is ∙ ap (λ l. prepend l (content plain rest)) (sym one);
  passed = refl;
  utf8 = utf8_behind x rest small;
}

-- ---- four digits

all_found : (b : Bool) (v u : ℕ) → cond b (Some v) None ≡ Some u → b ≡ true
all_found true v u e = refl
all_found false v u e = absurd cc

digit_is_small : (x : ℕ) → is_digit x 16 ≡ true → x < 128
digit_is_small x e =
    elim (cases_lt x 128) [
      | inl a ↦ a
      | inr a ↦ absurd (false≢true (sym (rw (le-ltb x 48 (omega arith), le-ltb x 58 (omega arith), le-ltb x 65 (omega arith), le-ltb x 91 (omega arith), le-ltb x 97 (omega arith), le-ltb x 123 (omega arith)) refl) ∙ e))
    ]

digit_passed : (x : ℕ) (xs : List ℕ) → is_digit x 16 ≡ true → lex in_string (x ∷ xs) ≡ lex in_string xs
digit_passed x xs e = string_octet x xs (ne_eqb x 34 (λ h. false≢true (sym (ap (λ y. is_digit y 16) h) ∙ e))) (ne_eqb x 92 (λ h. false≢true (sym (ap (λ y. is_digit y 16) h) ∙ e)))

pub record IsPassed (old new : List ℕ) : Type 0 where
  pub passed : lex in_string old ≡ lex in_string new
  pub utf8 : IsUtf8 old → IsUtf8 new

digit_behind : (x : ℕ) (xs : List ℕ) → is_digit x 16 ≡ true → IsPassed (x ∷ xs) xs
digit_behind x xs e = record { passed = digit_passed x xs e; utf8 = utf8_behind x xs (digit_is_small x e) }

four_behind : (a b c d : ℕ) (xs : List ℕ) → (is_digit a 16 && is_digit b 16 && is_digit c 16 && is_digit d 16) ≡ true → IsPassed (a ∷ b ∷ c ∷ d ∷ xs) xs
four_behind a b c d xs e =
    let three = and_parts _ _ e in
    let two = and_parts _ _ three.0 in
    let one = and_parts _ _ two.0 in
    let w = digit_behind a (b ∷ c ∷ d ∷ xs) one.0 in
    let x = digit_behind b (c ∷ d ∷ xs) one.1 in
    let y = digit_behind c (d ∷ xs) two.1 in
    let z = digit_behind d xs three.1 in
    record { passed = w.passed ∙ x.passed ∙ y.passed ∙ z.passed; utf8 = λ u. z.utf8 (y.utf8 (x.utf8 (w.utf8 u))) }

unit_behind : (old new : List ℕ) (u : ℕ) → IsUnit old u new → IsPassed old new
unfolding code_unit
unit_behind old new u h = subst (λ l. IsPassed l new) (sym h.octets) (four_behind h.a h.b h.c h.d new (all_found _ _ u h.spelled))

-- a code unit that is a character
pub unit_read : (old new : List ℕ) (u : ℕ) → IsUnit old u new → is_high_surrogate u ≡ false → is_low_surrogate u ≡ false → IsEscape after_u in_string old u new
unfolding content
unit_read old new u h high low =
    let behind = unit_behind old new u h in
    record {
      read = ap (content after_u) h.octets
          ∙ ap (option_and_then (λ v. cond (is_high_surrogate v) (content (after_high v) new) (cond (is_low_surrogate v) None (prepend (encode_utf8 v) (content plain new))))) h.spelled
          ∙ (λ i. cond (high i) (content (after_high u) new) (cond (low i) None (prepend (encode_utf8 u) (content plain new))));
      passed = behind.passed;
      utf8 = behind.utf8;
    }

-- the second half of a pair
pub low_read : (old new : List ℕ) (high low : ℕ) → IsUnit old low new → is_low_surrogate low ≡ true → IsEscape (after_high high) in_string (92 ∷ 117 ∷ old) (surrogate_pair high low) new
unfolding content lex
low_read old new high low h is =
    let behind = unit_behind old new low h in
    record {
      read = ap (λ l. content (after_high high) (92 ∷ 117 ∷ l)) h.octets
          ∙ ap (option_and_then (λ l. cond (is_low_surrogate l) (prepend (encode_utf8 (surrogate_pair high l)) (content plain new)) None)) h.spelled
          ∙ ap (λ b. cond b (prepend (encode_utf8 (surrogate_pair high low)) (content plain new)) None) is;
      passed = behind.passed;
      utf8 = λ u. behind.utf8 (utf8_behind 117 old (omega arith) (utf8_behind 92 (117 ∷ old) (omega arith) u));
    }

-- both halves
pub pair_read : (old middle new : List ℕ) (high c : ℕ) → IsUnit old high middle → is_high_surrogate high ≡ true → IsEscape (after_high high) in_string middle c new → IsEscape after_u in_string old c new
unfolding content
pair_read old middle new high c h is e =
    let behind = unit_behind old middle high h in
    record {
      read = ap (content after_u) h.octets
          ∙ ap (option_and_then (λ v. cond (is_high_surrogate v) (content (after_high v) middle) (cond (is_low_surrogate v) None (prepend (encode_utf8 v) (content plain middle))))) h.spelled
          ∙ ap (λ b. cond b (content (after_high high) middle) (cond (is_low_surrogate high) None (prepend (encode_utf8 high) (content plain middle)))) is
          ∙ e.read;
      passed = behind.passed ∙ e.passed;
      utf8 = λ u. e.utf8 (behind.utf8 u);
    }

pub escape_as : (w : Within) (m : Mode) (old o : List ℕ) (c d : ℕ) (new n : List ℕ) → old ≡ o → c ≡ d → new ≡ n → IsEscape w m o d n → IsEscape w m old c new
escape_as w m old o c d new n e f g h = subst (λ x. IsEscape w m x c new) (sym e) (subst (λ x. IsEscape w m o x new) (sym f) (subst (λ x. IsEscape w m o d x) (sym g) h))

-- ---- halves of surrogate pairs

never : (b : Bool) → (b && false) ≡ false
never b = elim b as (λ x. (x && false) ≡ false) [ true ↦ refl | false ↦ refl ]

pub no_halves : (u : ℕ) → InScalarRange u → (is_high_surrogate u ≡ false) × (is_low_surrogate u ≡ false)
no_halves u (inl a) = ((λ i. lt-leb 0xd800 u a i && nat_lt u 0xdc00), (λ i. lt-leb 0xdc00 u (omega arith) i && nat_lt u 0xe000))
no_halves u (inr b) =
    let low = b.0 in
    ((λ i. nat_le 0xd800 u && le-ltb u 0xdc00 (omega arith) i) ∙ never (nat_le 0xd800 u), (λ i. nat_le 0xdc00 u && le-ltb u 0xe000 low i) ∙ never (nat_le 0xdc00 u))

pub high_half : (u : ℕ) → 0xd800 ≤ u → u < 0xdc00 → is_high_surrogate u ≡ true
high_half u a b = λ i. le-leb 0xd800 u a i && lt-ltb u 0xdc00 b i

pub low_half : (u : ℕ) → 0xdc00 ≤ u → u < 0xe000 → is_low_surrogate u ≡ true
low_half u a b = λ i. le-leb 0xdc00 u a i && lt-ltb u 0xe000 b i

-- ---- strings in a text

run_at : (t : List ℕ) (at stop : ℕ) → stop ≡ at + prefix_len is_plain (drop at t) → IsRead (drop at t) (drop stop t) (take (stop - at) (drop at t))
run_at t at stop e =
    let n = prefix_len is_plain (drop at t) in
    let long : n ≡ stop - at = omega arith in
    let behind : drop n (drop at t) ≡ drop stop t = drop-drop n at t ∙ ap (λ k. drop k t) (sym e) in
    subst (λ k. IsRead (drop at t) (drop stop t) (take k (drop at t))) long (subst (λ l. IsRead (drop at t) l (take n (drop at t))) behind (run_read (drop at t)))

pub string_closed : (t : List ℕ) (from at stop : ℕ) (s all : List ℕ) → IsRead (drop from t) (drop at t) s → stop ≡ at + prefix_len is_plain (drop at t) → stop < length t → drop stop t ≡ 34 ∷ drop (stop + 1) t
    → all ≡ s ++ take (stop - at) (drop at t) → IsStringAt t from all (stop + 1)
string_closed t from at stop s all h e inside quoted same =
    let whole = read_on (drop from t) (drop at t) (drop stop t) s (take (stop - at) (drop at t)) h (run_at t at stop e) in
    let over = closed (drop from t) (s ++ take (stop - at) (drop at t)) (drop (stop + 1) t) (subst (λ l. IsRead (drop from t) l (s ++ take (stop - at) (drop at t))) quoted whole) in
    record { read = over.0 ∙ ap Some (sym same); passed = over.1; within = omega arith }

pub string_escaped : (t : List ℕ) (from at stop next c : ℕ) (s all : List ℕ) → IsRead (drop from t) (drop at t) s → stop ≡ at + prefix_len is_plain (drop at t) → drop stop t ≡ 92 ∷ drop (stop + 1) t
    → IsEscape after_backslash in_escape (drop (stop + 1) t) c (drop next t) → all ≡ (s ++ take (stop - at) (drop at t)) ++ encode_utf8 c → IsRead (drop from t) (drop next t) all
string_escaped t from at stop next c s all h e slashed escape same =
    let whole = read_on (drop from t) (drop at t) (drop stop t) s (take (stop - at) (drop at t)) h (run_at t at stop e) in
    let over = escaped (drop from t) (s ++ take (stop - at) (drop at t)) (drop (stop + 1) t) (drop next t) c (subst (λ l. IsRead (drop from t) l (s ++ take (stop - at) (drop at t))) slashed whole) escape in
    subst (λ l. IsRead (drop from t) (drop next t) l) (sym same) over

-- behind an octet of ASCII a text goes on
pub utf8_past : (t : List ℕ) (i c : ℕ) → IsUtf8 t → i < length t → drop i t ≡ c ∷ drop (i + 1) t → c < 128 → IsUtf8 (drop (i + 1) t)
utf8_past t i c u h e small =
    let is : get_or t i 0 ≡ c = ap (λ l. get_or l 0 0) (sym (octet_of t i h) ∙ e) in
    IsUtf8-drop t (i + 1) u (IsCharBoundary-after_ascii t i u h (omega arith))
