-- What the text gives, by what stands first in it.
use Rattle.std.proofs.Common.{◌≡◌, ℕ, ◌+◌, ◌<◌, ◌≤◌, Bool, true, ◌⊎◌, inl, inr, List, [], ◌∷◌, drop, refl, sym, ap, ◌∙◌, subst, arith}
use Rattle.std.proofs.lemmas.Bool.{false≢true, cases_lt}
use Rattle.json.specs.Token as spec
use Rattle.json.specs.Token.{Token}
use Rattle.json.specs.Word.{head, ends_word, word}
use Rattle.json.specs.Cursor.{is_leaf}
use Rattle.json.specs.Lex.{token, comma, colon, other, class, string_token, between, in_word, in_string, lex_byte, lex, Place, fresh, after_value, after_comma, after_key, begins_colon, may_begin, may_close, if_allowed, place_token, punctuate}
use Rattle.json_to_msgpack.specs.declared.token.LexPlace as place
use Rattle.json_to_msgpack.specs.declared.token.LexPlace.TheVariants.{Fresh, AfterValue, AfterComma}
use Rattle.json_to_msgpack.specs.body.Lexing.{place_of, tokens_left, Begins, opening, closing, IsAfterValue, IsStringAt, IsWordAt}
use Rattle.json_to_msgpack.proofs.Octets.{word_over}

allowed : (b : Bool) (t : Token) (k : Place → List Token) (next : Place) → b ≡ true → if_allowed b t k next ≡ t ∷ k next
allowed b t k next e = ap (λ x. if_allowed x t k next) e

-- ---- brackets that open

opens_list : (old xs left : List ℕ) → old ≡ 91 ∷ xs → lex between left ≡ lex between xs → Begins old spec.begin_array Fresh left
unfolding lex punctuate
opens_list old xs left e same p may =
    ap (λ t. punctuate p (lex between t)) e ∙ allowed (may_begin p) spec.begin_array (λ n. punctuate n (lex between xs)) fresh may ∙ ap (λ ls. spec.begin_array ∷ punctuate fresh ls) (sym same)

opens_dict : (old xs left : List ℕ) → old ≡ 123 ∷ xs → lex between left ≡ lex between xs → Begins old spec.begin_object Fresh left
unfolding lex punctuate
opens_dict old xs left e same p may =
    ap (λ t. punctuate p (lex between t)) e ∙ allowed (may_begin p) spec.begin_object (λ n. punctuate n (lex between xs)) fresh may ∙ ap (λ ls. spec.begin_object ∷ punctuate fresh ls) (sym same)

pub opens : (old xs left : List ℕ) (bracket : ℕ) → (bracket ≡ 91) ⊎ (bracket ≡ 123) → old ≡ bracket ∷ xs → lex between left ≡ lex between xs → Begins old (opening bracket) Fresh left
opens old xs left bracket (inl b) e same = subst (λ t. Begins old t Fresh left) (ap opening (sym b)) (opens_list old xs left (e ∙ ap (λ x. x ∷ xs) b) same)
opens old xs left bracket (inr b) e same = subst (λ t. Begins old t Fresh left) (ap opening (sym b)) (opens_dict old xs left (e ∙ ap (λ x. x ∷ xs) b) same)

-- ---- strings

string_lexemes : (text old s : List ℕ) (from to : ℕ) → old ≡ 34 ∷ drop from text → IsStringAt text from s to → lex between old ≡ token (spec.string s) ∷ lex between (drop to text)
unfolding lex
string_lexemes text old s from to e h =
    ap (lex between) e ∙ ap (λ o. token (string_token o) ∷ lex in_string (drop from text)) h.read ∙ ap (λ ls. token (spec.string s) ∷ ls) h.passed

pub string_value : (text old s : List ℕ) (from to next : ℕ) (after : place.LexPlace) → old ≡ 34 ∷ drop from text → IsStringAt text from s to → IsAfterValue text to after next → Begins old (spec.string s) after (drop next text)
unfolding punctuate
string_value text old s from to next after e h behind p may =
    let k = λ (n : Place). punctuate n (lex between (drop to text)) in
    ap (punctuate p) (string_lexemes text old s from to e h) ∙ ap (λ b. place_token p (spec.string s) b k) behind.no_key
    ∙ allowed (may_begin p) (spec.string s) k after_value may ∙ ap (λ ts. spec.string s ∷ ts) behind.rest

pub string_key : (text old s ys left : List ℕ) (from to : ℕ) → old ≡ 34 ∷ drop from text → IsStringAt text from s to → lex between (drop to text) ≡ lex between (58 ∷ ys) → lex between left ≡ lex between ys
    → Begins old (spec.key s) Fresh left
unfolding lex punctuate
string_key text old s ys left from to e h mark same p may =
    let k = λ (n : Place). punctuate n (colon ∷ lex between ys) in
    ap (punctuate p) (string_lexemes text old s from to e h ∙ ap (λ ls. token (spec.string s) ∷ ls) mark)
    ∙ allowed (may_begin p) (spec.key s) k after_key may ∙ ap (λ ls. spec.key s ∷ punctuate fresh ls) (sym same)

-- ---- words

leaf_token : (p : Place) (w : Token) (b : Bool) (k : Place → List Token) → is_leaf w ≡ true → may_begin p ≡ true → place_token p w b k ≡ w ∷ k after_value
leaf_token p spec.begin_object b k h may = absurd (false≢true h)
leaf_token p spec.end_object b k h may = absurd (false≢true h)
leaf_token p spec.begin_array b k h may = absurd (false≢true h)
leaf_token p spec.end_array b k h may = absurd (false≢true h)
leaf_token p (spec.key s) b k h may = absurd (false≢true h)
leaf_token p (spec.string s) b k h may = absurd (false≢true h)
leaf_token p (spec.number s) b k h may = allowed (may_begin p) (spec.number s) k after_value may
leaf_token p (spec.boolean v) b k h may = allowed (may_begin p) (spec.boolean v) k after_value may
leaf_token p spec.null b k h may = allowed (may_begin p) spec.null k after_value may
leaf_token p spec.bad b k h may = absurd (false≢true h)

first_word : (t : List ℕ) → class (head t) ≡ other → lex between t ≡ token (word t) ∷ lex in_word t
unfolding lex
first_word [] e = absurd cc
first_word (x ∷ xs) e = ap (λ c. lex_byte between c x xs (λ m. lex m xs)) e ∙ ap (λ c. token (word (x ∷ xs)) ∷ lex_byte in_word c x xs (λ m. lex m xs)) (sym e)

word_lexemes : (text : List ℕ) (w : Token) (from to : ℕ) → IsWordAt text from w to → ends_word (drop to text) ≡ true → lex between (drop from text) ≡ token w ∷ lex between (drop to text)
word_lexemes text w from to h over = first_word (drop from text) h.begun ∙ (λ i. token (h.is over i) ∷ h.passed i) ∙ ap (λ ls. token w ∷ ls) (word_over (drop to text) over)

pub word_value : (text : List ℕ) (w : Token) (from to next : ℕ) (after : place.LexPlace) → IsWordAt text from w to → IsAfterValue text to after next → Begins (drop from text) w after (drop next text)
unfolding punctuate
word_value text w from to next after h behind p may =
    ap (punctuate p) (word_lexemes text w from to h behind.ended) ∙ leaf_token p w _ (λ n. punctuate n (lex between (drop to text))) h.leaf may ∙ ap (λ ts. w ∷ ts) behind.rest

-- ---- what follows a value

-- white space ends a word, and so does what is behind none
pub ended_by : (t : List ℕ) (from at : ℕ) → from ≤ at → (from < at → ends_word (drop from t) ≡ true) → ends_word (drop at t) ≡ true → ends_word (drop from t) ≡ true
ended_by t from at le spaces here =
    elim (cases_lt from at) [
      | inl a ↦ spaces a
      | inr b ↦ let same : at ≡ from = omega arith in subst (λ i. ends_word (drop i t) ≡ true) same here
    ]

pub comma_after : (text ys : List ℕ) (from at to : ℕ) → lex between (drop at text) ≡ lex between (drop from text) → drop at text ≡ 44 ∷ ys → lex between (drop to text) ≡ lex between ys → ends_word (drop from text) ≡ true
    → IsAfterValue text from AfterComma to
unfolding lex punctuate
comma_after text ys from at to same e next ended =
    let is : lex between (drop from text) ≡ comma ∷ lex between ys = sym same ∙ ap (lex between) e in
    record { rest = ap (punctuate after_value) is ∙ ap (punctuate after_comma) (sym next); no_key = ap begins_colon is; ended = ended }

pub bracket_after : (text ys : List ℕ) (from at c : ℕ) → lex between (drop at text) ≡ lex between (drop from text) → drop at text ≡ c ∷ ys → (c ≡ 93) ⊎ (c ≡ 125) → ends_word (drop from text) ≡ true → IsAfterValue text from AfterValue at
unfolding lex
bracket_after text ys from at c same e (inl b) ended =
    record { rest = ap (punctuate after_value) (sym same); no_key = ap begins_colon (sym same ∙ ap (lex between) e ∙ ap (λ x. lex between (x ∷ ys)) b); ended = ended }
bracket_after text ys from at c same e (inr b) ended =
    record { rest = ap (punctuate after_value) (sym same); no_key = ap begins_colon (sym same ∙ ap (lex between) e ∙ ap (λ x. lex between (x ∷ ys)) b); ended = ended }

pub end_after : (text : List ℕ) (from at : ℕ) → lex between (drop at text) ≡ lex between (drop from text) → drop at text ≡ [] → ends_word (drop from text) ≡ true → IsAfterValue text from AfterValue at
unfolding lex
end_after text from at same e ended =
    record { rest = ap (punctuate after_value) (sym same); no_key = ap begins_colon (sym same ∙ ap (lex between) e); ended = ended }

-- ---- from the lexer's places

pub begun : (here after : place.LexPlace) (old left : List ℕ) (t : Token) → may_begin (place_of here) ≡ true → Begins old t after left → tokens_left here old ≡ t ∷ tokens_left after left
begun Fresh after old left t may h = h fresh refl
begun AfterValue after old left t may h = absurd (false≢true may)
begun AfterComma after old left t may h = h after_comma refl

pub closes : (here after : place.LexPlace) (text : List ℕ) (at next bracket : ℕ) → may_close (place_of here) ≡ true → (bracket ≡ 93) ⊎ (bracket ≡ 125) → drop at text ≡ bracket ∷ drop (at + 1) text → IsAfterValue text (at + 1) after next
    → tokens_left here (drop at text) ≡ closing bracket ∷ tokens_left after (drop next text)
unfolding lex punctuate
closes here after text at next bracket may b e behind = close_place here may b
  where
    list_end : (p : Place) → may_close p ≡ true → bracket ≡ 93 → punctuate p (lex between (drop at text)) ≡ closing bracket ∷ tokens_left after (drop next text)
    list_end p may is =
        ap (λ t. punctuate p (lex between t)) (e ∙ ap (λ c. c ∷ drop (at + 1) text) is) ∙ allowed (may_close p) spec.end_array (λ n. punctuate n (lex between (drop (at + 1) text))) after_value may
        ∙ ap (λ ts. spec.end_array ∷ ts) behind.rest ∙ ap (λ c. closing c ∷ tokens_left after (drop next text)) (sym is)

    dict_end : (p : Place) → may_close p ≡ true → bracket ≡ 125 → punctuate p (lex between (drop at text)) ≡ closing bracket ∷ tokens_left after (drop next text)
    dict_end p may is =
        ap (λ t. punctuate p (lex between t)) (e ∙ ap (λ c. c ∷ drop (at + 1) text) is) ∙ allowed (may_close p) spec.end_object (λ n. punctuate n (lex between (drop (at + 1) text))) after_value may
        ∙ ap (λ ts. spec.end_object ∷ ts) behind.rest ∙ ap (λ c. closing c ∷ tokens_left after (drop next text)) (sym is)

    either : (p : Place) → may_close p ≡ true → (bracket ≡ 93) ⊎ (bracket ≡ 125) → punctuate p (lex between (drop at text)) ≡ closing bracket ∷ tokens_left after (drop next text)
    either p may (inl is) = list_end p may is
    either p may (inr is) = dict_end p may is

    close_place : (h : place.LexPlace) → may_close (place_of h) ≡ true → (bracket ≡ 93) ⊎ (bracket ≡ 125) → tokens_left h (drop at text) ≡ closing bracket ∷ tokens_left after (drop next text)
    close_place Fresh may b = either fresh refl b
    close_place AfterValue may b = either after_value refl b
    close_place AfterComma may b = absurd (false≢true may)

pub no_tokens : (here : place.LexPlace) (t : List ℕ) → may_close (place_of here) ≡ true → t ≡ [] → tokens_left here t ≡ []
unfolding lex punctuate
no_tokens Fresh t may e = ap (λ l. punctuate fresh (lex between l)) e
no_tokens AfterValue t may e = ap (λ l. punctuate after_value (lex between l)) e
no_tokens AfterComma t may e = absurd (false≢true may)
