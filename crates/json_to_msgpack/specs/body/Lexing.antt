-- What the lexer's clauses speak of: what was read of a text, and what is left of it.
use Rattle.std.specs.Prelude.{◌≡◌, ◌==◌, ℕ, ◌-◌, ◌≤◌, true, false, cond, List, ◌∷◌, length, take, drop, Option, Some}
use Rattle.std.specs.Char.{encode_utf8}
use Rattle.std.specs.Str.{IsUtf8}
use Rattle.std.specs.String.{string_bytes}
use Rattle.json.specs.Token as spec
use Rattle.json.specs.Text.{Within, plain, prepend, content, code_unit}
use Rattle.json.specs.Word.{ends_word, head, word}
use Rattle.json.specs.Lex.{class, other, Mode, between, in_word, in_string, lex, may_begin, begins_colon, punctuate}
use Rattle.json.specs.Lex as lexing
use Rattle.json.specs.Cursor.{is_leaf}
use Rattle.serde_json.specs.Data.{unsigned}
use Rattle.serde_json.specs.Read.{number_of}
use Rattle.json_to_msgpack.specs.declared.token.JsonToken.{JsonToken}
use Rattle.json_to_msgpack.specs.declared.token.JsonToken.TheVariants.{Null, Flag, Number, String}
use Rattle.json_to_msgpack.specs.declared.token.LexPlace.{LexPlace}
use Rattle.json_to_msgpack.specs.declared.token.LexPlace.TheVariants.{Fresh, AfterValue, AfterComma}

-- the token that it is in the grammar
abbrev pub token_of : JsonToken → spec.Token
token_of Null = spec.null
token_of (Flag b) = spec.boolean b
token_of (Number s) = spec.number s.now
token_of (String s) = spec.string (string_bytes s)

abbrev pub place_of : LexPlace → lexing.Place
place_of Fresh = lexing.fresh
place_of AfterValue = lexing.after_value
place_of AfterComma = lexing.after_comma

-- the tokens of a text, from such a place on
abbrev pub tokens_left : LexPlace → List ℕ → List spec.Token
tokens_left place text = punctuate (place_of place) (lex between text)

-- wherever a value may begin, the text gives this token, and then what is left
abbrev pub Begins : List ℕ → spec.Token → LexPlace → List ℕ → Type 0
Begins text t place left = (p : lexing.Place) → may_begin p ≡ true → punctuate p (lex between text) ≡ t ∷ tokens_left place left

-- the same at a place of a text; what is left stands at `next`
abbrev pub BeginsAt : List ℕ → ℕ → spec.Token → LexPlace → ℕ → Type 0
BeginsAt text at t place next = Begins (drop at text) t place (drop next text)

-- wherever a value may begin, the text gives this number, whatever digits spell it
pub record BeginsNatural (text : List ℕ) (n : ℕ) (place : LexPlace) (left : List ℕ) : Type 0 where
  pub digits : List ℕ
  pub is : number_of digits ≡ Some (unsigned n)
  pub begins : Begins text (spec.number digits) place left

-- of the tokens `old` the first is this number, and `new` the rest
pub record IsTaken (n : ℕ) (old new : List spec.Token) : Type 0 where
  pub digits : List ℕ
  pub is : number_of digits ≡ Some (unsigned n)
  pub first : old ≡ spec.number digits ∷ new

-- the bracket that opens a list, or else a dictionary
abbrev pub opening : ℕ → spec.Token
opening bracket = cond (bracket == 91) spec.begin_array spec.begin_object

-- the bracket that closes a list, or else a dictionary
abbrev pub closing : ℕ → spec.Token
closing bracket = cond (bracket == 93) spec.end_array spec.end_object

-- a value ends at `from`, and from `to` on the text goes on
pub record IsAfterValue (text : List ℕ) (from : ℕ) (place : LexPlace) (to : ℕ) : Type 0 where
  pub rest : punctuate lexing.after_value (lex between (drop from text)) ≡ tokens_left place (drop to text)
  pub no_key : begins_colon (lex between (drop from text)) ≡ false
  pub ended : ends_word (drop from text) ≡ true

-- a part of a number goes from one place to another; `rest` is what its grammar leaves
pub record IsPart (text : List ℕ) (from : ℕ) (rest : Option (List ℕ)) (to : ℕ) : Type 0 where
  pub is : rest ≡ Some (drop to text)
  pub passed : lex in_word (drop from text) ≡ lex in_word (drop to text)
  pub forward : from ≤ to
  pub within : to ≤ length text

-- a word goes from one place to another, if the second ends one
pub record IsWordAt (text : List ℕ) (from : ℕ) (t : spec.Token) (to : ℕ) : Type 0 where
  pub is : ends_word (drop to text) ≡ true → word (drop from text) ≡ t
  pub leaf : is_leaf t ≡ true
  pub begun : class (head (drop from text)) ≡ other
  pub passed : lex in_word (drop from text) ≡ lex in_word (drop to text)
  pub within : to ≤ length text

-- digits go from one place to another, a whole word if the second ends one, and are this number
pub record IsNaturalAt (text : List ℕ) (from n to : ℕ) : Type 0 where
  pub word : IsWordAt text from (spec.number (take (to - from) (drop from text))) to
  pub is : number_of (take (to - from) (drop from text)) ≡ Some (unsigned n)

-- the text begins with a colon, wherever a key was, and then is left
pub record IsAfterKey (old left : List ℕ) : Type 0 where
  pub behind : List ℕ
  pub colon : lex between old ≡ lex between (58 ∷ behind)
  pub rest : lex between left ≡ lex between behind

-- between these places of a string this much was read
pub record IsRead (old new written : List ℕ) : Type 0 where
  pub read : content plain old ≡ prepend written (content plain new)
  pub passed : lex in_string old ≡ lex in_string new

-- a string goes from one place to another, with its closing quote
pub record IsStringAt (text : List ℕ) (from : ℕ) (s : List ℕ) (to : ℕ) : Type 0 where
  pub read : content plain (drop from text) ≡ Some s
  pub passed : lex in_string (drop from text) ≡ lex between (drop to text)
  pub within : to ≤ length text

-- four digits, and the code unit that they spell
pub record IsUnit (old : List ℕ) (unit : ℕ) (new : List ℕ) : Type 0 where
  pub a : ℕ
  pub b : ℕ
  pub c : ℕ
  pub d : ℕ
  pub octets : old ≡ a ∷ b ∷ c ∷ d ∷ new
  pub spelled : code_unit a b c d ≡ Some unit

-- what is left of an escape, and the character that it is
pub record IsEscape (within : Within) (mode : Mode) (old : List ℕ) (char : ℕ) (new : List ℕ) : Type 0 where
  pub read : content within old ≡ prepend (encode_utf8 char) (content plain new)
  pub passed : lex mode old ≡ lex in_string new
  pub utf8 : IsUtf8 old → IsUtf8 new
