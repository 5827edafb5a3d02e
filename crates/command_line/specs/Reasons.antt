-- The words behind the line of a fault.
use Rattle.std.specs.Prelude.{◌≡◌, ◌&&◌, ◌+◌, ◌/◌, ◌%◌, ℕ, nat_le, List, [], ◌∷◌, ◌++◌, codes, length, take, ⊤, String, string_bytes, if◌then◌else◌}
use Rattle.std.specs.declared.alloc.Global.{Global}
use Rattle.std.specs.Str.{bytes_eq}
use Rattle.command_line.specs.declared.refusal.CommandRefusal.{CommandRefusal}
use Rattle.command_line.specs.declared.refusal.CommandRefusal.TheVariants.{NoMemory, Usage}

-- a digit of 0 to 9, a to f
abbrev pub hex_digit : ℕ → ℕ
hex_digit n = if nat_le n 9 then 48 + n else 87 + n

-- an octet of printable ASCII as it stands, another one by a backslash, `x` and two digits
abbrev pub shown_octet : ℕ → List ℕ
shown_octet c = if nat_le 32 c && nat_le c 126 then c ∷ [] else 92 ∷ 120 ∷ hex_digit (c / 16) ∷ hex_digit (c % 16) ∷ []

abbrev pub shown : List ℕ → List ℕ
shown [] = []
shown (c ∷ cs) = shown_octet c ++ shown cs

-- the first octets of a text, which are shown
unfoldable pub first : List ℕ → List ℕ
first text = take 1000 text

-- two dots where a text has more
abbrev pub dots : List ℕ → List ℕ
dots text = if nat_le (length text) 1000 then [] else 46 ∷ 46 ∷ []

-- a text as one line that ends in LF
abbrev pub shown_line : List ℕ → List ℕ
shown_line text = shown (first text) ++ (dots text ++ 10 ∷ [])

-- what the help of a client's command is asked of
abbrev pub client_of : List ℕ → List ℕ
client_of word =
    if bytes_eq (codes "subscribe") word then codes "wampd subscribe" else if bytes_eq (codes "publish") word then codes "wampd publish" else codes "wampd"

-- what the help of the command that the words begin with is asked of
abbrev pub command_of : List (String Global) → List ℕ
command_of [] = codes "wampd"
command_of (word ∷ words) =
    if bytes_eq (codes "replay") (string_bytes word) then codes "wampd replay" else if bytes_eq (codes "serve") (string_bytes word) then codes "wampd serve" else client_of (string_bytes word)

-- where that help is
abbrev pub hint : List ℕ → List ℕ
hint command = codes "; for more information, try '" ++ (command ++ codes " --help'")

abbrev pub EndsIn : List ℕ → List ℕ → Type 0
EndsIn back text = (front : List ℕ) × (text ≡ front ++ back)

-- that a value is refused, of which argument, and why
abbrev pub invalid_value : List ℕ → List ℕ → List ℕ → List ℕ
invalid_value value argument why = codes "invalid value '" ++ (value ++ (codes "' for '" ++ (argument ++ (codes "': " ++ why))))

-- why a text is no realm
abbrev pub no_realm : List ℕ
no_realm = codes "a realm is a URI: parts joined by dots, none of them empty, without white space and #"

-- why a text is no session
abbrev pub no_session : List ℕ
no_session = codes "the id of a session is wanted, a whole number from 1 to 9007199254740992"

-- where words are refused, the reason names this value
abbrev pub NamesValue : List ℕ → List ℕ → List ℕ → CommandRefusal → Type 0
NamesValue value argument why NoMemory = ⊤
NamesValue value argument why (Usage text) = string_bytes text ≡ invalid_value value argument why
