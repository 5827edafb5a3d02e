-- Reading a text by its octets, each with the two before it.
use Rattle.std.proofs.Common.{◌≡◌, ℕ, ◌+◌, ◌*◌, ◌/◌, ◌%◌, ◌<◌, ◌≤◌, Bool, true, false, cond, not, ◌&&◌, ◌||◌, eqb, nat_lt, List, [], ◌∷◌, ◌++◌, length, get_or, drop, bit_or, refl, sym, ap, ap₂, subst, ◌∙◌, arith, inl, inr, Option, Some, None, IfSome, IfNone}
use Rattle.std.specs.List.{list_all, list_any}
use Rattle.std.specs.Str.{chars, IsUtf8}
use Rattle.std.proofs.lemmas.Bool.{ne_eqb, eqb-true, cases_lt, cases_eq, or_parts, cond-true, cond-false, lt-ltb, le-ltb}
use Rattle.std.proofs.lemmas.Bool.Decides.{nat_tests}
use Rattle.std.proofs.Math.Bool.{and_assoc, or_assoc, and-true, and-false, or-false}
use Rattle.std.proofs.Math.Utf8.{encode, encodes}
use Rattle.std.proofs.lemmas.Str.{encode_ascii, encodes-chars}
use Rattle.std.proofs.lemmas.List.{at_drop_more, at_drop_all}
use Rattle.wamp_ids.specs.Uri.{is_plain, is_topic, components}
use Rattle.wamp_ids.specs.Octets.{passes, leads_space, ends_space, has_space, is_space_of_two, is_space_of_three, is_general_space}
use Rattle.wamp_ids.proofs.AsciiScan.{or_is_zero, dot_is_plain}
use Rattle.wamp_ids.proofs.TopicScan.{good_from, is_topic-is}
use Rattle.wamp_ids.proofs.ComponentWalk.{loose, loose-is}

-- an octet, behind the two before it, ends no white space and no `#`
abbrev ends_plain : ℕ → ℕ → ℕ → Bool
ends_plain first before octet = (nat_lt 127 octet || is_plain octet) && not (ends_space first before octet)

-- an octet that begins a character, and one of ASCII
lead_stands : (a b x : ℕ) → 192 ≤ x → ends_plain a b x ≡ true
lead_stands a b x h = grind (arith, nat_tests)

ascii_stands : (a b c : ℕ) → c < 128 → ends_plain a b c ≡ is_plain c
ascii_stands a b c h = grind (arith, nat_tests)

-- the second octet of a character of more than two
second_stands : (b x y : ℕ) → 224 ≤ x → 128 ≤ y → ends_plain b x y ≡ true
second_stands b x y h g = grind (arith, nat_tests)

-- the last octet of two
no_third : (b x y : ℕ) → 192 ≤ x → is_space_of_three b x y ≡ false
no_third b x y h = grind (arith, nat_tests)

last_is_of_two : (b x y : ℕ) → 192 ≤ x → 128 ≤ y → ends_plain b x y ≡ not (is_space_of_two x y)
last_is_of_two b x y h g =
    ap (λ t. (t || is_plain y) && not (is_space_of_two x y || is_space_of_three b x y)) (lt-ltb 127 y (omega (arith, g)))
    ∙ ap (λ t. not (is_space_of_two x y || t)) (no_third b x y h)
    ∙ ap not (or-false (is_space_of_two x y))

plain_of_two : (c : ℕ) → 128 ≤ c → c < 2048 → is_plain c ≡ not (eqb c 133 || eqb c 160)
plain_of_two c l h = grind (arith, nat_tests)

space_of_two : (c p q : ℕ) → c ≡ p * 64 + q → q < 64 → is_space_of_two (192 + p) (128 + q) ≡ eqb c 133 || eqb c 160
space_of_two c p q e g = grind (arith, nat_tests)

last_of_two : (b c p q : ℕ) → 128 ≤ c → c < 2048 → c ≡ p * 64 + q → q < 64 → ends_plain b (192 + p) (128 + q) ≡ is_plain c
last_of_two b c p q l h e g =
    last_is_of_two b (192 + p) (128 + q) (omega arith) (omega arith)
    ∙ ap not (space_of_two c p q e g)
    ∙ sym (plain_of_two c l h)

-- white space of three octets
abbrev general : ℕ → Bool
general c = (nat_lt 8191 c && nat_lt c 8203) || (eqb c 8232 || (eqb c 8233 || (eqb c 8239 || eqb c 8287)))

abbrev of_three : ℕ → Bool
of_three c = general c || (eqb c 5760 || eqb c 12288)

last_is_of_three : (x y z : ℕ) → 224 ≤ x → 128 ≤ y → y < 192 → 128 ≤ z → ends_plain x y z ≡ not (is_space_of_three x y z)
last_is_of_three x y z h g i j = grind (arith, nat_tests)

plain_of_three : (c : ℕ) → 2048 ≤ c → is_plain c ≡ not (of_three c)
plain_of_three c l = grind (arith, nat_tests)

general_first : (c r : ℕ) → c ≡ 8192 + r → r < 64 → is_general_space 128 (128 + r) ≡ general c
general_first c r e h = grind (arith, nat_tests)

general_second : (c r : ℕ) → c ≡ 8256 + r → r < 64 → is_general_space 129 (128 + r) ≡ general c
general_second c r e h = grind (arith, nat_tests)

general_other : (c y z : ℕ) → 8320 ≤ c → 130 ≤ y → is_general_space y z ≡ general c
general_other c y z e h = grind (arith, nat_tests)

general_space : (c q r : ℕ) → c ≡ 8192 + (q * 64 + r) → r < 64 → is_general_space (128 + q) (128 + r) ≡ general c
general_space c q r e h = elim (cases_lt q 2) [
  | inl low ↦ elim (cases_eq q 0) [
    | inl at ↦ ap (λ k. is_general_space (128 + k) (128 + r)) at ∙ general_first c r (omega arith) h
    | inr ne ↦ let at : q ≡ 1 = omega (arith, ne) in ap (λ k. is_general_space (128 + k) (128 + r)) at ∙ general_second c r (omega arith) h
  ]
  | inr high ↦ general_other c (128 + q) (128 + r) (omega arith) (omega arith)
]

-- the third octet of three, behind each octet that begins white space, and behind the others
behind_226 : (c q r : ℕ) → c ≡ 8192 + (q * 64 + r) → q < 64 → r < 64 → is_space_of_three 226 (128 + q) (128 + r) ≡ of_three c
behind_226 c q r e g h = ap₂ (λ s t. s || t) (general_space c q r e h) (no_others c (omega arith) (omega arith))
  where
    no_others : (c : ℕ) → 8192 ≤ c → c < 12288 → false ≡ eqb c 5760 || eqb c 12288
    no_others c l h = grind (arith, nat_tests)

behind_225 : (c q r : ℕ) → c ≡ 4096 + (q * 64 + r) → q < 64 → r < 64 → is_space_of_three 225 (128 + q) (128 + r) ≡ of_three c
behind_225 c q r e g h = grind (arith, nat_tests)

behind_227 : (c q r : ℕ) → c ≡ 12288 + (q * 64 + r) → q < 64 → r < 64 → is_space_of_three 227 (128 + q) (128 + r) ≡ of_three c
behind_227 c q r e g h = grind (arith, nat_tests)

low_others : (x y z c : ℕ) → x < 225 → c < 4096 → is_space_of_three x y z ≡ of_three c
low_others x y z c h l = grind (arith, nat_tests)

high_others : (x y z c : ℕ) → 227 < x → 16384 ≤ c → is_space_of_three x y z ≡ of_three c
high_others x y z c h l = grind (arith, nat_tests)

space_of_three : (c p q r : ℕ) → c ≡ (p * 64 + q) * 64 + r → q < 64 → r < 64 → is_space_of_three (224 + p) (128 + q) (128 + r) ≡ of_three c
space_of_three c p q r e g h =
    let behind : ℕ → Bool = λ k. is_space_of_three (224 + k) (128 + q) (128 + r) in
    elim (cases_lt p 1) [
      | inl low ↦ low_others (224 + p) (128 + q) (128 + r) c (omega arith) (omega arith)
      | inr above ↦ elim (cases_lt 3 p) [
        | inl high ↦ high_others (224 + p) (128 + q) (128 + r) c (omega arith) (omega arith)
        | inr below ↦ elim (cases_eq p 1) [
          | inl at ↦ ap behind at ∙ behind_225 c q r (omega arith) g h
          | inr no_1 ↦ elim (cases_eq p 2) [
            | inl at ↦ ap behind at ∙ behind_226 c q r (omega arith) g h
            | inr no_2 ↦ let at : p ≡ 3 = omega (arith, no_1, no_2) in ap behind at ∙ behind_227 c q r (omega arith) g h
          ]
        ]
      ]
    ]

last_of_three : (c p q r : ℕ) → 2048 ≤ c → c ≡ (p * 64 + q) * 64 + r → q < 64 → r < 64 → ends_plain (224 + p) (128 + q) (128 + r) ≡ is_plain c
last_of_three c p q r l e g h =
    last_is_of_three (224 + p) (128 + q) (128 + r) (omega arith) (omega arith) (omega arith) (omega arith)
    ∙ ap not (space_of_three c p q r e g h)
    ∙ sym (plain_of_three c l)

-- any but the second octet of four
third_stands : (x y z : ℕ) → 240 ≤ x → 128 ≤ y → y < 192 → 128 ≤ z → ends_plain x y z ≡ true
third_stands x y z h g i j = grind (arith, nat_tests)

fourth_stands : (x y z : ℕ) → 128 ≤ x → x < 192 → 128 ≤ y → y < 192 → 128 ≤ z → ends_plain x y z ≡ true
fourth_stands x y z h g i j k = grind (arith, nat_tests)

above_is_plain : (c : ℕ) → 65536 ≤ c → is_plain c ≡ true
above_is_plain c h = grind (arith, nat_tests)

-- the rest of a text is well formed behind two octets, where empty components are faults or not
abbrev pub reads : Bool → ℕ → ℕ → List ℕ → Bool
reads dots first before [] = not (dots && eqb before 46)
reads dots first before (c ∷ cs) = (ends_plain first before c && not (dots && (eqb before 46 && eqb c 46))) && reads dots before c cs

-- the octets of one character
abbrev Reads : ℕ → List ℕ → Type 0
Reads c octets = (dots : Bool) (a b : ℕ) (rest : List ℕ) (good : Bool) → ((a b : ℕ) → eqb b 46 ≡ eqb c 46 → reads dots a b rest ≡ good)
    → reads dots a b (octets ++ rest) ≡ (is_plain c && not (dots && (eqb b 46 && eqb c 46))) && good

no_dots : (dots b d : Bool) → d ≡ false → not (dots && (b && d)) ≡ true
no_dots dots b d e = ap (λ d. not (dots && (b && d))) e ∙ ap (λ d. not (dots && d)) (and-false b) ∙ ap not (and-false dots)

wide_octet : (dots : Bool) (a b c : ℕ) (rest : List ℕ) → 128 ≤ c → reads dots a b (c ∷ rest) ≡ ends_plain a b c && reads dots b c rest
wide_octet dots a b c rest h =
    ap (λ t. (ends_plain a b c && t) && reads dots b c rest) (no_dots dots (eqb b 46) (eqb c 46) (ne_eqb c 46 (λ e. omega (arith, h, e))))
    ∙ ap (λ t. t && reads dots b c rest) (and-true (ends_plain a b c))

-- an octet behind which the character isn't over
more_octet : (dots : Bool) (a b c : ℕ) (rest : List ℕ) → 128 ≤ c → ends_plain a b c ≡ true → reads dots a b (c ∷ rest) ≡ reads dots b c rest
more_octet dots a b c rest h e = wide_octet dots a b c rest h ∙ ap (λ t. t && reads dots b c rest) e

-- its last octet
last_octet : (dots : Bool) (a b x y c : ℕ) (rest : List ℕ) (good : Bool) → 128 ≤ y → 128 ≤ c → ends_plain a x y ≡ is_plain c
    → ((a b : ℕ) → eqb b 46 ≡ eqb c 46 → reads dots a b rest ≡ good)
    → reads dots a x (y ∷ rest) ≡ (is_plain c && not (dots && (eqb b 46 && eqb c 46))) && good
last_octet dots a b x y c rest good h g e then =
    let none : eqb y 46 ≡ false = ne_eqb y 46 (λ e. omega (arith, h, e)) in
    let neither : eqb c 46 ≡ false = ne_eqb c 46 (λ e. omega (arith, g, e)) in
    wide_octet dots a x y rest h
    ∙ ap₂ (λ s t. s && t) e (then x y (none ∙ sym neither))
    ∙ sym (ap (λ t. (is_plain c && t) && good) (no_dots dots (eqb b 46) (eqb c 46) neither) ∙ ap (λ t. t && good) (and-true (is_plain c)))

encode_two : (c : ℕ) → 128 ≤ c → c < 2048 → encode c ≡ (192 + c / 64) ∷ (128 + c % 64) ∷ []
unfolding encode
encode_two c l h = cond-false _ _ _ (le-ltb c 128 l) ∙ cond-true _ _ _ (lt-ltb c 2048 h)

encode_three : (c : ℕ) → 2048 ≤ c → c < 65536 → encode c ≡ (224 + c / 4096) ∷ (128 + (c / 64) % 64) ∷ (128 + c % 64) ∷ []
unfolding encode
encode_three c l h = cond-false _ _ _ (le-ltb c 128 (omega arith)) ∙ cond-false _ _ _ (le-ltb c 2048 l) ∙ cond-true _ _ _ (lt-ltb c 65536 h)

encode_four : (c : ℕ) → 65536 ≤ c → encode c ≡ (240 + c / 262144) ∷ (128 + (c / 4096) % 64) ∷ (128 + (c / 64) % 64) ∷ (128 + c % 64) ∷ []
unfolding encode
encode_four c l = cond-false _ _ _ (le-ltb c 128 (omega arith)) ∙ cond-false _ _ _ (le-ltb c 2048 (omega arith)) ∙ cond-false _ _ _ (le-ltb c 65536 l)

reads_one : (c : ℕ) → c < 128 → Reads c (c ∷ [])
reads_one c h = λ dots a b rest good then. ap₂ (λ s t. (s && not (dots && (eqb b 46 && eqb c 46))) && t) (ascii_stands a b c h) (then b c refl)

reads_two : (c : ℕ) → 128 ≤ c → c < 2048 → Reads c ((192 + c / 64) ∷ (128 + c % 64) ∷ [])
reads_two c l h = λ dots a b rest good then.
    let x = 192 + c / 64 in
    let y = 128 + c % 64 in
    more_octet dots a b x (y ∷ rest) (omega arith) (lead_stands a b x (omega arith))
    ∙ last_octet dots b b x y c rest good (omega arith) l (last_of_two b c (c / 64) (c % 64) l h (omega arith) (omega arith)) then

reads_three : (c : ℕ) → 2048 ≤ c → Reads c ((224 + c / 4096) ∷ (128 + (c / 64) % 64) ∷ (128 + c % 64) ∷ [])
reads_three c l = λ dots a b rest good then.
    let x = 224 + c / 4096 in
    let y = 128 + (c / 64) % 64 in
    let z = 128 + c % 64 in
    more_octet dots a b x (y ∷ z ∷ rest) (omega arith) (lead_stands a b x (omega arith))
    ∙ more_octet dots b x y (z ∷ rest) (omega arith) (second_stands b x y (omega arith) (omega arith))
    ∙ last_octet dots x b y z c rest good (omega arith) (omega arith) (last_of_three c (c / 4096) ((c / 64) % 64) (c % 64) l (omega arith) (omega arith) (omega arith)) then

reads_four : (c : ℕ) → 65536 ≤ c → Reads c ((240 + c / 262144) ∷ (128 + (c / 4096) % 64) ∷ (128 + (c / 64) % 64) ∷ (128 + c % 64) ∷ [])
reads_four c l = λ dots a b rest good then.
    let x = 240 + c / 262144 in
    let y = 128 + (c / 4096) % 64 in
    let z = 128 + (c / 64) % 64 in
    let w = 128 + c % 64 in
    more_octet dots a b x (y ∷ z ∷ w ∷ rest) (omega arith) (lead_stands a b x (omega arith))
    ∙ more_octet dots b x y (z ∷ w ∷ rest) (omega arith) (second_stands b x y (omega arith) (omega arith))
    ∙ more_octet dots x y z (w ∷ rest) (omega arith) (third_stands x y z (omega arith) (omega arith) (omega arith) (omega arith))
    ∙ last_octet dots y b z w c rest good (omega arith) (omega arith)
    (fourth_stands y z w (omega arith) (omega arith) (omega arith) (omega arith) (omega arith) ∙ sym (above_is_plain c l)) then

reads_character : (c : ℕ) → Reads c (encode c)
reads_character c = elim (cases_lt c 128) [
  | inl one ↦ subst (Reads c) (sym (encode_ascii c one)) (reads_one c one)
  | inr more_than_one ↦ elim (cases_lt c 2048) [
    | inl two ↦ subst (Reads c) (sym (encode_two c more_than_one two)) (reads_two c more_than_one two)
    | inr more_than_two ↦ elim (cases_lt c 65536) [
      | inl three ↦ subst (Reads c) (sym (encode_three c more_than_two three)) (reads_three c more_than_two)
      | inr four ↦ subst (Reads c) (sym (encode_four c four)) (reads_four c four)
    ]
  ]
]

-- a text whose characters are read is a topic, or loose
dot_step : (p b d : Bool) (cs : List ℕ) → (d ≡ true → p ≡ true)
    → (p && not (b && d)) && good_from (not d) cs ≡ cond d (not b && good_from false cs) (p && good_from true cs)
dot_step p b true cs e = ap (λ p. (p && not (b && true)) && good_from false cs) (e refl) ∙ ap (λ b. not b && good_from false cs) (and-true b)
dot_step p b false cs e = ap (λ b. (p && not b) && good_from true cs) (and-false b) ∙ ap (λ p. p && good_from true cs) (and-true p)

reads_topic : (cs : List ℕ) (a b : ℕ) → reads true a b (encodes cs) ≡ good_from (not (eqb b 46)) cs
reads_topic [] a b = refl
reads_topic (c ∷ cs) a b =
    reads_character c true a b (encodes cs) (good_from (not (eqb c 46)) cs) (λ a b e. reads_topic cs a b ∙ ap (λ d. good_from (not d) cs) e)
    ∙ dot_step (is_plain c) (eqb b 46) (eqb c 46) cs (λ d. ap is_plain (eqb-true c 46 d))

reads_loose : (cs : List ℕ) (a b : ℕ) → reads false a b (encodes cs) ≡ loose cs
reads_loose [] a b = refl
reads_loose (c ∷ cs) a b =
    reads_character c false a b (encodes cs) (loose cs) (λ a b e. reads_loose cs a b)
    ∙ ap (λ t. t && loose cs) (and-true (is_plain c) ∙ dot_is_plain c)

reads-is_topic : (text : List ℕ) → IsUtf8 text → reads true 0 46 text ≡ is_topic text
reads-is_topic text utf8 = ap (reads true 0 46) (sym (encodes-chars text utf8)) ∙ reads_topic (chars text) 0 46 ∙ sym (is_topic-is text)

reads-is_loose : (text : List ℕ) → IsUtf8 text → reads false 0 0 text ≡ list_all (list_all is_plain) (components (chars text))
reads-is_loose text utf8 = ap (reads false 0 0) (sym (encodes-chars text utf8)) ∙ reads_loose (chars text) 0 0 ∙ loose-is (chars text)

-- `reads` is `passes` without white space beyond ASCII
parts : (p w d n h : Bool) → ((p && not w) && d) && (n && not h) ≡ ((p && d) && n) && not (w || h)
parts false w d n h = refl
parts true true d n h = sym (and-false (d && n))
parts true false d n h = sym (and_assoc d n (not h))

reads-passes : (dots : Bool) (a b : ℕ) (octets : List ℕ) → reads dots a b octets ≡ passes dots b octets && not (has_space a b octets)
reads-passes dots a b [] = sym (and-true (not (dots && eqb b 46)))
reads-passes dots a b (c ∷ cs) =
    ap (λ t. (ends_plain a b c && not (dots && (eqb b 46 && eqb c 46))) && t) (reads-passes dots b c cs)
    ∙ parts (nat_lt 127 c || is_plain c) (ends_space a b c) (not (dots && (eqb b 46 && eqb c 46))) (passes dots c cs) (has_space b c cs)

-- what stands before a text begins no white space
no_dot_before : (text : List ℕ) → has_space 0 0 text ≡ has_space 0 46 text
no_dot_before [] = refl
no_dot_before (c ∷ []) = refl
no_dot_before (c ∷ d ∷ ds) = refl

pub is_topic-passes : (text : List ℕ) → IsUtf8 text → passes true 46 text && not (has_space 0 0 text) ≡ is_topic text
is_topic-passes text utf8 = ap (λ h. passes true 46 text && not h) (no_dot_before text) ∙ sym (reads-passes true 0 46 text) ∙ reads-is_topic text utf8

pub is_loose-passes : (text : List ℕ) → IsUtf8 text → passes false 0 text && not (has_space 0 0 text) ≡ list_all (list_all is_plain) (components (chars text))
is_loose-passes text utf8 = sym (reads-passes false 0 0 text) ∙ reads-is_loose text utf8

-- no white space where none begins
no_two : (b c : ℕ) → leads_space b ≡ false → is_space_of_two b c ≡ false
no_two b c h = grind (arith, nat_tests)

no_three : (a b c : ℕ) → leads_space a ≡ false → is_space_of_three a b c ≡ false
no_three a b c h = grind (arith, nat_tests)

pub no_space : (octets : List ℕ) (a b : ℕ) → leads_space a ≡ false → leads_space b ≡ false → list_any leads_space octets ≡ false → has_space a b octets ≡ false
no_space [] a b h g e = refl
no_space (c ∷ cs) a b h g e =
    let parts = or_parts (leads_space c) (list_any leads_space cs) e in
    ap₂ (λ s t. s || t) (ap₂ (λ s t. s || t) (no_two b c g) (no_three a b c h)) (no_space cs b c g parts.0 parts.1)

abbrev pub is_wide : ℕ → Bool
is_wide c = nat_lt 127 c

no_lead : (c : ℕ) → is_wide c ≡ false → leads_space c ≡ false
no_lead c h = grind (arith, nat_tests)

none_leads : (octets : List ℕ) → list_any is_wide octets ≡ false → list_any leads_space octets ≡ false
none_leads [] e = refl
none_leads (c ∷ cs) e =
    let parts = or_parts (is_wide c) (list_any is_wide cs) e in
    ap₂ (λ s t. s || t) (no_lead c parts.0) (none_leads cs parts.1)

-- the answer of one look
abbrev Answers : Bool → Bool → Option Bool → Type 0
Answers q h r = IfSome r (λ is. is ≡ q && not h) × IfNone r (q ≡ true)

pub answers : (octets : List ℕ) (p q wide : Bool) (r : Option Bool) → r ≡ cond (p && wide) None (Some p) → p ≡ q → wide ≡ list_any is_wide octets
    → IfSome r (λ is. is ≡ q && not (has_space 0 0 octets)) × IfNone r (q ≡ true)
answers octets p q wide r e same tells =
    subst (λ q. Answers q (has_space 0 0 octets) r) same
    (subst (Answers p (has_space 0 0 octets)) (sym e) (cases p wide (has_space 0 0 octets) (λ none. no_space octets 0 0 refl refl (none_leads octets (sym tells ∙ none)))))
  where
    cases : (p wide h : Bool) → (wide ≡ false → h ≡ false) → Answers p h (cond (p && wide) None (Some p))
    cases true true h e = (tt, refl)
    cases true false h e = (sym (ap not (e refl)), tt)
    cases false wide h e = (refl, tt)

-- one more octet
pub passes_more : (dots : Bool) (octets : List ℕ) (n faults fault before : ℕ) → n < length octets
    → eqb fault 0 ≡ (nat_lt 127 (get_or octets n 0) || is_plain (get_or octets n 0)) && not (dots && (eqb before 46 && eqb (get_or octets n 0) 46))
    → eqb (bit_or faults fault) 0 && passes dots (get_or octets n 0) (drop (n + 1) octets) ≡ eqb faults 0 && passes dots before (drop n octets)
passes_more dots octets n faults fault before h e =
    let c = get_or octets n 0 in
    let good = passes dots c (drop (n + 1) octets) in
    ap (λ b. b && good) (or_is_zero faults fault ∙ ap (λ b. eqb faults 0 && b) e)
    ∙ and_assoc (eqb faults 0) ((nat_lt 127 c || is_plain c) && not (dots && (eqb before 46 && eqb c 46))) good
    ∙ ap (λ b. eqb faults 0 && b) (sym (at_drop_more (passes dots before) octets n 0 h))

-- where dots don't count, it doesn't matter what stands before
pub passes-before : (a b : ℕ) (octets : List ℕ) → passes false a octets ≡ passes false b octets
passes-before a b [] = refl
passes-before a b (c ∷ cs) = refl

pub any_more : (test : ℕ → Bool) (octets : List ℕ) (n : ℕ) (found : Bool) → n < length octets
    → (found || test (get_or octets n 0)) || list_any test (drop (n + 1) octets) ≡ found || list_any test (drop n octets)
any_more test octets n found h =
    or_assoc found (test (get_or octets n 0)) (list_any test (drop (n + 1) octets))
    ∙ ap (λ b. found || b) (sym (at_drop_more (list_any test) octets n 0 h))

one_more_found : (f t : Bool) → not (f && not t) ≡ not f || t
one_more_found true true = refl
one_more_found true false = refl
one_more_found false t = refl

-- the same, where what was found stands in the bits of a number
pub marks_more : (test : ℕ → Bool) (octets : List ℕ) (n found mark : ℕ) → n < length octets → eqb mark 0 ≡ not (test (get_or octets n 0))
    → not (eqb (bit_or found mark) 0) || list_any test (drop (n + 1) octets) ≡ not (eqb found 0) || list_any test (drop n octets)
marks_more test octets n found mark h e =
    ap (λ b. b || list_any test (drop (n + 1) octets))
    (ap not (or_is_zero found mark ∙ ap (λ b. eqb found 0 && b) e) ∙ one_more_found (eqb found 0) (test (get_or octets n 0)))
    ∙ any_more test octets n (not (eqb found 0)) h

pub space_more : (octets : List ℕ) (n first before : ℕ) (found : Bool) → n < length octets
    → (found || ends_space first before (get_or octets n 0)) || has_space before (get_or octets n 0) (drop (n + 1) octets) ≡ found || has_space first before (drop n octets)
space_more octets n first before found h =
    or_assoc found (ends_space first before (get_or octets n 0)) (has_space before (get_or octets n 0) (drop (n + 1) octets))
    ∙ ap (λ b. found || b) (sym (at_drop_more (has_space first before) octets n 0 h))

-- none left
pub passes_at_end : (dots : Bool) (octets : List ℕ) (n faults before : ℕ) → length octets ≤ n → eqb faults 0 && passes dots before (drop n octets) ≡ eqb faults 0 && not (dots && eqb before 46)
passes_at_end dots octets n faults before h = ap (λ b. eqb faults 0 && b) (at_drop_all (passes dots before) octets n h)

pub any_at_end : (test : ℕ → Bool) (octets : List ℕ) (n : ℕ) (found : Bool) → length octets ≤ n → found || list_any test (drop n octets) ≡ found
any_at_end test octets n found h = ap (λ b. found || b) (at_drop_all (list_any test) octets n h) ∙ or-false found

pub space_at_end : (octets : List ℕ) (n first before : ℕ) (found : Bool) → length octets ≤ n → found || has_space first before (drop n octets) ≡ found
space_at_end octets n first before found h = ap (λ b. found || b) (at_drop_all (has_space first before) octets n h) ∙ or-false found
