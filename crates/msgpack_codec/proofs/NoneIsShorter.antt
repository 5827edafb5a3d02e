-- No spelling of a tree is shorter than the least one.
use Rattle.std.proofs.Common.{◌≡◌, ℕ, zero, suc, ℤ, pos, negsuc, ◌+◌, ◌-◌, ◌^◌, ◌==◌, ◌≤◌, ◌<◌, Bool, true, false, ◌&&◌, if◌then◌else◌, List, [], ◌∷◌, ◌++◌, length, nat_cmp, inl, inr, refl, sym, ap, subst, arith}
use Rattle.std.specs.Cmp.Lexicographic.{slice_cmp}
use Rattle.std.specs.Int.{byte_len}
use Rattle.std.specs.Str.{is_utf8}
use Rattle.std.proofs.lemmas.Bool.{cases_lt, lt-ltb, le-ltb}
use Rattle.std.proofs.lemmas.List.{length-append}
use Rattle.message_tree.specs.Data as tree
use Rattle.message_tree.specs.View.{items_of}
use Rattle.msgpack_codec.specs.declared.format.Form.{Form}
use Rattle.msgpack_codec.specs.declared.format.Form.TheVariants as forms
use Rattle.msgpack_codec.specs.declared.format.Size.{Size}
use Rattle.msgpack_codec.specs.declared.format.Size.TheVariants.{Here, Next}
use Rattle.msgpack_codec.specs.declared.format.Width.{Width}
use Rattle.msgpack_codec.specs.declared.format.Width.TheVariants.{One, Two, Four, Eight}
use Rattle.msgpack_codec.specs.Format.{form_of, marked_form, bits_of}
use Rattle.msgpack_codec.specs.Values.{signed_from, text_from, keep_entry, is_text}
use Rattle.msgpack_codec.specs.Short.{text_head, bytes_head, list_head, dict_head, from_zero, below_zero, whole_short, short, items_short, entries_short, item_count}
use Rattle.msgpack_codec.specs.Grammar.{IsNumber, IsSize, IsSized, IsLeaf, AreSpelled, ArePairsSpelled, map_from, IsNest, Spells}
use Rattle.message_tree.proofs.Lemmas.{whichever}
use Rattle.msgpack_codec.proofs.Members.{kept_or_put}
use Rattle.msgpack_codec.proofs.ShortIsSpelled.{complement, one_low, two_low, four_low}

-- ---- octets

abbrev pub Low : List ℕ → Type 0
Low [] = Unit {0}
Low (c ∷ o) = (c < 256) × Low o

pub low_octets : (o : List ℕ) → tree.AreOctets o → Low o
low_octets [] h = tt
low_octets (c ∷ o) h = (h 0, low_octets o (λ i. h (suc i)))

pub low_front : (a b : List ℕ) → Low (a ++ b) → Low a
low_front [] b h = tt
low_front (c ∷ a) b h = (h.0, low_front a b h.1)

pub low_back : (a b : List ℕ) → Low (a ++ b) → Low b
low_back [] b h = h
low_back (c ∷ a) b h = low_back a b h.1

pub as_low : (a b : List ℕ) → a ≡ b → Low a → Low b
as_low a b e h = subst Low e h

-- ---- numbers

-- what a number of this width is below
abbrev pub Within : Width → ℕ → Type 0
Within One n = n < 256
Within Two n = n < 65536
Within Four n = n < 2 ^ 32
Within Eight n = Unit {0}

number_within : (w : Width) (o : List ℕ) (n : ℕ) → Low o → IsNumber w o n → Within w n
number_within One [] n l h = absurd (omega (arith, h.0))
number_within One (a ∷ []) n l h = subst (λ m. m < 256) (sym h.1) l.0
number_within One (a ∷ b ∷ o) n l h = absurd (omega (arith, h.0))
number_within Two [] n l h = absurd (omega (arith, h.0))
number_within Two (a ∷ []) n l h = absurd (omega (arith, h.0))
number_within Two (a ∷ b ∷ []) n l h = omega (arith, h.1, l.0, l.1.0)
number_within Two (a ∷ b ∷ c ∷ o) n l h = absurd (omega (arith, h.0))
number_within Four [] n l h = absurd (omega (arith, h.0))
number_within Four (a ∷ []) n l h = absurd (omega (arith, h.0))
number_within Four (a ∷ b ∷ []) n l h = absurd (omega (arith, h.0))
number_within Four (a ∷ b ∷ c ∷ []) n l h = absurd (omega (arith, h.0))
number_within Four (a ∷ b ∷ c ∷ d ∷ []) n l h = omega (arith, h.1, l.0, l.1.0, l.1.1.0, l.1.1.1.0)
number_within Four (a ∷ b ∷ c ∷ d ∷ e ∷ o) n l h = absurd (omega (arith, h.0))
number_within Eight o n l h = tt

zero_one : (n : ℕ) → n < 128 → length (from_zero n) ≤ 1
unfolding from_zero
zero_one n a = rw (lt-ltb n 128 a) (omega arith)

zero_fits_one : (n : ℕ) → n < 256 → length (from_zero n) ≤ 2
unfolding from_zero
zero_fits_one n h =
    elim (cases_lt n 128) [
      | inl a ↦ rw (lt-ltb n 128 a) (omega arith)
      | inr a ↦ rw (le-ltb n 128 a, lt-ltb n 256 h) (omega arith)
    ]

zero_fits_two : (n : ℕ) → n < 65536 → length (from_zero n) ≤ 3
unfolding from_zero
zero_fits_two n h =
    elim (cases_lt n 256) [
      | inl b ↦ omega (arith, zero_fits_one n b)
      | inr b ↦ rw (le-ltb n 128 (omega arith), le-ltb n 256 b, lt-ltb n 65536 h) (omega arith)
    ]

zero_fits_four : (n : ℕ) → n < 2 ^ 32 → length (from_zero n) ≤ 5
unfolding from_zero
zero_fits_four n h =
    elim (cases_lt n 65536) [
      | inl c ↦ omega (arith, zero_fits_two n c)
      | inr c ↦ rw (le-ltb n 128 (omega arith), le-ltb n 256 (omega arith), le-ltb n 65536 c, lt-ltb n (2 ^ 32) h) (omega arith)
    ]

zero_fits_eight : (n : ℕ) → length (from_zero n) ≤ 9
unfolding from_zero
zero_fits_eight n =
    elim (cases_lt n (2 ^ 32)) [
      | inl d ↦ omega (arith, zero_fits_four n d)
      | inr d ↦ rw (le-ltb n 128 (omega arith), le-ltb n 256 (omega arith), le-ltb n 65536 (omega arith), le-ltb n (2 ^ 32) d) (omega arith)
    ]

zero_fits : (w : Width) (n : ℕ) → Within w n → length (from_zero n) ≤ suc (byte_len (bits_of w))
zero_fits One n h = zero_fits_one n h
zero_fits Two n h = zero_fits_two n h
zero_fits Four n h = zero_fits_four n h
zero_fits Eight n h = zero_fits_eight n

below_one : (n : ℕ) → n < 32 → length (below_zero n) ≤ 1
unfolding below_zero
below_one n a = rw (lt-ltb n 32 a) (omega arith)

below_fits_one : (n : ℕ) → n < 128 → length (below_zero n) ≤ 2
unfolding below_zero
below_fits_one n h =
    elim (cases_lt n 32) [
      | inl a ↦ rw (lt-ltb n 32 a) (omega arith)
      | inr a ↦ rw (le-ltb n 32 a, lt-ltb n 128 h) (omega arith)
    ]

below_fits_two : (n : ℕ) → n < 32768 → length (below_zero n) ≤ 3
unfolding below_zero
below_fits_two n h =
    elim (cases_lt n 128) [
      | inl b ↦ omega (arith, below_fits_one n b)
      | inr b ↦ rw (le-ltb n 32 (omega arith), le-ltb n 128 b, lt-ltb n 32768 h) (omega arith)
    ]

below_fits_four : (n : ℕ) → n < 2 ^ 31 → length (below_zero n) ≤ 5
unfolding below_zero
below_fits_four n h =
    elim (cases_lt n 32768) [
      | inl c ↦ omega (arith, below_fits_two n c)
      | inr c ↦ rw (le-ltb n 32 (omega arith), le-ltb n 128 (omega arith), le-ltb n 32768 c, lt-ltb n (2 ^ 31) h) (omega arith)
    ]

below_fits_eight : (n : ℕ) → length (below_zero n) ≤ 9
unfolding below_zero
below_fits_eight n =
    elim (cases_lt n (2 ^ 31)) [
      | inl d ↦ omega (arith, below_fits_four n d)
      | inr d ↦ rw (le-ltb n 32 (omega arith), le-ltb n 128 (omega arith), le-ltb n 32768 (omega arith), le-ltb n (2 ^ 31) d) (omega arith)
    ]

as_short : (k : ℕ) (y z : ℤ) → z ≡ y → length (whole_short y) ≤ k → length (whole_short z) ≤ k
as_short k y z e h = subst (λ x. length (whole_short x) ≤ k) (sym e) h

any_fits : (z : ℤ) → length (whole_short z) ≤ 9
any_fits (pos n) = zero_fits_eight n
any_fits (negsuc n) = below_fits_eight n

signed_fits : (w : Width) (n : ℕ) → Within w n → length (whole_short (signed_from w n)) ≤ suc (byte_len (bits_of w))
signed_fits One n h =
    elim (cases_lt n 128) [
      | inl a ↦ rw (lt-ltb n 128 a) (zero_fits_one n h)
      | inr a ↦ as_short 2 (negsuc (255 - n)) (signed_from One n) (complement One n (255 - n) 256 (one_low n a) (omega arith)) (below_fits_one (255 - n) (omega arith))
    ]
signed_fits Two n h =
    elim (cases_lt n 32768) [
      | inl a ↦ rw (lt-ltb n 32768 a) (zero_fits_two n h)
      | inr a ↦ as_short 3 (negsuc (65535 - n)) (signed_from Two n) (complement Two n (65535 - n) 65536 (two_low n a) (omega arith)) (below_fits_two (65535 - n) (omega arith))
    ]
signed_fits Four n h =
    elim (cases_lt n 2147483648) [
      | inl a ↦ rw (lt-ltb n 2147483648 a) (zero_fits_four n h)
      | inr a ↦ as_short 5 (negsuc (4294967295 - n)) (signed_from Four n) (complement Four n (4294967295 - n) 4294967296 (four_low n a) (omega arith)) (below_fits_four (4294967295 - n) (omega arith))
    ]
signed_fits Eight n h = any_fits (signed_from Eight n)

-- ---- heads

-- a length that this size can say is at most this one
abbrev pub Holds : Size → ℕ → Type 0
Holds (Here m) n = n ≤ m
Holds (Next w) n = Within w n

holds_less : (size : Size) (m n : ℕ) → m ≤ n → Holds size n → Holds size m
holds_less (Here k) m n le h = omega arith
holds_less (Next One) m n le h = omega arith
holds_less (Next Two) m n le h = omega arith
holds_less (Next Four) m n le h = omega arith
holds_less (Next Eight) m n le h = tt

abbrev pub octets_of : Size → ℕ
octets_of (Here m) = 0
octets_of (Next w) = byte_len (bits_of w)

pub size_holds : (size : Size) (head : List ℕ) (n : ℕ) → Low head → IsSize size head n → Holds size n
size_holds (Here m) head n l h = omega (arith, h.1)
size_holds (Next w) head n l h = number_within w head n l h

pub size_octets : (size : Size) (head : List ℕ) (n : ℕ) → IsSize size head n → octets_of size ≡ length head
size_octets (Here m) head n h = ap length (sym h.0)
size_octets (Next w) head n h = sym h.0

-- no head of this kind with a size of this form is shorter than the one that h writes
abbrev pub IsLeast : (ℕ → List ℕ) → Size → Type 0
IsLeast h size = (n : ℕ) → Holds size n → length (h n) ≤ suc (octets_of size)

text_here : (m : ℕ) → m < 32 → IsLeast text_head (Here m)
unfolding text_head
text_here m lt n h = rw (lt-ltb n 32 (omega arith)) (omega arith)

text_next_one : (n : ℕ) → n < 256 → length (text_head n) ≤ 2
unfolding text_head
text_next_one n h =
    elim (cases_lt n 32) [
      | inl a ↦ rw (lt-ltb n 32 a) (omega arith)
      | inr a ↦ rw (le-ltb n 32 a, lt-ltb n 256 h) (omega arith)
    ]

text_next_two : (n : ℕ) → n < 65536 → length (text_head n) ≤ 3
unfolding text_head
text_next_two n h =
    elim (cases_lt n 256) [
      | inl b ↦ omega (arith, text_next_one n b)
      | inr b ↦ rw (le-ltb n 32 (omega arith), le-ltb n 256 b, lt-ltb n 65536 h) (omega arith)
    ]

text_next_four : (n : ℕ) → n < 2 ^ 32 → length (text_head n) ≤ 5
unfolding text_head
text_next_four n h =
    elim (cases_lt n 65536) [
      | inl c ↦ omega (arith, text_next_two n c)
      | inr c ↦ rw (le-ltb n 32 (omega arith), le-ltb n 256 (omega arith), le-ltb n 65536 c) (omega arith)
    ]

text_next_eight : (n : ℕ) → length (text_head n) ≤ 9
unfolding text_head
text_next_eight n =
    elim (cases_lt n 65536) [
      | inl c ↦ omega (arith, text_next_two n c)
      | inr c ↦ rw (le-ltb n 32 (omega arith), le-ltb n 256 (omega arith), le-ltb n 65536 c) (omega arith)
    ]

text_next : (w : Width) → IsLeast text_head (Next w)
text_next One n h = text_next_one n h
text_next Two n h = text_next_two n h
text_next Four n h = text_next_four n h
text_next Eight n h = text_next_eight n

bytes_head_five : (n : ℕ) → length (bytes_head n) ≤ 5
unfolding bytes_head
bytes_head_five n =
    elim (cases_lt n 256) [
      | inl b ↦ rw (lt-ltb n 256 b) (omega arith)
      | inr b ↦ elim (cases_lt n 65536) [
        | inl c ↦ rw (le-ltb n 256 b, lt-ltb n 65536 c) (omega arith)
        | inr c ↦ rw (le-ltb n 256 b, le-ltb n 65536 c) (omega arith)
      ]
    ]

bytes_next : (w : Width) → IsLeast bytes_head (Next w)
unfolding bytes_head
bytes_next One n h = rw (lt-ltb n 256 h) (omega arith)
bytes_next Two n h =
    elim (cases_lt n 256) [
      | inl b ↦ rw (lt-ltb n 256 b) (omega arith)
      | inr b ↦ rw (le-ltb n 256 b, lt-ltb n 65536 h) (omega arith)
    ]
bytes_next Four n h = bytes_head_five n
bytes_next Eight n h = omega (arith, bytes_head_five n)

list_here : (m : ℕ) → m < 16 → IsLeast list_head (Here m)
unfolding list_head
list_here m lt n h = rw (lt-ltb n 16 (omega arith)) (omega arith)

list_next_two : IsLeast list_head (Next Two)
unfolding list_head
list_next_two n h =
    elim (cases_lt n 16) [
      | inl b ↦ rw (lt-ltb n 16 b) (omega arith)
      | inr b ↦ rw (le-ltb n 16 b, lt-ltb n 65536 h) (omega arith)
    ]

list_next_four : IsLeast list_head (Next Four)
unfolding list_head
list_next_four n h =
    elim (cases_lt n 65536) [
      | inl b ↦ omega (arith, list_next_two n b)
      | inr b ↦ rw (le-ltb n 16 (omega arith), le-ltb n 65536 b) (omega arith)
    ]

dict_here : (m : ℕ) → m < 16 → IsLeast dict_head (Here m)
unfolding dict_head
dict_here m lt n h = rw (lt-ltb n 16 (omega arith)) (omega arith)

dict_next_two : IsLeast dict_head (Next Two)
unfolding dict_head
dict_next_two n h =
    elim (cases_lt n 16) [
      | inl b ↦ rw (lt-ltb n 16 b) (omega arith)
      | inr b ↦ rw (le-ltb n 16 b, lt-ltb n 65536 h) (omega arith)
    ]

dict_next_four : IsLeast dict_head (Next Four)
unfolding dict_head
dict_next_four n h =
    elim (cases_lt n 65536) [
      | inl b ↦ omega (arith, dict_next_two n b)
      | inr b ↦ rw (le-ltb n 16 (omega arith), le-ltb n 65536 b) (omega arith)
    ]

-- ---- first octets

-- what a first octet says is said in one octet, or by a head that is no shorter than the least
abbrev pub IsFair : Form → Type 0
IsFair forms.Null = Unit {0}
IsFair (forms.Flag b) = Unit {0}
IsFair (forms.Whole z) = length (whole_short z) ≤ 1
IsFair (forms.Unsigned w) = Unit {0}
IsFair (forms.Signed w) = Unit {0}
IsFair (forms.Text size) = IsLeast text_head size
IsFair (forms.Bytes size) = IsLeast bytes_head size
IsFair (forms.List size) = IsLeast list_head size
IsFair (forms.Dict size) = IsLeast dict_head size
IsFair (forms.Foreign size) = Unit {0}
IsFair (forms.Float w) = Unit {0}
IsFair forms.Never = Unit {0}

either : (b : Bool) (x y : Form) → IsFair x → IsFair y → IsFair (if b then x else y)
either true x y g h = g
either false x y g h = h

marked_fair : (c : ℕ) → IsFair (marked_form c)
marked_fair c =
    either (c == 192) _ _ tt (either (c == 194) _ _ tt (either (c == 195) _ _ tt
    (either (c == 196) _ _ (bytes_next One) (either (c == 197) _ _ (bytes_next Two) (either (c == 198) _ _ (bytes_next Four)
    (either (c == 199) _ _ tt (either (c == 200) _ _ tt (either (c == 201) _ _ tt
    (either (c == 202) _ _ tt (either (c == 203) _ _ tt
    (either (c == 204) _ _ tt (either (c == 205) _ _ tt (either (c == 206) _ _ tt (either (c == 207) _ _ tt
    (either (c == 208) _ _ tt (either (c == 209) _ _ tt (either (c == 210) _ _ tt (either (c == 211) _ _ tt
    (either (c == 212) _ _ tt (either (c == 213) _ _ tt (either (c == 214) _ _ tt (either (c == 215) _ _ tt (either (c == 216) _ _ tt
    (either (c == 217) _ _ (text_next One) (either (c == 218) _ _ (text_next Two) (either (c == 219) _ _ (text_next Four)
    (either (c == 220) _ _ list_next_two (either (c == 221) _ _ list_next_four
    (either (c == 222) _ _ dict_next_two (either (c == 223) _ _ dict_next_four tt))))))))))))))))))))))))))))))

pub form_fair : (c : ℕ) → IsFair (form_of c)
unfolding form_of
form_fair c =
    elim (cases_lt c 128) [
      | inl a ↦ rw (lt-ltb c 128 a) (zero_one c a)
      | inr a ↦ elim (cases_lt c 144) [
        | inl b ↦ rw (le-ltb c 128 a, lt-ltb c 144 b) (dict_here (c - 128) (omega arith))
        | inr b ↦ elim (cases_lt c 160) [
          | inl d ↦ rw (le-ltb c 128 a, le-ltb c 144 b, lt-ltb c 160 d) (list_here (c - 144) (omega arith))
          | inr d ↦ elim (cases_lt c 192) [
            | inl e ↦ rw (le-ltb c 128 a, le-ltb c 144 b, le-ltb c 160 d, lt-ltb c 192 e) (text_here (c - 160) (omega arith))
            | inr e ↦ elim (cases_lt c 224) [
              | inl f ↦ rw (le-ltb c 128 a, le-ltb c 144 b, le-ltb c 160 d, le-ltb c 192 e, lt-ltb c 224 f) (marked_fair c)
              | inr f ↦ rw (le-ltb c 128 a, le-ltb c 144 b, le-ltb c 160 d, le-ltb c 192 e, le-ltb c 224 f) (below_one (255 - c) (omega arith))
            ]
          ]
        ]
      ]
    ]

-- ---- leaves

sized_fits : (h : ℕ → List ℕ) (size : Size) (o s : List ℕ) → IsLeast h size → Low o → IsSized size o s → length (h (length s) ++ s) ≤ suc (length o)
sized_fits h size o s least l (head, is, e) =
    let low = low_front head s (as_low o (head ++ s) e l) in
    let of_head = least (length s) (size_holds size head (length s) low is) in
    omega (arith, of_head, size_octets size head (length s) is, ap length e, length-append head s, length-append (h (length s)) s)

-- a tree as short as this one is
as_tree : (n : ℕ) (d e : tree.Data) → d ≡ e → length (short e) ≤ n → length (short d) ≤ n
as_tree n d e same h = subst (λ x. length (short x) ≤ n) (sym same) h

text_from_fits : (s : List ℕ) (n : ℕ) → length (text_head (length s) ++ s) ≤ n → length (short (text_from s)) ≤ n
text_from_fits s n h = elim (is_utf8 s) as (λ b. length (short (if b then tree.text s else tree.uncarried)) ≤ n) [ true ↦ h | false ↦ omega arith ]

pub leaf_fits : (form : Form) (o : List ℕ) (d : tree.Data) → IsFair form → Low o → IsLeaf form o d → length (short d) ≤ suc (length o)
leaf_fits forms.Null o d f l h = as_tree _ d _ h.1 (omega arith)
leaf_fits (forms.Flag b) o d f l h = as_tree _ d _ h.1 (omega arith)
leaf_fits (forms.Whole z) o d f l h = as_tree _ d _ h.1 (omega (arith, f))
leaf_fits (forms.Unsigned w) o d f l h = as_tree _ d _ h.2 (omega (arith, zero_fits w h.0 (number_within w o h.0 l h.1), h.1.0))
leaf_fits (forms.Signed w) o d f l h = as_tree _ d _ h.2 (omega (arith, signed_fits w h.0 (number_within w o h.0 l h.1), h.1.0))
leaf_fits (forms.Text size) o d f l h = as_tree _ d _ h.2 (text_from_fits h.0 _ (sized_fits text_head size o h.0 f l h.1))
leaf_fits (forms.Bytes size) o d f l h = as_tree _ d _ h.2 (sized_fits bytes_head size o h.0 f l h.1)
leaf_fits (forms.List size) o d f l h = absurd h
leaf_fits (forms.Dict size) o d f l h = absurd h
leaf_fits (forms.Foreign size) o d f l h = as_tree _ d _ h.6 (omega arith)
leaf_fits (forms.Float w) o d f l h = as_tree _ d _ h.1 (omega arith)
leaf_fits forms.Never o d f l h = absurd h

-- ---- members

item_count-items_of : (ds : List tree.Data) → item_count (items_of ds) ≡ length ds
item_count-items_of [] = refl
item_count-items_of (d ∷ ds) = ap suc (item_count-items_of ds)

items_fit : (S : List ℕ → tree.Data → Type 0) (fits : (o : List ℕ) (d : tree.Data) → Low o → S o d → length (short d) ≤ length o) (body : List ℕ) (ds : List tree.Data)
    → Low body → AreSpelled S body ds → length (items_short (items_of ds)) ≤ length body
items_fit S fits body [] l h = omega arith
items_fit S fits body (d ∷ ds) l (front, back, e, s, more) =
    let low = as_low body (front ++ back) e l in
    omega (
      arith,
      fits front d (low_front front back low) s,
      items_fit S fits back ds (low_back front back low) more,
      ap length e,
      length-append front back,
      length-append (short d) (items_short (items_of ds)),
    )

-- the octets of an entry in front of others
length-entry : (k : List ℕ) (d : tree.Data) (es : tree.Entries) → length (entries_short (tree.entry k d es)) ≡ length (text_head (length k)) + (length k + (length (short d) + length (entries_short es)))
length-entry k d es =
    omega (arith, length-append (text_head (length k)) (k ++ (short d ++ entries_short es)), length-append k (short d ++ entries_short es), length-append (short d) (entries_short es))

put_fits : (k : List ℕ) (d : tree.Data) (es : tree.Entries) → length (entries_short (tree.put k d es)) ≤ length (text_head (length k)) + (length k + (length (short d) + length (entries_short es)))
put_fits k d tree.no_entries = omega (arith, length-entry k d tree.no_entries)
put_fits k d (tree.entry l e es) =
    whichever (λ x. length (entries_short x) ≤ length (text_head (length k)) + (length k + (length (short d) + length (entries_short (tree.entry l e es))))) (slice_cmp nat_cmp k l) _ _ _
    (omega (arith, length-entry k d (tree.entry l e es)))
    (omega (arith, length-entry l d es, length-entry l e es))
    (omega (arith, length-entry l e (tree.put k d es), length-entry l e es, put_fits k d es))

put_count : (k : List ℕ) (d : tree.Data) (es : tree.Entries) → tree.entry_count (tree.put k d es) ≤ suc (tree.entry_count es)
put_count k d tree.no_entries = omega arith
put_count k d (tree.entry l e es) =
    whichever (λ x. tree.entry_count x ≤ suc (suc (tree.entry_count es))) (slice_cmp nat_cmp k l) _ _ _ (omega arith) (omega arith) (omega (arith, put_count k d es))

keep_fits : (k v : tree.Data) (es : tree.Entries) → length (entries_short (keep_entry k v es)) ≤ length (short k) + (length (short v) + length (entries_short es))
keep_fits k v es =
    kept_or_put (λ x. length (entries_short x) ≤ length (short k) + (length (short v) + length (entries_short es))) k v es (omega arith)
    (λ s e. omega (arith, put_fits s v es, length-append (text_head (length s)) s, ap (λ x. length (short x)) e))

pub keep_count : (k v : tree.Data) (es : tree.Entries) → tree.entry_count (keep_entry k v es) ≤ suc (tree.entry_count es)
keep_count k v es = kept_or_put (λ x. tree.entry_count x ≤ suc (tree.entry_count es)) k v es (omega arith) (λ s e. put_count s v es)

map_fits : (S : List ℕ → tree.Data → Type 0) (fits : (o : List ℕ) (d : tree.Data) → Low o → S o d → length (short d) ≤ length o) (size : Size) (n m : ℕ) (found : tree.Entries) (texts : Bool) (body : List ℕ)
    (ps : List (tree.Data × tree.Data)) → IsLeast dict_head size → Holds size n → tree.entry_count found + length ps ≤ n → length (entries_short found) + length body ≤ m
    → Low body → ArePairsSpelled S body ps → length (short (map_from found texts ps)) ≤ suc (octets_of size) + m
map_fits S fits size n m found true body [] least holds count within l h =
    omega (arith, least (tree.entry_count found) (holds_less size (tree.entry_count found) n (omega arith) holds), length-append (dict_head (tree.entry_count found)) (entries_short found))
map_fits S fits size n m found false body [] least holds count within l h = omega arith
map_fits S fits size n m found texts body (p ∷ ps) least holds count within l (key, value, back, e, k, v, more) =
    let low = as_low body (key ++ (value ++ back)) e l in
    let behind = low_back key (value ++ back) low in
    let of_key = fits key p.0 (low_front key (value ++ back) low) k in
    let of_value = fits value p.1 (low_front value back behind) v in
    map_fits S fits size n m (keep_entry p.0 p.1 found) (texts && is_text p.0) back ps least holds
    (omega (arith, keep_count p.0 p.1 found))
    (omega (arith, keep_fits p.0 p.1 found, of_key, of_value, ap length e, length-append key (value ++ back), length-append value back))
    (low_back value back behind) more

-- ---- trees

nest_fits : (S : List ℕ → tree.Data → Type 0) (fits : (o : List ℕ) (d : tree.Data) → Low o → S o d → length (short d) ≤ length o) (form : Form) (o : List ℕ) (d : tree.Data)
    → IsFair form → Low o → IsNest S form o d → length (short d) ≤ suc (length o)
nest_fits S fits forms.Null o d f l h = leaf_fits forms.Null o d f l h
nest_fits S fits (forms.Flag b) o d f l h = leaf_fits (forms.Flag b) o d f l h
nest_fits S fits (forms.Whole z) o d f l h = leaf_fits (forms.Whole z) o d f l h
nest_fits S fits (forms.Unsigned w) o d f l h = leaf_fits (forms.Unsigned w) o d f l h
nest_fits S fits (forms.Signed w) o d f l h = leaf_fits (forms.Signed w) o d f l h
nest_fits S fits (forms.Text size) o d f l h = leaf_fits (forms.Text size) o d f l h
nest_fits S fits (forms.Bytes size) o d f l h = leaf_fits (forms.Bytes size) o d f l h
nest_fits S fits (forms.List size) o d f l (head, body, ds, is, e, s, same) =
    let low = as_low o (head ++ body) e l in
    let of_head = f (length ds) (size_holds size head (length ds) (low_front head body low) is) in
    let of_items = items_fit S fits body ds (low_back head body low) s in
    let count = ap (λ n. length (list_head n)) (item_count-items_of ds) in
    as_tree _ d (tree.list (items_of ds)) same
    (omega (arith, of_head, of_items, count, size_octets size head (length ds) is, ap length e, length-append head body, length-append (list_head (item_count (items_of ds))) (items_short (items_of ds))))
nest_fits S fits (forms.Dict size) o d f l (head, body, ps, is, e, s, same) =
    let low = as_low o (head ++ body) e l in
    let of_map = map_fits S fits size (length ps) (length body) tree.no_entries true body ps f (size_holds size head (length ps) (low_front head body low) is) (omega arith) (omega arith) (low_back head body low) s in
    as_tree _ d (map_from tree.no_entries true ps) same (omega (arith, of_map, size_octets size head (length ps) is, ap length e, length-append head body))
nest_fits S fits (forms.Foreign size) o d f l h = leaf_fits (forms.Foreign size) o d f l h
nest_fits S fits (forms.Float w) o d f l h = leaf_fits (forms.Float w) o d f l h
nest_fits S fits forms.Never o d f l h = leaf_fits forms.Never o d f l h

spelled_fits : (room : ℕ) (o : List ℕ) (d : tree.Data) → Low o → Spells room o d → length (short d) ≤ length o
unfolding Spells
spelled_fits zero [] d l h = absurd h
spelled_fits zero (c ∷ o) d l h = leaf_fits (form_of c) o d (form_fair c) l.1 h
spelled_fits (suc room) [] d l h = absurd h
spelled_fits (suc room) (c ∷ o) d l h = nest_fits (Spells room) (spelled_fits room) (form_of c) o d (form_fair c) l.1 h

-- no spelling of a tree has fewer octets than the least one
pub short_is_least : (room : ℕ) (octets : List ℕ) (d : tree.Data) → tree.AreOctets octets → Spells room octets d → length (short d) ≤ length octets
short_is_least room octets d a h = spelled_fits room octets d (low_octets octets a) h
