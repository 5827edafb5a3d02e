-- The least spelling is a spelling.
use Rattle.std.proofs.Common.{◌≡◌, ℕ, zero, suc, ℤ, pos, negsuc, ◌+◌, ◌-◌, ◌^◌, ◌≤◌, ◌<◌, Bool, true, false, List, [], ◌∷◌, ◌++◌, length, inl, inr, refl, sym, ap, ◌∙◌, subst, append_assoc, arith}
use Rattle.std.proofs.lemmas.Int.{ints}
use Rattle.std.specs.Prelude.{IsUtf8, ◌-ℤ◌}
use Rattle.std.specs.Int.{w16, w32, w64, to_be_bytes}
use Rattle.std.proofs.lemmas.Bool.{and_parts, cases_lt, lt-ltb, le-ltb, ltb-true}
use Rattle.std.proofs.lemmas.Nat.{from_be_bytes-to_be_bytes_2, from_be_bytes-to_be_bytes_4, from_be_bytes-to_be_bytes_8}
use Rattle.message_tree.specs.Data as tree
use Rattle.message_tree.specs.View.{items_of}
use Rattle.message_tree.specs.Data.{joined}
use Rattle.message_tree.proofs.Lemmas.{joined-none, next-put}
use Rattle.msgpack_codec.specs.declared.format.Form.{Form}
use Rattle.msgpack_codec.specs.declared.format.Form.TheVariants as forms
use Rattle.msgpack_codec.specs.declared.format.Size.{Size}
use Rattle.msgpack_codec.specs.declared.format.Size.TheVariants.{Here, Next}
use Rattle.msgpack_codec.specs.declared.format.Width.{Width}
use Rattle.msgpack_codec.specs.declared.format.Width.TheVariants.{One, Two, Four, Eight}
use Rattle.msgpack_codec.specs.Format.{form_of}
use Rattle.msgpack_codec.specs.Values.{signed_from}
use Rattle.msgpack_codec.specs.Short.{text_head, bytes_head, list_head, dict_head, from_zero, below_zero, short, items_short, entries_short, item_count, has_short, items_have_short, entries_have_short}
use Rattle.msgpack_codec.specs.Grammar.{IsSize, IsLeaf, IsNest, AreSpelled, ArePairsSpelled, map_from, Spells}
use Rattle.msgpack_codec.proofs.Texts.{text_from-utf8}
use Rattle.msgpack_codec.proofs.Members.{middle_of, last_of}

-- ---- heads

-- a first octet of this kind, and the octets of a length
abbrev pub HeadIs : (Size → Form) → List ℕ → ℕ → Type 0
HeadIs kind head n = (c : ℕ) × (size : Size) × (rest : List ℕ) × (head ≡ c ∷ rest) × (form_of c ≡ kind size) × IsSize size rest n

form_text : (n : ℕ) → n < 32 → form_of (160 + n) ≡ forms.Text (Here n)
unfolding form_of
form_text n lt =
    rw (le-ltb (160 + n) 128 (omega arith), le-ltb (160 + n) 144 (omega arith), le-ltb (160 + n) 160 (omega arith), lt-ltb (160 + n) 192 (omega arith))
    (let e : 160 + n - 160 ≡ n = omega arith in ap (λ m. forms.Text (Here m)) e)

form_list : (n : ℕ) → n < 16 → form_of (144 + n) ≡ forms.List (Here n)
unfolding form_of
form_list n lt =
    rw (le-ltb (144 + n) 128 (omega arith), le-ltb (144 + n) 144 (omega arith), lt-ltb (144 + n) 160 (omega arith))
    (let e : 144 + n - 144 ≡ n = omega arith in ap (λ m. forms.List (Here m)) e)

form_dict : (n : ℕ) → n < 16 → form_of (128 + n) ≡ forms.Dict (Here n)
unfolding form_of
form_dict n lt =
    rw (le-ltb (128 + n) 128 (omega arith), lt-ltb (128 + n) 144 (omega arith))
    (let e : 128 + n - 128 ≡ n = omega arith in ap (λ m. forms.Dict (Here m)) e)

form_zero : (n : ℕ) → n < 128 → form_of n ≡ forms.Whole (pos n)
unfolding form_of
form_zero n lt = rw (lt-ltb n 128 lt) refl

form_below : (n : ℕ) → n < 32 → form_of (255 - n) ≡ forms.Whole (negsuc n)
unfolding form_of
form_below n lt =
    rw (le-ltb (255 - n) 128 (omega arith), le-ltb (255 - n) 144 (omega arith), le-ltb (255 - n) 160 (omega arith), le-ltb (255 - n) 192 (omega arith), le-ltb (255 - n) 224 (omega arith))
    (let e : 255 - (255 - n) ≡ n = omega arith in ap (λ m. forms.Whole (negsuc m)) e)

text_head_is : (n : ℕ) → n < 2 ^ 32 → HeadIs forms.Text (text_head n) n
unfolding text_head form_of
text_head_is n lt =
    elim (cases_lt n 32) [
      | inl a ↦ (160 + n, Here n, [], rw (lt-ltb n 32 a) refl, form_text n a, (refl, refl))
      | inr a ↦ elim (cases_lt n 256) [
        | inl b ↦ (217, Next One, n ∷ [], rw (le-ltb n 32 a, lt-ltb n 256 b) refl, refl, (refl, refl))
        | inr b ↦ elim (cases_lt n 65536) [
          | inl d ↦ (218, Next Two, to_be_bytes w16 n, rw (le-ltb n 32 a, le-ltb n 256 b, lt-ltb n 65536 d) refl, refl, (refl, sym (from_be_bytes-to_be_bytes_2 n d)))
          | inr d ↦ (219, Next Four, to_be_bytes w32 n, rw (le-ltb n 32 a, le-ltb n 256 b, le-ltb n 65536 d) refl, refl, (refl, sym (from_be_bytes-to_be_bytes_4 n lt)))
        ]
      ]
    ]

bytes_head_is : (n : ℕ) → n < 2 ^ 32 → HeadIs forms.Bytes (bytes_head n) n
unfolding bytes_head form_of
bytes_head_is n lt =
    elim (cases_lt n 256) [
      | inl b ↦ (196, Next One, n ∷ [], rw (lt-ltb n 256 b) refl, refl, (refl, refl))
      | inr b ↦ elim (cases_lt n 65536) [
        | inl d ↦ (197, Next Two, to_be_bytes w16 n, rw (le-ltb n 256 b, lt-ltb n 65536 d) refl, refl, (refl, sym (from_be_bytes-to_be_bytes_2 n d)))
        | inr d ↦ (198, Next Four, to_be_bytes w32 n, rw (le-ltb n 256 b, le-ltb n 65536 d) refl, refl, (refl, sym (from_be_bytes-to_be_bytes_4 n lt)))
      ]
    ]

pub list_head_is : (n : ℕ) → n < 2 ^ 32 → HeadIs forms.List (list_head n) n
unfolding list_head form_of
list_head_is n lt =
    elim (cases_lt n 16) [
      | inl a ↦ (144 + n, Here n, [], rw (lt-ltb n 16 a) refl, form_list n a, (refl, refl))
      | inr a ↦ elim (cases_lt n 65536) [
        | inl d ↦ (220, Next Two, to_be_bytes w16 n, rw (le-ltb n 16 a, lt-ltb n 65536 d) refl, refl, (refl, sym (from_be_bytes-to_be_bytes_2 n d)))
        | inr d ↦ (221, Next Four, to_be_bytes w32 n, rw (le-ltb n 16 a, le-ltb n 65536 d) refl, refl, (refl, sym (from_be_bytes-to_be_bytes_4 n lt)))
      ]
    ]

pub dict_head_is : (n : ℕ) → n < 2 ^ 32 → HeadIs forms.Dict (dict_head n) n
unfolding dict_head form_of
dict_head_is n lt =
    elim (cases_lt n 16) [
      | inl a ↦ (128 + n, Here n, [], rw (lt-ltb n 16 a) refl, form_dict n a, (refl, refl))
      | inr a ↦ elim (cases_lt n 65536) [
        | inl d ↦ (222, Next Two, to_be_bytes w16 n, rw (le-ltb n 16 a, lt-ltb n 65536 d) refl, refl, (refl, sym (from_be_bytes-to_be_bytes_2 n d)))
        | inr d ↦ (223, Next Four, to_be_bytes w32 n, rw (le-ltb n 16 a, le-ltb n 65536 d) refl, refl, (refl, sym (from_be_bytes-to_be_bytes_4 n lt)))
      ]
    ]

-- ---- leaves

nest_leaf : (S : List ℕ → tree.Data → Type 0) (form : Form) (o : List ℕ) (d : tree.Data) → IsLeaf form o d → IsNest S form o d
nest_leaf S forms.Null o d h = h
nest_leaf S (forms.Flag b) o d h = h
nest_leaf S (forms.Whole z) o d h = h
nest_leaf S (forms.Unsigned w) o d h = h
nest_leaf S (forms.Signed w) o d h = h
nest_leaf S (forms.Text size) o d h = h
nest_leaf S (forms.Bytes size) o d h = h
nest_leaf S (forms.List size) o d h = absurd h
nest_leaf S (forms.Dict size) o d h = absurd h
nest_leaf S (forms.Foreign size) o d h = h
nest_leaf S (forms.Float w) o d h = h
nest_leaf S forms.Never o d h = h

leaf_spells : (room c : ℕ) (o : List ℕ) (d : tree.Data) (form : Form) → form_of c ≡ form → IsLeaf form o d → Spells room (c ∷ o) d
unfolding Spells
leaf_spells zero c o d form e h = subst (λ f. IsLeaf f o d) (sym e) h
leaf_spells (suc room) c o d form e h = subst (λ f. IsNest (Spells room) f o d) (sym e) (nest_leaf (Spells room) form o d h)

-- octets that begin as these do
as_octets : (room : ℕ) (x y : List ℕ) (d : tree.Data) → x ≡ y → Spells room y d → Spells room x d
as_octets room x y d e h = subst (λ o. Spells room o d) (sym e) h

pub text_spelled : (room : ℕ) (s : List ℕ) → IsUtf8 s → length s < 2 ^ 32 → Spells room (text_head (length s) ++ s) (tree.text s)
text_spelled room s u lt =
    let h = text_head_is (length s) lt in
    as_octets room _ (h.0 ∷ (h.2 ++ s)) _ (ap (λ x. x ++ s) h.3) (leaf_spells room h.0 (h.2 ++ s) (tree.text s) (forms.Text h.1) h.4 (s, (h.2, h.5, refl), sym (text_from-utf8 s u)))

pub bytes_spelled : (room : ℕ) (s : List ℕ) → length s < 2 ^ 32 → Spells room (bytes_head (length s) ++ s) (tree.bytes s)
bytes_spelled room s lt =
    let h = bytes_head_is (length s) lt in
    as_octets room _ (h.0 ∷ (h.2 ++ s)) _ (ap (λ x. x ++ s) h.3) (leaf_spells room h.0 (h.2 ++ s) (tree.bytes s) (forms.Bytes h.1) h.4 (s, (h.2, h.5, refl), refl))

zero_spelled : (room n : ℕ) → n < 2 ^ 64 → Spells room (from_zero n) (tree.whole (pos n))
unfolding from_zero form_of
zero_spelled room n lt =
    let d = tree.whole (pos n) in
    elim (cases_lt n 128) [
      | inl a ↦ as_octets room _ (n ∷ []) d (rw (lt-ltb n 128 a) refl) (leaf_spells room n [] d (forms.Whole (pos n)) (form_zero n a) (refl, refl))
      | inr a ↦ elim (cases_lt n 256) [
        | inl b ↦ as_octets room _ (204 ∷ n ∷ []) d (rw (le-ltb n 128 a, lt-ltb n 256 b) refl) (leaf_spells room 204 (n ∷ []) d (forms.Unsigned One) refl (n, (refl, refl), refl))
        | inr b ↦ elim (cases_lt n 65536) [
          | inl e ↦ as_octets room _ (205 ∷ to_be_bytes w16 n) d (rw (le-ltb n 128 a, le-ltb n 256 b, lt-ltb n 65536 e) refl)
              (leaf_spells room 205 (to_be_bytes w16 n) d (forms.Unsigned Two) refl (n, (refl, sym (from_be_bytes-to_be_bytes_2 n e)), refl))
          | inr e ↦ elim (cases_lt n (2 ^ 32)) [
            | inl f ↦ as_octets room _ (206 ∷ to_be_bytes w32 n) d (rw (le-ltb n 128 a, le-ltb n 256 b, le-ltb n 65536 e, lt-ltb n (2 ^ 32) f) refl)
                (leaf_spells room 206 (to_be_bytes w32 n) d (forms.Unsigned Four) refl (n, (refl, sym (from_be_bytes-to_be_bytes_4 n f)), refl))
            | inr f ↦ as_octets room _ (207 ∷ to_be_bytes w64 n) d (rw (le-ltb n 128 a, le-ltb n 256 b, le-ltb n 65536 e, le-ltb n (2 ^ 32) f) refl)
                (leaf_spells room 207 (to_be_bytes w64 n) d (forms.Unsigned Eight) refl (n, (refl, sym (from_be_bytes-to_be_bytes_8 n lt)), refl))
          ]
        ]
      ]
    ]

pub complement : (w : Width) (m n k : ℕ) → signed_from w m ≡ pos m -ℤ pos k → m + suc n ≡ k → signed_from w m ≡ negsuc n
complement w m n k e h = let g : pos m -ℤ pos k ≡ negsuc n = omega (arith, ints) in e ∙ g

pub one_low : (m : ℕ) → 128 ≤ m → signed_from One m ≡ pos m -ℤ pos 256
one_low m h = rw (le-ltb m 128 h) refl

pub two_low : (m : ℕ) → 32768 ≤ m → signed_from Two m ≡ pos m -ℤ pos 65536
two_low m h = rw (le-ltb m 32768 h) refl

pub four_low : (m : ℕ) → 2147483648 ≤ m → signed_from Four m ≡ pos m -ℤ pos 4294967296
four_low m h = rw (le-ltb m 2147483648 h) refl

eight_low : (m : ℕ) → 9223372036854775808 ≤ m → signed_from Eight m ≡ pos m -ℤ pos 18446744073709551616
eight_low m h = rw (le-ltb m 9223372036854775808 h) refl

below_spelled : (room n : ℕ) → n < 2 ^ 63 → Spells room (below_zero n) (tree.whole (negsuc n))
unfolding below_zero form_of
below_spelled room n lt =
    let d = tree.whole (negsuc n) in
    elim (cases_lt n 32) [
      | inl a ↦ as_octets room _ ((255 - n) ∷ []) d (rw (lt-ltb n 32 a) refl) (leaf_spells room (255 - n) [] d (forms.Whole (negsuc n)) (form_below n a) (refl, refl))
      | inr a ↦ elim (cases_lt n 128) [
        | inl b ↦ as_octets room _ (208 ∷ (255 - n) ∷ []) d (rw (le-ltb n 32 a, lt-ltb n 128 b) refl)
            (leaf_spells room 208 ((255 - n) ∷ []) d (forms.Signed One) refl (255 - n, (refl, refl), ap tree.whole (sym (complement One (255 - n) n 256 (one_low (255 - n) (omega arith)) (omega arith)))))
        | inr b ↦ elim (cases_lt n 32768) [
          | inl e ↦ as_octets room _ (209 ∷ to_be_bytes w16 (65535 - n)) d (rw (le-ltb n 32 a, le-ltb n 128 b, lt-ltb n 32768 e) refl)
              (leaf_spells room 209 (to_be_bytes w16 (65535 - n)) d (forms.Signed Two) refl
              (65535 - n, (refl, sym (from_be_bytes-to_be_bytes_2 (65535 - n) (omega arith))), ap tree.whole (sym (complement Two (65535 - n) n 65536 (two_low (65535 - n) (omega arith)) (omega arith)))))
          | inr e ↦ elim (cases_lt n (2 ^ 31)) [
            | inl f ↦ as_octets room _ (210 ∷ to_be_bytes w32 (2 ^ 32 - 1 - n)) d (rw (le-ltb n 32 a, le-ltb n 128 b, le-ltb n 32768 e, lt-ltb n (2 ^ 31) f) refl)
                (leaf_spells room 210 (to_be_bytes w32 (2 ^ 32 - 1 - n)) d (forms.Signed Four) refl
                (2 ^ 32 - 1 - n, (refl, sym (from_be_bytes-to_be_bytes_4 (2 ^ 32 - 1 - n) (omega arith))), ap tree.whole (sym (complement Four (2 ^ 32 - 1 - n) n 4294967296 (four_low (2 ^ 32 - 1 - n) (omega arith)) (omega arith)))))
            | inr f ↦ as_octets room _ (211 ∷ to_be_bytes w64 (2 ^ 64 - 1 - n)) d (rw (le-ltb n 32 a, le-ltb n 128 b, le-ltb n 32768 e, le-ltb n (2 ^ 31) f) refl)
                (leaf_spells room 211 (to_be_bytes w64 (2 ^ 64 - 1 - n)) d (forms.Signed Eight) refl
                (2 ^ 64 - 1 - n, (refl, sym (from_be_bytes-to_be_bytes_8 (2 ^ 64 - 1 - n) (omega arith))), ap tree.whole (sym (complement Eight (2 ^ 64 - 1 - n) n 18446744073709551616 (eight_low (2 ^ 64 - 1 - n) (omega arith)) (omega arith)))))
          ]
        ]
      ]
    ]

pub whole_spelled : (room : ℕ) (z : ℤ) → tree.fits_codecs z ≡ true → Spells room (short (tree.whole z)) (tree.whole z)
whole_spelled room (pos n) h = zero_spelled room n (ltb-true n (2 ^ 64) h)
whole_spelled room (negsuc n) h = below_spelled room n (ltb-true n (2 ^ 63) h)

-- ---- members

abbrev pub list_of : tree.Items → List tree.Data
list_of tree.no_items = []
list_of (tree.item d ds) = d ∷ list_of ds

pub items_of-list_of : (ds : tree.Items) → items_of (list_of ds) ≡ ds
items_of-list_of tree.no_items = refl
items_of-list_of (tree.item d ds) = ap (tree.item d) (items_of-list_of ds)

pub length-list_of : (ds : tree.Items) → length (list_of ds) ≡ item_count ds
length-list_of tree.no_items = refl
length-list_of (tree.item d ds) = ap suc (length-list_of ds)

abbrev pub pairs_of : tree.Entries → List (tree.Data × tree.Data)
pairs_of tree.no_entries = []
pairs_of (tree.entry k d es) = (tree.text k, d) ∷ pairs_of es

pub length-pairs_of : (es : tree.Entries) → length (pairs_of es) ≡ tree.entry_count es
length-pairs_of tree.no_entries = refl
length-pairs_of (tree.entry k d es) = ap suc (length-pairs_of es)

-- pairs whose keys ascend, behind entries that stand before them
map_from-pairs_of : (found es : tree.Entries) → tree.IsAscending (joined found es) → map_from found true (pairs_of es) ≡ tree.dict (joined found es)
map_from-pairs_of found tree.no_entries a = ap tree.dict (sym (joined-none found))
map_from-pairs_of found (tree.entry k d es) a =
    let next : joined found (tree.entry k d es) ≡ joined (tree.put k d found) es = next-put found k d es (joined found (tree.entry k d es)) refl a in
    map_from-pairs_of (tree.put k d found) es (subst tree.IsAscending next a) ∙ ap tree.dict (sym next)

map_of : (es : tree.Entries) → tree.IsAscending es → map_from tree.no_entries true (pairs_of es) ≡ tree.dict es
map_of es a = map_from-pairs_of tree.no_entries es a

-- ---- trees

list_spelled : (room : ℕ) (ds : tree.Items) → item_count ds < 2 ^ 32 → AreSpelled (Spells room) (items_short ds) (list_of ds) → Spells (suc room) (short (tree.list ds)) (tree.list ds)
unfolding Spells
list_spelled room ds lt h =
    let head = list_head_is (item_count ds) lt in
    let d = tree.list ds in
    let body : IsNest (Spells room) (forms.List head.1) (head.2 ++ items_short ds) d =
    (head.2, items_short ds, list_of ds, subst (λ n. IsSize head.1 head.2 n) (sym (length-list_of ds)) head.5, refl, h, ap tree.list (sym (items_of-list_of ds))) in
    as_octets (suc room) _ (head.0 ∷ (head.2 ++ items_short ds)) d (ap (λ x. x ++ items_short ds) head.3) (subst (λ f. IsNest (Spells room) f (head.2 ++ items_short ds) d) (sym head.4) body)

dict_spelled : (room : ℕ) (es : tree.Entries) → tree.IsAscending es → tree.entry_count es < 2 ^ 32 → ArePairsSpelled (Spells room) (entries_short es) (pairs_of es) → Spells (suc room) (short (tree.dict es)) (tree.dict es)
unfolding Spells
dict_spelled room es a lt h =
    let head = dict_head_is (tree.entry_count es) lt in
    let d = tree.dict es in
    let body : IsNest (Spells room) (forms.Dict head.1) (head.2 ++ entries_short es) d =
    (head.2, entries_short es, pairs_of es, subst (λ n. IsSize head.1 head.2 n) (sym (length-pairs_of es)) head.5, refl, h, sym (map_of es a)) in
    as_octets (suc room) _ (head.0 ∷ (head.2 ++ entries_short es)) d (ap (λ x. x ++ entries_short es) head.3) (subst (λ f. IsNest (Spells room) f (head.2 ++ entries_short es) d) (sym head.4) body)

pub flag_spelled : (room : ℕ) (b : Bool) → Spells room (short (tree.flag b)) (tree.flag b)
unfolding form_of
flag_spelled room true = leaf_spells room 195 [] (tree.flag true) (forms.Flag true) refl (refl, refl)
flag_spelled room false = leaf_spells room 194 [] (tree.flag false) (forms.Flag false) refl (refl, refl)

pub null_spelled : (room : ℕ) → Spells room (short tree.null) tree.null
unfolding form_of
null_spelled room = leaf_spells room 192 [] tree.null forms.Null refl (refl, refl)

-- what is written for a sound and carried tree spells it
mutual
  pub short_spells : (d : tree.Data) (room : ℕ) → tree.IsSound d → tree.is_carried d ≡ true → has_short d ≡ true → tree.depth d ≤ room → Spells room (short d) d
  short_spells tree.null room s c h le = null_spelled room
  short_spells (tree.flag b) room s c h le = flag_spelled room b
  short_spells (tree.whole z) room s c h le = whole_spelled room z c
  short_spells (tree.text t) room s c h le = text_spelled room t s (ltb-true (length t) (2 ^ 32) h)
  short_spells (tree.bytes b) room s c h le = bytes_spelled room b (ltb-true (length b) (2 ^ 32) h)
  short_spells (tree.list ds) zero s c h le = absurd (omega arith)
  short_spells (tree.list ds) (suc room) s c h le =
      list_spelled room ds (ltb-true (item_count ds) (2 ^ 32) (and_parts _ _ h).0) (items_spell ds room s c (and_parts _ _ h).1 (omega arith))
  short_spells (tree.dict es) zero s c h le = absurd (omega arith)
  short_spells (tree.dict es) (suc room) s c h le =
      dict_spelled room es s.1 (ltb-true (tree.entry_count es) (2 ^ 32) (and_parts _ _ h).0) (entries_spell es room s.0 c (and_parts _ _ h).1 (omega arith))
  short_spells tree.uncarried room s c h le = absurd (cc)

  pub items_spell : (ds : tree.Items) (room : ℕ) → tree.AreSound ds → tree.items_carried ds ≡ true → items_have_short ds ≡ true → tree.items_depth ds ≤ room → AreSpelled (Spells room) (items_short ds) (list_of ds)
  items_spell tree.no_items room s c h le = refl
  items_spell (tree.item d ds) room s c h le =
      (short d, items_short ds, refl, short_spells d room s.0 (and_parts _ _ c).0 (and_parts _ _ h).0 (omega arith), items_spell ds room s.1 (and_parts _ _ c).1 (and_parts _ _ h).1 (omega arith))

  pub entries_spell : (es : tree.Entries) (room : ℕ) → tree.HasSoundEntries es → tree.entries_carried es ≡ true → entries_have_short es ≡ true → tree.entries_depth es ≤ room → ArePairsSpelled (Spells room) (entries_short es) (pairs_of es)
  entries_spell tree.no_entries room s c h le = refl
  entries_spell (tree.entry k d es) room s c h le = (
    text_head (length k) ++ k,
    short d,
    entries_short es,
    sym (append_assoc (text_head (length k)) k (short d ++ entries_short es)),
    text_spelled room k s.0 (ltb-true (length k) (2 ^ 32) (and_parts _ _ h).0),
    short_spells d room s.1 (and_parts _ _ c).0 (middle_of _ _ _ h) (omega arith),
    entries_spell es room s.2 (and_parts _ _ c).1 (last_of _ _ _ h) (omega arith),
  )
