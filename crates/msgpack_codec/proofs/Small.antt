-- What octets spell is sound, and short enough to be written.
use Rattle.std.proofs.Common.{◌≡◌, ℕ, zero, suc, ◌+◌, ◌-◌, ◌^◌, ◌==◌, ◌≤◌, ◌<◌, Bool, true, false, ◌&&◌, cond, if◌then◌else◌, List, [], ◌∷◌, ◌++◌, length, nat_cmp, refl, sym, ap, subst, arith}
use Rattle.std.specs.Prelude.{nat_lt}
use Rattle.std.specs.Str.{is_utf8}
use Rattle.std.specs.Cmp.Lexicographic.{slice_cmp}
use Rattle.std.proofs.lemmas.Bool.{lt-ltb}
use Rattle.message_tree.specs.Data as tree
use Rattle.message_tree.specs.View.{items_of}
use Rattle.message_tree.proofs.Lemmas.{whichever}
use Rattle.msgpack_codec.specs.declared.format.Form.{Form}
use Rattle.msgpack_codec.specs.declared.format.Form.TheVariants as forms
use Rattle.msgpack_codec.specs.declared.format.Size.{Size}
use Rattle.msgpack_codec.specs.declared.format.Size.TheVariants.{Here, Next}
use Rattle.msgpack_codec.specs.declared.format.Width.TheVariants.{One, Two, Four}
use Rattle.msgpack_codec.specs.Format.{form_of, marked_form}
use Rattle.msgpack_codec.specs.Values.{keep_entry, is_text}
use Rattle.msgpack_codec.specs.Short.{item_count, has_short, items_have_short, entries_have_short}
use Rattle.msgpack_codec.specs.Grammar.{IsSized, IsLeaf, AreSpelled, ArePairsSpelled, map_from, IsNest, Spells}
use Rattle.msgpack_codec.proofs.Fine.{Fine, AreFine, HasFine, spelled_fine}
use Rattle.msgpack_codec.proofs.Members.{kept_or_put}
use Rattle.msgpack_codec.proofs.NoneIsShorter.{Low, Holds, as_low, low_octets, low_front, low_back, size_holds, keep_count}

-- ---- small data

-- fewer than 2^32 members of each text, key, byte string, list and dictionary, and bytes are octets
abbrev mutual
  Small : tree.Data → Type 0
  Small tree.null = Unit {0}
  Small (tree.flag b) = Unit {0}
  Small (tree.whole z) = Unit {0}
  Small (tree.text s) = length s < 2 ^ 32
  Small (tree.bytes b) = tree.AreOctets b × (length b < 2 ^ 32)
  Small (tree.list ds) = (item_count ds < 2 ^ 32) × AreSmall ds
  Small (tree.dict es) = (tree.entry_count es < 2 ^ 32) × HasSmall es
  Small tree.uncarried = Unit {0}

  AreSmall : tree.Items → Type 0
  AreSmall tree.no_items = Unit {0}
  AreSmall (tree.item d ds) = Small d × AreSmall ds

  HasSmall : tree.Entries → Type 0
  HasSmall tree.no_entries = Unit {0}
  HasSmall (tree.entry k d es) = (length k < 2 ^ 32) × Small d × HasSmall es

both_true : (a b : Bool) → a ≡ true → b ≡ true → (a && b) ≡ true
both_true a b e f = rw (e, f) refl

mutual
  small_short : (d : tree.Data) → Small d → has_short d ≡ true
  small_short tree.null s = refl
  small_short (tree.flag b) s = refl
  small_short (tree.whole z) s = refl
  small_short (tree.text t) s = lt-ltb (length t) (2 ^ 32) s
  small_short (tree.bytes b) s = lt-ltb (length b) (2 ^ 32) s.1
  small_short (tree.list ds) s = both_true _ _ (lt-ltb (item_count ds) (2 ^ 32) s.0) (items_small_short ds s.1)
  small_short (tree.dict es) s = both_true _ _ (lt-ltb (tree.entry_count es) (2 ^ 32) s.0) (entries_small_short es s.1)
  small_short tree.uncarried s = refl

  items_small_short : (ds : tree.Items) → AreSmall ds → items_have_short ds ≡ true
  items_small_short tree.no_items s = refl
  items_small_short (tree.item d ds) s = both_true _ _ (small_short d s.0) (items_small_short ds s.1)

  entries_small_short : (es : tree.Entries) → HasSmall es → entries_have_short es ≡ true
  entries_small_short tree.no_entries s = refl
  entries_small_short (tree.entry k d es) s = both_true _ _ (lt-ltb (length k) (2 ^ 32) s.0) (both_true _ _ (small_short d s.1) (entries_small_short es s.2))

mutual
  sound : (d : tree.Data) → Fine d → Small d → tree.IsSound d
  sound tree.null f s = tt
  sound (tree.flag b) f s = tt
  sound (tree.whole z) f s = tt
  sound (tree.text t) f s = f
  sound (tree.bytes b) f s = s.0
  sound (tree.list ds) f s = items_sound ds f s.1
  sound (tree.dict es) f s = (entries_sound es f.0 s.1, f.1)
  sound tree.uncarried f s = tt

  items_sound : (ds : tree.Items) → AreFine ds → AreSmall ds → tree.AreSound ds
  items_sound tree.no_items f s = tt
  items_sound (tree.item d ds) f s = (sound d f.0 s.0, items_sound ds f.1 s.1)

  entries_sound : (es : tree.Entries) → HasFine es → HasSmall es → tree.HasSoundEntries es
  entries_sound tree.no_entries f s = tt
  entries_sound (tree.entry k d es) f s = (f.0, sound d f.1 s.1, entries_sound es f.2 s.2)

-- ---- sizes

-- what it holds is below 2^32
abbrev Limits : Size → Type 0
Limits size = (n : ℕ) → Holds size n → n < 2 ^ 32

abbrev Limited : Form → Type 0
Limited forms.Null = Unit {0}
Limited (forms.Flag b) = Unit {0}
Limited (forms.Whole z) = Unit {0}
Limited (forms.Unsigned w) = Unit {0}
Limited (forms.Signed w) = Unit {0}
Limited (forms.Text size) = Limits size
Limited (forms.Bytes size) = Limits size
Limited (forms.List size) = Limits size
Limited (forms.Dict size) = Limits size
Limited (forms.Foreign size) = Unit {0}
Limited (forms.Float w) = Unit {0}
Limited forms.Never = Unit {0}

one : Limits (Next One)
one n h = omega (arith, h)

two : Limits (Next Two)
two n h = omega (arith, h)

four : Limits (Next Four)
four n h = h

here : (c m : ℕ) → c < 256 → Limits (Here (c - m))
here c m low n h = omega (arith, h, low)

either : (b : Bool) (x y : Form) → Limited x → Limited y → Limited (if b then x else y)
either true x y g h = g
either false x y g h = h

marked_limited : (c : ℕ) → Limited (marked_form c)
marked_limited c =
    either (c == 192) _ _ tt (either (c == 194) _ _ tt (either (c == 195) _ _ tt
    (either (c == 196) _ _ one (either (c == 197) _ _ two (either (c == 198) _ _ four
    (either (c == 199) _ _ tt (either (c == 200) _ _ tt (either (c == 201) _ _ tt
    (either (c == 202) _ _ tt (either (c == 203) _ _ tt
    (either (c == 204) _ _ tt (either (c == 205) _ _ tt (either (c == 206) _ _ tt (either (c == 207) _ _ tt
    (either (c == 208) _ _ tt (either (c == 209) _ _ tt (either (c == 210) _ _ tt (either (c == 211) _ _ tt
    (either (c == 212) _ _ tt (either (c == 213) _ _ tt (either (c == 214) _ _ tt (either (c == 215) _ _ tt (either (c == 216) _ _ tt
    (either (c == 217) _ _ one (either (c == 218) _ _ two (either (c == 219) _ _ four
    (either (c == 220) _ _ two (either (c == 221) _ _ four
    (either (c == 222) _ _ two (either (c == 223) _ _ four tt))))))))))))))))))))))))))))))

form_limited : (c : ℕ) → c < 256 → Limited (form_of c)
unfolding form_of
form_limited c low =
    either (nat_lt c 128) _ _ tt (either (nat_lt c 144) _ _ (here c 128 low) (either (nat_lt c 160) _ _ (here c 144 low)
    (either (nat_lt c 192) _ _ (here c 160 low) (either (nat_lt c 224) _ _ (marked_limited c) tt))))

-- ---- what is spelled

as_small : (d e : tree.Data) → d ≡ e → Small e → Small d
as_small d e same h = subst Small (sym same) h

text_small : (s : List ℕ) (b : Bool) → length s < 2 ^ 32 → Small (cond b (tree.text s) tree.uncarried)
text_small s true h = h
text_small s false h = tt

are_octets : (o : List ℕ) → Low o → tree.AreOctets o
are_octets [] h i = omega arith
are_octets (c ∷ o) h zero = h.0
are_octets (c ∷ o) h (suc i) = are_octets o h.1 i

sized_small : (size : Size) (f s : List ℕ) → Limits size → Low f → IsSized size f s → (length s < 2 ^ 32) × Low s
sized_small size f s limits low h =
    let l = as_low f (h.0 ++ s) h.2 low in
    (limits (length s) (size_holds size h.0 (length s) (low_front h.0 s l) h.1), low_back h.0 s l)

leaf_small : (form : Form) (f : List ℕ) (d : tree.Data) → Limited form → Low f → IsLeaf form f d → Small d
leaf_small forms.Null f d limited low h = as_small d _ h.1 tt
leaf_small (forms.Flag b) f d limited low h = as_small d _ h.1 tt
leaf_small (forms.Whole z) f d limited low h = as_small d _ h.1 tt
leaf_small (forms.Unsigned w) f d limited low h = as_small d _ h.2 tt
leaf_small (forms.Signed w) f d limited low h = as_small d _ h.2 tt
leaf_small (forms.Text size) f d limited low h = as_small d _ h.2 (text_small h.0 (is_utf8 h.0) (sized_small size f h.0 limited low h.1).0)
leaf_small (forms.Bytes size) f d limited low h = let s = sized_small size f h.0 limited low h.1 in as_small d _ h.2 (are_octets h.0 s.1, s.0)
leaf_small (forms.List size) f d limited low h = absurd h
leaf_small (forms.Dict size) f d limited low h = absurd h
leaf_small (forms.Foreign size) f d limited low h = as_small d _ h.6 tt
leaf_small (forms.Float w) f d limited low h = as_small d _ h.1 tt
leaf_small forms.Never f d limited low h = absurd h

items_small : (S : List ℕ → tree.Data → Type 0) (small : (f : List ℕ) (d : tree.Data) → Low f → S f d → Small d) (body : List ℕ) (ds : List tree.Data) → Low body → AreSpelled S body ds → AreSmall (items_of ds)
items_small S small body [] low h = tt
items_small S small body (d ∷ ds) low h =
    let l = as_low body (h.0 ++ h.1) h.2 low in
    (small h.0 d (low_front h.0 h.1 l) h.3, items_small S small h.1 ds (low_back h.0 h.1 l) h.4)

count_items : (ds : List tree.Data) → item_count (items_of ds) ≡ length ds
count_items [] = refl
count_items (d ∷ ds) = ap suc (count_items ds)

put_small : (k : List ℕ) (d : tree.Data) (es : tree.Entries) → length k < 2 ^ 32 → Small d → HasSmall es → HasSmall (tree.put k d es)
put_small k d tree.no_entries l s h = (l, s, tt)
put_small k d (tree.entry m e es) l s h = whichever HasSmall (slice_cmp nat_cmp k m) _ _ _ (l, s, h) (h.0, s, h.2) (h.0, h.1, put_small k d es l s h.2)

keep_small : (k v : tree.Data) (es : tree.Entries) → Small k → Small v → HasSmall es → HasSmall (keep_entry k v es)
keep_small k v es s t h = kept_or_put HasSmall k v es h (λ key is. put_small key v es (subst Small is s) t h)

map_small : (S : List ℕ → tree.Data → Type 0) (small : (f : List ℕ) (d : tree.Data) → Low f → S f d → Small d) (n : ℕ) (found : tree.Entries) (texts : Bool) (body : List ℕ) (ps : List (tree.Data × tree.Data))
    → n < 2 ^ 32 → tree.entry_count found + length ps ≤ n → HasSmall found → Low body → ArePairsSpelled S body ps → Small (map_from found texts ps)
map_small S small n found true body [] limit count s low h = (omega (arith, limit, count), s)
map_small S small n found false body [] limit count s low h = tt
map_small S small n found texts body (p ∷ ps) limit count s low (key, value, back, e, k, v, more) =
    let l = as_low body (key ++ (value ++ back)) e low in
    let behind = low_back key (value ++ back) l in
    map_small S small n (keep_entry p.0 p.1 found) (texts && is_text p.0) back ps limit (omega (arith, count, keep_count p.0 p.1 found))
    (keep_small p.0 p.1 found (small key p.0 (low_front key (value ++ back) l) k) (small value p.1 (low_front value back behind) v) s) (low_back value back behind) more

nest_small : (S : List ℕ → tree.Data → Type 0) (small : (f : List ℕ) (d : tree.Data) → Low f → S f d → Small d) (form : Form) (f : List ℕ) (d : tree.Data) → Limited form → Low f → IsNest S form f d → Small d
nest_small S small forms.Null f d limited low h = leaf_small forms.Null f d limited low h
nest_small S small (forms.Flag b) f d limited low h = leaf_small (forms.Flag b) f d limited low h
nest_small S small (forms.Whole z) f d limited low h = leaf_small (forms.Whole z) f d limited low h
nest_small S small (forms.Unsigned w) f d limited low h = leaf_small (forms.Unsigned w) f d limited low h
nest_small S small (forms.Signed w) f d limited low h = leaf_small (forms.Signed w) f d limited low h
nest_small S small (forms.Text size) f d limited low h = leaf_small (forms.Text size) f d limited low h
nest_small S small (forms.Bytes size) f d limited low h = leaf_small (forms.Bytes size) f d limited low h
nest_small S small (forms.List size) f d limited low (head, body, ds, is, e, s, same) =
    let l = as_low f (head ++ body) e low in
    let count = limited (length ds) (size_holds size head (length ds) (low_front head body l) is) in
    as_small d _ same (omega (arith, count, count_items ds), items_small S small body ds (low_back head body l) s)
nest_small S small (forms.Dict size) f d limited low (head, body, ps, is, e, s, same) =
    let l = as_low f (head ++ body) e low in
    let count = limited (length ps) (size_holds size head (length ps) (low_front head body l) is) in
    as_small d _ same (map_small S small (length ps) tree.no_entries true body ps count (omega arith) tt (low_back head body l) s)
nest_small S small (forms.Foreign size) f d limited low h = leaf_small (forms.Foreign size) f d limited low h
nest_small S small (forms.Float w) f d limited low h = leaf_small (forms.Float w) f d limited low h
nest_small S small forms.Never f d limited low h = leaf_small forms.Never f d limited low h

spelled_small : (room : ℕ) (f : List ℕ) (d : tree.Data) → Low f → Spells room f d → Small d
unfolding Spells
spelled_small zero [] d low h = absurd h
spelled_small zero (c ∷ f) d low h = leaf_small (form_of c) f d (form_limited c low.0) low.1 h
spelled_small (suc room) [] d low h = absurd h
spelled_small (suc room) (c ∷ f) d low h = nest_small (Spells room) (spelled_small room) (form_of c) f d (form_limited c low.0) low.1 h

pub spelled_is_sound : (room : ℕ) (octets : List ℕ) (d : tree.Data) → tree.AreOctets octets → Spells room octets d → tree.IsSound d × (has_short d ≡ true)
spelled_is_sound room octets d a h =
    let s = spelled_small room octets d (low_octets octets a) h in
    (sound d (spelled_fine room octets d h) s, small_short d s)
