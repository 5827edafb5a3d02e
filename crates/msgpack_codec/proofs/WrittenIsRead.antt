-- What is passed over pair by pair is read so too, once equal keys have settled.
use Rattle.std.proofs.Common.{◌≡◌, ℕ, zero, suc, Bool, true, false, ◌&&◌, cond, List, [], ◌∷◌, Result, Ok, Err, refl, sym, ap, ◌∙◌}
use Rattle.std.specs.Str.{is_utf8}
use Rattle.message_tree.specs.Data as tree
use Rattle.msgpack_codec.specs.declared.fault.Fault.{Fault}
use Rattle.msgpack_codec.specs.declared.format.Form.{Form}
use Rattle.msgpack_codec.specs.declared.format.Form.TheVariants as forms
use Rattle.msgpack_codec.specs.Format.{form_of}
use Rattle.msgpack_codec.specs.Values.{text_from, keep_entry, is_text}
use Rattle.msgpack_codec.specs.Written.{add_entry, settled, items_settled, entries_settled}
use Rattle.msgpack_codec.specs.body.Decoder.{◌>>=◌, Found, octets_at, number_at, size_at, sized_at, push_item, items_at, dict_at, leaf_at, nest_at, value_at}
use Rattle.msgpack_codec.specs.body.Passing.{pairs_at, list_at, written_nest_at, written_at}
use Rattle.msgpack_codec.proofs.ReadIsSpelled.{read}

-- what is found, with equal keys settled
abbrev pub as_settled : Found tree.Data → Found tree.Data
as_settled (Ok x) = Ok (settled x.0, x.1)
as_settled (Err e) = Err e

abbrev items_as_settled : Found tree.Items → Found tree.Items
items_as_settled (Ok x) = Ok (items_settled x.0, x.1)
items_as_settled (Err e) = Err e

items_settled-push : (ds : tree.Items) (d : tree.Data) → items_settled (push_item ds d) ≡ push_item (items_settled ds) (settled d)
items_settled-push tree.no_items d = refl
items_settled-push (tree.item x ds) d = ap (tree.item (settled x)) (items_settled-push ds d)

entries_settled-behind : (found es : tree.Entries) (k : List ℕ) (d : tree.Data) → entries_settled found (tree.joined es (tree.entry k d tree.no_entries)) ≡ tree.put k (settled d) (entries_settled found es)
entries_settled-behind found tree.no_entries k d = refl
entries_settled-behind found (tree.entry l e es) k d = entries_settled-behind (tree.put l (settled e) found) es k d

entries_settled-add : (k v : tree.Data) (es : tree.Entries) → entries_settled tree.no_entries (add_entry k v es) ≡ keep_entry (settled k) (settled v) (entries_settled tree.no_entries es)
entries_settled-add tree.null v es = refl
entries_settled-add (tree.flag b) v es = refl
entries_settled-add (tree.whole z) v es = refl
entries_settled-add (tree.text s) v es = entries_settled-behind tree.no_entries es s v
entries_settled-add (tree.bytes b) v es = refl
entries_settled-add (tree.list ds) v es = refl
entries_settled-add (tree.dict ms) v es = refl
entries_settled-add tree.uncarried v es = refl

is_text-settled : (k : tree.Data) → is_text k ≡ is_text (settled k)
is_text-settled tree.null = refl
is_text-settled (tree.flag b) = refl
is_text-settled (tree.whole z) = refl
is_text-settled (tree.text s) = refl
is_text-settled (tree.bytes b) = refl
is_text-settled (tree.list ds) = refl
is_text-settled (tree.dict ms) = refl
is_text-settled tree.uncarried = refl

-- ---- members

item_settles : (p q : List ℕ → Found tree.Data) (n : ℕ) (found : tree.Items) (more : (ds : tree.Items) (octets : List ℕ) → items_at p n (items_settled ds) octets ≡ items_as_settled (items_at q n ds octets))
    (r : Found tree.Data) → (as_settled r >>= λ d. items_at p n (push_item (items_settled found) d.0) d.1) ≡ items_as_settled (r >>= λ d. items_at q n (push_item found d.0) d.1)
item_settles p q n found more (Err e) = refl
item_settles p q n found more (Ok d) = ap (λ ds. items_at p n ds d.1) (sym (items_settled-push found d.0)) ∙ more (push_item found d.0) d.1

items_settle : (p q : List ℕ → Found tree.Data) (same : (octets : List ℕ) → p octets ≡ as_settled (q octets)) (n : ℕ) (found : tree.Items) (octets : List ℕ)
    → items_at p n (items_settled found) octets ≡ items_as_settled (items_at q n found octets)
unfolding items_at
items_settle p q same zero found octets = refl
items_settle p q same (suc n) found octets = rw (same octets) (item_settles p q n found (items_settle p q same n) (q octets))

map_settled : (texts : Bool) (found : tree.Entries) → cond texts (tree.dict (entries_settled tree.no_entries found)) tree.uncarried ≡ settled (cond texts (tree.dict found) tree.uncarried)
map_settled true found = refl
map_settled false found = refl

-- the pairs after this one, wherever they begin
abbrev PairsSettle : (List ℕ → Found tree.Data) → (List ℕ → Found tree.Data) → ℕ → Type 0
PairsSettle p q n =
    (found : tree.Entries) (texts : Bool) (octets : List ℕ) → dict_at p n (entries_settled tree.no_entries found) texts octets ≡ as_settled (pairs_at q n found texts octets)

pair_settles : (p q : List ℕ → Found tree.Data) (n : ℕ) (found : tree.Entries) (texts : Bool) (more : PairsSettle p q n) (k : tree.Data) (r : Found tree.Data)
    → (as_settled r >>= λ v. dict_at p n (keep_entry (settled k) v.0 (entries_settled tree.no_entries found)) (texts && is_text (settled k)) v.1)
    ≡ as_settled (r >>= λ v. pairs_at q n (add_entry k v.0 found) (texts && is_text k) v.1)
pair_settles p q n found texts more k (Err e) = refl
pair_settles p q n found texts more k (Ok v) = rw (← entries_settled-add k v.0 found, ← is_text-settled k) (more (add_entry k v.0 found) (texts && is_text k) v.1)

key_settles : (p q : List ℕ → Found tree.Data) (same : (octets : List ℕ) → p octets ≡ as_settled (q octets)) (n : ℕ) (found : tree.Entries) (texts : Bool) (more : PairsSettle p q n) (r : Found tree.Data)
    → (as_settled r >>= λ k. p k.1 >>= λ v. dict_at p n (keep_entry k.0 v.0 (entries_settled tree.no_entries found)) (texts && is_text k.0) v.1)
    ≡ as_settled (r >>= λ k. q k.1 >>= λ v. pairs_at q n (add_entry k.0 v.0 found) (texts && is_text k.0) v.1)
key_settles p q same n found texts more (Err e) = refl
key_settles p q same n found texts more (Ok k) = rw (same k.1) (pair_settles p q n found texts more k.0 (q k.1))

pairs_settle : (p q : List ℕ → Found tree.Data) (same : (octets : List ℕ) → p octets ≡ as_settled (q octets)) (n : ℕ) → PairsSettle p q n
unfolding dict_at pairs_at
pairs_settle p q same zero found texts octets = ap (λ (d : tree.Data). read {A = tree.Data} d octets) (map_settled texts found)
pairs_settle p q same (suc n) found texts octets = rw (same octets) (key_settles p q same n found texts (pairs_settle p q same n) (q octets))

-- ---- values

under : {A : Type 0} (r : Result A Fault) (f g : A → Found tree.Data) → ((x : A) → f x ≡ as_settled (g x)) → (r >>= f) ≡ as_settled (r >>= g)
under (Err e) f g h = refl
under (Ok x) f g h = h x

settled-text_from : (s : List ℕ) → text_from s ≡ settled (text_from s)
settled-text_from s = at (is_utf8 s)
  where
    at : (b : Bool) → cond b (tree.text s) tree.uncarried ≡ settled (cond b (tree.text s) tree.uncarried)
    at true = refl
    at false = refl

leaf_settles : (form : Form) (octets : List ℕ) → leaf_at form octets ≡ as_settled (leaf_at form octets)
unfolding leaf_at
leaf_settles forms.Null octets = refl
leaf_settles (forms.Flag b) octets = refl
leaf_settles (forms.Whole z) octets = refl
leaf_settles (forms.Unsigned w) octets = under (number_at w octets) _ _ (λ n. refl)
leaf_settles (forms.Signed w) octets = under (number_at w octets) _ _ (λ n. refl)
leaf_settles (forms.Text size) octets = under (sized_at size octets) _ _ (λ s. ap (λ (d : tree.Data). read {A = tree.Data} d s.1) (settled-text_from s.0))
leaf_settles (forms.Bytes size) octets = under (sized_at size octets) _ _ (λ s. refl)
leaf_settles (forms.List size) octets = refl
leaf_settles (forms.Dict size) octets = refl
leaf_settles (forms.Foreign size) octets =
    under (size_at size octets) _ _ (λ n. under (octets_at 1 n.1) _ _ (λ kind. under (octets_at n.0 kind.1) _ _ (λ s. refl)))
leaf_settles (forms.Float w) octets = under (number_at w octets) _ _ (λ n. refl)
leaf_settles forms.Never octets = refl

list_settles : (p q : List ℕ → Found tree.Data) (same : (octets : List ℕ) → p octets ≡ as_settled (q octets)) (n : ℕ) (octets : List ℕ)
    → (items_at p n tree.no_items octets >>= λ ds. read {A = tree.Data} (tree.list ds.0) ds.1) ≡ as_settled (list_at q n octets)
unfolding list_at
list_settles p q same n octets =
    ap (λ (r : Found tree.Items). r >>= λ ds. read {A = tree.Data} (tree.list ds.0) ds.1) (items_settle p q same n tree.no_items octets) ∙ made (items_at q n tree.no_items octets)
  where
    made : (r : Found tree.Items) → (items_as_settled r >>= λ ds. read {A = tree.Data} (tree.list ds.0) ds.1) ≡ as_settled (r >>= λ ds. read {A = tree.Data} (tree.list ds.0) ds.1)
    made (Err e) = refl
    made (Ok ds) = refl

nest_settles : (p q : List ℕ → Found tree.Data) (same : (octets : List ℕ) → p octets ≡ as_settled (q octets)) (form : Form) (octets : List ℕ) → nest_at p form octets ≡ as_settled (written_nest_at q form octets)
unfolding nest_at written_nest_at
nest_settles p q same forms.Null octets = leaf_settles forms.Null octets
nest_settles p q same (forms.Flag b) octets = leaf_settles (forms.Flag b) octets
nest_settles p q same (forms.Whole z) octets = leaf_settles (forms.Whole z) octets
nest_settles p q same (forms.Unsigned w) octets = leaf_settles (forms.Unsigned w) octets
nest_settles p q same (forms.Signed w) octets = leaf_settles (forms.Signed w) octets
nest_settles p q same (forms.Text size) octets = leaf_settles (forms.Text size) octets
nest_settles p q same (forms.Bytes size) octets = leaf_settles (forms.Bytes size) octets
nest_settles p q same (forms.List size) octets = under (size_at size octets) _ _ (λ n. list_settles p q same n.0 n.1)
nest_settles p q same (forms.Dict size) octets = under (size_at size octets) _ _ (λ n. pairs_settle p q same n.0 tree.no_entries true n.1)
nest_settles p q same (forms.Foreign size) octets = leaf_settles (forms.Foreign size) octets
nest_settles p q same (forms.Float w) octets = leaf_settles (forms.Float w) octets
nest_settles p q same forms.Never octets = leaf_settles forms.Never octets

-- what is read is what is passed over, with equal keys settled
pub value_settles : (room : ℕ) (octets : List ℕ) → value_at room octets ≡ as_settled (written_at room octets)
unfolding value_at written_at
value_settles zero [] = refl
value_settles zero (c ∷ octets) = leaf_settles (form_of c) octets
value_settles (suc room) [] = refl
value_settles (suc room) (c ∷ octets) = nest_settles (value_at room) (written_at room) (value_settles room) (form_of c) octets
