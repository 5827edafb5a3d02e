-- What is spelled so is read, whatever follows it.
use Rattle.std.proofs.Common.{◌≡◌, ℕ, zero, suc, pos, Bool, true, false, ◌&&◌, ltb, List, [], ◌∷◌, ◌++◌, length, Result, Ok, refl, sym, ap, ◌∙◌, append_assoc, arith}
use Rattle.std.specs.Int.{byte_len, from_be_bytes}
use Rattle.std.proofs.lemmas.Bool.{le-ltb}
use Rattle.std.proofs.lemmas.List.{take_at, drop_at, length-append}
use Rattle.message_tree.specs.Data as tree
use Rattle.message_tree.specs.View.{items_of}
use Rattle.msgpack_codec.specs.declared.fault.Fault.{Fault}
use Rattle.msgpack_codec.specs.declared.format.Form.{Form}
use Rattle.msgpack_codec.specs.declared.format.Form.TheVariants as forms
use Rattle.msgpack_codec.specs.declared.format.Size.{Size}
use Rattle.msgpack_codec.specs.declared.format.Size.TheVariants.{Here, Next}
use Rattle.msgpack_codec.specs.declared.format.Width.{Width}
use Rattle.msgpack_codec.specs.Format.{form_of, bits_of}
use Rattle.msgpack_codec.specs.body.Decoder.{◌>>=◌, Found, octets_at, number_at, size_at, sized_at, push_item, items_at, dict_at, leaf_at, nest_at, value_at}
use Rattle.msgpack_codec.specs.Values.{signed_from, text_from, keep_entry, is_text}
use Rattle.msgpack_codec.specs.Grammar.{IsNumber, IsSize, IsSized, IsLeaf, AreSpelled, ArePairsSpelled, map_from, IsNest, Spells}
use Rattle.msgpack_codec.proofs.ReadIsSpelled.{read, found-is, items_behind, items_behind-push, items_behind-none}

pub then_ok : {A B : Type 0} (r : Result A Fault) (f : A → Result B Fault) (x : A) (y : Result B Fault) → r ≡ Ok x → f x ≡ y → (r >>= f) ≡ y
then_ok r f x y e g = ap (λ s. s >>= f) e ∙ g

octets_again : (n : ℕ) (s rest : List ℕ) → length s ≡ n → octets_at n (s ++ rest) ≡ Ok (s, rest)
octets_again n s rest len =
    let long : ltb (length (s ++ rest)) n ≡ false = le-ltb _ _ (omega (arith, length-append s rest)) in
    rw (long, take_at s rest n len, drop_at s rest n len) refl

number_again : (w : Width) (f : List ℕ) (n : ℕ) (rest : List ℕ) → IsNumber w f n → number_at w (f ++ rest) ≡ Ok (n, rest)
number_again w f n rest h =
    let k = byte_len (bits_of w) in
    let long : ltb (length (f ++ rest)) k ≡ false = le-ltb _ _ (omega (arith, length-append f rest, h.0)) in
    rw (long, take_at f rest k h.0, drop_at f rest k h.0, h.1) refl

pub size_again : (size : Size) (f : List ℕ) (n : ℕ) (rest : List ℕ) → IsSize size f n → size_at size (f ++ rest) ≡ Ok (n, rest)
unfolding size_at
size_again (Here m) f n rest h = rw (h.0, h.1) refl
size_again (Next w) f n rest h = number_again w f n rest h

sized_again : (size : Size) (f s rest : List ℕ) → IsSized size f s → sized_at size (f ++ rest) ≡ Ok (s, rest)
unfolding sized_at
sized_again size f s rest h =
    let parts : f ++ rest ≡ h.0 ++ (s ++ rest) = ap (λ (x : List ℕ). x ++ rest) h.2 ∙ append_assoc h.0 s rest in
    ap (λ o. size_at size o >>= λ n. octets_at n.0 n.1) parts
    ∙ then_ok (size_at size (h.0 ++ (s ++ rest))) (λ n. octets_at n.0 n.1) (length s, s ++ rest) (Ok (s, rest)) (size_again size h.0 (length s) (s ++ rest) h.1) (octets_again (length s) s rest refl)

pub at_rest : (x y : tree.Data) (rest : List ℕ) → x ≡ y → read {A = tree.Data} y rest ≡ read {A = tree.Data} x rest
at_rest x y rest e = ap (λ (d : tree.Data). read {A = tree.Data} d rest) (sym e)

pub leaf_again : (form : Form) (f : List ℕ) (d : tree.Data) (rest : List ℕ) → IsLeaf form f d → leaf_at form (f ++ rest) ≡ Ok (d, rest)
unfolding leaf_at
leaf_again forms.Null f d rest h = rw (h.0, h.1) refl
leaf_again (forms.Flag b) f d rest h = rw (h.0, h.1) refl
leaf_again (forms.Whole z) f d rest h = rw (h.0, h.1) refl
leaf_again (forms.Unsigned w) f d rest h =
    then_ok (number_at w (f ++ rest)) (λ n. Ok (tree.whole (pos n.0), n.1)) (h.0, rest) (Ok (d, rest)) (number_again w f h.0 rest h.1) (at_rest d _ rest h.2)
leaf_again (forms.Signed w) f d rest h =
    then_ok (number_at w (f ++ rest)) (λ n. Ok (tree.whole (signed_from w n.0), n.1)) (h.0, rest) (Ok (d, rest)) (number_again w f h.0 rest h.1) (at_rest d _ rest h.2)
leaf_again (forms.Text size) f d rest h =
    then_ok (sized_at size (f ++ rest)) (λ s. Ok (text_from s.0, s.1)) (h.0, rest) (Ok (d, rest)) (sized_again size f h.0 rest h.1) (at_rest d _ rest h.2)
leaf_again (forms.Bytes size) f d rest h =
    then_ok (sized_at size (f ++ rest)) (λ s. Ok (tree.bytes s.0, s.1)) (h.0, rest) (Ok (d, rest)) (sized_again size f h.0 rest h.1) (at_rest d _ rest h.2)
leaf_again (forms.List size) f d rest h = absurd h
leaf_again (forms.Dict size) f d rest h = absurd h
leaf_again (forms.Foreign size) f d rest h =
    let head = h.0 in
    let kind = h.1 in
    let s = h.2 in
    let parts : f ++ rest ≡ head ++ (kind ++ (s ++ rest)) = ap (λ (x : List ℕ). x ++ rest) h.5 ∙ simp append_assoc in
    let last = then_ok (octets_at (length s) (s ++ rest)) (λ (x : List ℕ × List ℕ). read {A = tree.Data} tree.uncarried x.1) (s, rest) (Ok (d, rest)) (octets_again (length s) s rest refl) (at_rest d _ rest h.6) in
    let middle = then_ok (octets_at 1 (kind ++ (s ++ rest))) (λ (k : List ℕ × List ℕ). octets_at (length s) k.1 >>= λ x. read {A = tree.Data} tree.uncarried x.1) (kind, s ++ rest) (Ok (d, rest)) (octets_again 1 kind (s ++ rest) h.4) last in
    ap (λ o. size_at size o >>= λ n. octets_at 1 n.1 >>= λ k. octets_at n.0 k.1 >>= λ x. read {A = tree.Data} tree.uncarried x.1) parts
    ∙ then_ok (size_at size (head ++ (kind ++ (s ++ rest)))) (λ n. octets_at 1 n.1 >>= λ k. octets_at n.0 k.1 >>= λ x. read {A = tree.Data} tree.uncarried x.1) (length s, kind ++ (s ++ rest)) (Ok (d, rest)) (size_again size head (length s) (kind ++ (s ++ rest)) h.3) middle
leaf_again (forms.Float w) f d rest h =
    then_ok (number_at w (f ++ rest)) (λ n. Ok (tree.uncarried, n.1)) (from_be_bytes (bits_of w) f, rest) (Ok (d, rest)) (number_again w f _ rest (h.0, refl)) (at_rest d _ rest h.1)
leaf_again forms.Never f d rest h = absurd h

pub items_again : (p : List ℕ → Found tree.Data) (S : List ℕ → tree.Data → Type 0) (again : (f : List ℕ) (d : tree.Data) (rest : List ℕ) → S f d → p (f ++ rest) ≡ Ok (d, rest))
    (found : tree.Items) (front : List ℕ) (ds : List tree.Data) (rest : List ℕ) → AreSpelled S front ds
    → items_at p (length ds) found (front ++ rest) ≡ Ok (items_behind found ds, rest)
unfolding items_at
items_again p S again found front [] rest h = rw (h, items_behind-none found) refl
items_again p S again found front (d ∷ ds) rest h =
    let parts : front ++ rest ≡ h.0 ++ (h.1 ++ rest) = ap (λ (x : List ℕ). x ++ rest) h.2 ∙ append_assoc h.0 h.1 rest in
    let last : items_at p (length ds) (push_item found d) (h.1 ++ rest) ≡ read {A = tree.Items} (items_behind found (d ∷ ds)) rest =
    items_again p S again (push_item found d) h.1 ds rest h.4 ∙ ap (λ (x : tree.Items). read {A = tree.Items} x rest) (items_behind-push found d ds) in
    ap (λ o. items_at p (suc (length ds)) found o) parts
    ∙ then_ok (p (h.0 ++ (h.1 ++ rest))) (λ x. items_at p (length ds) (push_item found x.0) x.1) (d, h.1 ++ rest) _ (again h.0 d (h.1 ++ rest) h.3) last

dict_again : (p : List ℕ → Found tree.Data) (S : List ℕ → tree.Data → Type 0) (again : (f : List ℕ) (d : tree.Data) (rest : List ℕ) → S f d → p (f ++ rest) ≡ Ok (d, rest))
    (found : tree.Entries) (texts : Bool) (front : List ℕ) (ps : List (tree.Data × tree.Data)) (rest : List ℕ) → ArePairsSpelled S front ps
    → dict_at p (length ps) found texts (front ++ rest) ≡ Ok (map_from found texts ps, rest)
unfolding dict_at
dict_again p S again found texts front [] rest h = rw h refl
dict_again p S again found texts front (x ∷ ps) rest h =
    let key = h.0 in
    let value = h.1 in
    let back = h.2 in
    let parts : front ++ rest ≡ key ++ (value ++ (back ++ rest)) = ap (λ (o : List ℕ). o ++ rest) h.3 ∙ simp append_assoc in
    let last = dict_again p S again (keep_entry x.0 x.1 found) (texts && is_text x.0) back ps rest h.6 in
    let middle = then_ok (p (value ++ (back ++ rest))) (λ v. dict_at p (length ps) (keep_entry x.0 v.0 found) (texts && is_text x.0) v.1) (x.1, back ++ rest) _ (again value x.1 (back ++ rest) h.5) last in
    ap (λ o. dict_at p (suc (length ps)) found texts o) parts
    ∙ then_ok (p (key ++ (value ++ (back ++ rest)))) (λ k. p k.1 >>= λ v. dict_at p (length ps) (keep_entry k.0 v.0 found) (texts && is_text k.0) v.1) (x.0, value ++ (back ++ rest)) _
    (again key x.0 (value ++ (back ++ rest)) h.4) middle

nest_again : (p : List ℕ → Found tree.Data) (S : List ℕ → tree.Data → Type 0) (again : (f : List ℕ) (d : tree.Data) (rest : List ℕ) → S f d → p (f ++ rest) ≡ Ok (d, rest))
    (form : Form) (f : List ℕ) (d : tree.Data) (rest : List ℕ) → IsNest S form f d → nest_at p form (f ++ rest) ≡ Ok (d, rest)
unfolding nest_at
nest_again p S again forms.Null f d rest h = leaf_again forms.Null f d rest h
nest_again p S again (forms.Flag b) f d rest h = leaf_again (forms.Flag b) f d rest h
nest_again p S again (forms.Whole z) f d rest h = leaf_again (forms.Whole z) f d rest h
nest_again p S again (forms.Unsigned w) f d rest h = leaf_again (forms.Unsigned w) f d rest h
nest_again p S again (forms.Signed w) f d rest h = leaf_again (forms.Signed w) f d rest h
nest_again p S again (forms.Text size) f d rest h = leaf_again (forms.Text size) f d rest h
nest_again p S again (forms.Bytes size) f d rest h = leaf_again (forms.Bytes size) f d rest h
nest_again p S again (forms.List size) f d rest h =
    let head = h.0 in
    let body = h.1 in
    let ds = h.2 in
    let parts : f ++ rest ≡ head ++ (body ++ rest) = ap (λ (o : List ℕ). o ++ rest) h.4 ∙ append_assoc head body rest in
    let last = then_ok (items_at p (length ds) tree.no_items (body ++ rest)) (λ x. read {A = tree.Data} (tree.list x.0) x.1) (items_of ds, rest) (Ok (d, rest)) (items_again p S again tree.no_items body ds rest h.5) (at_rest d _ rest h.6) in
    ap (λ o. size_at size o >>= λ n. items_at p n.0 tree.no_items n.1 >>= λ x. read {A = tree.Data} (tree.list x.0) x.1) parts
    ∙ then_ok (size_at size (head ++ (body ++ rest))) (λ n. items_at p n.0 tree.no_items n.1 >>= λ x. read {A = tree.Data} (tree.list x.0) x.1) (length ds, body ++ rest) (Ok (d, rest))
    (size_again size head (length ds) (body ++ rest) h.3) last
nest_again p S again (forms.Dict size) f d rest h =
    let head = h.0 in
    let body = h.1 in
    let ps = h.2 in
    let parts : f ++ rest ≡ head ++ (body ++ rest) = ap (λ (o : List ℕ). o ++ rest) h.4 ∙ append_assoc head body rest in
    let last : dict_at p (length ps) tree.no_entries true (body ++ rest) ≡ Ok (d, rest) = dict_again p S again tree.no_entries true body ps rest h.5 ∙ at_rest d _ rest h.6 in
    ap (λ o. size_at size o >>= λ n. dict_at p n.0 tree.no_entries true n.1) parts
    ∙ then_ok (size_at size (head ++ (body ++ rest))) (λ n. dict_at p n.0 tree.no_entries true n.1) (length ps, body ++ rest) (Ok (d, rest))
    (size_again size head (length ps) (body ++ rest) h.3) last
nest_again p S again (forms.Foreign size) f d rest h = leaf_again (forms.Foreign size) f d rest h
nest_again p S again (forms.Float w) f d rest h = leaf_again (forms.Float w) f d rest h
nest_again p S again forms.Never f d rest h = leaf_again forms.Never f d rest h

-- what spells a tree is read as that tree, whatever follows it
pub value_again : (room : ℕ) (f : List ℕ) (d : tree.Data) (rest : List ℕ) → Spells room f d → value_at room (f ++ rest) ≡ Ok (d, rest)
unfolding value_at Spells
value_again zero [] d rest h = absurd h
value_again zero (c ∷ f) d rest h = leaf_again (form_of c) f d rest h
value_again (suc room) [] d rest h = absurd h
value_again (suc room) (c ∷ f) d rest h = nest_again (value_at room) (Spells room) (value_again room) (form_of c) f d rest h

-- no spelling begins another, and one text spells one tree
pub one_spelling : (room : ℕ) (a b x y : List ℕ) (d e : tree.Data) → Spells room a d → Spells room b e → a ++ x ≡ b ++ y → (d ≡ e) × (x ≡ y)
one_spelling room a b x y d e s t same =
    let both : read {A = tree.Data} d x ≡ read {A = tree.Data} e y = sym (value_again room a d x s) ∙ ap (value_at room) same ∙ value_again room b e y t in
    found-is d e x y both
