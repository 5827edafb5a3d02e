-- What is written so is passed over pair by pair, whatever follows it.
use Rattle.std.proofs.Common.{◌≡◌, ℕ, zero, suc, Bool, true, ◌&&◌, List, [], ◌∷◌, ◌++◌, length, Ok, refl, sym, ap, ◌∙◌, append_assoc}
use Rattle.message_tree.specs.Data as tree
use Rattle.message_tree.specs.View.{items_of}
use Rattle.msgpack_codec.specs.declared.format.Form.{Form}
use Rattle.msgpack_codec.specs.declared.format.Form.TheVariants as forms
use Rattle.msgpack_codec.specs.Format.{form_of}
use Rattle.msgpack_codec.specs.Values.{is_text}
use Rattle.msgpack_codec.specs.Grammar.{ArePairsSpelled}
use Rattle.msgpack_codec.specs.Written.{add_entry, map_written, IsWrittenNest, Writes}
use Rattle.msgpack_codec.specs.body.Decoder.{◌>>=◌, Found, size_at, items_at}
use Rattle.msgpack_codec.specs.body.Passing.{pairs_at, list_at, written_nest_at, written_at}
use Rattle.msgpack_codec.proofs.ReadIsSpelled.{read, found-is}
use Rattle.msgpack_codec.proofs.SpelledIsRead.{then_ok, at_rest, size_again, leaf_again, items_again}

pairs_again : (p : List ℕ → Found tree.Data) (S : List ℕ → tree.Data → Type 0) (again : (f : List ℕ) (d : tree.Data) (rest : List ℕ) → S f d → p (f ++ rest) ≡ Ok (d, rest))
    (found : tree.Entries) (texts : Bool) (front : List ℕ) (ps : List (tree.Data × tree.Data)) (rest : List ℕ) → ArePairsSpelled S front ps
    → pairs_at p (length ps) found texts (front ++ rest) ≡ Ok (map_written found texts ps, rest)
unfolding pairs_at
pairs_again p S again found texts front [] rest h = rw h refl
pairs_again p S again found texts front (x ∷ ps) rest h =
    let key = h.0 in
    let value = h.1 in
    let back = h.2 in
    let parts : front ++ rest ≡ key ++ (value ++ (back ++ rest)) = ap (λ (o : List ℕ). o ++ rest) h.3 ∙ simp append_assoc in
    let last = pairs_again p S again (add_entry x.0 x.1 found) (texts && is_text x.0) back ps rest h.6 in
    let middle = then_ok (p (value ++ (back ++ rest))) (λ v. pairs_at p (length ps) (add_entry x.0 v.0 found) (texts && is_text x.0) v.1) (x.1, back ++ rest) _ (again value x.1 (back ++ rest) h.5) last in
    ap (λ o. pairs_at p (suc (length ps)) found texts o) parts
    ∙ then_ok (p (key ++ (value ++ (back ++ rest)))) (λ k. p k.1 >>= λ v. pairs_at p (length ps) (add_entry k.0 v.0 found) (texts && is_text k.0) v.1) (x.0, value ++ (back ++ rest)) _
    (again key x.0 (value ++ (back ++ rest)) h.4) middle

nest_again : (p : List ℕ → Found tree.Data) (S : List ℕ → tree.Data → Type 0) (again : (f : List ℕ) (d : tree.Data) (rest : List ℕ) → S f d → p (f ++ rest) ≡ Ok (d, rest))
    (form : Form) (f : List ℕ) (d : tree.Data) (rest : List ℕ) → IsWrittenNest S form f d → written_nest_at p form (f ++ rest) ≡ Ok (d, rest)
unfolding written_nest_at list_at
nest_again p S again forms.Null f d rest h = leaf_again forms.Null f d rest h
nest_again p S again (forms.Flag b) f d rest h = leaf_again (forms.Flag b) f d rest h
nest_again p S again (forms.Whole z) f d rest h = leaf_again (forms.Whole z) f d rest h
nest_again p S again (forms.Unsigned w) f d rest h = leaf_again (forms.Unsigned w) f d rest h
nest_again p S again (forms.Signed w) f d rest h = leaf_again (forms.Signed w) f d rest h
nest_again p S again (forms.Text size) f d rest h = leaf_again (forms.Text size) f d rest h
nest_again p S again (forms.Bytes size) f d rest h = leaf_again (forms.Bytes size) f d rest h
nest_again p S again (forms.List size) f d rest h =
    let head = h.0 in
    let body = h.1 in
    let ds = h.2 in
    let parts : f ++ rest ≡ head ++ (body ++ rest) = ap (λ (o : List ℕ). o ++ rest) h.4 ∙ append_assoc head body rest in
    let last = then_ok (items_at p (length ds) tree.no_items (body ++ rest)) (λ x. read {A = tree.Data} (tree.list x.0) x.1) (items_of ds, rest) (Ok (d, rest)) (items_again p S again tree.no_items body ds rest h.5) (at_rest d _ rest h.6) in
    ap (λ o. size_at size o >>= λ n. items_at p n.0 tree.no_items n.1 >>= λ x. read {A = tree.Data} (tree.list x.0) x.1) parts
    ∙ then_ok (size_at size (head ++ (body ++ rest))) (λ n. items_at p n.0 tree.no_items n.1 >>= λ x. read {A = tree.Data} (tree.list x.0) x.1) (length ds, body ++ rest) (Ok (d, rest))
    (size_again size head (length ds) (body ++ rest) h.3) last
nest_again p S again (forms.Dict size) f d rest h =
    let head = h.0 in
    let body = h.1 in
    let ps = h.2 in
    let parts : f ++ rest ≡ head ++ (body ++ rest) = ap (λ (o : List ℕ). o ++ rest) h.4 ∙ append_assoc head body rest in
    let last : pairs_at p (length ps) tree.no_entries true (body ++ rest) ≡ Ok (d, rest) = pairs_again p S again tree.no_entries true body ps rest h.5 ∙ at_rest d _ rest h.6 in
    ap (λ o. size_at size o >>= λ n. pairs_at p n.0 tree.no_entries true n.1) parts
    ∙ then_ok (size_at size (head ++ (body ++ rest))) (λ n. pairs_at p n.0 tree.no_entries true n.1) (length ps, body ++ rest) (Ok (d, rest))
    (size_again size head (length ps) (body ++ rest) h.3) last
nest_again p S again (forms.Foreign size) f d rest h = leaf_again (forms.Foreign size) f d rest h
nest_again p S again (forms.Float w) f d rest h = leaf_again (forms.Float w) f d rest h
nest_again p S again forms.Never f d rest h = leaf_again forms.Never f d rest h

written_again : (room : ℕ) (f : List ℕ) (d : tree.Data) (rest : List ℕ) → Writes room f d → written_at room (f ++ rest) ≡ Ok (d, rest)
unfolding written_at Writes
written_again zero [] d rest h = absurd h
written_again zero (c ∷ f) d rest h = leaf_again (form_of c) f d rest h
written_again (suc room) [] d rest h = absurd h
written_again (suc room) (c ∷ f) d rest h = nest_again (written_at room) (Writes room) (written_again room) (form_of c) f d rest h

-- no writing begins another, and one text writes one tree
pub one_writing : (room : ℕ) (a b x y : List ℕ) (d e : tree.Data) → Writes room a d → Writes room b e → a ++ x ≡ b ++ y → (d ≡ e) × (x ≡ y)
one_writing room a b x y d e s t same =
    let both : read {A = tree.Data} d x ≡ read {A = tree.Data} e y = sym (written_again room a d x s) ∙ ap (written_at room) same ∙ written_again room b e y t in
    found-is d e x y both
