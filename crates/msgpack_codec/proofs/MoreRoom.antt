-- What is spelled with some room is spelled with more.
use Rattle.std.proofs.Common.{ℕ, zero, suc, List, [], ◌∷◌}
use Rattle.message_tree.specs.Data as tree
use Rattle.msgpack_codec.specs.declared.format.Form.{Form}
use Rattle.msgpack_codec.specs.declared.format.Form.TheVariants as forms
use Rattle.msgpack_codec.specs.Format.{form_of}
use Rattle.msgpack_codec.specs.Grammar.{IsLeaf, AreSpelled, ArePairsSpelled, IsNest, Spells}

-- whatever the one spells the other spells
abbrev More : (List ℕ → tree.Data → Type 0) → (List ℕ → tree.Data → Type 0) → Type 0
More S T = (f : List ℕ) (d : tree.Data) → S f d → T f d

items_more : (S T : List ℕ → tree.Data → Type 0) → More S T → (body : List ℕ) (ds : List tree.Data) → AreSpelled S body ds → AreSpelled T body ds
items_more S T more body [] h = h
items_more S T more body (d ∷ ds) h = (h.0, h.1, h.2, more h.0 d h.3, items_more S T more h.1 ds h.4)

pairs_more : (S T : List ℕ → tree.Data → Type 0) → More S T → (body : List ℕ) (ps : List (tree.Data × tree.Data)) → ArePairsSpelled S body ps → ArePairsSpelled T body ps
pairs_more S T more body [] h = h
pairs_more S T more body (p ∷ ps) h = (h.0, h.1, h.2, h.3, more h.0 p.0 h.4, more h.1 p.1 h.5, pairs_more S T more h.2 ps h.6)

nest_more : (S T : List ℕ → tree.Data → Type 0) → More S T → (form : Form) (f : List ℕ) (d : tree.Data) → IsNest S form f d → IsNest T form f d
nest_more S T more forms.Null f d h = h
nest_more S T more (forms.Flag b) f d h = h
nest_more S T more (forms.Whole z) f d h = h
nest_more S T more (forms.Unsigned w) f d h = h
nest_more S T more (forms.Signed w) f d h = h
nest_more S T more (forms.Text size) f d h = h
nest_more S T more (forms.Bytes size) f d h = h
nest_more S T more (forms.List size) f d h = (h.0, h.1, h.2, h.3, h.4, items_more S T more h.1 h.2 h.5, h.6)
nest_more S T more (forms.Dict size) f d h = (h.0, h.1, h.2, h.3, h.4, pairs_more S T more h.1 h.2 h.5, h.6)
nest_more S T more (forms.Foreign size) f d h = h
nest_more S T more (forms.Float w) f d h = h
nest_more S T more forms.Never f d h = h

leaf_nests : (S : List ℕ → tree.Data → Type 0) (form : Form) (f : List ℕ) (d : tree.Data) → IsLeaf form f d → IsNest S form f d
leaf_nests S forms.Null f d h = h
leaf_nests S (forms.Flag b) f d h = h
leaf_nests S (forms.Whole z) f d h = h
leaf_nests S (forms.Unsigned w) f d h = h
leaf_nests S (forms.Signed w) f d h = h
leaf_nests S (forms.Text size) f d h = h
leaf_nests S (forms.Bytes size) f d h = h
leaf_nests S (forms.List size) f d h = absurd h
leaf_nests S (forms.Dict size) f d h = absurd h
leaf_nests S (forms.Foreign size) f d h = h
leaf_nests S (forms.Float w) f d h = h
leaf_nests S forms.Never f d h = absurd h

pub more_room : (room : ℕ) (octets : List ℕ) (d : tree.Data) → Spells room octets d → Spells (suc room) octets d
unfolding Spells
more_room zero [] d h = absurd h
more_room zero (c ∷ f) d h = leaf_nests (Spells zero) (form_of c) f d h
more_room (suc room) [] d h = absurd h
more_room (suc room) (c ∷ f) d h = nest_more (Spells room) (Spells (suc room)) (more_room room) (form_of c) f d h
