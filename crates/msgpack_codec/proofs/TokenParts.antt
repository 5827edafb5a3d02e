-- What stands at the front of octets, by what is read there.
use Rattle.std.proofs.Common.{◌≡◌, ℕ, List, [], ◌∷◌, ◌++◌, Ok, Err, refl, sym, ap, ◌∙◌}
use Rattle.message_tree.specs.Data as tree
use Rattle.msgpack_codec.specs.declared.fault.Fault.{Fault}
use Rattle.msgpack_codec.specs.declared.fault.Fault.TheVariants.{TooDeep, Malformed}
use Rattle.msgpack_codec.specs.declared.format.Form.{Form}
use Rattle.msgpack_codec.specs.declared.format.Form.TheVariants as forms
use Rattle.msgpack_codec.specs.declared.format.Size.{Size}
use Rattle.msgpack_codec.specs.declared.tokens.Token.{Token}
use Rattle.msgpack_codec.specs.declared.tokens.Token.TheVariants.{Null, Flag, Whole, Text, Bytes, List as ListOf, Dict as DictOf, Uncarried}
use Rattle.msgpack_codec.specs.Format.{form_of}
use Rattle.msgpack_codec.specs.Tokens.{BeginsWith, Heads, IsToken, IsNoToken}
use Rattle.msgpack_codec.specs.body.Decoder.{size_at, leaf_at, value_at}
use Rattle.msgpack_codec.specs.body.Tokens.{data_of, IsLeafToken}
use Rattle.msgpack_codec.proofs.ReadIsSpelled.{size_found, value_found}
use Rattle.msgpack_codec.proofs.SpelledIsRead.{size_again, value_again}

read_leaf : (c : ℕ) (octets : List ℕ) → value_at 0 (c ∷ octets) ≡ leaf_at (form_of c) octets
unfolding value_at
read_leaf c octets = refl

begins : (all octets : List ℕ) (c : ℕ) (d : tree.Data) (rest : List ℕ) → all ≡ c ∷ octets → leaf_at (form_of c) octets ≡ Ok (d, rest) → BeginsWith d all rest
begins all octets c d rest is read = value_found 0 all d rest (ap (value_at 0) is ∙ read_leaf c octets ∙ read)

-- a value with nothing inside
pub leaf-token : (t : Token) (all octets : List ℕ) (c : ℕ) (rest : List ℕ) → all ≡ c ∷ octets → IsLeafToken t → leaf_at (form_of c) octets ≡ Ok (data_of t, rest) → IsToken t all rest
leaf-token Null all octets c rest is leaf read = begins all octets c _ rest is read
leaf-token (Flag b) all octets c rest is leaf read = begins all octets c _ rest is read
leaf-token (Whole z) all octets c rest is leaf read = begins all octets c _ rest is read
leaf-token (Text s) all octets c rest is leaf read = begins all octets c _ rest is read
leaf-token (Bytes s) all octets c rest is leaf read = begins all octets c _ rest is read
leaf-token (ListOf n) all octets c rest is leaf read = absurd leaf
leaf-token (DictOf n) all octets c rest is leaf read = absurd leaf
leaf-token Uncarried all octets c rest is leaf read = begins all octets c _ rest is read

-- the head of a list or map
pub head-token : (kind : Size → Form) (all octets : List ℕ) (c : ℕ) (size : Size) (n : ℕ) (rest : List ℕ) → all ≡ c ∷ octets → form_of c ≡ kind size → size_at size octets ≡ Ok (n, rest) → Heads kind n all rest
head-token kind all octets c size n rest is form read =
    let f = size_found size octets n rest read in
    (c, size, f.0, is ∙ ap (λ (o : List ℕ). c ∷ o) f.1, form, f.2)

-- ---- the other way

-- what begins with this octet is read by it
refused_leaf : (all octets : List ℕ) (c : ℕ) (fault : Fault) → all ≡ c ∷ octets → leaf_at (form_of c) octets ≡ Err fault → (d : tree.Data) (rest : List ℕ) → BeginsWith d all rest → ⊥
refused_leaf all octets c fault is read d rest (front, parts, spelled) =
    let again = value_again 0 front d rest spelled in
    let same = sym again ∙ ap (value_at 0) (sym parts ∙ is) ∙ read_leaf c octets ∙ read in
    cc

first_is : (c o : ℕ) (octets others : List ℕ) → c ∷ octets ≡ o ∷ others → (c ≡ o) × (octets ≡ others)
first_is c o octets others e = (cc, cc)

-- what the octets would have to be, if they began with a head
head_is : (kind : Size → Form) (all octets : List ℕ) (c n : ℕ) (rest : List ℕ) → all ≡ c ∷ octets → Heads kind n all rest → (size : Size) × (form_of c ≡ kind size) × (size_at size octets ≡ Ok (n, rest))
head_is kind all octets c n rest is (o, size, head, parts, form, sized) =
    let first = first_is c o octets (head ++ rest) (sym is ∙ parts) in
    (size, ap form_of first.0 ∙ form, ap (size_at size) first.1 ∙ size_again size head n rest sized)

deep_list : (form : Form) (octets : List ℕ) (size : Size) → form ≡ forms.List size → leaf_at form octets ≡ Err TooDeep
unfolding leaf_at
deep_list form octets size is = rw is refl

deep_dict : (form : Form) (octets : List ℕ) (size : Size) → form ≡ forms.Dict size → leaf_at form octets ≡ Err TooDeep
unfolding leaf_at
deep_dict form octets size is = rw is refl

same_list : (x y : Size) → forms.List x ≡ forms.List y → x ≡ y
same_list x y e = cc

same_dict : (x y : Size) → forms.Dict x ≡ forms.Dict y → x ≡ y
same_dict x y e = cc

pub no-leaf-token : (all octets : List ℕ) (c : ℕ) (fault : Fault) → all ≡ c ∷ octets → leaf_at (form_of c) octets ≡ Err fault → ((size : Size) → form_of c ≡ forms.List size → ⊥) → ((size : Size) → form_of c ≡ forms.Dict size → ⊥) → IsNoToken all
no-leaf-token all octets c fault is leaf not_list not_dict = record {
  no_leaf = refused_leaf all octets c fault is leaf;
  no_list = λ n rest heads. let h = head_is forms.List all octets c n rest is heads in not_list h.0 h.1;
  no_dict = λ n rest heads. let h = head_is forms.Dict all octets c n rest is heads in not_dict h.0 h.1;
}

pub no-list-token : (all octets : List ℕ) (c : ℕ) (size : Size) (fault : Fault) → all ≡ c ∷ octets → form_of c ≡ forms.List size → size_at size octets ≡ Err fault → IsNoToken all
no-list-token all octets c size fault is form refused = record {
  no_leaf = refused_leaf all octets c TooDeep is (deep_list (form_of c) octets size form);
  no_list = λ n rest heads.
      let h = head_is forms.List all octets c n rest is heads in
      let same = ap (λ s. size_at s octets) (same_list size h.0 (sym form ∙ h.1)) in
      let both = sym refused ∙ same ∙ h.2 in
      cc;
  no_dict = λ n rest heads. let h = head_is forms.Dict all octets c n rest is heads in let both = sym form ∙ h.1 in cc;
}

pub no-dict-token : (all octets : List ℕ) (c : ℕ) (size : Size) (fault : Fault) → all ≡ c ∷ octets → form_of c ≡ forms.Dict size → size_at size octets ≡ Err fault → IsNoToken all
no-dict-token all octets c size fault is form refused = record {
  no_leaf = refused_leaf all octets c TooDeep is (deep_dict (form_of c) octets size form);
  no_list = λ n rest heads. let h = head_is forms.List all octets c n rest is heads in let both = sym form ∙ h.1 in cc;
  no_dict = λ n rest heads.
      let h = head_is forms.Dict all octets c n rest is heads in
      let same = ap (λ s. size_at s octets) (same_dict size h.0 (sym form ∙ h.1)) in
      let both = sym refused ∙ same ∙ h.2 in
      cc;
}

read_nothing : value_at 0 [] ≡ Err Malformed
unfolding value_at
read_nothing = refl

pub nothing : (all : List ℕ) → all ≡ [] → IsNoToken all
nothing all is = record {
  no_leaf = λ d rest leaf.
      let again = value_again 0 leaf.0 d rest leaf.2 in
      let same = sym again ∙ ap (value_at 0) (sym leaf.1 ∙ is) ∙ read_nothing in
      cc;
  no_list = λ n rest heads. let same = sym is ∙ heads.3 in cc;
  no_dict = λ n rest heads. let same = sym is ∙ heads.3 in cc;
}
