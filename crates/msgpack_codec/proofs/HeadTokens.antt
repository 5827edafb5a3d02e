-- The token that one octet is.
use Rattle.std.proofs.Common.{◌≡◌, ◌-◌, ◌<◌, ◌≤◌, ℕ, pos, List, ◌∷◌, Ok, refl, ap, ◌∙◌, arith}
use Rattle.std.proofs.lemmas.Bool.{lt-ltb, le-ltb}
use Rattle.message_tree.specs.Data as tree
use Rattle.msgpack_codec.specs.declared.format.Form.TheVariants as forms
use Rattle.msgpack_codec.specs.declared.format.Size.TheVariants.{Here}
use Rattle.msgpack_codec.specs.declared.tokens.Token.TheVariants.{Whole, List as ListOf, Dict as DictOf}
use Rattle.msgpack_codec.specs.Format.{form_of}
use Rattle.msgpack_codec.specs.Tokens.{IsToken}
use Rattle.msgpack_codec.specs.declared.format.Width.TheVariants.{Two}
use Rattle.msgpack_codec.specs.body.Decoder.{number_at, size_at, leaf_at}
use Rattle.msgpack_codec.proofs.SpelledIsRead.{then_ok}
use Rattle.msgpack_codec.proofs.TokenParts.{leaf-token, head-token}

whole-form : (c : ℕ) → c < 128 → form_of c ≡ forms.Whole (pos c)
unfolding form_of
whole-form c small = rw (lt-ltb c 128 small) refl

dict-form : (c : ℕ) → 128 ≤ c → c < 144 → form_of c ≡ forms.Dict (Here (c - 128))
unfolding form_of
dict-form c large small = rw (le-ltb c 128 large, lt-ltb c 144 small) refl

list-form : (c : ℕ) → 144 ≤ c → c < 160 → form_of c ≡ forms.List (Here (c - 144))
unfolding form_of
list-form c large small = rw (le-ltb c 128 (omega (arith, large)), le-ltb c 144 large, lt-ltb c 160 small) refl

whole-read : (c : ℕ) (rest : List ℕ) → leaf_at (forms.Whole (pos c)) rest ≡ Ok (tree.whole (pos c), rest)
unfolding leaf_at
whole-read c rest = refl

here-read : (n : ℕ) (rest : List ℕ) → size_at (Here n) rest ≡ Ok (n, rest)
unfolding size_at
here-read n rest = refl

pub whole-token : (all rest : List ℕ) (c : ℕ) → all ≡ c ∷ rest → c < 128 → IsToken (Whole (pos c)) all rest
whole-token all rest c is small = leaf-token (Whole (pos c)) all rest c rest is tt (ap (λ form. leaf_at form rest) (whole-form c small) ∙ whole-read c rest)

pub dict-token : (all rest : List ℕ) (c : ℕ) → all ≡ c ∷ rest → 128 ≤ c → c < 144 → IsToken (DictOf (c - 128)) all rest
dict-token all rest c is large small = head-token forms.Dict all rest c (Here (c - 128)) (c - 128) rest is (dict-form c large small) (here-read (c - 128) rest)

pub list-token : (all rest : List ℕ) (c : ℕ) → all ≡ c ∷ rest → 144 ≤ c → c < 160 → IsToken (ListOf (c - 144)) all rest
list-token all rest c is large small = head-token forms.List all rest c (Here (c - 144)) (c - 144) rest is (list-form c large small) (here-read (c - 144) rest)

two-form : form_of 205 ≡ forms.Unsigned Two
unfolding form_of
two-form = refl

two-read : (behind rest : List ℕ) (n : ℕ) → number_at Two behind ≡ Ok (n, rest) → leaf_at (forms.Unsigned Two) behind ≡ Ok (tree.whole (pos n), rest)
unfolding leaf_at
two-read behind rest n read = then_ok (number_at Two behind) (λ n. Ok (tree.whole (pos n.0), n.1)) (n, rest) _ read refl

-- a number in two octets behind its first one
pub two-token : (all behind rest : List ℕ) (c n : ℕ) → all ≡ c ∷ behind → c ≡ 205 → number_at Two behind ≡ Ok (n, rest) → IsToken (Whole (pos n)) all rest
two-token all behind rest c n is two read =
    leaf-token (Whole (pos n)) all behind c rest is tt (ap (λ form. leaf_at form behind) (ap form_of two ∙ two-form) ∙ two-read behind rest n read)
