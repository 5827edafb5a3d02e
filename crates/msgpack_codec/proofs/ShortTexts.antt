-- A short text at the front, as it is read and passed over.
use Rattle.std.proofs.Common.{◌≡◌, ◌<◌, ◌^◌, ℕ, zero, suc, List, [], ◌∷◌, ◌++◌, length, true, Ok, refl, sym, ap, ◌∙◌, subst, arith}
use Rattle.std.specs.Prelude.{IsUtf8}
use Rattle.std.proofs.lemmas.Bool.{lt-ltb}
use Rattle.std.proofs.lemmas.List.{append_cancel_right}
use Rattle.message_tree.specs.Data as tree
use Rattle.msgpack_codec.specs.Format.{form_of}
use Rattle.msgpack_codec.specs.Short.{short}
use Rattle.msgpack_codec.specs.Tokens.{BeginsWith}
use Rattle.msgpack_codec.specs.body.Decoder.{value_at}
use Rattle.msgpack_codec.specs.body.Passing.{written_at, IsFullyJudged, Tells}
use Rattle.msgpack_codec.specs.body.Writable.{is_writable}
use Rattle.msgpack_codec.proofs.NestJudgements.{nest-of-leaf}
use Rattle.msgpack_codec.proofs.ReadIsSpelled.{found-is}
use Rattle.msgpack_codec.proofs.ShortIsSpelled.{text_spelled}
use Rattle.msgpack_codec.proofs.SpelledIsRead.{value_again}

pub leaf-written : (room : ℕ) (octets : List ℕ) (d : tree.Data) (rest : List ℕ) → value_at zero octets ≡ Ok (d, rest) → written_at room octets ≡ Ok (d, rest)
unfolding value_at written_at
leaf-written room [] d rest e = absurd cc
leaf-written zero (c ∷ o) d rest e = e
leaf-written (suc room) (c ∷ o) d rest e = nest-of-leaf (written_at room) (form_of c) o d rest e ∙ e

module _ (octets s rest : List ℕ) (parts : octets ≡ short (tree.text s) ++ rest) (utf8 : IsUtf8 s) (few : length s < 32) where
  small : length s < 2 ^ 32
  small = omega (arith, few)

  pub text-begins : BeginsWith (tree.text s) octets rest
  text-begins = (short (tree.text s), parts, text_spelled 0 s utf8 small)

  pub text-read : (room : ℕ) → value_at room octets ≡ Ok (tree.text s, rest)
  text-read room = ap (value_at room) parts ∙ value_again room (short (tree.text s)) (tree.text s) rest (text_spelled room s utf8 small)

  pub text-written : (room : ℕ) → written_at room octets ≡ Ok (tree.text s, rest)
  text-written room = leaf-written room octets (tree.text s) rest (text-read zero)

  tells : (front : List ℕ) → front ≡ short (tree.text s) → Tells true true front (short (tree.text s))
  tells front is = record {
    fits = omega (arith, ap length is);
    is = λ _. (refl, is);
    of = λ _ _. refl;
  }

  pub text-least : (room : ℕ) → IsFullyJudged (written_at room octets) octets rest true
  text-least room = λ d front found ends.
      let same : tree.text s ≡ d = (found-is (tree.text s) d rest rest (sym (text-written room) ∙ found)).0 in
      let is : front ≡ short (tree.text s) = append_cancel_right front (short (tree.text s)) rest (sym ends ∙ parts) in
      let yea = lt-ltb (length s) (2 ^ 32) small in
      subst (λ (x : tree.Data). Tells true (is_writable x) front (short x)) same (subst (λ b. Tells true b front (short (tree.text s))) (sym yea) (tells front is))
