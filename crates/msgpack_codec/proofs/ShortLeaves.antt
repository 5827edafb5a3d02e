-- A short value that is no text, as it is read and passed over.
use Rattle.std.proofs.Common.{◌≡◌, ◌<◌, ◌≤◌, ◌^◌, ℕ, zero, pos, List, [], ◌∷◌, ◌++◌, length, get_or, true, Ok, None, refl, sym, ap, ◌∙◌, subst, inl, inr, arith}
use Rattle.std.specs.Int.{w32, to_be_bytes}
use Rattle.std.proofs.lemmas.Bool.{lt-ltb, le-ltb, cases_lt}
use Rattle.std.proofs.lemmas.List.{append_cancel_right, get_or_append_left, get_or_past}
use Rattle.std.proofs.lemmas.Nat.{be_bytes_4}
use Rattle.message_tree.specs.Data as tree
use Rattle.msgpack_codec.specs.Grammar.{Spells}
use Rattle.msgpack_codec.specs.Short.{from_zero, short}
use Rattle.msgpack_codec.specs.ShortLeaves.{IsPlain, BeginsPlainly}
use Rattle.msgpack_codec.specs.Written.{carriage_of}
use Rattle.msgpack_codec.specs.body.Decoder.{number_at, value_at}
use Rattle.msgpack_codec.specs.body.Passing.{written_at, IsFullyJudged, Tells, text_of}
use Rattle.msgpack_codec.specs.body.Writable.{is_writable}
use Rattle.msgpack_codec.specs.declared.carriage.Carriage.TheVariants.{Carried}
use Rattle.msgpack_codec.specs.declared.format.Width.TheVariants.{Four}
use Rattle.msgpack_codec.proofs.ReadIsSpelled.{found-is, number_found}
use Rattle.msgpack_codec.proofs.ShortIsSpelled.{flag_spelled, null_spelled, whole_spelled}
use Rattle.msgpack_codec.proofs.ShortTexts.{leaf-written}
use Rattle.msgpack_codec.proofs.SpelledIsRead.{value_again}

-- ---- what octets begin with

pub small-begins : (n : ℕ) (rest : List ℕ) → n < 128 → BeginsPlainly (n ∷ rest) rest
unfolding from_zero
small-begins n rest lt = record {
  meant = tree.whole (pos n);
  plain = lt-ltb n (2 ^ 64) (omega arith);
  parts = ap (λ (o : List ℕ). o ++ rest) (let e : n ∷ [] ≡ from_zero n = rw (lt-ltb n 128 lt) refl in e);
}

great-spelled : (n : ℕ) (o : List ℕ) → 65536 ≤ n → n < 2 ^ 32 → to_be_bytes w32 n ≡ o → 206 ∷ o ≡ from_zero n
unfolding from_zero
great-spelled n o ge lt e = rw (le-ltb n 128 (omega arith), le-ltb n 256 (omega arith), le-ltb n 65536 ge, lt-ltb n (2 ^ 32) lt) (ap (λ (x : List ℕ). 206 ∷ x) (sym e))

pub great-begins : (octets : List ℕ) (n : ℕ) (rest : List ℕ) → ((i : ℕ) → get_or octets i 0 < 256) → 65536 ≤ n → n < 2 ^ 32 → number_at Four octets ≡ Ok (n, rest)
    → BeginsPlainly (206 ∷ octets) rest
great-begins octets n rest range ge lt e =
    let found = number_found Four octets n rest e in
    let f = found.0 in
    let long : length f ≡ 4 = found.2.0 in
    let small : (i : ℕ) → get_or f i 0 < 256 = λ i.
    elim (cases_lt i (length f)) [
      | inl a ↦ subst (λ k. k < 256) (ap (λ o. get_or o i 0) found.1 ∙ get_or_append_left f rest 0 i a) (range i)
      | inr a ↦ subst (λ k. k < 256) (sym (get_or_past f i 0 a)) (omega arith)
    ] in
    let same = be_bytes_4 f n long small found.2.1 in
    record {
      meant = tree.whole (pos n);
      plain = lt-ltb n (2 ^ 64) (omega arith);
      parts = ap (λ (o : List ℕ). 206 ∷ o) found.1 ∙ ap (λ (o : List ℕ). o ++ rest) (great-spelled n f ge lt same);
    }

-- ---- what such values are

pub plain-spelled : (room : ℕ) (d : tree.Data) → IsPlain d → Spells room (short d) d
plain-spelled room tree.null h = null_spelled room
plain-spelled room (tree.flag b) h = flag_spelled room b
plain-spelled room (tree.whole z) h = whole_spelled room z h
plain-spelled room (tree.text s) h = absurd h
plain-spelled room (tree.bytes s) h = absurd h
plain-spelled room (tree.list ds) h = absurd h
plain-spelled room (tree.dict es) h = absurd h
plain-spelled room tree.uncarried h = absurd h

pub plain-carriage : (d : tree.Data) → IsPlain d → Carried ≡ carriage_of d
plain-carriage tree.null h = refl
plain-carriage (tree.flag b) h = refl
plain-carriage (tree.whole z) h = rw h refl
plain-carriage (tree.text s) h = absurd h
plain-carriage (tree.bytes s) h = absurd h
plain-carriage (tree.list ds) h = absurd h
plain-carriage (tree.dict es) h = absurd h
plain-carriage tree.uncarried h = absurd h

plain-writable : (d : tree.Data) → IsPlain d → is_writable d ≡ true
plain-writable tree.null h = refl
plain-writable (tree.flag b) h = refl
plain-writable (tree.whole z) h = h
plain-writable (tree.text s) h = absurd h
plain-writable (tree.bytes s) h = absurd h
plain-writable (tree.list ds) h = absurd h
plain-writable (tree.dict es) h = absurd h
plain-writable tree.uncarried h = absurd h

pub plain-no_text : (d : tree.Data) → IsPlain d → None ≡ text_of d
plain-no_text tree.null h = refl
plain-no_text (tree.flag b) h = refl
plain-no_text (tree.whole z) h = refl
plain-no_text (tree.text s) h = absurd h
plain-no_text (tree.bytes s) h = absurd h
plain-no_text (tree.list ds) h = absurd h
plain-no_text (tree.dict es) h = absurd h
plain-no_text tree.uncarried h = absurd h

module _ (octets rest : List ℕ) (h : BeginsPlainly octets rest) where
  pub plain-written : (room : ℕ) → written_at room octets ≡ Ok (h.meant, rest)
  plain-written room =
      leaf-written room octets h.meant rest (ap (value_at zero) h.parts ∙ value_again zero (short h.meant) h.meant rest (plain-spelled zero h.meant h.plain))

  tells : (front : List ℕ) → front ≡ short h.meant → Tells true true front (short h.meant)
  tells front is = record {
    fits = omega (arith, ap length is);
    is = λ _. (refl, is);
    of = λ _ _. refl;
  }

  pub plain-least : (room : ℕ) → IsFullyJudged (written_at room octets) octets rest true
  plain-least room = λ d front found ends.
      let same : h.meant ≡ d = (found-is h.meant d rest rest (sym (plain-written room) ∙ found)).0 in
      let is : front ≡ short h.meant = append_cancel_right front (short h.meant) rest (sym ends ∙ h.parts) in
      subst (λ (x : tree.Data). Tells true (is_writable x) front (short x)) same (subst (λ b. Tells true b front (short h.meant)) (sym (plain-writable h.meant h.plain)) (tells front is))
