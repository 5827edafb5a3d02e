-- What stands at the front of an entry's octets.
use Rattle.std.proofs.Common.{◌≡◌, ◌^◌, ℕ, List, [], ◌++◌, length, Bool, true, false, cond, Ok, Err, refl, sym, ap, ◌∙◌, subst, append_assoc}
use Rattle.std.specs.Prelude.{nat_lt}
use Rattle.message_tree.specs.Data as tree
use Rattle.msgpack_codec.specs.Values.{is_text}
use Rattle.msgpack_codec.specs.body.Decoder.{Found, value_at}
use Rattle.msgpack_codec.specs.Short.{short, text_head}
use Rattle.msgpack_canonical.specs.body.Fitting.{fits}
use Rattle.msgpack_canonical.specs.body.Entries.{kept, IsEntry, text_parts, parts_of, parted}

pub parted-text : (octets k v : List ℕ) → value_at 0 octets ≡ Ok (tree.text k, v) → parted octets ≡ (k, v)
unfolding parted
parted-text octets k v e = ap parts_of e

no-text : (d : tree.Data) (rest : List ℕ) → is_text d ≡ false → text_parts d rest ≡ ([], [])
no-text tree.null rest nay = refl
no-text (tree.flag b) rest nay = refl
no-text (tree.whole z) rest nay = refl
no-text (tree.text s) rest nay = absurd cc
no-text (tree.bytes b) rest nay = refl
no-text (tree.list ds) rest nay = refl
no-text (tree.dict es) rest nay = refl
no-text tree.uncarried rest nay = refl

no-parts : (found : Found tree.Data) → ((k : tree.Data) (rest : List ℕ) → found ≡ Ok (k, rest) → is_text k ≡ false) → parts_of found ≡ ([], [])
no-parts (Ok x) nay = no-text x.0 x.1 (nay x.0 x.1 refl)
no-parts (Err e) nay = refl

pub parted-none : (octets : List ℕ) → ((k : tree.Data) (rest : List ℕ) → value_at 0 octets ≡ Ok (k, rest) → is_text k ≡ false) → parted octets ≡ ([], [])
unfolding parted
parted-none octets nay = no-parts (value_at 0 octets) nay

-- ---- the entry that is put

module _ (k : List ℕ) (d : tree.Data) where
  abbrev pub put_octets : List ℕ
  put_octets = (text_head (length k) ++ k) ++ kept d

  pub put-entry : parted put_octets ≡ (k, kept d) → nat_lt (length k) (2 ^ 32) ≡ true → (s : List ℕ) → tree.text k ≡ tree.text s → IsEntry s (kept d) put_octets
  put-entry parts small s is =
      let same : k ≡ s = cc in
      let here : IsEntry k (kept d) put_octets = record { spelled = append_assoc (text_head (length k)) k (kept d); parts = parts; short_key = small } in
      subst (λ x. IsEntry x (kept d) put_octets) same here

  -- the key stands behind old octets, and then the value behind it where it fits
  pub put-behind : (old before since new : List ℕ) (b : Bool) → b ≡ fits d → before ≡ old ++ (text_head (length k) ++ k) → new ≡ before ++ cond b since [] → (b ≡ true → since ≡ short d) → new ≡ old ++ put_octets
  put-behind old before since new true is at put whole =
      let value : kept d ≡ short d = ap (λ b. cond b (short d) []) (sym is) in
      put ∙ (ap (λ o. before ++ o) (whole refl ∙ sym value) ∙ (ap (λ (o : List ℕ). o ++ kept d) at ∙ append_assoc old (text_head (length k) ++ k) (kept d)))
  put-behind old before since new false is at put whole =
      let value : kept d ≡ [] = ap (λ b. cond b (short d) []) (sym is) in
      put ∙ (ap (λ o. before ++ o) (sym value) ∙ (ap (λ (o : List ℕ). o ++ kept d) at ∙ append_assoc old (text_head (length k) ++ k) (kept d)))
