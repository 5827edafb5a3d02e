-- An entry that stands in its least spelling is put as it stands.
use Rattle.std.proofs.Common.{◌≡◌, ◌<◌, ◌^◌, ℕ, zero, suc, List, [], ◌++◌, append_assoc, length, true, refl, sym, ap, ◌∙◌, subst, Bool, cond, arith}
use Rattle.std.specs.Prelude.{IsUtf8}
use Rattle.std.proofs.lemmas.Bool.{lt-ltb}
use Rattle.message_tree.specs.Data as tree
use Rattle.msgpack_codec.specs.declared.carriage.Carriage.{Carriage}
use Rattle.msgpack_codec.specs.Grammar.{Spells}
use Rattle.msgpack_codec.specs.Short.{short, text_head}
use Rattle.msgpack_codec.specs.ShortLeaves.{IsPlain, BeginsPlainly}
use Rattle.msgpack_codec.specs.Written.{IsPassed, settled}
use Rattle.msgpack_codec.specs.body.Decoder.{value_at}
use Rattle.msgpack_codec.proofs.MoreRoom.{more_room}
use Rattle.msgpack_codec.proofs.ShortIsSpelled.{text_spelled}
use Rattle.msgpack_codec.proofs.ShortLeaves.{plain-spelled}
use Rattle.msgpack_codec.proofs.ShortTexts.{text-read}
use Rattle.msgpack_codec.proofs.SpelledIsRead.{value_again}
use Rattle.msgpack_canonical.specs.body.Entries.{BeginsCanonical, IsEntryPut, kept}
use Rattle.msgpack_canonical.specs.body.Fitting.{fits}
use Rattle.msgpack_canonical.specs.body.CanonicalEntries.{IsCanonicalEntry}
use Rattle.msgpack_canonical.proofs.Fits.{both-fit}
use Rattle.msgpack_canonical.proofs.Parts.{put_octets, put-entry, parted-text}

any-room : (room : ℕ) (f : List ℕ) (d : tree.Data) → Spells zero f d → Spells room f d
any-room zero f d h = h
any-room (suc room) f d h = more_room room f d (any-room room f d h)

-- a short text
pub least-text : (octets s rest : List ℕ) → octets ≡ short (tree.text s) ++ rest → IsUtf8 s → length s < 32 → BeginsCanonical octets rest
least-text octets s rest parts utf8 few =
    let small : length s < 2 ^ 32 = omega (arith, few) in
    record { meant = tree.text s; parts = parts; spelled = text_spelled 0 s utf8 small; fit = lt-ltb (length s) (2 ^ 32) small }

-- what was passed over and is the least
pub least-passed : (octets rest : List ℕ) (carriage : Carriage) (b : Bool) → b ≡ true → IsPassed 0 octets rest carriage b → BeginsCanonical octets rest
least-passed octets rest carriage b is p =
    let least = p.least is in
    let d = settled p.written in
    record {
      meant = d;
      parts = p.parts ∙ ap (λ (o : List ℕ). o ++ rest) least.is_short;
      spelled = subst (λ o. Spells 0 o d) least.is_short p.spelled;
      fit = both-fit d least.is_carried least.has_short;
    }

-- nil, a flag or a number
plain-fits : (d : tree.Data) → IsPlain d → fits d ≡ true
plain-fits tree.null h = refl
plain-fits (tree.flag b) h = refl
plain-fits (tree.whole z) h = h
plain-fits (tree.text s) h = absurd h
plain-fits (tree.bytes s) h = absurd h
plain-fits (tree.list ds) h = absurd h
plain-fits (tree.dict es) h = absurd h
plain-fits tree.uncarried h = absurd h

pub least-plain : (octets rest : List ℕ) → BeginsPlainly octets rest → BeginsCanonical octets rest
least-plain octets rest h = record { meant = h.meant; parts = h.parts; spelled = plain-spelled 0 h.meant h.plain; fit = plain-fits h.meant h.plain }

module _ (octets s middle rest : List ℕ) (parts : octets ≡ short (tree.text s) ++ middle) (utf8 : IsUtf8 s) (few : length s < 32) (v : BeginsCanonical middle rest) where
  value : short v.meant ≡ kept v.meant
  value = sym (ap (λ b. cond b (short v.meant) []) v.fit)

  abbrev pub least-front : List ℕ
  least-front = short (tree.text s) ++ short v.meant

  pub least-split : octets ≡ least-front ++ rest
  least-split = parts ∙ (ap (λ o. short (tree.text s) ++ o) v.parts ∙ sym (append_assoc (short (tree.text s)) (short v.meant) rest))

  pub least-put : (entry : List ℕ) → entry ≡ least-front → (room : ℕ) (old : List ℕ) → IsEntryPut (value_at room) octets rest true old (old ++ entry)
  least-put entry is room old =
      let small : length s < 2 ^ 32 = omega (arith, few) in
      let d = v.meant in
      record {
        key = tree.text s;
        middle = middle;
        meant = d;
        more = put_octets s d;
        key_read = text-read octets s middle parts utf8 few room;
        value_read = ap (value_at room) v.parts ∙ value_again room (short d) d rest (any-room room (short d) d v.spelled);
        text = refl;
        added = ap (λ o. old ++ o) (is ∙ ap (λ o. short (tree.text s) ++ o) value);
        entry = put-entry s d (parted-text (put_octets s d) s (kept d) (text-read (put_octets s d) s (kept d) refl utf8 few 0)) (lt-ltb (length s) (2 ^ 32) small);
      }

  pub least-seen : (entry : List ℕ) → entry ≡ least-front → IsCanonicalEntry octets s entry rest
  least-seen entry is =
      let d = v.meant in
      record {
        middle = middle;
        meant = d;
        key_read = text-read octets s middle parts utf8 few;
        value_read = λ room. ap (value_at room) v.parts ∙ value_again room (short d) d rest (any-room room (short d) d v.spelled);
        least = is ∙ append_assoc (text_head (length s)) s (short d);
        short_key = lt-ltb (length s) (2 ^ 32) (omega (arith, few));
        fit = v.fit;
      }
