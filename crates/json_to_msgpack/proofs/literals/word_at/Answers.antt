use Rattle.std.proofs.Common.{◌≡◌, ℕ, ◌+◌, ◌-◌, List, ◌∷◌, length, take, drop, get_or, nat_eq, true, refl, sym, ap, ◌∙◌, subst, arith}
use Rattle.std.proofs.lemmas.List.{take_all, length-drop}
use Rattle.std.specs.List.{starts_with}
use Rattle.json.specs.Ascii.{true_text, false_text, null_text}
use Rattle.json_to_msgpack.proofs.Octets.{octet_of}
use Rattle.json_to_msgpack.proofs.WordParts.{true_word, false_word, null_word}
use Rattle.json_to_msgpack.proofs.literals.word_at.Goals as goal

-- a range up to the end is all that is left
all_of : (d : List ℕ) (i : ℕ) (rest : List ℕ) → rest ≡ drop i d → take (length d - i) rest ≡ drop i d
all_of d i rest e = take_all (length d - i) rest (omega (arith, length-drop i d, ap length e)) ∙ e

pub returns-in-116 : goal.returns-in-116
returns-in-116 c =
    let t = c.args.text.now in
    let i = c.args.at in
    let same = c.as_bytes-octets.ensures.value in
    let first : get_or t i 0 ≡ 116 = rw (← same) c.in-116.is in
    let behind : drop (i + 1) t ≡ 114 ∷ 117 ∷ 101 ∷ drop (i + 4) t = rw (← same) (c.if-has_behind.ensures refl) in
    true_word t i c.requires (ap (λ l. starts_with nat_eq l true_text) (octet_of t i c.requires ∙ (λ k. first k ∷ behind k)))

pub returns-in-102 : goal.returns-in-102
returns-in-102 c =
    let t = c.args.text.now in
    let i = c.args.at in
    let d = c.as_bytes-octets.result.now in
    false_word t i c.requires (subst (λ l. starts_with nat_eq l false_text ≡ true) (all_of d i (drop i d) refl ∙ ap (drop i) c.as_bytes-octets.ensures.value) (sym c.if-starts_with.ensures.value))

pub returns-in-110 : goal.returns-in-110
returns-in-110 c =
    let t = c.args.text.now in
    let i = c.args.at in
    let same = c.as_bytes-octets.ensures.value in
    let first : get_or t i 0 ≡ 110 = rw (← same) c.in-110.is in
    let behind : drop (i + 1) t ≡ 117 ∷ 108 ∷ 108 ∷ drop (i + 4) t = rw (← same) (c.if-has_behind-2.ensures refl) in
    null_word t i c.requires (ap (λ l. starts_with nat_eq l null_text) (octet_of t i c.requires ∙ (λ k. first k ∷ behind k)))
