-- A short text between quotes.
use Rattle.std.proofs.Common.{◌≡◌, ℕ, ◌+◌, ◌<◌, ◌≤◌, true, List, [], ◌∷◌, ◌++◌, length, take, slice_set, sym, ap, ◌∙◌, subst, arith, get_or-take}
use Rattle.std.proofs.lemmas.List.{get_or_append_left}
use Rattle.std.proofs.Math.Seq.{set-append_seam, take-append-add}
use Rattle.json.specs.Print.{quoted}
use Rattle.json.specs.Run.{is_plain}
use Rattle.json.specs.Written.{PlainBetween}
use Rattle.json.proofs.Printed.Plain.{escape_on_plain}

-- a quote is put over the octet behind the text, and what follows it is left off
closed : (s rest : List ℕ) → 0 < length rest → take (length s + 1 + 1) (slice_set (34 ∷ (s ++ rest)) (length s + 1) 34) ≡ 34 ∷ (s ++ 34 ∷ [])
closed s [] room = absurd (omega arith)
closed s (x ∷ rest) room =
    let next : length s + 1 ≡ length (34 ∷ s) = omega arith in
    ap (λ n. take (n + 1) (slice_set (34 ∷ (s ++ x ∷ rest)) n 34)) next
    ∙ ap (take (length (34 ∷ s) + 1)) (set-append_seam (34 ∷ s) x rest 34)
    ∙ take-append-add (34 ∷ s) (34 ∷ rest) 1

plain_front : (s rest : List ℕ) (n : ℕ) → length s ≤ n → PlainBetween (take n (s ++ rest)) 0 (length s) → PlainBetween s 0 (length s)
plain_front s rest n short plain k p q =
    ap is_plain (sym (get_or-take n (s ++ rest) k 0 (omega arith) ∙ get_or_append_left s rest 0 k q)) ∙ plain k p q

pub short_quoted : (s new rest : List ℕ) (n : ℕ) → new ≡ s → length s ≤ n → 0 < length rest → PlainBetween (take n (new ++ rest)) 0 (length s)
    → take (length s + 1 + 1) (slice_set (34 ∷ (new ++ rest)) (length s + 1) 34) ≡ quoted s
short_quoted s new rest n same short room plain =
    let plain : PlainBetween s 0 (length s) = plain_front s rest n short (subst (λ l. PlainBetween (take n (l ++ rest)) 0 (length s)) same plain) in
    ap (λ l. take (length s + 1 + 1) (slice_set (34 ∷ (l ++ rest)) (length s + 1) 34)) same
    ∙ closed s rest room ∙ ap (λ l. 34 ∷ (l ++ 34 ∷ [])) (sym (escape_on_plain true s plain))
