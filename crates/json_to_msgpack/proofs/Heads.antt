-- Lists and maps whose head was written behind what is inside.
use Rattle.std.proofs.Common.{◌≡◌, ℕ, suc, ◌+◌, ◌^◌, ◌<◌, true, List, [], ◌∷◌, ◌++◌, length, take, drop, refl, sym, ap, ap₂, subst, ◌∙◌, append_assoc, append-nil, arith}
use Rattle.std.proofs.Math.Seq.{take-append_seam}
use Rattle.message_tree.specs.Data as tree
use Rattle.message_tree.specs.View.{items_of}
use Rattle.msgpack_codec.specs.Short.{list_head, dict_head}
use Rattle.msgpack_codec.specs.Grammar.{IsSize, IsNest, AreSpelled, ArePairsSpelled, map_from, Spells}
use Rattle.msgpack_codec.proofs.ShortIsSpelled.{list_head_is, dict_head_is}

-- ---- the head

filled : (before head body : List ℕ) → take (length before) (before ++ (0 ∷ body)) ++ (head ++ drop (suc (length before)) (before ++ (0 ∷ body))) ≡ before ++ (head ++ body)
filled [] head body = refl
filled (x ∷ before) head body = ap (λ (l : List ℕ). x ∷ l) (filled before head body)

-- the head takes the place of the octet that was left for it
pub headed : (at : ℕ) (before all head body after : List ℕ) → at ≡ length before → all ≡ before ++ (0 ∷ body) → after ≡ take at all ++ (head ++ drop (at + 1) all) → after ≡ before ++ (head ++ body)
headed at before all head body after is e h =
    let one : at + 1 ≡ suc (length before) = omega arith in
    let l = before ++ (0 ∷ body) in
    h ∙ ap (λ (a : List ℕ). take at a ++ (head ++ drop (at + 1) a)) e ∙ ap₂ (λ (m n : ℕ). take m l ++ (head ++ drop n l)) is one ∙ filled before head body

-- null takes the place of all that was written
pub nulled : (at : ℕ) (before all body after : List ℕ) → at ≡ length before → all ≡ before ++ (0 ∷ body) → after ≡ take at all ++ 192 ∷ [] → after ≡ before ++ 192 ∷ []
nulled at before all body after is e h =
    h ∙ ap (λ (l : List ℕ). l ++ 192 ∷ []) (ap₂ (λ (n : ℕ) (a : List ℕ). take n a) is e ∙ take-append_seam before (0 ∷ body))

as_octets : (room : ℕ) (octets same : List ℕ) (d : tree.Data) → octets ≡ same → Spells room same d → Spells room octets d
as_octets room octets same d e h = subst (λ o. Spells room o d) (sym e) h

pub list_spells : (room n : ℕ) (body : List ℕ) (ds : List tree.Data) → n ≡ length ds → n < 2 ^ 32 → AreSpelled (Spells room) body ds
    → Spells (suc room) (list_head n ++ body) (tree.list (items_of ds))
unfolding Spells
list_spells room n body ds e lt h =
    let head = list_head_is n lt in
    let d = tree.list (items_of ds) in
    as_octets (suc room) _ (head.0 ∷ (head.2 ++ body)) d (ap (λ o. o ++ body) head.3)
    (subst (λ f. IsNest (Spells room) f (head.2 ++ body) d) (sym head.4) (head.2, body, ds, subst (λ m. IsSize head.1 head.2 m) e head.5, refl, h, refl))

pub dict_spells : (room n : ℕ) (body : List ℕ) (ps : List (tree.Data × tree.Data)) (es : tree.Entries) → n ≡ length ps → n < 2 ^ 32 → ArePairsSpelled (Spells room) body ps
    → map_from tree.no_entries true ps ≡ tree.dict es → Spells (suc room) (dict_head n ++ body) (tree.dict es)
unfolding Spells
dict_spells room n body ps es e lt h made =
    let head = dict_head_is n lt in
    let d = tree.dict es in
    as_octets (suc room) _ (head.0 ∷ (head.2 ++ body)) d (ap (λ o. o ++ body) head.3)
    (subst (λ f. IsNest (Spells room) f (head.2 ++ body) d) (sym head.4) (head.2, body, ps, subst (λ m. IsSize head.1 head.2 m) e head.5, refl, h, sym made))

-- ---- one more inside

pub one_more_spelled : (S : List ℕ → tree.Data → Type 0) (a b : List ℕ) (ds : List tree.Data) (d : tree.Data) → AreSpelled S a ds → S b d → AreSpelled S (a ++ b) (ds ++ d ∷ [])
one_more_spelled S a b [] d h s = (b, [], ap (λ (l : List ℕ). l ++ b) h ∙ sym (append-nil b), s, refl)
one_more_spelled S a b (x ∷ ds) d h s =
    (h.0, h.1 ++ b, ap (λ (l : List ℕ). l ++ b) h.2 ∙ append_assoc h.0 h.1 b, h.3, one_more_spelled S h.1 b ds d h.4 s)

pub one_more_pair : (S : List ℕ → tree.Data → Type 0) (a k v : List ℕ) (ps : List (tree.Data × tree.Data)) (p : tree.Data × tree.Data) → ArePairsSpelled S a ps → S k p.0 → S v p.1
    → ArePairsSpelled S (a ++ (k ++ v)) (ps ++ p ∷ [])
one_more_pair S a k v [] p h sk sv = (k, v, [], ap (λ (l : List ℕ). l ++ (k ++ v)) h ∙ ap (λ (l : List ℕ). k ++ l) (sym (append-nil v)), sk, sv, refl)
one_more_pair S a k v (q ∷ ps) p h sk sv = (
  h.0,
  h.1,
  h.2 ++ (k ++ v),
  ap (λ (l : List ℕ). l ++ (k ++ v)) h.3 ∙ append_assoc h.0 (h.1 ++ h.2) (k ++ v) ∙ ap (λ (l : List ℕ). h.0 ++ l) (append_assoc h.1 h.2 (k ++ v)),
  h.4,
  h.5,
  one_more_pair S h.2 k v ps p h.6 sk sv,
)
