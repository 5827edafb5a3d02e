-- Octets that stand for themselves, a piece of a text at a time.
use Rattle.std.proofs.Common.{◌≡◌, ℕ, ◌+◌, ◌%◌, ◌^◌, ◌<◌, ◌≤◌, Bool, true, false, cond, ◌||◌, ◌==◌, nat_lt, List, [], ◌∷◌, map, length, drop, replicate, refl, sym, ap, ap₂, ◌∙◌, arith}
use Rattle.std.proofs.lemmas.Simd.{zip2_splat, zip2_of_maps, map-map, chunk-drop, length-chunk, mask_l-mod}
use Rattle.std.proofs.lemmas.Bool.{eq-eqb, ne_eqb}
use Rattle.std.proofs.lemmas.List.{length-map}
use Rattle.std.proofs.lemmas.List.Folds.{prefix_len-append}
use Rattle.std.proofs.lemmas.List.Sums.{prefix_len-le-length}
use Rattle.std.specs.List.{prefix_len}
use Rattle.json.specs.Run.{is_stop, is_plain}
use lib.Bits.{bit_or}
use lib.Lanes.{zip2, chunk, mask_l, top}

-- what a comparison writes into a lane
abbrev lane : Bool → ℕ
lane b = cond b 255 0

-- the top bit of three comparisons together
together : (a b c : Bool) → top 7 (bit_or (bit_or (lane a) (lane b)) (lane c)) ≡ (a || b || c)
together true true true = refl
together true true false = refl
together true false true = refl
together true false false = refl
together false true true = refl
together false true false = refl
together false false true = refl
together false false false = refl

abbrev tested : ℕ → ℕ
tested x = bit_or (bit_or (lane (x == 34)) (lane (x == 92))) (lane (nat_lt x 32))

tops : (v : List ℕ) → map (λ x. top 7 (tested x)) v ≡ map is_stop v
tops [] = refl
tops (x ∷ v) = ap₂ (λ (b : Bool) l. b ∷ l) (together (x == 34) (x == 92) (nat_lt x 32)) (tops v)

-- the bits of a piece that was compared with quotes, backslashes and what comes behind the control octets
pub piece_mask : (v : List ℕ) → length v ≡ 16
    → mask_l (map (top 7) (zip2 bit_or (zip2 bit_or (zip2 (λ a b. lane (a == b)) v (replicate 16 34)) (zip2 (λ a b. lane (a == b)) v (replicate 16 92))) (zip2 (λ a b. lane (nat_lt a b)) v (replicate 16 32)))) % 2 ^ 64 ≡ mask_l (map is_stop v)
piece_mask v long =
    let quotes = zip2_splat (λ a b. lane (a == b)) v 16 34 long in
    let backslashes = zip2_splat (λ a b. lane (a == b)) v 16 92 long in
    let controls = zip2_splat (λ a b. lane (nat_lt a b)) v 16 32 long in
    let each = zip2_of_maps bit_or _ _ v (zip2_of_maps bit_or _ _ v quotes backslashes) controls in
    ap (λ l. mask_l (map (top 7) l) % 2 ^ 64) each ∙ ap (λ l. mask_l l % 2 ^ 64) (map-map (top 7) tested v ∙ tops v)
    ∙ mask_l-mod (map is_stop v) 64 (omega (arith, length-map v is_stop))

-- a run that ends in a piece, and one that goes through it
run_in : (d : List ℕ) (i n : ℕ) → prefix_len is_plain (drop i d)
    ≡ cond (prefix_len is_plain (chunk i n d) == length (chunk i n d)) (length (chunk i n d) + prefix_len is_plain (drop (i + n) d)) (prefix_len is_plain (chunk i n d))
run_in d i n = ap (prefix_len is_plain) (chunk-drop i n d) ∙ prefix_len-append is_plain (chunk i n d) (drop (i + n) d)

pub run_ends : (d : List ℕ) (i n plain : ℕ) → i + n ≤ length d → plain ≡ prefix_len is_plain (chunk i n d) → plain < n → prefix_len is_plain (drop i d) ≡ plain
run_ends d i n plain room is less =
    let c = chunk i n d in
    run_in d i n ∙ ap (λ b. cond b (length c + prefix_len is_plain (drop (i + n) d)) (prefix_len is_plain c)) (ne_eqb (prefix_len is_plain c) (length c) (λ e. omega (arith, length-chunk i n d room))) ∙ sym is

pub run_goes_on : (d : List ℕ) (i n plain : ℕ) → i + n ≤ length d → plain ≡ prefix_len is_plain (chunk i n d) → n ≤ plain → prefix_len is_plain (drop i d) ≡ n + prefix_len is_plain (drop (i + n) d)
run_goes_on d i n plain room is all =
    let c = chunk i n d in
    let long = length-chunk i n d room in
    run_in d i n ∙ ap (λ b. cond b (length c + prefix_len is_plain (drop (i + n) d)) (prefix_len is_plain c)) (eq-eqb (prefix_len is_plain c) (length c) (omega (arith, long, is, all, prefix_len-le-length is_plain c)))
    ∙ ap (λ k. k + prefix_len is_plain (drop (i + n) d)) long
