-- Octets as one number.
use Rattle.std.proofs.Common.{◌≡◌, ℕ, zero, suc, ◌+◌, ◌-◌, ◌*◌, ◌%◌, ◌^◌, ◌<◌, ◌≤◌, Bool, true, false, eqb, List, [], ◌∷◌, take, drop, length, get_or, bit_and, refl, sym, ap, subst, ◌∙◌, arith}
use Rattle.std.proofs.lemmas.List.{length-take-le, take-take}
use Rattle.std.proofs.lemmas.Nat.{and_mask, pow-add}
use Rattle.std.proofs.lemmas.Bool.{eq-eqb, ne_eqb}
use Rattle.std.proofs.Math.Nat.{add-mul-mod_self_left, mod-eq_of_lt, mul_assoc}
use Rattle.std.specs.Int.{w64, from_le_bytes}
use Rattle.std.specs.Str.{bytes_eq}
use Rattle.wamp_ids.proofs.Lemmas.{bytes_eq-true, bytes_eq-refl}
use Rattle.subscription_index.specs.body.Words.{worth}

-- the first octets, and those behind them
worth_parts : (n : ℕ) (xs : List ℕ) → n ≤ length xs → worth xs ≡ worth (take n xs) + 256 ^ n * worth (drop n xs)
worth_parts zero xs h = omega arith
worth_parts (suc n) [] h = absurd (omega arith)
worth_parts (suc n) (x ∷ xs) h =
    let rest : worth xs ≡ worth (take n xs) + 256 ^ n * worth (drop n xs) = worth_parts n xs (omega (arith, h)) in
    let power : 256 ^ suc n ≡ 256 * 256 ^ n = omega arith in
    let more : 256 ^ suc n * worth (drop n xs) ≡ 256 * (256 ^ n * worth (drop n xs)) = ap (λ p. p * worth (drop n xs)) power ∙ mul_assoc 256 (256 ^ n) (worth (drop n xs)) in
    omega (arith, rest, more)

worth_below : (xs : List ℕ) → ((i : ℕ) → get_or xs i 0 < 256) → worth xs < 256 ^ length xs
worth_below [] small = omega arith
worth_below (x ∷ xs) small =
    let power : 256 ^ suc (length xs) ≡ 256 * 256 ^ length xs = omega arith in
    omega (arith, power, small 0, worth_below xs (λ i. small (suc i)))

pub small_take : (n : ℕ) (xs : List ℕ) → ((i : ℕ) → get_or xs i 0 < 256) → (i : ℕ) → get_or (take n xs) i 0 < 256
small_take zero xs small zero = omega arith
small_take zero xs small (suc i) = omega arith
small_take (suc n) [] small i = small i
small_take (suc n) (x ∷ xs) small zero = small 0
small_take (suc n) (x ∷ xs) small (suc i) = small_take n xs (λ k. small (suc k)) i

-- as many octets are one where their numbers are
worth_one : (xs ys : List ℕ) → length xs ≡ length ys → ((i : ℕ) → get_or xs i 0 < 256) → ((i : ℕ) → get_or ys i 0 < 256) → worth xs ≡ worth ys → xs ≡ ys
worth_one [] [] h a b e = refl
worth_one [] (y ∷ ys) h a b e = absurd (omega arith)
worth_one (x ∷ xs) [] h a b e = absurd (omega arith)
worth_one (x ∷ xs) (y ∷ ys) h a b e =
    let x_small : x < 256 = a 0 in
    let y_small : y < 256 = b 0 in
    let first : x ≡ y = omega (arith, e, x_small, y_small) in
    let rest : worth xs ≡ worth ys = omega (arith, e, x_small, y_small) in
    ap (λ z. z ∷ xs) first ∙ ap (λ zs. y ∷ zs) (worth_one xs ys (omega (arith, h)) (λ i. a (suc i)) (λ i. b (suc i)) rest)

-- the first octets of two texts
pub words_alike : (xs ys : List ℕ) (n : ℕ) → n ≤ length xs → n ≤ length ys → ((i : ℕ) → get_or xs i 0 < 256) → ((i : ℕ) → get_or ys i 0 < 256)
    → eqb (worth (take n xs)) (worth (take n ys)) ≡ bytes_eq (take n xs) (take n ys)
words_alike xs ys n h k a b = by_value (bytes_eq (take n xs) (take n ys)) refl
  where
    one : worth (take n xs) ≡ worth (take n ys) → take n xs ≡ take n ys
    one e = worth_one (take n xs) (take n ys) (length-take-le n xs h ∙ sym (length-take-le n ys k)) (small_take n xs a) (small_take n ys b) e

    by_value : (v : Bool) → bytes_eq (take n xs) (take n ys) ≡ v → eqb (worth (take n xs)) (worth (take n ys)) ≡ v
    by_value true e = eq-eqb (worth (take n xs)) (worth (take n ys)) (ap worth (bytes_eq-true (take n xs) (take n ys) e))
    by_value false e = ne_eqb (worth (take n xs)) (worth (take n ys)) (λ f. let g : true ≡ false = sym (bytes_eq-refl (take n ys)) ∙ (ap (λ t. bytes_eq t (take n ys)) (sym (one f)) ∙ e) in cc)

two_power : (n : ℕ) → 256 ^ n ≡ 2 ^ (8 * n)
two_power zero = omega arith
two_power (suc n) =
    let rest : 256 ^ n ≡ 2 ^ (8 * n) = two_power n in
    let left : 256 ^ suc n ≡ 256 * 256 ^ n = omega arith in
    let right : 2 ^ (8 * suc n) ≡ 256 * 2 ^ (8 * n) = ap (λ k. 2 ^ k) (let e : 8 * suc n ≡ 8 * n + 8 = omega arith in e) ∙ (pow-add 2 (8 * n) 8 ∙ omega arith) in
    omega (arith, rest, left, right)

-- what is left of a word by its first octets alone
masked : (word most n : ℕ) → most + 1 ≡ 256 ^ n → bit_and word most ≡ word % 256 ^ n
masked word most n e =
    let mask : most ≡ 2 ^ (8 * n) - 1 = omega (arith, e, two_power n) in
    ap (λ m. bit_and word m) mask ∙ (and_mask word (8 * n) ∙ ap (λ m. word % m) (sym (two_power n)))

eight : (xs : List ℕ) → 8 ≤ length xs
    → from_le_bytes w64 (get_or xs 0 0 ∷ get_or xs 1 0 ∷ get_or xs 2 0 ∷ get_or xs 3 0 ∷ get_or xs 4 0 ∷ get_or xs 5 0 ∷ get_or xs 6 0 ∷ get_or xs 7 0 ∷ []) ≡ worth (take 8 xs)
eight (a ∷ b ∷ c ∷ d ∷ e ∷ f ∷ g ∷ h ∷ xs) long = omega arith
eight [] long = absurd (omega arith)
eight (a ∷ []) long = absurd (omega arith)
eight (a ∷ b ∷ []) long = absurd (omega arith)
eight (a ∷ b ∷ c ∷ []) long = absurd (omega arith)
eight (a ∷ b ∷ c ∷ d ∷ []) long = absurd (omega arith)
eight (a ∷ b ∷ c ∷ d ∷ e ∷ []) long = absurd (omega arith)
eight (a ∷ b ∷ c ∷ d ∷ e ∷ f ∷ []) long = absurd (omega arith)
eight (a ∷ b ∷ c ∷ d ∷ e ∷ f ∷ g ∷ []) long = absurd (omega arith)

pub first_word : (xs : List ℕ) (word most n : ℕ) → 8 ≤ length xs → n ≤ 8 → ((i : ℕ) → get_or xs i 0 < 256)
    → word ≡ from_le_bytes w64 (get_or xs 0 0 ∷ get_or xs 1 0 ∷ get_or xs 2 0 ∷ get_or xs 3 0 ∷ get_or xs 4 0 ∷ get_or xs 5 0 ∷ get_or xs 6 0 ∷ get_or xs 7 0 ∷ []) → most + 1 ≡ 256 ^ n
    → bit_and word most ≡ worth (take n xs)
first_word xs word most n long few small e f =
    let within : n ≤ length (take 8 xs) = omega (arith, few, length-take-le 8 xs long) in
    let whole : word ≡ worth (take n xs) + 256 ^ n * worth (drop n (take 8 xs)) =
    e ∙ (eight xs long ∙ (worth_parts n (take 8 xs) within ∙ ap (λ t. worth t + 256 ^ n * worth (drop n (take 8 xs))) (take-take n 8 xs few))) in
    let count : length (take n xs) ≡ n = length-take-le n xs (omega (arith, long, few)) in
    let below : worth (take n xs) < 256 ^ n = subst (λ k. worth (take n xs) < 256 ^ k) count (worth_below (take n xs) (small_take n xs small)) in
    masked word most n f ∙ (ap (λ w. w % 256 ^ n) whole ∙ (add-mul-mod_self_left (worth (take n xs)) (256 ^ n) (worth (drop n (take 8 xs))) ∙ mod-eq_of_lt below))
