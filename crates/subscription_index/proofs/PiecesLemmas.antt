-- Wildcards in pieces, and the topics that they fit.
use Rattle.std.proofs.Common.{◌≡◌, ℕ, zero, suc, ◌+◌, ◌-◌, ◌<◌, ◌≤◌, Bool, true, false, not, ◌==◌, ◌&&◌, ◌||◌, List, [], ◌∷◌, ◌++◌, map, take, drop, length, get_or, replicate, refl, sym, ap, ap₂, subst, ◌∙◌, add-one, arith, append_assoc, length-append, length-drop}
use Rattle.std.proofs.lemmas.List.{take_all, append-nil, drop-drop, take-append-drop, take-append-le, length-take-le, length-replicate, replicate_more}
use Rattle.std.proofs.lemmas.List.Folds.{list_all-append}
use Rattle.std.proofs.lemmas.Bool.{and_parts, ltb-false, ltb-true, not-true}
use Rattle.std.proofs.Math.Dec.{ltb}
use Rattle.std.proofs.Math.Seq.{take-add, drop-append_seam, take-append_seam}
use Rattle.std.specs.List.{list_all, join_with_byte}
use Rattle.std.specs.Str.{bytes_eq}
use Rattle.wamp_ids.proofs.Lemmas.{bytes_eq-true, bytes_eq-refl}
use Rattle.wamp_ids.specs.Uri.{components, is_empty}
use Rattle.wamp_ids.specs.Pattern.{fits}
use Rattle.subscription_index.specs.declared.pieces.Piece.{Piece}
use Rattle.subscription_index.specs.declared.pieces.Draft.{Draft}
use Rattle.subscription_index.specs.body.Pieces.{IsDraft, IsSpelled, Run, TellAll, Tells, ended, is_word, octets_of, padding, spelled, starts_of}
use Rattle.subscription_index.proofs.Components.{Joined, dotless, all_dotless, first_component, some_component, as_long}

pub rest_is : {X : Type 0} (n : ℕ) (xs : List X) → take (length xs - n) (drop n xs) ≡ drop n xs
rest_is n xs = take_all (length xs - n) (drop n xs) (omega (arith, length-drop n xs))

pub drop-at : {X : Type 0} (f : X → List ℕ) (ps : List X) (i : ℕ) (d : X) → i < length ps → drop i (map f ps) ≡ f (get_or ps i d) ∷ drop (suc i) (map f ps)
drop-at f [] i d small = absurd (omega arith)
drop-at f (p ∷ ps) zero d small = refl
drop-at f (p ∷ ps) (suc i) d small = drop-at f ps i d (omega arith)

pub next_is : {X : Type 0} (xs : List X) (i : ℕ) (d : X) → i < length xs → drop i xs ≡ get_or xs i d ∷ drop (i + 1) xs
next_is xs i d small = from_next xs i d small ∙ ap (λ k. get_or xs i d ∷ drop k xs) (sym (add-one i))
  where
    from_next : {X : Type 0} (xs : List X) (i : ℕ) (d : X) → i < length xs → drop i xs ≡ get_or xs i d ∷ drop (suc i) xs
    from_next [] i d small = absurd (omega arith)
    from_next (x ∷ xs) zero d small = refl
    from_next (x ∷ xs) (suc i) d small = from_next xs i d (omega arith)

pub either_way : {A : Type 0} (b : Bool) → (b ≡ true → A) → (b ≡ false → A) → A
either_way true f g = f refl
either_way false f g = g refl

-- octets of components

pub ended-append : (xs ys : List (List ℕ)) → ended (xs ++ ys) ≡ ended xs ++ ended ys
ended-append [] ys = refl
ended-append (x ∷ xs) ys = ap (λ r. x ++ 46 ∷ r) (ended-append xs ys) ∙ sym (append_assoc x (46 ∷ ended xs) (ended ys))

pub ended_parts : (n : ℕ) (ps : List (List ℕ)) → ended ps ≡ ended (take n ps) ++ ended (drop n ps)
ended_parts n ps = ap ended (sym (take-append-drop n ps)) ∙ ended-append (take n ps) (drop n ps)

-- joined components, with a dot behind
pub ended_joined : (p : List ℕ) (ps : List (List ℕ)) → ended (p ∷ ps) ≡ join_with_byte 46 (p ∷ ps) ++ 46 ∷ []
ended_joined p [] = refl
ended_joined p (q ∷ qs) = ap (λ r. p ++ 46 ∷ r) (ended_joined q qs) ∙ sym (append_assoc p (46 ∷ join_with_byte 46 (q ∷ qs)) (46 ∷ []))

pub ended_text : Joined → (text : List ℕ) → text ++ 46 ∷ [] ≡ ended (components text)
ended_text joined text = ap (λ t. t ++ 46 ∷ []) (sym (joined text)) ∙ sym (by_parts (components text) (some_component text))
  where
    by_parts : (ps : List (List ℕ)) → (ps ≡ [] → ⊥) → ended ps ≡ join_with_byte 46 ps ++ 46 ∷ []
    by_parts [] some = absurd (some refl)
    by_parts (p ∷ ps) some = ended_joined p ps

-- components without dots stand first in their octets
components_ended : (xs : List (List ℕ)) (more : List ℕ) → all_dotless xs ≡ true → components (ended xs ++ more) ≡ xs ++ components more
components_ended [] more h = refl
components_ended (x ∷ xs) more h =
    let k = and_parts (dotless x) (all_dotless xs) h in
    ap components (append_assoc x (46 ∷ ended xs) more) ∙ first_component x (ended xs ++ more) k.0 ∙ ap (λ ps. x ∷ ps) (components_ended xs more k.1)

-- what begins with components has them first
first_words : (xs ys : List (List ℕ)) (a b : List ℕ) → all_dotless xs ≡ true → all_dotless ys ≡ true → length xs ≤ length ys → ended xs ++ a ≡ ended ys ++ b → xs ≡ take (length xs) ys
first_words xs ys a b h k long e =
    let whole : xs ++ components a ≡ ys ++ components b = sym (components_ended xs a h) ∙ (ap components e ∙ components_ended ys b k) in
    sym (take-append_seam xs (components a)) ∙ (ap (λ r. take (length xs) r) whole ∙ take-append-le (length xs) ys (components b) long)

words_dotless : (xs : List (List ℕ)) → list_all is_word xs ≡ true → all_dotless xs ≡ true
words_dotless [] h = refl
words_dotless (x ∷ xs) h =
    let k = and_parts (is_word x) (list_all is_word xs) h in
    let d = and_parts (not (is_empty x)) (dotless x) k.0 in
    ap (λ b. b && all_dotless xs) d.1 ∙ words_dotless xs k.1

pub all_parts : {X : Type 0} (p : X → Bool) (n : ℕ) (xs : List X) → list_all p xs ≡ true → (list_all p (take n xs) ≡ true) × (list_all p (drop n xs) ≡ true)
all_parts p n xs h = and_parts (list_all p (take n xs)) (list_all p (drop n xs)) (sym (list_all-append p (take n xs) (drop n xs)) ∙ (ap (list_all p) (take-append-drop n xs) ∙ h))

-- fitting

fits_same : (xs ys zs : List (List ℕ)) → fits (xs ++ ys) (xs ++ zs) ≡ fits ys zs
fits_same [] ys zs = refl
fits_same (x ∷ xs) ys zs = ap (λ b. b && fits (xs ++ ys) (xs ++ zs)) (either_true (is_empty x) (bytes_eq x x) (bytes_eq-refl x)) ∙ fits_same xs ys zs
  where
    either_true : (a b : Bool) → b ≡ true → a || b ≡ true
    either_true true b h = refl
    either_true false b h = h

fits_empty : (m : ℕ) (ys qs : List (List ℕ)) → m ≤ length qs → fits (replicate m [] ++ ys) qs ≡ fits ys (drop m qs)
fits_empty zero ys qs h = refl
fits_empty (suc m) ys [] h = absurd (omega arith)
fits_empty (suc m) ys (q ∷ qs) h = fits_empty m ys qs (omega arith)

fits_words : (xs ys qs : List (List ℕ)) → list_all is_word xs ≡ true → fits (xs ++ ys) qs ≡ true → xs ≡ take (length xs) qs
fits_words [] ys qs h f = refl
fits_words (x ∷ xs) ys [] h f = let e : false ≡ true = f in cc
fits_words (x ∷ xs) ys (q ∷ qs) h f =
    let k = and_parts (is_word x) (list_all is_word xs) h in
    let g = and_parts (is_empty x || bytes_eq x q) (fits (xs ++ ys) qs) f in
    let full : is_empty x ≡ false = not-true (is_empty x) (and_parts (not (is_empty x)) (dotless x) k.0).0 in
    let same : x ≡ q = bytes_eq-true x q (sym (ap (λ b. b || bytes_eq x q) full) ∙ g.0) in
    ap (λ y. y ∷ xs) same ∙ ap (λ ys. q ∷ ys) (fits_words xs ys qs k.1 g.1)

-- pieces that spell as many components as there are
pub record Going (pieces : List Piece) (octets : List ℕ) (parts : List (List ℕ)) (whole : Bool) : Type 0 where
  pub runs : List Run
  pub told : TellAll pieces runs
  pub octets_are : octets ≡ octets_of runs ++ padding
  pub long : length (spelled runs) ≡ length parts
  pub same : fits (spelled runs) parts ≡ whole

-- the run of the first piece, and the others
pub record First (p : Piece) (ps : List Piece) (octets : List ℕ) (parts : List (List ℕ)) (whole : Bool) : Type 0 where
  pub run : Run
  pub tells : Tells p run
  pub others : List Run
  pub told : TellAll ps others
  pub octets_are : octets ≡ ended run.words ++ (octets_of others ++ padding)
  pub long : length run.words + (run.empties + length (spelled others)) ≡ length parts
  pub same : fits (run.words ++ (replicate run.empties [] ++ spelled others)) parts ≡ whole

run_long : (r : Run) (rs : List Run) → length (spelled (r ∷ rs)) ≡ length r.words + (r.empties + length (spelled rs))
run_long r rs =
    let none : List ℕ = [] in
    length-append r.words (replicate r.empties none ++ spelled rs)
    ∙ ap (λ k. length r.words + k) (length-append (replicate r.empties none) (spelled rs) ∙ ap (λ k. k + length (spelled rs)) (length-replicate r.empties none))

pub first_of : (p : Piece) (ps : List Piece) (octets : List ℕ) (parts : List (List ℕ)) (whole : Bool) → Going (p ∷ ps) octets parts whole → First p ps octets parts whole
first_of p ps octets parts whole g = by_runs g.runs g.told g.octets_are g.long g.same
  where
    by_runs : (runs : List Run) → TellAll (p ∷ ps) runs → octets ≡ octets_of runs ++ padding → length (spelled runs) ≡ length parts → fits (spelled runs) parts ≡ whole → First p ps octets parts whole
    by_runs [] told e l s = absurd told
    by_runs (r ∷ rs) told e l s = record {
      run = r;
      tells = told.0;
      others = rs;
      told = told.1;
      octets_are = e ∙ append_assoc (ended r.words) (octets_of rs) padding;
      long = sym (run_long r rs) ∙ l;
      same = s;
    }

-- so many octets are compared with a piece
pub record IsCount (p : Piece) (parts : List (List ℕ)) (count : ℕ) : Type 0 where
  pub short : p.octets ≤ 8 → count ≡ p.octets
  pub alone : 8 < p.octets → count ≡ length (ended (take 1 parts))

two_ways : {A : Type 0} (n : ℕ) → (n ≤ 8 → A) → (8 < n → A) → A
two_ways n f g = either_way (ltb 8 n) (λ e. g (ltb-true 8 n e)) (λ e. f (ltb-false 8 n e))

front_is : (n : ℕ) (parts : List (List ℕ)) → ended parts ++ padding ≡ ended (take n parts) ++ (ended (drop n parts) ++ padding)
front_is n parts = ap (λ o. o ++ padding) (ended_parts n parts) ∙ append_assoc (ended (take n parts)) (ended (drop n parts)) padding

-- as many octets as the run has
count_is : (p : Piece) (ps : List Piece) (octets : List ℕ) (parts : List (List ℕ)) (whole : Bool) (count : ℕ) → (f : First p ps octets parts whole) → IsCount p parts count → f.run.words ≡ take (length f.run.words) parts → count ≡ length (ended f.run.words)
count_is p ps octets parts whole count f is same =
    two_ways p.octets (λ h. is.short h ∙ sym (f.tells.short h)) (λ h. is.alone h ∙ ap (λ xs. length (ended xs)) (ap (λ n. take n parts) (sym (f.tells.alone h)) ∙ sym same))

-- the octets of a piece differ
pub piece_differs : (p : Piece) (ps : List Piece) (octets : List ℕ) (parts : List (List ℕ)) (whole : Bool) (count : ℕ) → Going (p ∷ ps) octets parts whole → IsCount p parts count
    → bytes_eq (take count octets) (take count (ended parts ++ padding)) ≡ false → whole ≡ false
piece_differs p ps octets parts whole count g is other = by_value whole refl
  where
    f : First p ps octets parts whole
    f = first_of p ps octets parts whole g

    by_value : (b : Bool) → whole ≡ b → whole ≡ false
    by_value false e = e
    by_value true e =
        let words : List (List ℕ) = f.run.words in
        let n : ℕ = length words in
        let same : words ≡ take n parts = fits_words words (replicate f.run.empties [] ++ spelled f.others) parts f.tells.words (f.same ∙ e) in
        let as_many : count ≡ length (ended words) = count_is p ps octets parts whole count f is same in
        let one : take count octets ≡ ended words = ap (λ k. take k octets) as_many ∙ (ap (λ o. take (length (ended words)) o) f.octets_are ∙ take-append_seam (ended words) (octets_of f.others ++ padding)) in
        let two : take count (ended parts ++ padding) ≡ ended words =
        ap (λ k. take k (ended parts ++ padding)) as_many
        ∙ (ap (λ o. take (length (ended words)) o) (front_is n parts ∙ ap (λ xs. ended xs ++ (ended (drop n parts) ++ padding)) (sym same)) ∙ take-append_seam (ended words) (ended (drop n parts) ++ padding)) in
        let k : true ≡ false = sym (bytes_eq-refl (ended words)) ∙ (ap (λ o. bytes_eq o (ended words)) (sym one) ∙ (ap (λ o. bytes_eq (take count octets) o) (sym two) ∙ other)) in
        cc

-- the octets of a piece are the topic's
words_same : (p : Piece) (ps : List Piece) (octets : List ℕ) (parts : List (List ℕ)) (whole : Bool) (count : ℕ) → all_dotless parts ≡ true → (f : First p ps octets parts whole) → IsCount p parts count
    → take count octets ≡ take count (ended parts ++ padding) → f.run.words ≡ take (length f.run.words) parts
words_same p ps octets parts whole count no_dot f is alike = two_ways p.octets by_count by_part
  where
    words : List (List ℕ)
    words = f.run.words

    dots : all_dotless words ≡ true
    dots = words_dotless words f.tells.words

    by_count : p.octets ≤ 8 → words ≡ take (length words) parts
    by_count h =
        let as_many : count ≡ length (ended words) = is.short h ∙ sym (f.tells.short h) in
        let one : take count octets ≡ ended words = ap (λ k. take k octets) as_many ∙ (ap (λ o. take (length (ended words)) o) f.octets_are ∙ take-append_seam (ended words) (octets_of f.others ++ padding)) in
        let front : ended words ++ drop count (ended parts ++ padding) ≡ ended parts ++ padding =
        ap (λ o. o ++ drop count (ended parts ++ padding)) (sym one ∙ alike) ∙ take-append-drop count (ended parts ++ padding) in
        first_words words parts (drop count (ended parts ++ padding)) padding dots no_dot (omega (arith, f.long)) front

    by_part : 8 < p.octets → words ≡ take (length words) parts
    by_part h =
        let single : length words ≡ 1 = f.tells.alone h in
        let first : List (List ℕ) = take 1 parts in
        let as_many : count ≡ length (ended first) = is.alone h in
        let two : take count (ended parts ++ padding) ≡ ended first =
        ap (λ k. take k (ended parts ++ padding)) as_many ∙ (ap (λ o. take (length (ended first)) o) (front_is 1 parts) ∙ take-append_seam (ended first) (ended (drop 1 parts) ++ padding)) in
        let front : ended first ++ drop count octets ≡ ended words ++ (octets_of f.others ++ padding) =
        ap (λ o. o ++ drop count octets) (sym two ∙ sym alike) ∙ (take-append-drop count octets ∙ f.octets_are) in
        let long : length first ≡ 1 = length-take-le 1 parts (omega (arith, single, f.long)) in
        let same : first ≡ take (length first) words = first_words first words (drop count octets) (octets_of f.others ++ padding) (all_parts dotless 1 parts no_dot).0 dots (omega (arith, long, single)) front in
        let whole_words : take (length first) words ≡ words = take_all (length first) words (omega (arith, long, single)) in
        sym (ap (λ n. take n parts) single ∙ (same ∙ whole_words))

pub piece_passed : (p : Piece) (ps : List Piece) (octets : List ℕ) (parts : List (List ℕ)) (whole : Bool) (count : ℕ) → all_dotless parts ≡ true → Going (p ∷ ps) octets parts whole → IsCount p parts count
    → bytes_eq (take count octets) (take count (ended parts ++ padding)) ≡ true → Going ps (drop count octets) (drop p.step parts) whole
piece_passed p ps octets parts whole count no_dot g is alike =
    let f : First p ps octets parts whole = first_of p ps octets parts whole g in
    let words : List (List ℕ) = f.run.words in
    let n : ℕ = length words in
    let m : ℕ = f.run.empties in
    let none : List ℕ = [] in
    let same : words ≡ take n parts = words_same p ps octets parts whole count no_dot f is (bytes_eq-true (take count octets) (take count (ended parts ++ padding)) alike) in
    let as_many : count ≡ length (ended words) = count_is p ps octets parts whole count f is same in
    let more : List (List ℕ) = spelled f.others in
    let left : drop m (drop n parts) ≡ drop p.step parts = drop-drop m n parts ∙ ap (λ k. drop k parts) (sym f.tells.step) in
    record {
      runs = f.others;
      told = f.told;
      octets_are = ap (λ k. drop k octets) as_many ∙ (ap (λ o. drop (length (ended words)) o) f.octets_are ∙ drop-append_seam (ended words) (octets_of f.others ++ padding));
      long = omega (arith, f.long, f.tells.step, length-drop p.step parts);
      same = ap (λ qs. fits more qs) (sym left)
          ∙ (sym (fits_empty m more (drop n parts) (omega (arith, f.long, length-drop n parts)))
          ∙ (sym (fits_same (take n parts) (replicate m none ++ more) (drop n parts))
          ∙ (ap (λ xs. fits (xs ++ (replicate m none ++ more)) (take n parts ++ drop n parts)) (sym same)
          ∙ (ap (λ qs. fits (words ++ (replicate m none ++ more)) qs) (take-append-drop n parts) ∙ f.same))));
    }

pub piece_within : (p : Piece) (ps : List Piece) (octets : List ℕ) (parts : List (List ℕ)) (whole : Bool) → Going (p ∷ ps) octets parts whole → p.step ≤ length parts
piece_within p ps octets parts whole g =
    let f : First p ps octets parts whole = first_of p ps octets parts whole g in
    omega (arith, f.long, f.tells.step)

pub piece_alone : (p : Piece) (ps : List Piece) (octets : List ℕ) (parts : List (List ℕ)) (whole : Bool) → Going (p ∷ ps) octets parts whole → 8 < p.octets → 1 ≤ length parts
piece_alone p ps octets parts whole g h =
    let f : First p ps octets parts whole = first_of p ps octets parts whole g in
    omega (arith, f.long, f.tells.alone h)

pub padded : (pieces : List Piece) (octets : List ℕ) (parts : List (List ℕ)) (whole : Bool) → Going pieces octets parts whole → 8 ≤ length octets
padded pieces octets parts whole g = omega (arith, ap length g.octets_are, length-append (octets_of g.runs) padding)

-- all pieces were passed
pub all_passed : (octets : List ℕ) (parts : List (List ℕ)) (whole : Bool) → Going [] octets parts whole → whole ≡ true
all_passed octets parts whole g = by_runs g.runs parts g.told g.long g.same
  where
    by_runs : (runs : List Run) (qs : List (List ℕ)) → TellAll [] runs → length (spelled runs) ≡ length qs → fits (spelled runs) qs ≡ whole → whole ≡ true
    by_runs [] [] told l s = sym s
    by_runs [] (q ∷ qs) told l s = absurd (omega (arith, l))
    by_runs (r ∷ rs) qs told l s = absurd told

-- where components begin

pub starts-length : (at : ℕ) (ps : List (List ℕ)) → length (starts_of at ps) ≡ length ps + 1
starts-length at [] = refl
starts-length at (p ∷ ps) = omega (arith, starts-length (at + (length p + 1)) ps)

pub start_at : (at : ℕ) (ps : List (List ℕ)) (i d : ℕ) → i ≤ length ps → get_or (starts_of at ps) i d ≡ at + length (ended (take i ps))
start_at at [] zero d h = omega arith
start_at at [] (suc i) d h = absurd (omega arith)
start_at at (p ∷ ps) zero d h = omega arith
start_at at (p ∷ ps) (suc i) d h =
    start_at (at + (length p + 1)) ps i d (omega arith) ∙ omega (arith, length-append p (46 ∷ ended (take i ps)))

pub ended_more : (i n : ℕ) (ps : List (List ℕ)) → length (ended (take (i + n) ps)) ≡ length (ended (take i ps)) + length (ended (take n (drop i ps)))
ended_more i n ps = ap (λ xs. length (ended xs)) (take-add i n ps) ∙ (ap length (ended-append (take i ps) (take n (drop i ps))) ∙ length-append (ended (take i ps)) (ended (take n (drop i ps))))

-- making pieces

tell-append : (ps : List Piece) (rs : List Run) (p : Piece) (r : Run) → TellAll ps rs → Tells p r → TellAll (ps ++ p ∷ []) (rs ++ r ∷ [])
tell-append [] [] p r h t = (t, tt)
tell-append [] (s ∷ rs) p r h t = absurd h
tell-append (q ∷ ps) [] p r h t = absurd h
tell-append (q ∷ ps) (s ∷ rs) p r h t = (h.0, tell-append ps rs p r h.1 t)

spelled-more : (rs : List Run) (r : Run) → spelled (rs ++ r ∷ []) ≡ spelled rs ++ (r.words ++ replicate r.empties [])
spelled-more [] r = let none : List ℕ = [] in ap (λ e. r.words ++ e) (append-nil (replicate r.empties none))
spelled-more (s ∷ rs) r =
    let none : List ℕ = [] in
    let tail : List (List ℕ) = r.words ++ replicate r.empties none in
    ap (λ e. s.words ++ (replicate s.empties none ++ e)) (spelled-more rs r)
    ∙ (ap (λ e. s.words ++ e) (sym (append_assoc (replicate s.empties none) (spelled rs) tail)) ∙ sym (append_assoc s.words (replicate s.empties none ++ spelled rs) tail))

octets-more : (rs : List Run) (r : Run) → octets_of (rs ++ r ∷ []) ≡ octets_of rs ++ ended r.words
octets-more [] r = append-nil (ended r.words)
octets-more (s ∷ rs) r = ap (λ e. ended s.words ++ e) (octets-more rs r) ∙ sym (append_assoc (ended s.words) (octets_of rs) (ended r.words))

-- nothing is drafted yet
pub draft_none : (draft : Draft) → draft.pieces.items ≡ [] → draft.named.items ≡ [] → draft.last ≡ record { octets = 0; step = 0 } → IsDraft draft []
draft_none draft e f g =
    let none : Run = record { words = []; empties = 0 } in
    record {
      runs = [];
      told = subst (λ ps. TellAll ps []) (sym e) tt;
      last = none;
      tells = subst (λ p. Tells p none) (sym g) (record { words = refl; step = refl; short = λ h. refl; alone = λ h. absurd (omega (arith, h)) });
      spells = refl;
      octets_are = f;
      unended = λ h. refl;
    }

-- the last piece is put behind the others
pub draft_closed : (old new : Draft) (parts : List (List ℕ)) → new.pieces.items ≡ old.pieces.items ++ old.last ∷ [] → new.named.items ≡ old.named.items → new.last ≡ record { octets = 0; step = 0 } → IsDraft old parts → IsDraft new parts
draft_closed old new parts e f g d =
    let none : Run = record { words = []; empties = 0 } in
    record {
      runs = d.runs ++ d.last ∷ [];
      told = subst (λ ps. TellAll ps (d.runs ++ d.last ∷ [])) (sym e) (tell-append old.pieces.items d.runs old.last d.last d.told d.tells);
      last = none;
      tells = subst (λ p. Tells p none) (sym g) (record { words = refl; step = refl; short = λ h. refl; alone = λ h. absurd (omega (arith, h)) });
      spells = append-nil (spelled (d.runs ++ d.last ∷ [])) ∙ (spelled-more d.runs d.last ∙ d.spells);
      octets_are = f ∙ (d.octets_are ∙ (sym (octets-more d.runs d.last) ∙ sym (append-nil (octets_of (d.runs ++ d.last ∷ [])))));
      unended = λ h. refl;
    }

-- an empty component more
pub draft_empty : (old new : Draft) (parts : List (List ℕ)) → new.pieces.items ≡ old.pieces.items → new.named.items ≡ old.named.items → new.last.octets ≡ old.last.octets → new.last.step ≡ old.last.step + 1 → new.is_open ≡ false → IsDraft old parts → IsDraft new (parts ++ [] ∷ [])
draft_empty old new parts e f g h i d =
    let none : List ℕ = [] in
    let words : List (List ℕ) = d.last.words in
    let m : ℕ = d.last.empties in
    let more : replicate (m + 1) none ≡ replicate m none ++ none ∷ [] = sym (replicate_more m none) in
    record {
      runs = d.runs;
      told = subst (λ ps. TellAll ps d.runs) (sym e) d.told;
      last = record { words = words; empties = m + 1 };
      tells = record {
        words = d.tells.words;
        step = omega (arith, h, d.tells.step);
        short = λ k. d.tells.short (omega (arith, g, k)) ∙ sym g;
        alone = λ k. d.tells.alone (omega (arith, g, k));
      };
      spells = ap (λ r. spelled d.runs ++ (words ++ r)) more
          ∙ (ap (λ r. spelled d.runs ++ r) (sym (append_assoc words (replicate m none) (none ∷ [])))
          ∙ (sym (append_assoc (spelled d.runs) (words ++ replicate m none) (none ∷ [])) ∙ ap (λ r. r ++ none ∷ []) d.spells));
      octets_are = f ∙ d.octets_are;
      unended = λ k. let c : true ≡ false = sym k ∙ i in cc;
    }

-- a component more that isn't empty
pub draft_word : (old new : Draft) (parts : List (List ℕ)) (part : List ℕ) → is_word part ≡ true → old.is_open ≡ true → (8 ≤ old.last.octets + length part → old.last.step ≡ 0)
    → new.pieces.items ≡ old.pieces.items → new.named.items ≡ old.named.items ++ (part ++ 46 ∷ []) → (old.last.octets + length part < 8 → new.last.octets ≡ old.last.octets + length part + 1) → (8 ≤ old.last.octets + length part → new.last.octets ≡ 255)
    → new.last.step ≡ old.last.step + 1 → IsDraft old parts → IsDraft new (parts ++ part ∷ [])
draft_word old new parts part word begun room e f short alone step d =
    let none : List ℕ = [] in
    let words : List (List ℕ) = d.last.words in
    let no_empties : d.last.empties ≡ 0 = d.unended begun in
    let longer : length (ended (words ++ part ∷ [])) ≡ length (ended words) + (length part + 1) =
    ap length (ended-append words (part ∷ [])) ∙ (length-append (ended words) (part ++ 46 ∷ []) ∙ ap (λ k. length (ended words) + k) (length-append part (46 ∷ []))) in
    let as_before : spelled d.runs ++ words ≡ parts = ap (λ r. spelled d.runs ++ r) (sym (append-nil words) ∙ ap (λ k. words ++ replicate k none) (sym no_empties)) ∙ d.spells in
    record {
      runs = d.runs;
      told = subst (λ ps. TellAll ps d.runs) (sym e) d.told;
      last = record { words = words ++ part ∷ []; empties = 0 };
      tells = record {
        words = list_all-append is_word words (part ∷ []) ∙ ap₂ (λ a b. a && (b && true)) d.tells.words word;
        step = omega (arith, step, d.tells.step, no_empties, length-append words (part ∷ []));
        short = λ k. by_room k longer;
        alone = λ k. by_length k;
      };
      spells = ap (λ r. spelled d.runs ++ r) (append-nil (words ++ part ∷ [])) ∙ (sym (append_assoc (spelled d.runs) words (part ∷ [])) ∙ ap (λ r. r ++ part ∷ []) as_before);
      octets_are = f ∙ (ap (λ o. o ++ (part ++ 46 ∷ [])) d.octets_are ∙ (append_assoc (octets_of d.runs) (ended words) (part ++ 46 ∷ []) ∙ ap (λ o. octets_of d.runs ++ o) (sym (ended-append words (part ∷ [])))));
      unended = λ k. refl;
    }
  where
    either : {A : Type 0} → (old.last.octets + length part < 8 → A) → (8 ≤ old.last.octets + length part → A) → A
    either g h = either_way (ltb (old.last.octets + length part) 8) (λ k. g (ltb-true (old.last.octets + length part) 8 k)) (λ k. h (ltb-false (old.last.octets + length part) 8 k))

    by_room : new.last.octets ≤ 8 → length (ended (d.last.words ++ part ∷ [])) ≡ length (ended d.last.words) + (length part + 1) → length (ended (d.last.words ++ part ∷ [])) ≡ new.last.octets
    by_room k longer = either (λ g. omega (arith, longer, short g, d.tells.short (omega (arith, g)))) (λ g. absurd (omega (arith, k, alone g)))

    by_length : 8 < new.last.octets → length (d.last.words ++ part ∷ []) ≡ 1
    by_length k = either (λ g. absurd (omega (arith, k, g, short g))) (λ g. omega (arith, room g, d.tells.step, length-append d.last.words (part ∷ [])))

-- nothing more is drafted
pub draft_made : (draft : Draft) (pieces : List Piece) (octets : List ℕ) (parts : List (List ℕ)) → pieces ≡ draft.pieces.items ++ draft.last ∷ [] → octets ≡ draft.named.items ++ padding → IsDraft draft parts → IsSpelled pieces octets parts
draft_made draft pieces octets parts e f d = record {
  runs = d.runs ++ d.last ∷ [];
  told = subst (λ ps. TellAll ps (d.runs ++ d.last ∷ [])) (sym e) (tell-append draft.pieces.items d.runs draft.last d.last d.told d.tells);
  spells = spelled-more d.runs d.last ∙ d.spells;
  octets_are = f ∙ ap (λ o. o ++ padding) (d.octets_are ∙ sym (octets-more d.runs d.last));
}

pub is_full_word : (part : List ℕ) → 1 ≤ length part → list_all (λ c. not (c == 46)) part ≡ true → is_word part ≡ true
is_full_word [] long h = absurd (omega arith)
is_full_word (c ∷ cs) long h = h

-- what doesn't have as many components
pub other_length : (xs ys : List (List ℕ)) → (length xs ≡ length ys → ⊥) → false ≡ fits xs ys
other_length xs ys other = either_way (fits xs ys) (λ h. absurd (other (as_long xs ys h))) (λ h. sym h)

-- a search begins with all pieces
pub going : (pieces : List Piece) (octets : List ℕ) (text_parts parts : List (List ℕ)) → IsSpelled pieces octets text_parts → length text_parts ≡ length parts → Going pieces octets parts (fits text_parts parts)
going pieces octets text_parts parts s long = record {
  runs = s.runs;
  told = s.told;
  octets_are = s.octets_are;
  long = ap length s.spells ∙ long;
  same = ap (λ xs. fits xs parts) s.spells;
}

-- some of the components were drafted, so many and their dots
pub record Drafted (draft : Draft) (whole left : List (List ℕ)) (dots : ℕ) : Type 0 where
  pub parts : List (List ℕ)
  pub made : IsDraft draft parts
  pub all : parts ++ left ≡ whole
  pub count : dots ≡ length parts

pub nothing_drafted : (draft : Draft) (whole : List (List ℕ)) → IsDraft draft [] → Drafted draft whole whole 0
nothing_drafted draft whole d = record { parts = []; made = d; all = refl; count = refl }

pub more_drafted : (draft next : Draft) (whole left rest : List (List ℕ)) (part : List ℕ) (dots : ℕ) → ((parts : List (List ℕ)) → IsDraft draft parts → IsDraft next (parts ++ part ∷ [])) → left ≡ part ∷ rest → Drafted draft whole left dots
    → Drafted next whole rest (dots + 1)
more_drafted draft next whole left rest part dots step e d = record {
  parts = d.parts ++ part ∷ [];
  made = step d.parts d.made;
  all = append_assoc d.parts (part ∷ []) rest ∙ (ap (λ xs. d.parts ++ xs) (sym e) ∙ d.all);
  count = omega (arith, d.count, length-append d.parts (part ∷ []));
}

-- a search at a place of the topic

pub at_piece : (pieces : List Piece) (index : ℕ) (d p : Piece) (octets : List ℕ) (parts : List (List ℕ)) (whole : Bool) → index < length pieces → p ≡ get_or pieces index d → Going (drop index pieces) octets parts whole
    → Going (p ∷ drop (index + 1) pieces) octets parts whole
at_piece pieces index d p octets parts whole small e g =
    subst (λ ps. Going ps octets parts whole) (next_is pieces index d small ∙ ap (λ q. q ∷ drop (index + 1) pieces) (sym e)) g

pub at_end : (pieces : List Piece) (index : ℕ) (octets : List ℕ) (parts : List (List ℕ)) (whole : Bool) → length pieces ≤ index → Going (drop index pieces) octets parts whole → whole ≡ true
at_end pieces index octets parts whole past g = all_passed octets parts whole (subst (λ ps. Going ps octets parts whole) (drop_past index pieces past) g)
  where
    drop_past : (i : ℕ) (ps : List Piece) → length ps ≤ i → drop i ps ≡ []
    drop_past zero [] h = refl
    drop_past (suc i) [] h = refl
    drop_past zero (p ∷ ps) h = absurd (omega arith)
    drop_past (suc i) (p ∷ ps) h = drop_past i ps (omega arith)

pub piece_in : (p : Piece) (ps : List Piece) (octets : List ℕ) (parts : List (List ℕ)) (place : ℕ) (whole : Bool) → place ≤ length parts → Going (p ∷ ps) octets (drop place parts) whole → place + p.step ≤ length parts
piece_in p ps octets parts place whole h g = omega (arith, h, piece_within p ps octets (drop place parts) whole g, length-drop place parts)

pub alone_in : (p : Piece) (ps : List Piece) (octets : List ℕ) (parts : List (List ℕ)) (place : ℕ) (whole : Bool) → place ≤ length parts → Going (p ∷ ps) octets (drop place parts) whole → 8 < p.octets → place + 1 ≤ length parts
alone_in p ps octets parts place whole h g a = omega (arith, h, piece_alone p ps octets (drop place parts) whole g a, length-drop place parts)

pub step_start : (starts : List ℕ) (parts : List (List ℕ)) (place : ℕ) → starts ≡ starts_of 0 parts → place ≤ length parts → get_or starts place 0 ≡ length (ended (take place parts))
step_start starts parts place e h = ap (λ s. get_or s place 0) e ∙ (start_at 0 parts place 0 h ∙ omega arith)

step_next : (starts : List ℕ) (parts : List (List ℕ)) (place n : ℕ) → starts ≡ starts_of 0 parts → place + n ≤ length parts
    → get_or starts (place + n) 0 ≡ get_or starts place 0 + length (ended (take n (drop place parts)))
step_next starts parts place n e h =
    step_start starts parts (place + n) e h ∙ (ended_more place n parts ∙ ap (λ k. k + length (ended (take n (drop place parts)))) (sym (step_start starts parts place e (omega (arith, h)))))

pub step_count : (starts : List ℕ) (parts : List (List ℕ)) (p : Piece) (place count : ℕ) → starts ≡ starts_of 0 parts → (8 < p.octets → place + 1 ≤ length parts) → (p.octets ≤ 8 → count ≡ p.octets)
    → (8 < p.octets → count ≡ get_or starts (place + 1) 0 - get_or starts place 0) → IsCount p (drop place parts) count
step_count starts parts p place count e h short alone = record {
  short = short;
  alone = λ k. omega (arith, alone k, step_next starts parts place 1 e (h k));
}

pub step_octets : (starts dotted : List ℕ) (parts : List (List ℕ)) (place from : ℕ) → starts ≡ starts_of 0 parts → dotted ≡ ended parts ++ padding → place ≤ length parts → from ≡ get_or starts place 0
    → take (length dotted - from) (drop from dotted) ≡ ended (drop place parts) ++ padding
step_octets starts dotted parts place from e f h a =
    rest_is from dotted
    ∙ (ap (λ k. drop k dotted) (a ∙ step_start starts parts place e h)
    ∙ (ap (λ o. drop (length (ended (take place parts))) o) (f ∙ front_is place parts) ∙ drop-append_seam (ended (take place parts)) (ended (drop place parts) ++ padding)))

pub step_within : (starts dotted : List ℕ) (parts : List (List ℕ)) (place from : ℕ) → starts ≡ starts_of 0 parts → dotted ≡ ended parts ++ padding → place ≤ length parts → from ≡ get_or starts place 0 → from + length (ended (drop place parts)) + 8 ≡ length dotted
step_within starts dotted parts place from e f h a =
    omega (arith, a, step_start starts parts place e h, ap length f, ap length (front_is place parts), length-append (ended (take place parts)) (ended (drop place parts) ++ padding), length-append (ended (drop place parts)) padding)

pub count_within : (p : Piece) (parts : List (List ℕ)) (count : ℕ) → IsCount p parts count → count ≤ length (ended parts ++ padding)
count_within p parts count is =
    two_ways p.octets (λ h. omega (arith, h, is.short h, length-append (ended parts) padding))
    (λ h. omega (arith, is.alone h, length-append (ended parts) padding, ap length (ended_parts 1 parts), length-append (ended (take 1 parts)) (ended (drop 1 parts))))

pub step_passed : (p : Piece) (ps : List Piece) (rest after : List ℕ) (parts : List (List ℕ)) (place next count : ℕ) (whole : Bool) → all_dotless parts ≡ true → Going (p ∷ ps) rest (drop place parts) whole → IsCount p (drop place parts) count
    → bytes_eq (take count rest) (take count (ended (drop place parts) ++ padding)) ≡ true → after ≡ drop count rest → next ≡ place + p.step → Going ps after (drop next parts) whole
step_passed p ps rest after parts place next count whole no_dot g is alike f at =
    let passed : Going ps (drop count rest) (drop p.step (drop place parts)) whole =
    piece_passed p ps rest (drop place parts) whole count (all_parts dotless place parts no_dot).1 g is alike in
    let left : drop p.step (drop place parts) ≡ drop next parts = drop-drop p.step place parts ∙ ap (λ k. drop k parts) (sym at) in
    subst (λ qs. Going ps after qs whole) left (subst (λ o. Going ps o (drop p.step (drop place parts)) whole) (sym f) passed)
