-- The texts of a list, one after another.
use Rattle.std.proofs.Common.{◌≡◌, ◌-◌, ℕ, zero, suc, List, [], ◌∷◌, ◌++◌, false, Some, None, Ok, drop, map, length, sym, ap, ◌∙◌, subst, arith, append_assoc}
use Rattle.std.proofs.Math.Seq.{drop-append_seam}
use Rattle.std.proofs.lemmas.List.{append-nil, map-append}
use Rattle.message_tree.specs.Data as tree
use Rattle.message_tree.specs.Data.{Data}
use Rattle.msgpack_codec.specs.Values.{is_text}
use Rattle.msgpack_codec.specs.body.Decoder.{value_at}
use Rattle.msgpack_codec.proofs.ReadIsSpelled.{value_found}
use Rattle.msgpack_cursor.specs.Standing.{value_in, rest_in, items_in, AreThere}
use Rattle.msgpack_cursor.proofs.Readings.{there-first, there-more}
use Rattle.eligibility.specs.Options.{each_of, with_first, text_of}
use Rattle.eligibility.specs.body.Standing.{text_at, IsBehind}
use Rattle.eligibility.proofs.ListItems.{after, after-first, after-nothing}
use Rattle.eligibility.proofs.Standing.{none-read, text-there}

-- the texts at the places were read, and so many members are left
pub record ReadSoFar (octets first rest : List ℕ) (count left : ℕ) (places : List ℕ) : Type 0 where
  pub behind : IsBehind octets rest
  pub there : AreThere 99 count first → AreThere 99 left rest
  pub read : AreThere 99 count first → each_of text_of (items_in 99 count first) ≡ after (map (text_at octets) places) (each_of text_of (items_in 99 left rest))

pub begun : (octets first : List ℕ) (count : ℕ) → IsBehind octets first → ReadSoFar octets first first count count []
begun octets first count behind = record {
  behind = behind;
  there = λ h. h;
  read = λ h. after-nothing (each_of text_of (items_in 99 count first));
}

text-read : (octets first rest : List ℕ) (count n : ℕ) (places : List ℕ) (s next : List ℕ) (place : ℕ) → ReadSoFar octets first rest count (suc n) places
    → ((room : ℕ) → value_at room rest ≡ Ok (tree.text s, next)) → ((front : List ℕ) → octets ≡ front ++ rest → place ≡ length front) → text_at octets place ≡ s
text-read octets first rest count n places s next place so read is =
    let at : drop place octets ≡ rest = ap (λ k. drop k octets) (is so.behind.0 so.behind.1) ∙ (ap (drop (length so.behind.0)) so.behind.1 ∙ drop-append_seam so.behind.0 rest) in
    text-there octets place s next (ap (value_at 0) at ∙ read 0)

pub one-more : (octets first rest : List ℕ) (count n : ℕ) (places : List ℕ) (s next : List ℕ) (place : ℕ) → ReadSoFar octets first rest count (suc n) places
    → ((room : ℕ) → value_at room rest ≡ Ok (tree.text s, next)) → ((front : List ℕ) → octets ≡ front ++ rest → place ≡ length front)
    → ReadSoFar octets first next count n (places ++ place ∷ [])
one-more octets first rest count n places s next place so read is =
    let f = value_found 99 rest (tree.text s) next (read 99) in
    let some : suc n ≡ 0 → ⊥ = λ e. cc in
    let one : suc n - 1 ≡ n = omega arith in
    let more = λ (h : AreThere 99 count first). there-more 99 (suc n) rest (tree.text s) next some (so.there h) (read 99) in
    let done = map (text_at octets) places in
    let grown : map (text_at octets) (places ++ place ∷ []) ≡ done ++ s ∷ [] =
    map-append (text_at octets) places (place ∷ []) ∙ ap (λ t. done ++ t ∷ []) (text-read octets first rest count n places s next place so read is) in record {
      behind = (so.behind.0 ++ f.0, so.behind.1 ∙ (ap (λ o. so.behind.0 ++ o) f.1 ∙ sym (append_assoc so.behind.0 f.0 next)));
      there = λ h. subst (λ m. AreThere 99 m next) one (more h).0;
      read = λ h.
          so.read h ∙ (ap (λ ds. after done (each_of text_of ds)) (more h).1 ∙ (after-first done s (each_of text_of (items_in 99 (suc n - 1) next))
          ∙ (ap (λ m. after (done ++ s ∷ []) (each_of text_of (items_in 99 m next))) one ∙ ap (λ d. after d (each_of text_of (items_in 99 n next))) (sym grown))));
    }

-- another value than a text
pub other-member : (octets first rest : List ℕ) (count n : ℕ) (places : List ℕ) → ReadSoFar octets first rest count (suc n) places
    → ((room : ℕ) (k : Data) (more : List ℕ) → value_at room rest ≡ Ok (k, more) → is_text k ≡ false) → AreThere 99 count first → each_of text_of (items_in 99 count first) ≡ None
unfolding items_in
other-member octets first rest count n places so none h =
    let read = there-first 99 (suc n) rest (λ e. cc) (so.there h) in
    let nay = none-read (value_in 99 rest) (none 99 (value_in 99 rest) (rest_in 99 rest) read) in
    so.read h ∙ ap (λ o. after (map (text_at octets) places) (with_first o (each_of text_of (items_in 99 n (rest_in 99 rest))))) nay

pub ended : (octets first rest : List ℕ) (count : ℕ) (places : List ℕ) → ReadSoFar octets first rest count zero places → AreThere 99 count first → each_of text_of (items_in 99 count first) ≡ Some (map (text_at octets) places)
unfolding items_in
ended octets first rest count places so h = so.read h ∙ ap Some (append-nil (map (text_at octets) places))
