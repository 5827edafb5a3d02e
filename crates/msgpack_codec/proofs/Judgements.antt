-- Whether octets are the least that spell a value: of parts, one behind the other.
use Rattle.std.proofs.Common.{◌≡◌, ℕ, suc, ◌+◌, ◌^◌, ◌<◌, ◌≤◌, Bool, true, false, ◌&&◌, List, [], ◌++◌, length, take, drop, Ok, inl, inr, refl, sym, ap, ◌∙◌, subst, append_assoc, arith}
use Rattle.std.specs.Prelude.{nat_lt, if◌then◌else◌}
use Rattle.std.proofs.Math.Bool.{and-true, and_assoc}
use Rattle.std.proofs.lemmas.Bool.{and_parts, lt-ltb, ltb-true}
use Rattle.std.proofs.lemmas.List.{take_at, drop_at, length-append, append-nil, append_cancel_right}
use Rattle.message_tree.specs.Data as tree
use Rattle.msgpack_codec.specs.Short.{text_head, list_head, dict_head, short, items_short, entries_short, item_count}
use Rattle.msgpack_codec.specs.Values.{is_text}
use Rattle.msgpack_codec.specs.Written.{add_entry, keys_ascend}
use Rattle.msgpack_codec.specs.body.Writable.{is_writable, items_writable, entries_writable}
use Rattle.msgpack_codec.specs.body.Decoder.{Found, push_item}
use Rattle.msgpack_codec.specs.body.Passing.{Tells, TellsLeaf, IsJudged, AreItemsJudged, ArePairsJudged}
use Rattle.msgpack_codec.proofs.ReadIsSpelled.{read, found-is}

pub tells-none : Tells true true [] []
tells-none = record { fits = omega arith; is = λ t. (refl, refl); of = λ h e. refl }

both_true : (a b : Bool) → a ≡ true → b ≡ true → (a && b) ≡ true
both_true a b e f = rw (e, f) refl

-- two parts that are as long as these together
same_length : (f x s t : List ℕ) → length s ≤ length f → length t ≤ length x → f ++ x ≡ s ++ t → length s ≡ length f
same_length f x s t le ge e = omega (arith, ap length e, length-append f x, length-append s t)

pub tells-both : (a b h g : Bool) (f x s t : List ℕ) → Tells a h f s → Tells b g x t → Tells (a && b) (h && g) (f ++ x) (s ++ t)
tells-both a b h g f x s t one other = record {
  fits = omega (arith, one.fits, other.fits, length-append f x, length-append s t);
  is = λ t'.
      let parts = and_parts a b t' in
      let first = one.is parts.0 in
      let second = other.is parts.1 in
      (both_true h g first.0 second.0, rw (first.1, second.1) refl);
  of = λ both e.
      let parts = and_parts h g both in
      let n = length f in
      let same : length s ≡ n = same_length f x s t one.fits other.fits e in
      let front : f ≡ s = sym (take_at f x n refl) ∙ ap (take n) e ∙ take_at s t n same in
      let back : x ≡ t = sym (drop_at f x n refl) ∙ ap (drop n) e ∙ drop_at s t n same in
      both_true a b (one.of parts.0 front) (other.of parts.1 back);
}

-- ---- items

items_writable-push : (ds : tree.Items) (d : tree.Data) → items_writable (push_item ds d) ≡ (items_writable ds && is_writable d)
items_writable-push tree.no_items d = and-true (is_writable d)
items_writable-push (tree.item x ds) d = ap (λ b. is_writable x && b) (items_writable-push ds d) ∙ sym (and_assoc (is_writable x) (items_writable ds) (is_writable d))

items_short-push : (ds : tree.Items) (d : tree.Data) → items_short (push_item ds d) ≡ items_short ds ++ short d
items_short-push tree.no_items d = append-nil (short d)
items_short-push (tree.item x ds) d = ap (λ (o : List ℕ). short x ++ o) (items_short-push ds d) ∙ sym (append_assoc (short x) (items_short ds) (short d))

pub item_count-push : (ds : tree.Items) (d : tree.Data) → item_count (push_item ds d) ≡ suc (item_count ds)
item_count-push tree.no_items d = refl
item_count-push (tree.item x ds) d = ap suc (item_count-push ds d)

pub tells-item : (a b : Bool) (ds : tree.Items) (d : tree.Data) (f x : List ℕ) → Tells a (items_writable ds) f (items_short ds) → Tells b (is_writable d) x (short d)
    → Tells (a && b) (items_writable (push_item ds d)) (f ++ x) (items_short (push_item ds d))
tells-item a b ds d f x one other = rw (items_writable-push ds d, items_short-push ds d) (tells-both a b _ _ f x _ _ one other)

-- ---- entries

abbrev last : tree.Entries → List ℕ → tree.Data → tree.Entries
last es k d = tree.joined es (tree.entry k d tree.no_entries)

entries_writable-last : (es : tree.Entries) (k : List ℕ) (d : tree.Data) → entries_writable (last es k d) ≡ (entries_writable es && (is_writable (tree.text k) && is_writable d))
entries_writable-last tree.no_entries k d = and-true (is_writable (tree.text k) && is_writable d)
entries_writable-last (tree.entry l e es) k d =
    ap (λ b. (is_writable (tree.text l) && is_writable e) && b) (entries_writable-last es k d)
    ∙ sym (and_assoc (is_writable (tree.text l) && is_writable e) (entries_writable es) (is_writable (tree.text k) && is_writable d))

entries_short-last : (es : tree.Entries) (k : List ℕ) (d : tree.Data) → entries_short (last es k d) ≡ entries_short es ++ (short (tree.text k) ++ short d)
entries_short-last tree.no_entries k d = simp (append_assoc, append-nil)
entries_short-last (tree.entry l e es) k d =
    ap (λ (o : List ℕ). text_head (length l) ++ (l ++ (short e ++ o))) (entries_short-last es k d) ∙ simp append_assoc

entry_count-last : (es : tree.Entries) (k : List ℕ) (d : tree.Data) → tree.entry_count (last es k d) ≡ suc (tree.entry_count es)
entry_count-last tree.no_entries k d = refl
entry_count-last (tree.entry l e es) k d = ap suc (entry_count-last es k d)

tells-entry : (a b c : Bool) (es : tree.Entries) (k : List ℕ) (d : tree.Data) (f x y : List ℕ) → Tells a (entries_writable es) f (entries_short es) → Tells b (is_writable (tree.text k)) x (short (tree.text k)) → Tells c (is_writable d) y (short d)
    → Tells (a && (b && c)) (entries_writable (last es k d)) (f ++ (x ++ y)) (entries_short (last es k d))
tells-entry a b c es k d f x y one key value =
    rw (entries_writable-last es k d, entries_short-last es k d) (tells-both a (b && c) _ _ f (x ++ y) _ _ one (tells-both b c _ _ x y _ _ key value))

-- the entries so far, where each key was a text
abbrev pub AreTold : Bool → ℕ → Bool → List ℕ → tree.Entries → Type 0
AreTold texts n b front es = texts ≡ true → (tree.entry_count es ≡ n) × Tells b (entries_writable es) front (entries_short es)

pub told-none : AreTold true 0 true [] tree.no_entries
told-none = λ t. (refl, tells-none)

pub told-pair : (texts : Bool) (n : ℕ) (a b c : Bool) (es : tree.Entries) (k v : tree.Data) (f x y : List ℕ) → AreTold texts n a f es → Tells b (is_writable k) x (short k) → Tells c (is_writable v) y (short v)
    → AreTold (texts && is_text k) (n + 1) (a && (b && c)) (f ++ (x ++ y)) (add_entry k v es)
told-pair texts n a b c es tree.null v f x y told key value = λ t. absurd (cc (and_parts texts false t).1)
told-pair texts n a b c es (tree.flag z) v f x y told key value = λ t. absurd (cc (and_parts texts false t).1)
told-pair texts n a b c es (tree.whole z) v f x y told key value = λ t. absurd (cc (and_parts texts false t).1)
told-pair texts n a b c es (tree.text k) v f x y told key value = λ t.
    let before = told (and_parts texts true t).0 in
    (omega (arith, entry_count-last es k v, before.0), tells-entry a b c es k v f x y before.1 key value)
told-pair texts n a b c es (tree.bytes z) v f x y told key value = λ t. absurd (cc (and_parts texts false t).1)
told-pair texts n a b c es (tree.list z) v f x y told key value = λ t. absurd (cc (and_parts texts false t).1)
told-pair texts n a b c es (tree.dict z) v f x y told key value = λ t. absurd (cc (and_parts texts false t).1)
told-pair texts n a b c es tree.uncarried v f x y told key value = λ t. absurd (cc (and_parts texts false t).1)

-- what is told of a map behind its head, once all its pairs are known
tells-ascend : (a b : Bool) (h : Bool) (f s : List ℕ) → Tells b h f s → Tells (a && b) (a && h) f s
tells-ascend true b h f s t = t
tells-ascend false b h f s t = record { fits = t.fits; is = λ e. absurd cc; of = λ e. absurd cc }

pub pairs-judged : (texts : Bool) (n : ℕ) (ascend b : Bool) (body : List ℕ) (es : tree.Entries) (d : tree.Data) → AreTold texts n b body es → ascend ≡ keys_ascend es → (if texts then tree.dict es else tree.uncarried) ≡ d
    → ArePairsJudged n body (texts && (ascend && b)) d
pairs-judged true n ascend b body es d told up is =
    let t = told refl in
    inl (es, sym is, t.0, rw up (tells-ascend (keys_ascend es) b (entries_writable es) body (entries_short es) t.1))
pairs-judged false n ascend b body es d told up is = inr (sym is, refl)

-- ---- heads

head-told : (a : Bool) (n : ℕ) (f s : List ℕ) → length s ≤ length f → (a ≡ true → (n < 2 ^ 32) × (f ≡ s)) → ((n < 2 ^ 32) × (f ≡ s) → a ≡ true) → Tells a (nat_lt n (2 ^ 32)) f s
head-told a n f s le is of = record { fits = le; is = λ t. let p = is t in (lt-ltb n (2 ^ 32) p.0, p.1); of = λ lt e. of (ltb-true n (2 ^ 32) lt, e) }

pub list-judged : (a b : Bool) (n : ℕ) (head body : List ℕ) (d : tree.Data) → length (list_head n) ≤ length head → (a ≡ true → (n < 2 ^ 32) × (head ≡ list_head n)) → ((n < 2 ^ 32) × (head ≡ list_head n) → a ≡ true)
    → AreItemsJudged n body b d → Tells (a && b) (is_writable d) (head ++ body) (short d)
list-judged a b n head body d le is of (ds, same, count, told) =
    rw (same, count) (tells-both a b _ _ head body _ _ (head-told a n head (list_head n) le is of) told)

pub dict-judged : (a b : Bool) (n : ℕ) (head body : List ℕ) (d : tree.Data) → length (dict_head n) ≤ length head → (a ≡ true → (n < 2 ^ 32) × (head ≡ dict_head n)) → ((n < 2 ^ 32) × (head ≡ dict_head n) → a ≡ true)
    → ArePairsJudged n body b d → Tells (a && b) (is_writable d) (head ++ body) (short d)
dict-judged a b n head body d le is of (inl (es, same, count, told)) =
    rw (same, count) (tells-both a b _ _ head body _ _ (head-told a n head (dict_head n) le is of) told)
dict-judged a b n head body d le is of (inr (same, false_is)) =
    rw (same, false_is) (record { fits = omega arith; is = λ t. absurd (cc (and_parts a false t).1); of = λ h. absurd cc })

-- ---- leaves

-- of the one value that is found
pub judged-is : (found : Found tree.Data) (all rest : List ℕ) (b : Bool) (e : tree.Data) → found ≡ Ok (e, rest) → ((front : List ℕ) → all ≡ front ++ rest → TellsLeaf b (is_writable e) front (short e)) → IsJudged found all rest b
judged-is found all rest b e is told d front read parts =
    let same = found-is e d rest rest (sym is ∙ read) in
    subst (λ x. TellsLeaf b (is_writable x) front (short x)) same.0 (told front parts)

pub text-judged : (a : Bool) (head s front : List ℕ) → front ≡ head ++ s → (a ≡ true → (length s < 2 ^ 32) × (head ≡ text_head (length s))) → ((length s < 2 ^ 32) × (head ≡ text_head (length s)) → a ≡ true)
    → TellsLeaf a (is_writable (tree.text s)) front (short (tree.text s))
text-judged a head s front parts is of = (
  λ t. let p = is t in (lt-ltb (length s) (2 ^ 32) p.0, parts ∙ ap (λ (h : List ℕ). h ++ s) p.1),
  λ lt e. of (ltb-true (length s) (2 ^ 32) lt, append_cancel_right head (text_head (length s)) s (sym parts ∙ e)),
)

-- what nothing spells so
pub judged-false : (b : Bool) (front : List ℕ) → b ≡ false → TellsLeaf b false front []
judged-false b front never = (λ t. absurd cc, λ h. absurd cc)
