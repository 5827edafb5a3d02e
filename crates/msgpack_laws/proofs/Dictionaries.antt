-- Keys and values one behind the other: those that are read are those that fronts spell.
use Rattle.std.proofs.Common.{◌≡◌, ◌↔◌, ℕ, zero, suc, List, [], ◌∷◌, ◌++◌, length, map, Bool, true, ◌&&◌, if◌then◌else◌, Ok, refl, sym, ap, ◌∙◌, subst, append_assoc}
use Rattle.message_tree.specs.Data as tree
use Rattle.msgpack_codec.specs.Grammar.{ArePairsSpelled, map_from, Spells}
use Rattle.msgpack_codec.specs.Values.{keep_entry, is_text}
use Rattle.msgpack_codec.specs.body.Decoder.{◌>>=◌, dict_at, value_at}
use Rattle.msgpack_codec.proofs.ReadIsSpelled.{found-is, behind, value_found}
use Rattle.msgpack_codec.proofs.SpelledIsRead.{then_ok, value_again}
use Rattle.msgpack_cursor.specs.Standing.{rest_of, entries_of, value_in, rest_in, dict_in, entries_in, IsDictionary}
use Rattle.msgpack_cursor.specs.Entries.{Pair, put_all, key_of, pairs_in, IsPair, ArePairs}
use Rattle.msgpack_cursor.specs.body.Fronts.{IsEntry}
use Rattle.msgpack_cursor.proofs.Readings.{value-read, rest-read, dictionary-there}
use Rattle.msgpack_cursor.proofs.Pairs.{pairs-there}
use Rattle.msgpack_laws.specs.Spelled.{MapStands, PairsStand}

abbrev as_text : Pair → tree.Data × tree.Data
as_text p = (tree.text p.0, p.1)

-- three parts one behind the other, and what stands behind them
put-together : (octets key after value behind back rest : List ℕ) → octets ≡ key ++ after → after ≡ value ++ behind
    → behind ≡ back ++ rest → octets ≡ (key ++ (value ++ back)) ++ rest
put-together octets key after value behind back rest a b c =
    a ∙ ap (λ (r : List ℕ). key ++ r) (b ∙ ap (λ (r : List ℕ). value ++ r) c) ∙ simp append_assoc

taken-apart : (octets front key value back rest : List ℕ) → octets ≡ front ++ rest → front ≡ key ++ (value ++ back)
    → octets ≡ key ++ (value ++ (back ++ rest))
taken-apart octets front key value back rest a b = a ∙ ap (λ (r : List ℕ). r ++ rest) b ∙ simp append_assoc

-- one pair more before others
pair-before : (room : ℕ) (key value back : List ℕ) (k v : tree.Data) (pairs : List (tree.Data × tree.Data)) → Spells room key k
    → Spells room value v → ArePairsSpelled (Spells room) back pairs
    → ArePairsSpelled (Spells room) (key ++ (value ++ back)) ((k, v) ∷ pairs)
pair-before room key value back k v pairs s t more = (key, value, back, refl, s, t, more)

-- ---- texts with their values

there-stand : (room n : ℕ) (octets : List ℕ) → ArePairs room n octets
    → (length (pairs_in room n octets) ≡ n) × PairsStand room octets (pairs_in room n octets)
unfolding ArePairs pairs_in
there-stand room zero octets there = (refl, ([], octets, refl, refl))
there-stand room (suc n) octets there =
    let middle = rest_in room octets in
    let behind = rest_in room middle in
    let key = value_found room octets (tree.text (key_of (value_in room octets))) middle there.0.0 in
    let value = value_found room middle (value_in room middle) behind there.0.1 in
    let more = there-stand room n behind there.1 in
    let fronts = more.1 in (
      ap suc more.0,
      (
        key.0 ++ (value.0 ++ fronts.0),
        fronts.1,
        put-together octets key.0 middle value.0 behind fronts.0 fronts.1 key.1 value.1 fronts.2,
        pair-before room key.0 value.0 fronts.0 _ _ _ key.2 value.2 fronts.3,
      ),
    )

-- a text was read, and a value behind it
entry-there : (room : ℕ) (octets s : List ℕ) (d : tree.Data) (behind : List ℕ) → IsEntry (value_at room) octets s d behind
    → IsPair room octets × (key_of (value_in room octets) ≡ s) × (value_in room (rest_in room octets) ≡ d) × (rest_in room (rest_in room octets) ≡ behind)
entry-there room octets s d behind e =
    let next = rest_in room octets in
    let key : key_of (value_in room octets) ≡ s = ap key_of (value-read room octets (tree.text s) e.0 e.1) in
    let r = rest-read room octets (tree.text s) e.0 e.1 in
    let read : value_at room next ≡ Ok (d, behind) = ap (value_at room) r ∙ e.2 in
    let value = value-read room next d behind read in
    let after = rest-read room next d behind read in (
      (
        e.1 ∙ (ap (λ (k : List ℕ). Ok (tree.text k, e.0)) (sym key) ∙ ap (λ (o : List ℕ). Ok (tree.text (key_of (value_in room octets)), o)) (sym r)),
        read ∙ (ap (λ (v : tree.Data). Ok (v, behind)) (sym value) ∙ ap (λ (o : List ℕ). Ok (value_in room next, o)) (sym after)),
      ),
      key,
      value,
      after,
    )

-- what a front spells is read, and what stands behind it is left
entry-read : (room : ℕ) (octets key value behind s : List ℕ) (d : tree.Data) → octets ≡ key ++ (value ++ behind)
    → Spells room key (tree.text s) → Spells room value d
    → IsEntry (value_at room) octets s d behind
entry-read room octets key value behind s d parts k v =
    (value ++ behind, ap (value_at room) parts ∙ value_again room key (tree.text s) (value ++ behind) k, value_again room value d behind v)

fronts-there : (room : ℕ) (octets front rest : List ℕ) (pairs : List Pair) → octets ≡ front ++ rest
    → ArePairsSpelled (Spells room) front (map as_text pairs)
    → ArePairs room (length pairs) octets × (pairs_in room (length pairs) octets ≡ pairs)
unfolding ArePairs pairs_in
fronts-there room octets front rest [] parts h = (tt, refl)
fronts-there room octets front rest (p ∷ pairs) parts h =
    let n = length pairs in
    let value = value_in room (rest_in room octets) in
    let behind = rest_in room (rest_in room octets) in
    let entry = entry-read room octets h.0 h.1 (h.2 ++ rest) p.0 p.1 (taken-apart octets front h.0 h.1 h.2 rest parts h.3) h.4 h.5 in
    let there = entry-there room octets p.0 p.1 (h.2 ++ rest) entry in
    let more = fronts-there room behind h.2 rest pairs there.3 h.6 in (
      (there.0, more.0),
      ap (λ k. (k, value) ∷ pairs_in room n behind) there.1 ∙ (ap (λ v. (p.0, v) ∷ pairs_in room n behind) there.2 ∙ ap (λ (ps : List Pair). p ∷ ps) more.1),
    )

stand-there : (room n : ℕ) (octets : List ℕ) (pairs : List Pair) → length pairs ≡ n → PairsStand room octets pairs
    → ArePairs room n octets × (pairs_in room n octets ≡ pairs)
stand-there room n octets pairs len s =
    let there = fronts-there room octets s.0 s.1 pairs s.2 s.3 in
    (subst (λ m. ArePairs room m octets) len there.0, ap (λ m. pairs_in room m octets) (sym len) ∙ there.1)

pub pairs-stand : (room n : ℕ) (octets : List ℕ) (pairs : List Pair)
    → (ArePairs room n octets × (pairs_in room n octets ≡ pairs)) ↔ ((length pairs ≡ n) × PairsStand room octets pairs)
pairs-stand room n octets pairs = (
  λ is. subst (λ ps. (length ps ≡ n) × PairsStand room octets ps) is.1 (there-stand room n octets is.0),
  λ s. stand-there room n octets pairs s.0 s.1,
)

-- ---- the dictionary that they make

texts-read : (room n : ℕ) (found : tree.Entries) (octets : List ℕ) → ArePairs room n octets
    → (rest : List ℕ) × (dict_at (value_at room) n found true octets ≡ Ok (tree.dict (put_all (pairs_in room n octets) found), rest))
unfolding ArePairs pairs_in dict_at
texts-read room zero found octets there = (octets, refl)
texts-read room (suc n) found octets there =
    let p = value_at room in
    let key = key_of (value_in room octets) in
    let middle = rest_in room octets in
    let value = value_in room middle in
    let behind = rest_in room middle in
    let more = texts-read room n (tree.put key value found) behind there.1 in
    let next = then_ok (p middle) (λ v. dict_at p n (tree.put key v.0 found) true v.1) (value, behind) _ there.0.1 more.1 in
    (more.0, then_ok (p octets) (λ k. p k.1 >>= λ v. dict_at p n (keep_entry k.0 v.0 found) (is_text k.0) v.1) (tree.text key, middle) _ there.0.0 next)

dictionary-of : (room n : ℕ) (octets : List ℕ) → ArePairs room n octets
    → IsDictionary room n octets × (entries_in room n octets ≡ put_all (pairs_in room n octets) tree.no_entries)
dictionary-of room n octets there =
    let read = texts-read room n tree.no_entries octets there in
    let is = dictionary-there room n octets (tree.dict (put_all (pairs_in room n octets) tree.no_entries)) read.0 read.1 refl in
    (is.0, ap entries_of (sym is.1))

pairs-of : (room n : ℕ) (octets : List ℕ) → IsDictionary room n octets
    → ArePairs room n octets × (put_all (pairs_in room n octets) tree.no_entries ≡ entries_in room n octets)
pairs-of room n octets is = pairs-there room n tree.no_entries octets (entries_in room n octets) (rest_of (dict_in room n octets)) is

pub dictionary-pairs : (room n : ℕ) (octets : List ℕ) → IsDictionary room n octets ↔ ArePairs room n octets
dictionary-pairs room n octets = (λ is. (pairs-of room n octets is).0, λ there. (dictionary-of room n octets there).0)

pub made-of-pairs : (room n : ℕ) (octets : List ℕ) → ArePairs room n octets
    → entries_in room n octets ≡ put_all (pairs_in room n octets) tree.no_entries
made-of-pairs room n octets there = (dictionary-of room n octets there).1

-- ---- any map

map-found : (room n : ℕ) (found : tree.Entries) (texts : Bool) (octets : List ℕ) (d : tree.Data) (rest : List ℕ)
    → dict_at (value_at room) n found texts octets ≡ Ok (d, rest)
    → (front : List ℕ) × (pairs : List (tree.Data × tree.Data)) × (octets ≡ front ++ rest) × (length pairs ≡ n)
    × ArePairsSpelled (Spells room) front pairs × (map_from found texts pairs ≡ d)
unfolding dict_at
map-found room zero found texts octets d rest e =
    let same = found-is (if texts then tree.dict found else tree.uncarried) d octets rest e in
    ([], [], same.1, refl, refl, same.0)
map-found room (suc n) found texts octets d rest e =
    let p = value_at room in
    let k = behind (p octets) (λ k. p k.1 >>= λ v. dict_at p n (keep_entry k.0 v.0 found) (texts && is_text k.0) v.1) (d, rest) e in
    let v = behind (p k.rest) (λ v. dict_at p n (keep_entry k.value v.0 found) (texts && is_text k.value) v.1) (d, rest) k.after in
    let key = value_found room octets k.value k.rest k.first in
    let value = value_found room k.rest v.value v.rest v.first in
    let more = map-found room n (keep_entry k.value v.value found) (texts && is_text k.value) v.rest d rest v.after in (
      key.0 ++ (value.0 ++ more.0),
      (k.value, v.value) ∷ more.1,
      put-together octets key.0 k.rest value.0 v.rest more.0 rest key.1 value.1 more.2,
      ap suc {x = length more.1} more.3,
      pair-before room key.0 value.0 more.0 k.value v.value more.1 key.2 value.2 more.4,
      more.5,
    )

map-again : (room : ℕ) (found : tree.Entries) (texts : Bool) (front : List ℕ) (pairs : List (tree.Data × tree.Data)) (rest : List ℕ)
    → ArePairsSpelled (Spells room) front pairs
    → dict_at (value_at room) (length pairs) found texts (front ++ rest) ≡ Ok (map_from found texts pairs, rest)
unfolding dict_at
map-again room found texts front [] rest h = rw h refl
map-again room found texts front (x ∷ pairs) rest h =
    let p = value_at room in
    let n = length pairs in
    let behind = h.2 ++ rest in
    let split = taken-apart (front ++ rest) front h.0 h.1 h.2 rest refl h.3 in
    let last = map-again room (keep_entry x.0 x.1 found) (texts && is_text x.0) h.2 pairs rest h.6 in
    let next = then_ok (p (h.1 ++ behind)) (λ v. dict_at p n (keep_entry x.0 v.0 found) (texts && is_text x.0) v.1) (x.1, behind) _ (value_again room h.1 x.1 behind h.5) last in
    ap (λ o. dict_at p (suc n) found texts o) split
    ∙ then_ok (p (h.0 ++ (h.1 ++ behind))) (λ k. p k.1 >>= λ v. dict_at p n (keep_entry k.0 v.0 found) (texts && is_text k.0) v.1) (x.0, h.1 ++ behind) _
    (value_again room h.0 x.0 (h.1 ++ behind) h.4) next

stands-read : (room n : ℕ) (octets rest : List ℕ) (d : tree.Data) → MapStands room n octets d rest → dict_in room n octets ≡ Ok (d, rest)
stands-read room n octets rest d s =
    let read = ap (dict_in room (length s.1)) s.2 ∙ map-again room tree.no_entries true s.0 s.1 rest s.4 in
    ap (λ m. dict_in room m octets) (sym s.3) ∙ (read ∙ ap (λ (x : tree.Data). Ok (x, rest)) s.5)

pub map-stands : (room n : ℕ) (octets rest : List ℕ) (d : tree.Data) → (dict_in room n octets ≡ Ok (d, rest)) ↔ MapStands room n octets d rest
map-stands room n octets rest d = (map-found room n tree.no_entries true octets d rest, stands-read room n octets rest d)

-- a map that is a dictionary
abbrev DictionaryStands : ℕ → ℕ → List ℕ → tree.Entries → Type 0
DictionaryStands room n octets es = (rest : List ℕ) × MapStands room n octets (tree.dict es) rest

pub dictionary-stands : (room n : ℕ) (octets : List ℕ) (es : tree.Entries)
    → (IsDictionary room n octets × (entries_in room n octets ≡ es)) ↔ DictionaryStands room n octets es
dictionary-stands room n octets es = (
  λ is.
      let rest = rest_of (dict_in room n octets) in
      (rest, (map-stands room n octets rest (tree.dict es)).0 (is.0 ∙ ap (λ (x : tree.Entries). Ok (tree.dict x, rest)) is.1)),
  λ s.
      let there = dictionary-there room n octets (tree.dict es) s.0 (stands-read room n octets s.0 (tree.dict es) s.1) refl in
      (there.0, ap entries_of (sym there.1)),
)
