-- What is read of octets is what contracts see in them.
use Rattle.std.proofs.Common.{◌≡◌, ◌-◌, ℕ, zero, suc, List, [], ◌∷◌, ◌++◌, Bool, true, false, Ok, refl, sym, ap, ◌∙◌, subst, arith, length, ◌==◌}
use Rattle.std.proofs.lemmas.Bool.{eqb-true}
use Rattle.std.proofs.lemmas.List.{append-nil}
use Rattle.message_tree.specs.Data as tree
use Rattle.message_tree.proofs.Entries.{find_entry-put}
use Rattle.msgpack_codec.specs.Grammar.{IsNoMessage, Spells}
use Rattle.msgpack_codec.specs.Written.{IsNoValue}
use Rattle.msgpack_codec.specs.Values.{keep_entry, is_text}
use Rattle.msgpack_codec.specs.body.Decoder.{◌>>=◌, Found, push_item, items_at, dict_at, value_at}
use Rattle.msgpack_codec.specs.body.Passing.{list_at}
use Rattle.msgpack_codec.proofs.SpelledIsRead.{value_again, one_spelling}
use Rattle.msgpack_codec.proofs.TooDeep.{deep_again}
use Rattle.msgpack_codec.proofs.Messages.{none}
use Rattle.msgpack_codec.proofs.ReadIsSpelled.{found-is, behind, value_found}
use Rattle.msgpack_codec.specs.Tokens.{IsToken}
use Rattle.msgpack_codec.specs.body.Tokens.{data_of, IsLeafToken}
use Rattle.msgpack_codec.specs.declared.tokens.Token.{Token}
use Rattle.msgpack_codec.specs.declared.tokens.Token.TheVariants.{List as ListOf, Dict as DictOf}
use Rattle.msgpack_codec.specs.declared.tokens.Token.TheVariants as tokens
use Rattle.msgpack_canonical.proofs.Fronts.{list-read-inside, dict-read-inside, list-too_deep, dict-too_deep}
use Rattle.msgpack_canonical.proofs.Tokens.{leaf-token-read}
use Rattle.msgpack_cursor.specs.Standing.{value_of, rest_of, entries_of, value_in, rest_in, items_in, dict_in, entries_in, IsValue, AreThere, IsDictionary}
use Rattle.msgpack_cursor.specs.body.Fronts.{IsNoEntry}

-- ---- one value

pub value-read : (room : ℕ) (octets : List ℕ) (d : tree.Data) (rest : List ℕ) → value_at room octets ≡ Ok (d, rest) → value_in room octets ≡ d
unfolding value_in
value-read room octets d rest e = ap value_of e

pub rest-read : (room : ℕ) (octets : List ℕ) (d : tree.Data) (rest : List ℕ) → value_at room octets ≡ Ok (d, rest) → rest_in room octets ≡ rest
unfolding rest_in
rest-read room octets d rest e = ap rest_of e

pub whole-value : (room : ℕ) (octets : List ℕ) (d : tree.Data) → value_at room octets ≡ Ok (d, []) → IsValue room octets
whole-value room octets d e = e ∙ ap (λ (x : tree.Data). Ok (x, [])) (sym (value-read room octets d [] e))

-- a front that spells a value is that value
pub front-value : (room : ℕ) (octets front rest : List ℕ) (d : tree.Data) → octets ≡ front ++ rest → Spells room front d → (value_at room octets ≡ Ok (value_in room front, rest)) × IsValue room front × (d ≡ value_in room front)
front-value room octets front rest d parts s =
    let alone : value_at room front ≡ Ok (d, []) = ap (value_at room) (sym (append-nil front)) ∙ value_again room front d [] s in (
      ap (value_at room) parts ∙ (value_again room front d rest s ∙ ap (λ (x : tree.Data). Ok (x, rest)) (sym (value-read room front d [] alone))),
      whole-value room front d alone,
      sym (value-read room front d [] alone),
    )

pub value-spelled : (room : ℕ) (octets : List ℕ) → IsValue room octets → Spells room octets (value_in room octets)
value-spelled room octets e =
    let f = value_found room octets (value_in room octets) [] e in
    subst (λ o. Spells room o (value_in room octets)) (sym (f.1 ∙ append-nil f.0)) f.2

-- ---- the values of a list

abbrev pub joined : tree.Items → tree.Items → tree.Items
joined tree.no_items more = more
joined (tree.item d ds) more = tree.item d (joined ds more)

pub joined-push : (found : tree.Items) (d : tree.Data) (more : tree.Items) → joined (push_item found d) more ≡ joined found (tree.item d more)
joined-push tree.no_items d more = refl
joined-push (tree.item x found) d more = ap (tree.item x) (joined-push found d more)

pub joined-none : (found : tree.Items) → joined found tree.no_items ≡ found
joined-none tree.no_items = refl
joined-none (tree.item x found) = ap (tree.item x) (joined-none found)

items-there : (room n : ℕ) (found : tree.Items) (octets : List ℕ) (ds : tree.Items) (rest : List ℕ) → items_at (value_at room) n found octets ≡ Ok (ds, rest)
    → AreThere room n octets × (ds ≡ joined found (items_in room n octets))
unfolding items_at AreThere items_in
items-there room zero found octets ds rest e = (tt, sym (found-is found ds octets rest e).0 ∙ sym (joined-none found))
items-there room (suc n) found octets ds rest e =
    let b = behind (value_at room octets) (λ d. items_at (value_at room) n (push_item found d.0) d.1) (ds, rest) e in
    let v = value-read room octets b.value b.rest b.first in
    let r = rest-read room octets b.value b.rest b.first in
    let more = items-there room n (push_item found b.value) b.rest ds rest b.after in (
      (b.first ∙ (ap (λ (d : tree.Data). Ok (d, b.rest)) (sym v) ∙ ap (λ (o : List ℕ). Ok (value_in room octets, o)) (sym r)), subst (AreThere room n) (sym r) more.0),
      more.1 ∙ (joined-push found b.value (items_in room n b.rest) ∙ (ap (λ d. joined found (tree.item d (items_in room n b.rest))) (sym v)
          ∙ ap (λ o. joined found (tree.item (value_in room octets) (items_in room n o))) (sym r))),
    )

-- a list whose head was read
pub list-there : (room n : ℕ) (octets : List ℕ) (d : tree.Data) (rest : List ℕ) → list_at (value_at room) n octets ≡ Ok (d, rest) → AreThere room n octets × (d ≡ tree.list (items_in room n octets))
unfolding list_at
list-there room n octets d rest e =
    let b = behind (items_at (value_at room) n tree.no_items octets) (λ ds. Ok (tree.list ds.0, ds.1)) (d, rest) e in
    let there = items-there room n tree.no_items octets b.value b.rest b.first in
    (there.0, sym (found-is (tree.list b.value) d b.rest rest b.after).0 ∙ ap tree.list there.1)

-- the next value of a list

pub none-there : (room n : ℕ) (octets : List ℕ) → n ≡ 0 → items_in room n octets ≡ tree.no_items
unfolding items_in
none-there room zero octets is = refl
none-there room (suc n) octets is = absurd (omega (arith, is))

pub there-first : (room n : ℕ) (octets : List ℕ) → (n ≡ 0 → ⊥) → AreThere room n octets → value_at room octets ≡ Ok (value_in room octets, rest_in room octets)
unfolding AreThere
there-first room zero octets some there = absurd (some refl)
there-first room (suc n) octets some there = there.0

pub there-more : (room n : ℕ) (octets : List ℕ) (d : tree.Data) (rest : List ℕ) → (n ≡ 0 → ⊥) → AreThere room n octets → value_at room octets ≡ Ok (d, rest)
    → AreThere room (n - 1) rest × (items_in room n octets ≡ tree.item d (items_in room (n - 1) rest))
unfolding AreThere items_in
there-more room zero octets d rest some there read = absurd (some refl)
there-more room (suc n) octets d rest some there read =
    let one : (suc n) - 1 ≡ n = omega arith in
    let r = rest-read room octets d rest read in (
      subst (λ m. AreThere room m rest) (sym one) (subst (AreThere room n) r there.1),
      ap (λ x. tree.item x (items_in room n (rest_in room octets))) (value-read room octets d rest read)
          ∙ (ap (λ o. tree.item d (items_in room n o)) r ∙ ap (λ m. tree.item d (items_in room m rest)) (sym one)),
    )

-- ---- the entries of a dictionary

pub dictionary-there : (room n : ℕ) (octets : List ℕ) (d : tree.Data) (rest : List ℕ) → dict_in room n octets ≡ Ok (d, rest) → d ≡ tree.dict (entries_of d)
    → IsDictionary room n octets × (d ≡ tree.dict (entries_in room n octets))
unfolding entries_in
dictionary-there room n octets d rest e is =
    let same : d ≡ tree.dict (entries_in room n octets) = is ∙ ap (λ x. tree.dict (entries_of (value_of x))) (sym e) in
    (e ∙ (ap (λ (x : tree.Data). Ok (x, rest)) same ∙ ap (λ (o : List ℕ). Ok (tree.dict (entries_in room n octets), o)) (sym (ap rest_of e))), same)

-- where a key was no text, all is uncarried
uncarried-read : (p : List ℕ → Found tree.Data) (n : ℕ) (found : tree.Entries) (octets : List ℕ) (d : tree.Data) (rest : List ℕ) → dict_at p n found false octets ≡ Ok (d, rest) → d ≡ tree.uncarried
unfolding dict_at
uncarried-read p zero found octets d rest e = sym (found-is tree.uncarried d octets rest e).0
uncarried-read p (suc n) found octets d rest e =
    let k = behind (p octets) (λ k. p k.1 >>= λ v. dict_at p n (keep_entry k.0 v.0 found) false v.1) (d, rest) e in
    let v = behind (p k.rest) (λ v. dict_at p n (keep_entry k.value v.0 found) false v.1) (d, rest) k.after in
    uncarried-read p n (keep_entry k.value v.value found) v.rest d rest v.after

-- where the key of the next entry is no text, all is uncarried
pub no-entry-read : (p : List ℕ → Found tree.Data) (n : ℕ) (found : tree.Entries) (octets : List ℕ) (d : tree.Data) (rest : List ℕ) → dict_at p (suc n) found true octets ≡ Ok (d, rest)
    → IsNoEntry p octets → d ≡ tree.uncarried
unfolding dict_at
no-entry-read p n found octets d rest e none =
    let k = behind (p octets) (λ k. p k.1 >>= λ v. dict_at p n (keep_entry k.0 v.0 found) (is_text k.0) v.1) (d, rest) e in
    let v = behind (p k.rest) (λ v. dict_at p n (keep_entry k.value v.0 found) (is_text k.value) v.1) (d, rest) k.after in
    uncarried-read p n (keep_entry k.value v.value found) v.rest d rest (ap (λ b. dict_at p n (keep_entry k.value v.value found) b v.rest) (sym (none k.value v.value k.rest v.rest k.first v.first)) ∙ v.after)

-- ---- a message

pub is-empty : (rest : List ℕ) → true ≡ (length rest == 0) → rest ≡ []
is-empty rest is = none rest (eqb-true (length rest) 0 (sym is))

pub not-empty : (rest : List ℕ) → false ≡ (length rest == 0) → rest ≡ [] → ⊥
not-empty [] is none = absurd cc
not-empty (c ∷ rest) is none = cc

pub none-left : (octets front rest : List ℕ) → octets ≡ front ++ rest → rest ≡ [] → octets ≡ front
none-left octets front rest parts none = parts ∙ (ap (λ (r : List ℕ). front ++ r) none ∙ append-nil front)

pub two-values : (octets front rest : List ℕ) (d : tree.Data) → octets ≡ front ++ rest → Spells 100 front d → (rest ≡ [] → ⊥) → IsNoMessage octets
two-values octets front rest d parts s more = record {
  unspelled = λ e spelled. more (one_spelling 100 front octets rest [] d e s spelled (sym parts ∙ sym (append-nil octets))).1;
  shallow = λ deep.
      let same = sym (deep_again 100 octets deep) ∙ (ap (value_at 100) parts ∙ value_again 100 front d rest s) in
      cc;
}

pub no-value : (octets : List ℕ) → IsNoValue 100 octets → IsNoMessage octets
no-value octets none = record {
  unspelled = λ d s. none.unspelled octets [] d (sym (append-nil octets)) s;
  shallow = none.shallow;
}

-- ---- what was seen

-- a value with nothing inside
pub seen-leaf : (room : ℕ) (t : Token) (octets rest : List ℕ) (v : tree.Data) → IsLeafToken t → IsToken t octets rest → IsValue room octets → value_in room octets ≡ v → data_of t ≡ v
seen-leaf room t octets rest v leaf h whole is =
    (found-is (data_of t) (value_in room octets) rest [] (sym (leaf-token-read room t octets rest leaf h) ∙ whole)).0 ∙ is

-- behind the head of a list
pub list-inside : (room n : ℕ) (octets rest : List ℕ) → IsToken (ListOf n) octets rest → IsValue room octets → list_at (value_at (room - 1)) n rest ≡ Ok (value_in room octets, [])
list-inside zero n octets rest h whole = absurd (list-too_deep n octets rest h (value_in zero octets) [] whole)
list-inside (suc room) n octets rest h whole = sym (list-read-inside (suc room) n octets rest (omega arith) h) ∙ whole

-- behind the head of a map
pub map-inside : (room n : ℕ) (octets rest : List ℕ) → IsToken (DictOf n) octets rest → IsValue room octets → dict_in (room - 1) n rest ≡ Ok (value_in room octets, [])
map-inside zero n octets rest h whole = absurd (dict-too_deep n octets rest h (value_in zero octets) [] whole)
map-inside (suc room) n octets rest h whole = sym (dict-read-inside (suc room) n octets rest (omega arith) h) ∙ whole

pub none-entries : (room n : ℕ) (octets : List ℕ) → n ≡ 0 → entries_in room n octets ≡ tree.no_entries
unfolding entries_in dict_at
none-entries room zero octets is = refl
none-entries room (suc n) octets is = absurd (omega (arith, is))

-- a text that is put stands there
put-some : (k : List ℕ) (d : tree.Data) (es : tree.Entries) → tree.put k d es ≡ tree.no_entries → ⊥
put-some k d es none =
    let found = ap (tree.find_entry k) (sym none) ∙ find_entry-put k d es in
    cc

keep-some : (k v : tree.Data) (es : tree.Entries) → is_text k ≡ true → keep_entry k v es ≡ tree.no_entries → ⊥
keep-some (tree.text s) v es is none = put-some s v es none
keep-some tree.null v es is none = absurd cc
keep-some (tree.flag b) v es is none = absurd cc
keep-some (tree.whole z) v es is none = absurd cc
keep-some (tree.bytes b) v es is none = absurd cc
keep-some (tree.list ds) v es is none = absurd cc
keep-some (tree.dict ms) v es is none = absurd cc
keep-some tree.uncarried v es is none = absurd cc

-- in a dictionary each key is a text
pub text-key : (p : List ℕ → Found tree.Data) (n : ℕ) (found : tree.Entries) (b : Bool) (octets : List ℕ) (es : tree.Entries) (rest : List ℕ) → dict_at p n found b octets ≡ Ok (tree.dict es, rest)
    → b ≡ true
text-key p n found true octets es rest e = refl
text-key p n found false octets es rest e = let nay = uncarried-read p n found octets (tree.dict es) rest e in absurd cc

-- what is found with one more entry, which isn't nothing
entry-behind : (p : List ℕ → Found tree.Data) (n : ℕ) (found : tree.Entries) (octets : List ℕ) (es : tree.Entries) (rest : List ℕ) → dict_at p (suc n) found true octets ≡ Ok (tree.dict es, rest)
    → (more : tree.Entries) × (after : List ℕ) × (more ≡ tree.no_entries → ⊥) × (dict_at p n more true after ≡ Ok (tree.dict es, rest))
unfolding dict_at
entry-behind p n found octets es rest e =
    let k = behind (p octets) (λ k. p k.1 >>= λ v. dict_at p n (keep_entry k.0 v.0 found) (is_text k.0) v.1) (tree.dict es, rest) e in
    let v = behind (p k.rest) (λ v. dict_at p n (keep_entry k.value v.0 found) (is_text k.value) v.1) (tree.dict es, rest) k.after in
    let more = keep_entry k.value v.value found in
    let is = text-key p n more (is_text k.value) v.rest es rest v.after in
    (more, v.rest, keep-some k.value v.value found is, ap (λ b. dict_at p n more b v.rest) (sym is) ∙ v.after)

some-read : (p : List ℕ → Found tree.Data) (n : ℕ) (found : tree.Entries) (octets : List ℕ) (es : tree.Entries) (rest : List ℕ) → dict_at p n found true octets ≡ Ok (tree.dict es, rest)
    → (found ≡ tree.no_entries → ⊥) → es ≡ tree.no_entries → ⊥
unfolding dict_at
some-read p zero found octets es rest e some none =
    let same : tree.dict found ≡ tree.dict es = (found-is (tree.dict found) (tree.dict es) octets rest e).0 in
    some (ap entries_of same ∙ none)
some-read p (suc n) found octets es rest e some none =
    let next = entry-behind p n found octets es rest e in
    some-read p n next.0 next.1 es rest next.3 next.2 none

pub no-entries : (room n : ℕ) (octets : List ℕ) → IsDictionary room n octets → entries_in room n octets ≡ tree.no_entries → (n == 0) ≡ true
no-entries room zero octets is none = refl
no-entries room (suc n) octets is none =
    let es = entries_in room (suc n) octets in
    let rest = rest_of (dict_in room (suc n) octets) in
    let next = entry-behind (value_at room) n tree.no_entries octets es rest is in
    absurd (some-read (value_at room) n next.0 next.1 es rest next.3 next.2 none)

-- a token that is no head
pub no-head : (t : Token) → ((n : ℕ) → t ≡ ListOf n → ⊥) → ((n : ℕ) → t ≡ DictOf n → ⊥) → IsLeafToken t
no-head tokens.Null list dict = tt
no-head (tokens.Flag b) list dict = tt
no-head (tokens.Whole z) list dict = tt
no-head (tokens.Text s) list dict = tt
no-head (tokens.Bytes s) list dict = tt
no-head (tokens.List n) list dict = absurd (list n refl)
no-head (tokens.Dict n) list dict = absurd (dict n refl)
no-head tokens.Uncarried list dict = tt
