-- The elements of a message, where each is read in its turn.
use Rattle.std.proofs.Common.{◌≡◌, ◌≤◌, ◌-◌, ◌==◌, ◌&&◌, ℕ, zero, suc, List, [], ◌∷◌, Bool, true, false, Ok, Err, refl, sym, ap, ◌∙◌, subst, arith, length}
use Rattle.std.proofs.lemmas.List.{append-nil}
use Rattle.message_tree.specs.Data as tree
use Rattle.msgpack_codec.specs.Grammar.{Spells}
use Rattle.msgpack_codec.specs.Format.{form_of}
use Rattle.msgpack_codec.specs.Values.{keep_entry, is_text}
use Rattle.msgpack_codec.specs.body.Decoder.{◌>>=◌, Found, push_item, items_at, dict_at, nest_at, size_at, value_at}
use Rattle.msgpack_codec.specs.body.Passing.{list_at}
use Rattle.msgpack_codec.proofs.Depth.{depth_within}
use Rattle.msgpack_codec.proofs.SpelledIsRead.{value_again}
use Rattle.msgpack_codec.proofs.ReadIsSpelled.{found-is, behind, value_found}
use Rattle.msgpack_codec.specs.Tokens.{IsToken}
use Rattle.msgpack_codec.specs.body.Tokens.{data_of}
use Rattle.msgpack_codec.specs.declared.tokens.Token.{Token}
use Rattle.msgpack_codec.specs.declared.tokens.Token.TheVariants.{List as ListOf, Dict as DictOf}
use Rattle.msgpack_codec.specs.declared.tokens.Token.TheVariants as tokens
use Rattle.msgpack_canonical.proofs.Fronts.{list-read-inside, dict-read-inside}
use Rattle.msgpack_canonical.proofs.Tokens.{leaf-token-read}
use Rattle.msgpack_cursor.specs.Standing.{value_of, rest_of, is_found, value_in, rest_in, items_in, is_whole}
use Rattle.msgpack_cursor.proofs.Readings.{value-read, rest-read, joined, joined-push, joined-none, is-empty, list-there}

found-read : (x : Found tree.Data) → is_found x ≡ true → x ≡ Ok (value_of x, rest_of x)
found-read (Ok p) is = refl
found-read (Err e) is = absurd cc

unread : (x : Found tree.Data) → ((d : tree.Data) (rest : List ℕ) → x ≡ Ok (d, rest) → ⊥) → is_found x ≡ false
unread (Ok p) none = absurd (none p.0 p.1 refl)
unread (Err e) none = refl

both-first : (a b : Bool) → (a && b) ≡ true → a ≡ true
both-first true b is = refl
both-first false b is = absurd cc

both-second : (a b : Bool) → (a && b) ≡ true → b ≡ true
both-second true b is = is
both-second false b is = absurd cc

-- where they are whole, the first is there
pub whole-first : (room n : ℕ) (octets : List ℕ) → (n ≡ 0 → ⊥) → is_whole room n octets ≡ true → value_at room octets ≡ Ok (value_in room octets, rest_in room octets)
unfolding is_whole value_in rest_in
whole-first room zero octets some whole = absurd (some refl)
whole-first room (suc n) octets some whole = found-read (value_at room octets) (both-first (is_found (value_at room octets)) _ whole)

-- what stands behind the first
pub stands-before : (room n : ℕ) (octets : List ℕ) (d : tree.Data) (rest : List ℕ) → (n ≡ 0 → ⊥) → value_at room octets ≡ Ok (d, rest)
    → (items_in room n octets ≡ tree.item d (items_in room (n - 1) rest)) × (is_whole room (n - 1) rest ≡ is_whole room n octets)
unfolding items_in is_whole
stands-before room zero octets d rest some read = absurd (some refl)
stands-before room (suc n) octets d rest some read =
    let one : (suc n) - 1 ≡ n = omega arith in
    let r = rest-read room octets d rest read in (
      ap (λ x. tree.item x (items_in room n (rest_in room octets))) (value-read room octets d rest read)
          ∙ (ap (λ o. tree.item d (items_in room n o)) r ∙ ap (λ m. tree.item d (items_in room m rest)) (sym one)),
      ap (λ m. is_whole room m rest) one
          ∙ (ap (is_whole room n) (sym r) ∙ ap (λ x. is_found x && is_whole room n (rest_in room octets)) (sym read)),
    )

-- no value of a kind is read
pub none-of : {X : Type 0} (kind : X → tree.Data) (room n : ℕ) (octets : List ℕ) → ((x : X) (rest : List ℕ) → (n ≡ 0 → ⊥) → value_at room octets ≡ Ok (kind x, rest) → ⊥)
    → (x : X) (others : tree.Items) → is_whole room n octets ≡ true → items_in room n octets ≡ tree.item (kind x) others → ⊥
unfolding items_in
none-of kind room zero octets none x others whole is = absurd cc
none-of kind room (suc n) octets none x others whole is =
    let some : suc n ≡ 0 → ⊥ = λ e. cc in
    let first = whole-first room (suc n) octets some whole in
    let same : value_in room octets ≡ kind x = cc in
    none x (rest_in room octets) some (first ∙ ap (λ (d : tree.Data). Ok (d, rest_in room octets)) same)

pub none-missing : (room n : ℕ) (octets : List ℕ) → ((d : tree.Data) (rest : List ℕ) → value_at room octets ≡ Ok (d, rest) → ⊥) → (n ≡ 0 → ⊥) → is_whole room n octets ≡ true → ⊥
none-missing room n octets none some whole = none (value_in room octets) (rest_in room octets) (whole-first room n octets some whole)

pub whole-end : (room n : ℕ) (octets : List ℕ) → n ≡ 0 → is_whole room n octets ≡ (length octets == 0)
unfolding is_whole
whole-end room zero octets none = refl
whole-end room (suc n) octets none = absurd cc

pub some-item : (room n : ℕ) (octets : List ℕ) → (n ≡ 0 → ⊥) → items_in room n octets ≡ tree.no_items → ⊥
unfolding items_in
some-item room zero octets some is = some refl
some-item room (suc n) octets some is = absurd cc

-- what was read nests no more than there is room
pub shallow : (room : ℕ) (octets : List ℕ) (d : tree.Data) (rest : List ℕ) → value_at room octets ≡ Ok (d, rest) → tree.depth d ≤ room
shallow room octets d rest read =
    let f = value_found room octets d rest read in
    depth_within room f.0 d f.2

-- ---- a whole message

items-whole : (room n : ℕ) (found : tree.Items) (octets : List ℕ) → is_whole room n octets ≡ true → items_at (value_at room) n found octets ≡ Ok (joined found (items_in room n octets), [])
unfolding items_at items_in is_whole
items-whole room zero found octets whole =
    ap (λ (o : List ℕ). Ok (found, o)) (is-empty octets (sym whole)) ∙ ap (λ (ds : tree.Items). Ok (ds, [])) (sym (joined-none found))
items-whole room (suc n) found octets whole =
    let first = whole-first room (suc n) octets (λ e. cc) whole in
    let more = both-second (is_found (value_at room octets)) (is_whole room n (rest_in room octets)) whole in
    ap (λ x. x >>= λ d. items_at (value_at room) n (push_item found d.0) d.1) first
    ∙ (items-whole room n (push_item found (value_in room octets)) (rest_in room octets) more
    ∙ ap (λ (ds : tree.Items). Ok (ds, [])) (joined-push found (value_in room octets) (items_in room n (rest_in room octets))))

items-are-whole : (room n : ℕ) (found : tree.Items) (octets : List ℕ) (ds : tree.Items) → items_at (value_at room) n found octets ≡ Ok (ds, []) → is_whole room n octets ≡ true
unfolding items_at is_whole
items-are-whole room zero found octets ds e = ap (λ o. length o == 0) (found-is found ds octets [] e).1
items-are-whole room (suc n) found octets ds e =
    let b = behind (value_at room octets) (λ d. items_at (value_at room) n (push_item found d.0) d.1) (ds, []) e in
    let more = items-are-whole room n (push_item found b.value) b.rest ds b.after in
    ap (λ x. is_found x && is_whole room n (rest_in room octets)) b.first
    ∙ (ap (is_whole room n) (rest-read room octets b.value b.rest b.first) ∙ more)

-- behind the head of a list
pub list-whole : (room n : ℕ) (octets : List ℕ) → is_whole room n octets ≡ true → list_at (value_at room) n octets ≡ Ok (tree.list (items_in room n octets), [])
unfolding list_at
list-whole room n octets whole = ap (λ x. x >>= λ ds. Ok (tree.list ds.0, ds.1)) (items-whole room n tree.no_items octets whole)

pub list-is-whole : (room n : ℕ) (octets : List ℕ) (d : tree.Data) → list_at (value_at room) n octets ≡ Ok (d, []) → is_whole room n octets ≡ true
unfolding list_at
list-is-whole room n octets d e =
    let b = behind (items_at (value_at room) n tree.no_items octets) (λ ds. Ok (tree.list ds.0, ds.1)) (d, []) e in
    items-are-whole room n tree.no_items octets b.value (b.first ∙ ap (λ (o : List ℕ). Ok (b.value, o)) (found-is (tree.list b.value) d b.rest [] b.after).1)

pub message-whole : (n : ℕ) (octets rest : List ℕ) → IsToken (ListOf n) octets rest → is_whole 99 n rest ≡ true → Spells 100 octets (tree.list (items_in 99 n rest))
message-whole n octets rest head whole =
    let read = list-read-inside 100 n octets rest (omega arith) head ∙ list-whole 99 n rest whole in
    let f = value_found 100 octets (tree.list (items_in 99 n rest)) [] read in
    subst (λ o. Spells 100 o (tree.list (items_in 99 n rest))) (sym (f.1 ∙ append-nil f.0)) f.2

message-read : (octets : List ℕ) (d : tree.Data) → Spells 100 octets d → value_at 100 octets ≡ Ok (d, [])
message-read octets d s = ap (value_at 100) (sym (append-nil octets)) ∙ value_again 100 octets d [] s

pub message-is-whole : (n : ℕ) (octets rest : List ℕ) (d : tree.Data) → IsToken (ListOf n) octets rest → Spells 100 octets d → (is_whole 99 n rest ≡ true) × (d ≡ tree.list (items_in 99 n rest))
message-is-whole n octets rest d head s =
    let read = sym (list-read-inside 100 n octets rest (omega arith) head) ∙ message-read octets d s in
    (list-is-whole 99 n rest d read, (list-there 99 n rest d [] read).1)

-- ---- what is no list

dict-no-list : (p : List ℕ → Found tree.Data) (n : ℕ) (found : tree.Entries) (b : Bool) (octets : List ℕ) (ds : tree.Items) (rest : List ℕ) → dict_at p n found b octets ≡ Ok (tree.list ds, rest) → ⊥
unfolding dict_at
dict-no-list p zero found true octets ds rest e = let is = (found-is (tree.dict found) (tree.list ds) octets rest e).0 in absurd cc
dict-no-list p zero found false octets ds rest e = let is = (found-is tree.uncarried (tree.list ds) octets rest e).0 in absurd cc
dict-no-list p (suc n) found b octets ds rest e =
    let k = behind (p octets) (λ k. p k.1 >>= λ v. dict_at p n (keep_entry k.0 v.0 found) (b && is_text k.0) v.1) (tree.list ds, rest) e in
    let v = behind (p k.rest) (λ v. dict_at p n (keep_entry k.value v.0 found) (b && is_text k.value) v.1) (tree.list ds, rest) k.after in
    dict-no-list p n (keep_entry k.value v.value found) (b && is_text k.value) v.rest ds rest v.after

leaf-no-list : (t : Token) (octets rest : List ℕ) (ds : tree.Items) → value_at 100 octets ≡ Ok (data_of t, rest) → (data_of t ≡ tree.list ds → ⊥) → Spells 100 octets (tree.list ds) → ⊥
leaf-no-list t octets rest ds read nay s = nay (found-is (data_of t) (tree.list ds) rest [] (sym read ∙ message-read octets (tree.list ds) s)).0

pub other-no-list : (t : Token) (octets rest : List ℕ) → IsToken t octets rest → ((n : ℕ) → t ≡ ListOf n → ⊥) → (ds : tree.Items) → Spells 100 octets (tree.list ds) → ⊥
other-no-list tokens.Null octets rest h nay ds s = leaf-no-list tokens.Null octets rest ds (leaf-token-read 100 tokens.Null octets rest tt h) (λ e. absurd cc) s
other-no-list (tokens.Flag b) octets rest h nay ds s = leaf-no-list (tokens.Flag b) octets rest ds (leaf-token-read 100 (tokens.Flag b) octets rest tt h) (λ e. absurd cc) s
other-no-list (tokens.Whole z) octets rest h nay ds s = leaf-no-list (tokens.Whole z) octets rest ds (leaf-token-read 100 (tokens.Whole z) octets rest tt h) (λ e. absurd cc) s
other-no-list (tokens.Text t) octets rest h nay ds s = leaf-no-list (tokens.Text t) octets rest ds (leaf-token-read 100 (tokens.Text t) octets rest tt h) (λ e. absurd cc) s
other-no-list (tokens.Bytes b) octets rest h nay ds s = leaf-no-list (tokens.Bytes b) octets rest ds (leaf-token-read 100 (tokens.Bytes b) octets rest tt h) (λ e. absurd cc) s
other-no-list (tokens.List n) octets rest h nay ds s = nay n refl
other-no-list (tokens.Dict n) octets rest h nay ds s =
    dict-no-list (value_at 99) n tree.no_entries true rest ds [] (sym (dict-read-inside 100 n octets rest (omega arith) h) ∙ message-read octets (tree.list ds) s)
other-no-list tokens.Uncarried octets rest h nay ds s = leaf-no-list tokens.Uncarried octets rest ds (leaf-token-read 100 tokens.Uncarried octets rest tt h) (λ e. absurd cc) s

pub message-there : (octets : List ℕ) (d : tree.Data) → Spells 100 octets d → ((e : tree.Data) (rest : List ℕ) → value_at 100 octets ≡ Ok (e, rest) → ⊥) → ⊥
message-there octets d s none = none d [] (message-read octets d s)

-- a text is a text
pub no_text : (s : List ℕ) → is_text (tree.text s) ≡ false → ⊥
no_text s e = absurd cc

-- where no value stands, nothing is whole
pub none-whole : (room n : ℕ) (octets : List ℕ) → ((d : tree.Data) (rest : List ℕ) → value_at room octets ≡ Ok (d, rest) → ⊥) → is_whole room (suc n) octets ≡ false
unfolding is_whole
none-whole room n octets none = ap (λ b. b && is_whole room n (rest_in room octets)) (unread (value_at room octets) none)

pub one-behind : (room n : ℕ) (octets : List ℕ) (d : tree.Data) (rest : List ℕ) → value_at room octets ≡ Ok (d, rest) → is_whole room n rest ≡ is_whole room (suc n) octets
one-behind room n octets d rest read =
    let one : suc n - 1 ≡ n = omega arith in
    ap (λ m. is_whole room m rest) (sym one) ∙ (stands-before room (suc n) octets d rest (λ e. cc) read).1

-- the octet of a dictionary without entries, and what stands behind it
pub empty-read : (octets rest : List ℕ) → octets ≡ 128 ∷ rest → value_at 99 octets ≡ Ok (tree.dict tree.no_entries, rest)
unfolding value_at nest_at form_of size_at dict_at
empty-read octets rest is = ap (value_at 99) is ∙ refl
