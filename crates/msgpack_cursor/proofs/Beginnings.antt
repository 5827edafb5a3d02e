-- What a value can be by its first token.
use Rattle.std.proofs.Common.{◌≡◌, ℕ, zero, suc, List, [], Bool, true, false, ◌&&◌, ◌⊎◌, inl, inr, Ok, sym, ◌∙◌, subst}
use Rattle.message_tree.specs.Data as tree
use Rattle.msgpack_codec.specs.Values.{keep_entry, is_text}
use Rattle.msgpack_codec.specs.Tokens.{IsToken}
use Rattle.msgpack_codec.specs.body.Decoder.{◌>>=◌, Found, dict_at}
use Rattle.msgpack_codec.specs.declared.tokens.Token.{Token}
use Rattle.msgpack_codec.proofs.ReadIsSpelled.{found-is, behind}
use Rattle.msgpack_cursor.specs.Seen.{BeginsAs, is_leaf}
use Rattle.msgpack_cursor.specs.Standing.{IsValue, value_in, items_in}
use Rattle.msgpack_cursor.specs.body.Fronts.{IsBegun}
use Rattle.msgpack_cursor.specs.declared.seen.Beginning.{Beginning}
use Rattle.msgpack_cursor.specs.declared.seen.Beginning.TheVariants as begins
use Rattle.msgpack_cursor.proofs.Readings.{list-inside, list-there, map-inside, seen-leaf}

-- a dictionary, or nothing that is carried
abbrev pub IsMapped : tree.Data → Type 0
IsMapped d = ((es : tree.Entries) × (d ≡ tree.dict es)) ⊎ (d ≡ tree.uncarried)

-- what is behind the head of a map
map-read : (p : List ℕ → Found tree.Data) (n : ℕ) (found : tree.Entries) (b : Bool) (octets : List ℕ) (d : tree.Data) (rest : List ℕ) → dict_at p n found b octets ≡ Ok (d, rest) → IsMapped d
unfolding dict_at
map-read p zero found true octets d rest e = inl (found, sym (found-is (tree.dict found) d octets rest e).0)
map-read p zero found false octets d rest e = inr (sym (found-is tree.uncarried d octets rest e).0)
map-read p (suc n) found b octets d rest e =
    let k = behind (p octets) (λ k. p k.1 >>= λ v. dict_at p n (keep_entry k.0 v.0 found) (b && is_text k.0) v.1) (d, rest) e in
    let v = behind (p k.rest) (λ v. dict_at p n (keep_entry k.value v.0 found) (b && is_text k.value) v.1) (d, rest) k.after in
    map-read p n (keep_entry k.value v.value found) (b && is_text k.value) v.rest d rest v.after

pub begins-as : (room : ℕ) (b : Beginning) (t : Token) (octets rest : List ℕ) (v : tree.Data) → IsBegun b t → IsToken t octets rest → IsValue room octets → value_in room octets ≡ v → BeginsAs b v
begins-as room begins.Null t octets rest v begun h whole is = sym (seen-leaf room t octets rest v begun.0 h whole is) ∙ begun.1
begins-as room begins.List t octets rest v begun h whole is =
    let head = subst (λ t. IsToken t octets rest) begun.1 h in
    let inside = list-inside room begun.0 octets rest head whole in
    (items_in _ begun.0 rest, sym is ∙ (list-there _ begun.0 rest _ _ inside).1)
begins-as room begins.Map t octets rest v begun h whole is =
    let head = subst (λ t. IsToken t octets rest) begun.1 h in
    subst IsMapped is (map-read _ begun.0 tree.no_entries true rest (value_in room octets) [] (map-inside room begun.0 octets rest head whole))
begins-as room begins.Uncarried t octets rest v begun h whole is = sym (seen-leaf room t octets rest v begun.0 h whole is) ∙ begun.1
begins-as room begins.Leaf t octets rest v begun h whole is = subst (λ d. is_leaf d ≡ true) (seen-leaf room t octets rest v begun.0 h whole is) begun.1
