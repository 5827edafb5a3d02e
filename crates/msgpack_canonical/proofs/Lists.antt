-- The values of a list, one more at a time.
use Rattle.std.proofs.Common.{◌≡◌, ℕ, suc, List, ◌++◌, ◌&&◌, Ok, sym, ap, ◌∙◌, append_assoc}
use Rattle.std.proofs.lemmas.List.{append-nil}
use Rattle.std.proofs.Math.Bool.{and-true, and_assoc}
use Rattle.message_tree.specs.Data as tree
use Rattle.msgpack_codec.specs.Short.{short, items_short}
use Rattle.msgpack_codec.specs.body.Decoder.{Found, push_item, items_at}
use Rattle.msgpack_codec.specs.body.Passing.{list_at}
use Rattle.msgpack_codec.proofs.ReadIsSpelled.{behind}
use Rattle.msgpack_canonical.specs.body.Fitting.{fits, items_fit, IsUnread}

pub items_fit-push : (ds : tree.Items) (d : tree.Data) → items_fit (push_item ds d) ≡ (items_fit ds && fits d)
items_fit-push tree.no_items d = and-true (fits d)
items_fit-push (tree.item x ds) d = ap (λ b. fits x && b) (items_fit-push ds d) ∙ sym (and_assoc (fits x) (items_fit ds) (fits d))

pub regrouped : (a b c d : List ℕ) → (a ++ (b ++ c)) ++ d ≡ a ++ (b ++ (c ++ d))
regrouped a b c d = append_assoc a (b ++ c) d ∙ ap (λ o. a ++ o) (append_assoc b c d)

pub items_short-push : (ds : tree.Items) (d : tree.Data) → items_short (push_item ds d) ≡ items_short ds ++ short d
items_short-push tree.no_items d = append-nil (short d)
items_short-push (tree.item x ds) d = ap (λ o. short x ++ o) (items_short-push ds d) ∙ sym (append_assoc (short x) (items_short ds) (short d))

-- where one isn't read, no list is
pub list-unread : (p : List ℕ → Found tree.Data) (count : ℕ) (octets : List ℕ) (n : ℕ) (found : tree.Items) (left : List ℕ) → items_at p (suc n) found left ≡ items_at p count tree.no_items octets → IsUnread (p left)
    → IsUnread (list_at p count octets)
unfolding list_at items_at
list-unread p count octets n found left same nay d rest e =
    let b = behind (items_at p count tree.no_items octets) (λ ds. Ok (tree.list ds.0, ds.1)) (d, rest) e in
    let v = behind (p left) (λ d. items_at p n (push_item found d.0) d.1) (b.value, b.rest) (same ∙ b.first) in
    nay v.value v.rest v.first
