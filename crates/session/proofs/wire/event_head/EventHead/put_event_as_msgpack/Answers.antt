use Rattle.std.proofs.Common.{◌≡◌, ◌<◌, ◌+◌, ◌∙◌, [], ◌∷◌, ◌++◌, ℕ, ap, refl, lt-ltb}
use Rattle.msgpack_codec.specs.Short.{from_zero, list_head, dict_head}
use Rattle.session.proofs.wire.event_head.EventHead.put_event_as_msgpack.Goals as goal

type_number : 36 ∷ [] ≡ from_zero 36
unfolding from_zero
type_number = refl

no_details : 128 ∷ [] ≡ dict_head 0 ++ []
unfolding dict_head
no_details = refl

few_elements : (n : ℕ) → n < 16 → (144 + n) ∷ [] ≡ list_head n
unfolding list_head
few_elements n few = rw (lt-ltb n 16 few) refl

pub returns-clause-put : goal.returns-clause-put
returns-clause-put c =
    let n = c.args.numbers.0 in
    let m = c.args.numbers.1 in
    let details = c.put_packed.ensures.put ∙ ap (λ o. from_zero m ++ o) (c.put.ensures ∙ ap (λ o. 128 ∷ o) c.requires.none ∙ no_details) in
    let numbers = c.put_packed-2.ensures.put ∙ ap (λ o. from_zero n ++ o) details in
    let front = ap (λ o. o ++ (36 ∷ (from_zero n ++ (from_zero m ++ (dict_head 0 ++ []))))) (few_elements c.args.count c.requires.count) in
    c.put_all.ensures ∙ ap (λ o. (144 + c.args.count) ∷ 36 ∷ o) numbers ∙ front ∙ ap (λ o. list_head c.args.count ++ (o ++ (from_zero n ++ (from_zero m ++ (dict_head 0 ++ []))))) type_number
