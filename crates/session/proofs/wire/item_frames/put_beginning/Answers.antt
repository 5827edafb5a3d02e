use Rattle.std.proofs.Common.{◌≡◌, ◌+◌, ◌++◌, ℕ, List, [], ap, ap₂, ◌∙◌, append_assoc, append-nil}
use Rattle.message_tree.specs.Data.{dict, item, no_items}
use Rattle.msgpack_codec.specs.Short.{item_count}
use Rattle.session.specs.body.EventHead.{event_beginning}
use Rattle.session.specs.body.SerializedParts.{separator, list_opening, further}
use Rattle.session.specs.Serializer.{serialized}
use Rattle.wamp_messages.specs.Arguments.{last_items}
use Rattle.session.specs.ToClient.{number, event_details}
use Rattle.session.proofs.wire.item_frames.put_beginning.Goals as goal

joined : (old opened n36 sep n m det : List ℕ)
    → ((old ++ (opened ++ (n36 ++ (sep ++ (n ++ (sep ++ (m ++ []))))))) ++ sep) ++ det ≡ old ++ (opened ++ (n36 ++ (sep ++ (n ++ (sep ++ (m ++ (sep ++ det)))))))
joined old opened n36 sep n m det = simp (append_assoc, append-nil)

pub returns-clause-ok : goal.returns-clause-ok
returns-clause-ok c =
    let s = c.args.serializer in
    let a = c.args.made.now.args in
    let det = dict (event_details c.args.made.now c.args.with_topic c.args.retained) in
    let old = c.args.out.now.since in
    let n = c.value.result in
    let m = c.value-2.result in
    let k = 4 + c.count-count.result in
    let written : c.put_details.new.out.since ≡ ((old ++ (list_opening s k ++ (serialized s (number 36) ++ further s (item (number n) (item (number m) no_items))))) ++ separator s) ++ serialized s det =
    c.in_ok-put_details.ensures.ok ∙ ap (λ o. o ++ serialized s det) (c.in_ok-separate.ensures.ok ∙ ap (λ o. o ++ separator s) c.in_ok-put_numbers.ensures.ok) in
    let counts : c.count-count.result ≡ item_count (last_items a.args a.kwargs) = c.count-count.ensures ∙ ap (λ a. item_count (last_items a.args a.kwargs)) c.args-2.ensures.same in
    written
    ∙ joined old (list_opening s k) (serialized s (number 36)) (separator s) (serialized s (number n)) (serialized s (number m)) (serialized s det)
    ∙ ap (λ i. old ++ event_beginning s (4 + i) n m det) counts
    ∙ ap₂ (λ n m. old ++ event_beginning s (4 + item_count (last_items a.args a.kwargs)) n m det) c.value.ensures.number c.value-2.ensures.number
