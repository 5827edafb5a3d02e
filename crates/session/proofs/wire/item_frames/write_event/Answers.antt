use Rattle.std.proofs.Common.{◌≡◌, ◌+◌, ◌++◌, ℕ, List, length, false, ap, ap₂, ◌∙◌, arith, length-append}
use Rattle.msgpack_codec.specs.Short.{item_count}
use Rattle.rawsocket.specs.Frames.{header}
use Rattle.rawsocket.specs.declared.frame.Kind.TheVariants.{Message}
use Rattle.rawsocket.specs.declared.handshake.Serializer.{Serializer}
use Rattle.wamp_messages.specs.Arguments.{Arguments, last_items}
use Rattle.session.specs.ToClient.{event}
use Rattle.session.specs.Serializer.{serialized}
use Rattle.arguments.specs.Endings.{IsEnding}
use Rattle.session.specs.body.EventHead.{event_front}
use Rattle.session.specs.body.SerializedParts.{list_closing}
use Rattle.wamp_messages.specs.declared.item.Publication.{Publication}
use Rattle.session.proofs.EventParts.{event_octets, event_is_spelled}
use Rattle.session.proofs.wire.item_frames.write_event.Goals as goal

-- the octets that were put before the arguments make an EVENT with them
payload_is : (s : Serializer) (made : Publication) (tail front : List ℕ) (carried : Arguments) (count subscription n m : ℕ)
    → IsEnding s made.args tail → made.disclosed ≡ false
    → count ≡ item_count (last_items carried.args carried.kwargs) → carried ≡ made.args → n ≡ subscription → m ≡ made.id
    → front ≡ event_front s (4 + count) n m
    → front ++ (tail ++ list_closing s) ≡ serialized s (event subscription made false false)
payload_is s made tail front carried count subscription n m t plain counts same n_is m_is front_is =
    let counted = counts ∙ ap (λ a. item_count (last_items a.args a.kwargs)) same in
    let rest = last_items made.args.args made.args.kwargs in
    let named = front_is ∙ ap (λ k. event_front s (4 + k) n m) counted ∙ ap₂ (λ n m. event_front s (4 + item_count rest) n m) n_is m_is in
    ap (λ o. o ++ (tail ++ list_closing s)) named ∙ event_octets s subscription made tail t plain

length_is : (front tail closing whole : List ℕ) (len closing_len : ℕ) → front ++ (tail ++ closing) ≡ whole → len ≡ length front → closing_len ≡ length closing
    → len + length tail + closing_len ≡ length whole
length_is front tail closing whole len closing_len is l k = omega (arith, ap length is, length-append front (tail ++ closing), length-append tail closing, l, k)

pub returns-then-len-limit-clause-spelled : goal.returns-then-len-limit-clause-spelled
returns-then-len-limit-clause-spelled c = event_is_spelled c.args.serializer c.args.subscription c.args.made.now c.args.tail.now c.requires.tail c.requires.plain

pub returns-then-len-limit-clause-long : goal.returns-then-len-limit-clause-long
returns-then-len-limit-clause-long c = λ _.
    let s = c.args.serializer in
    let payload = payload_is s c.args.made.now c.args.tail.now c.put_event.new.self c.args-2.result.now c.count-count.result c.args.subscription c.value.result c.value-2.result
    c.requires.tail c.requires.plain c.count-count.ensures c.args-2.ensures.same c.value.ensures.number c.value-2.ensures.number c.put_event.ensures.put in
    let whole = length_is c.put_event.new.self c.args.tail.now (list_closing s) (serialized s (event c.args.subscription c.args.made.now false false)) c.len.result c.closing_len.result payload c.len.ensures c.closing_len.ensures in
    omega (arith, whole, c.if-len-limit.true)

pub returns-in-Err-clause-spelled : goal.returns-in-Err-clause-spelled
returns-in-Err-clause-spelled c = event_is_spelled c.args.serializer c.args.subscription c.args.made.now c.args.tail.now c.requires.tail c.requires.plain

pub returns-clause-ok : goal.returns-clause-ok
returns-clause-ok c =
    let s = c.args.serializer in
    let old = c.args.out.now.items in
    let tail = c.args.tail.now in
    let closing = list_closing s in
    let front = c.put_event.new.self in
    let message = serialized s (event c.args.subscription c.args.made.now false false) in
    let payload = payload_is s c.args.made.now tail front c.args-2.result.now c.count-count.result c.args.subscription c.value.result c.value-2.result
    c.requires.tail c.requires.plain c.count-count.ensures c.args-2.ensures.same c.value.ensures.number c.value-2.ensures.number c.put_event.ensures.put in
    let whole = length_is front tail closing message c.len.result c.closing_len.result payload c.len.ensures c.closing_len.ensures in
    c.in_default.ensures.ok
    ∙ ap (λ h. old ++ (h ++ (tail ++ closing))) (c.as_slice.ensures ∙ c.put_header.ensures)
    ∙ ap (λ n. old ++ (header Message n ++ (front ++ (tail ++ closing)))) whole
    ∙ ap (λ p. old ++ (header Message (length message) ++ p)) payload

pub returns-clause-fits : goal.returns-clause-fits
returns-clause-fits c =
    let s = c.args.serializer in
    let payload = payload_is s c.args.made.now c.args.tail.now c.put_event.new.self c.args-2.result.now c.count-count.result c.args.subscription c.value.result c.value-2.result
    c.requires.tail c.requires.plain c.count-count.ensures c.args-2.ensures.same c.value.ensures.number c.value-2.ensures.number c.put_event.ensures.put in
    let whole = length_is c.put_event.new.self c.args.tail.now (list_closing s) (serialized s (event c.args.subscription c.args.made.now false false)) c.len.result c.closing_len.result payload c.len.ensures c.closing_len.ensures in
    omega (arith, whole, c.if-len-limit.false)

pub returns-clause-spelled : goal.returns-clause-spelled
returns-clause-spelled c = event_is_spelled c.args.serializer c.args.subscription c.args.made.now c.args.tail.now c.requires.tail c.requires.plain
