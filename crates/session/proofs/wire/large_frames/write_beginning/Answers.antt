use Rattle.std.proofs.Common.{◌≡◌, ◌+◌, ◌++◌, ℕ, List, [], Bool, length, inl, ap, ap₂, ◌∙◌, append_assoc, arith, length-append}
use Rattle.message_tree.specs.Data.{dict}
use Rattle.msgpack_codec.specs.Short.{item_count}
use Rattle.rawsocket.specs.Frames.{header}
use Rattle.rawsocket.specs.declared.frame.Kind.TheVariants.{Message}
use Rattle.rawsocket.specs.declared.handshake.Serializer.{Serializer}
use Rattle.arguments.specs.Endings.{IsEnding}
use Rattle.wamp_messages.specs.Arguments.{last_items}
use Rattle.wamp_messages.specs.declared.item.Publication.{Publication}
use Rattle.session.specs.Serializer.{serialized}
use Rattle.session.specs.ToClient.{event, event_details}
use Rattle.session.specs.body.EventHead.{event_beginning}
use Rattle.session.specs.body.SerializedParts.{list_closing}
use Rattle.session.proofs.EventParts.{event_whole}
use Rattle.session.proofs.wire.large_frames.write_beginning.Goals as goal

abbrev beginning_of : Serializer → ℕ → Publication → Bool → Bool → List ℕ
beginning_of s subscription made with_topic retained =
    event_beginning s (4 + item_count (last_items made.args.args made.args.kwargs)) subscription made.id (dict (event_details made with_topic retained))

-- what was put before the arguments makes an EVENT with them
payload_is : (s : Serializer) (subscription : ℕ) (made : Publication) (with_topic retained : Bool) (arguments beginning before since none all : List ℕ) → IsEnding s made.args arguments
    → beginning ≡ before ++ since → before ≡ none → none ≡ [] → since ≡ all ++ beginning_of s subscription made with_topic retained → all ≡ []
    → beginning ++ (arguments ++ list_closing s) ≡ serialized s (event subscription made with_topic retained)
payload_is s subscription made with_topic retained arguments beginning before since none all t is was empty put nothing =
    let put_is = is ∙ ap₂ (λ x y. x ++ y) (was ∙ empty) (put ∙ ap (λ x. x ++ beginning_of s subscription made with_topic retained) nothing) in
    ap (λ b. b ++ (arguments ++ list_closing s)) put_is
    ∙ ap (λ a. beginning_of s subscription made with_topic retained ++ (a ++ list_closing s)) t.octets_are
    ∙ event_whole s subscription made with_topic retained

length_is : (front arguments closing close whole : List ℕ) (len : ℕ) → front ++ (arguments ++ closing) ≡ whole → len ≡ length front → close ≡ closing
    → len + length arguments + length close ≡ length whole
length_is front arguments closing close whole len is l k =
    omega (arith, ap length is, length-append front (arguments ++ closing), length-append arguments closing, l, ap length k)

pub returns-then-len-limit-clause-long : goal.returns-then-len-limit-clause-long
returns-then-len-limit-clause-long c = λ _.
    let s = c.args.serializer in
    let payload = payload_is s c.args.subscription c.args.made.now c.args.with_topic c.args.retained c.args.arguments.now c.into_vec-beginning.result.items c.put_beginning.new.out.before c.put_beginning.new.out.since
    c.new.result.items c.new-beginning.result.since c.requires.arguments c.into_vec-beginning.ensures (c.in_ok-put_beginning.ensures.before ∙ c.new-beginning.ensures.before) c.new.ensures.items
    c.in_ok-put_beginning.ensures.ok c.new-beginning.ensures.since in
    let whole = length_is c.into_vec-beginning.result.items c.args.arguments.now (list_closing s) c.closing.result.now (serialized s (event c.args.subscription c.args.made.now c.args.with_topic c.args.retained)) c.len.result
    payload (c.len.ensures ∙ c.into_vec-beginning.result.ok.0) c.closing.ensures in
    inl (omega (arith, whole, c.if-len-limit.true))

pub returns-clause-ok : goal.returns-clause-ok
returns-clause-ok c =
    let s = c.args.serializer in
    let old = c.args.out.now.items in
    let arguments = c.args.arguments.now in
    let message = serialized s (event c.args.subscription c.args.made.now c.args.with_topic c.args.retained) in
    let beginning = c.into_vec-beginning.result.items in
    let payload = payload_is s c.args.subscription c.args.made.now c.args.with_topic c.args.retained arguments beginning c.put_beginning.new.out.before c.put_beginning.new.out.since
    c.new.result.items c.new-beginning.result.since c.requires.arguments c.into_vec-beginning.ensures (c.in_ok-put_beginning.ensures.before ∙ c.new-beginning.ensures.before) c.new.ensures.items
    c.in_ok-put_beginning.ensures.ok c.new-beginning.ensures.since in
    let whole = length_is beginning arguments (list_closing s) c.closing.result.now message c.len.result payload (c.len.ensures ∙ c.into_vec-beginning.result.ok.0) c.closing.ensures in
    let head = header Message (length message) in
    ap (λ o. o ++ (arguments ++ list_closing s)) (c.in_default.ensures.ok ∙ ap₂ (λ h b. old ++ (h ++ b)) (c.header.ensures ∙ ap (λ n. header Message n) whole) c.as_slice.ensures.value)
    ∙ append_assoc old (head ++ beginning) (arguments ++ list_closing s)
    ∙ ap (λ o. old ++ o) (append_assoc head beginning (arguments ++ list_closing s) ∙ ap (λ p. head ++ p) payload)

pub returns-clause-fits : goal.returns-clause-fits
returns-clause-fits c =
    let s = c.args.serializer in
    let payload = payload_is s c.args.subscription c.args.made.now c.args.with_topic c.args.retained c.args.arguments.now c.into_vec-beginning.result.items c.put_beginning.new.out.before c.put_beginning.new.out.since
    c.new.result.items c.new-beginning.result.since c.requires.arguments c.into_vec-beginning.ensures (c.in_ok-put_beginning.ensures.before ∙ c.new-beginning.ensures.before) c.new.ensures.items
    c.in_ok-put_beginning.ensures.ok c.new-beginning.ensures.since in
    let whole = length_is c.into_vec-beginning.result.items c.args.arguments.now (list_closing s) c.closing.result.now (serialized s (event c.args.subscription c.args.made.now c.args.with_topic c.args.retained)) c.len.result
    payload (c.len.ensures ∙ c.into_vec-beginning.result.ok.0) c.closing.ensures in
    omega (arith, whole, c.if-len-limit.false)
