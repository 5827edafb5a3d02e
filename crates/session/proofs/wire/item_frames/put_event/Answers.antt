use Rattle.std.proofs.Common.{◌+◌, ◌++◌, ap, ◌∙◌, append_assoc}
use Rattle.message_tree.specs.Data.{dict}
use Rattle.msgpack_codec.specs.Short.{item_count}
use Rattle.session.specs.body.EventHead.{event_beginning}
use Rattle.session.specs.body.SerializedParts.{list_closing, further}
use Rattle.wamp_messages.specs.Arguments.{last_items}
use Rattle.session.specs.ToClient.{event_details}
use Rattle.session.proofs.EventParts.{event_whole}
use Rattle.session.proofs.wire.item_frames.put_event.Goals as goal

pub returns-clause-ok : goal.returns-clause-ok
returns-clause-ok c =
    let s = c.args.serializer in
    let made = c.args.made.now in
    let rest = last_items made.args.args made.args.kwargs in
    let old = c.args.out.now.since in
    let beginning = event_beginning s (4 + item_count rest) c.args.subscription made.id (dict (event_details made c.args.with_topic c.args.retained)) in
    c.in_ok-close_list.ensures.ok
    ∙ ap (λ o. o ++ list_closing s) (c.in_ok-put_tail.ensures.ok ∙ ap (λ o. o ++ further s rest) c.in_ok-put_beginning.ensures.ok)
    ∙ append_assoc (old ++ beginning) (further s rest) (list_closing s)
    ∙ append_assoc old beginning (further s rest ++ list_closing s)
    ∙ ap (λ o. old ++ o) (event_whole s c.args.subscription made c.args.with_topic c.args.retained)
