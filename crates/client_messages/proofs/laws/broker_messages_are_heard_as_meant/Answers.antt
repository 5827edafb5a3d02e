use Rattle.std.proofs.Common.{sym}
use Rattle.wamp_messages.specs.declared.item.Item.TheVariants as told
use Rattle.client_messages.proofs.HeardAsMeant.{AreArguments, heard_as_meant}
use Rattle.client_messages.proofs.laws.broker_messages_are_heard_as_meant.Goals as goal

pub returns-in-Welcome : goal.returns-in-Welcome
returns-in-Welcome c = rw c.in-Welcome.is (heard_as_meant (told.Welcome c.in-Welcome.who) c.is_id.ensures tt)

pub returns-in-Error : goal.returns-in-Error
returns-in-Error c =
    let e = c.in-Error in
    rw e.is (heard_as_meant (told.Error e.kind e.request e.reason) c.is_id-in-Error.ensures tt)

pub returns-in-Published : goal.returns-in-Published
returns-in-Published c =
    let ids = c.are_ids.ensures in
    rw c.in-Published.is (heard_as_meant (told.Published c.in-Published.request c.in-Published.publication) (ids.one, ids.other) tt)

pub returns-in-Subscribed : goal.returns-in-Subscribed
returns-in-Subscribed c =
    let ids = c.are_ids-in-Subscribed.ensures in
    rw c.in-Subscribed.is (heard_as_meant (told.Subscribed c.in-Subscribed.request c.in-Subscribed.subscription) (ids.one, ids.other) tt)

pub returns-in-Unsubscribed : goal.returns-in-Unsubscribed
returns-in-Unsubscribed c = rw c.in-Unsubscribed.is (heard_as_meant (told.Unsubscribed c.in-Unsubscribed.request) c.is_id-in-Unsubscribed.ensures tt)

pub returns-in-Event : goal.returns-in-Event
returns-in-Event c =
    let e = c.in-Event in
    let made = c.value-made in
    let ids = c.are_ids-in-Event.ensures in
    let same = c.args-in-Event.ensures.same in
    let fit : AreArguments made.result.now.args = record {
      args = rw same at c.are_arguments.ensures.args;
      kwargs = rw same at c.are_arguments.ensures.kwargs;
      alone = rw same at c.are_arguments.ensures.alone;
    } in
    rw (e.is, sym made.ensures) (heard_as_meant (told.Event e.subscription made.result.now e.with_topic e.retained) (ids.one, ids.other, c.is_id-in-Event.ensures) fit)

pub returns-in-Abort : goal.returns-in-Abort
returns-in-Abort c = rw c.in-Abort.is (heard_as_meant (told.Abort c.in-Abort.field-0) tt tt)

pub returns-in-Goodbye : goal.returns-in-Goodbye
returns-in-Goodbye c = rw c.in-Goodbye.is (heard_as_meant (told.Goodbye c.in-Goodbye.field-0) tt tt)

pub returns-in-Pong : goal.returns-in-Pong
returns-in-Pong c = rw c.in-Pong.is (heard_as_meant (told.Pong c.in-Pong.field-0) tt tt)
