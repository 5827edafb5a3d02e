use Rattle.client_messages.proofs.ReadBack.{reads, said_of-hello, said_of-abort, said_of-goodbye, said_of-publish, said_of-subscribe, said_of-unsubscribe}
use Rattle.client_messages.proofs.saying.said_message.Goals as goal

pub returns-in-Hello-clause-reads : goal.returns-in-Hello-clause-reads
returns-in-Hello-clause-reads c = rw c.in-Hello.is (reads _ _ _ c.hello.ensures.message (said_of-hello _ _))

pub returns-in-Abort-clause-reads : goal.returns-in-Abort-clause-reads
returns-in-Abort-clause-reads c = rw c.in-Abort.is (reads _ _ _ c.ending.ensures.message (said_of-abort _))

pub returns-in-Goodbye-clause-reads : goal.returns-in-Goodbye-clause-reads
returns-in-Goodbye-clause-reads c = rw c.in-Goodbye.is (reads _ _ _ c.ending-in-Goodbye.ensures.message (said_of-goodbye _))

pub returns-in-GoodbyeAndOut-clause-reads : goal.returns-in-GoodbyeAndOut-clause-reads
returns-in-GoodbyeAndOut-clause-reads c = rw c.in-GoodbyeAndOut.is (reads _ _ _ c.ending-in-GoodbyeAndOut.ensures.message (said_of-goodbye _))

pub returns-in-Publish-clause-reads : goal.returns-in-Publish-clause-reads
returns-in-Publish-clause-reads c =
    let told = c.publish.ensures in
    rw c.in-Publish.is (reads _ _ _ told.message (said_of-publish _ _ _ _ told.id told.args_kind told.kwargs_kind told.alone))

pub returns-in-Subscribe-clause-reads : goal.returns-in-Subscribe-clause-reads
returns-in-Subscribe-clause-reads c = rw c.in-Subscribe.is (reads _ _ _ c.subscribe.ensures.message (said_of-subscribe _ _ _ c.subscribe.ensures.id))

pub returns-in-Unsubscribe-clause-reads : goal.returns-in-Unsubscribe-clause-reads
returns-in-Unsubscribe-clause-reads c =
    rw c.in-Unsubscribe.is (reads _ _ _ c.unsubscribe.ensures.message (said_of-unsubscribe _ _ c.unsubscribe.ensures.request_id c.unsubscribe.ensures.subscription_id))
