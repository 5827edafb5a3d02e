use Rattle.std.proofs.lemmas.Result.{IfOk-weaker}
use Rattle.realm.proofs.ApplyLemmas.{turns-hello, turns-abort, turns-goodbye, turns-published, turns-subscribed, turns-unsubscribed}
use Rattle.realm.proofs.dispatch.answer_said.Goals as goal

pub returns-in-Hello-clause-ok : goal.returns-in-Hello-clause-ok
returns-in-Hello-clause-ok c =
    rw c.in-Hello.is (IfOk-weaker c.leave.result _ _
    (λ given is. turns-hello c.args.state.now c.leave.new.state c.args.conn c.args.word c.in-Hello.realm c.in-Hello.authid given.items is)
    c.leave.ensures.ok)

pub returns-in-Abort-clause-ok : goal.returns-in-Abort-clause-ok
returns-in-Abort-clause-ok c =
    rw c.in-Abort.is (IfOk-weaker c.leave-in-Abort.result _ _
    (λ given is. turns-abort c.args.state.now c.leave-in-Abort.new.state c.args.conn c.args.word given.items is)
    c.leave-in-Abort.ensures.ok)

pub returns-in-Goodbye-clause-ok : goal.returns-in-Goodbye-clause-ok
returns-in-Goodbye-clause-ok c =
    rw c.in-Goodbye.is (IfOk-weaker c.leave-in-Goodbye.result _ _
    (λ given is. turns-goodbye c.args.state.now c.leave-in-Goodbye.new.state c.args.conn c.args.word given.items is)
    c.leave-in-Goodbye.ensures.ok)

pub returns-in-Publish-clause-ok : goal.returns-in-Publish-clause-ok
returns-in-Publish-clause-ok c =
    rw c.in-Publish.is (IfOk-weaker c.publish.result _ _
    (λ given is. turns-published c.args.state.now c.publish.new.state c.args.conn c.args.word c.in-Publish.what given.items is)
    c.publish.ensures.ok)

pub returns-in-Subscribe-clause-ok : goal.returns-in-Subscribe-clause-ok
returns-in-Subscribe-clause-ok c =
    rw c.in-Subscribe.is (IfOk-weaker c.subscribe.result _ _
    (λ given is. turns-subscribed c.args.state.now c.subscribe.new.state c.args.conn c.args.word c.in-Subscribe.request c.in-Subscribe.options c.in-Subscribe.topic given.items is)
    c.subscribe.ensures.ok)

pub returns-clause-ok : goal.returns-clause-ok
returns-clause-ok c =
    rw c.in-Unsubscribe.is (IfOk-weaker c.unsubscribe.result _ _
    (λ given is. turns-unsubscribed c.args.state.now c.unsubscribe.new.state c.args.conn c.args.word c.in-Unsubscribe.request c.in-Unsubscribe.subscription given.items is)
    c.unsubscribe.ensures.ok)
