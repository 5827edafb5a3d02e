use Rattle.std.proofs.lemmas.Result.{IfOk-weaker}
use Rattle.realm.proofs.ApplyLemmas.{turns-joined, turns-ping, turns-spoilt, turns-gone, turns-cut, turns-closed}
use Rattle.realm.proofs.dispatch.answer.Goals as goal

pub returns-in-Join-clause-ok : goal.returns-in-Join-clause-ok
returns-in-Join-clause-ok c =
    rw c.in-Join.is (IfOk-weaker c.join.result _ _
    (λ given is. turns-joined c.args.state.now c.join.new.state c.in-Join.conn c.in-Join.word c.in-Join.authid given.items is)
    c.join.ensures.ok)

pub returns-in-Ping-clause-ok : goal.returns-in-Ping-clause-ok
returns-in-Ping-clause-ok c =
    rw c.in-Ping.is (IfOk-weaker c.one.result _ _
    (λ given is. turns-ping c.args.state.now c.in-Ping.conn c.in-Ping.payload given.items is)
    c.one.ensures)

pub returns-in-Spoilt-clause-ok : goal.returns-in-Spoilt-clause-ok
returns-in-Spoilt-clause-ok c =
    rw c.in-Spoilt.is (IfOk-weaker c.leave.result _ _
    (λ given is. turns-spoilt c.args.state.now c.leave.new.state c.in-Spoilt.conn c.in-Spoilt.word given.items is)
    c.leave.ensures.ok)

pub returns-in-Gone-clause-ok : goal.returns-in-Gone-clause-ok
returns-in-Gone-clause-ok c =
    rw c.in-Gone.is (IfOk-weaker c.leave-in-Gone.result _ _
    (λ given is. turns-gone c.args.state.now c.leave-in-Gone.new.state c.in-Gone.conn c.in-Gone.word given.items is)
    c.leave-in-Gone.ensures.ok)

pub returns-in-Cut-clause-ok : goal.returns-in-Cut-clause-ok
returns-in-Cut-clause-ok c =
    rw c.in-Cut.is (IfOk-weaker c.cut.result _ _
    (λ given is. turns-cut c.args.state.now c.cut.new.state c.in-Cut.conn c.in-Cut.word given.items is)
    c.cut.ensures.ok)

pub returns-in-Closed-clause-ok : goal.returns-in-Closed-clause-ok
returns-in-Closed-clause-ok c =
    rw c.in-Closed.is (IfOk-weaker c.leave-in-Closed.result _ _
    (λ given is. turns-closed c.args.state.now c.leave-in-Closed.new.state c.in-Closed.conn c.in-Closed.word given.items is)
    c.leave-in-Closed.ensures.ok)
