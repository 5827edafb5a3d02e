use Rattle.std.proofs.Common.{inl, refl}
use Rattle.rawsocket.specs.Frames.{contents}
use Rattle.rawsocket.proofs.Lemmas.{no_steps, then_steps}
use Rattle.client_session.specs.Hearing.{HearsNone, ear, terms}
use Rattle.client_session.proofs.HearingLemmas.{hears_later, none_later, reads_held}
use Rattle.client_session.proofs.inbox.hear_next.Goals as goal

pub looks-init : goal.looks-init
looks-init g c = record { yet = inl refl; most = c.requires.most; steady = c.requires.steady; reads = no_steps _; writes = no_steps _ }

pub returns-in-Ok-Some-clause-next : goal.returns-in-Ok-Some-clause-next
returns-in-Ok-Some-clause-next g c =
    hears_later (terms c.args.broker.serializer c.args.broker.limit) _ _ _ _ c.looks.invariant.yet (rw c.in-Ok-Some.field-0-is at c.in-Ok-Some.ensures.next)

pub returns-in-Err-clause-next : goal.returns-in-Err-clause-next
returns-in-Err-clause-next g c = hears_later (terms c.args.broker.serializer c.args.broker.limit) _ _ _ _ c.looks.invariant.yet c.in-Err.ensures.next

pub looks-preserved : goal.looks-preserved
looks-preserved g c =
    let t = terms c.args.broker.serializer c.args.broker.limit in
    let mid = ear (contents c.looks.inbox.waiting.items) c.looks.inbox.deframer.held (g.I.Source.seen c.looks.source).given (g.O.Sink.seen c.looks.sink).taken in
    let now = ear (contents c.listen_next.new.inbox.waiting.items) c.listen_next.new.inbox.deframer.held (g.I.Source.seen c.listen_next.new.source).given (g.O.Sink.seen c.listen_next.new.sink).taken in
    let none : HearsNone t mid now = rw c.in-Ok-None.field-0-is at c.in-Ok-None.ensures.next in
    record {
      yet = none_later t _ mid now c.looks.invariant.yet none;
      most = c.listen_next.ensures.most;
      steady = reads_held _ _ _ none.reads;
      reads = then_steps c.looks.invariant.reads c.in-Ok-None.ensures.reads;
      writes = then_steps c.looks.invariant.writes c.in-Ok-None.ensures.writes;
    }
