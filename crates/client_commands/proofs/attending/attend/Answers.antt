use Rattle.std.proofs.Common.{◌∙◌, Ok, arith, inl, refl, subst, sym}
use Rattle.rawsocket.specs.Steps.{Told}
use Rattle.client_session.specs.Hearing.{HearsNext, HearsNone, Terms}
use Rattle.client_session.proofs.HearingLemmas.{none_later}
use Rattle.client_commands.specs.Acts.{standing_of, terms_of}
use Rattle.client_commands.specs.Faults.{ReadFailuresTold, WriteFailuresTold}
use Rattle.client_commands.proofs.FaultLemmas.{no-end}
use Rattle.client_commands.proofs.StopLemmas.{stops-by-message, stops-later}
use Rattle.client_commands.proofs.attending.attend.Goals as goal

pub arrivals-init : goal.arrivals-init
arrivals-init g c = record { yet = inl refl; terms = refl; reads = refl; writes = refl }

pub arrivals-preserved : goal.arrivals-preserved
arrivals-preserved g c =
    let mid = standing_of c.arrivals.session (g.I.Source.seen c.arrivals.source) (g.O.Sink.seen c.arrivals.sink) in
    let now = standing_of c.listen.new.session (g.I.Source.seen c.listen.new.source) (g.O.Sink.seen c.listen.new.sink) in
    let none : HearsNone (terms_of c.arrivals.session) mid now = rw c.in-Ok-None.field-0-is at c.in-Ok-None.ensures.next in
    record {
      yet =
          none_later (terms_of c.args.session.now) (standing_of c.args.session.now (g.I.Source.seen c.args.source.now) (g.O.Sink.seen c.args.sink.now)) mid now c.arrivals.invariant.yet
          (subst (λ (u : Terms). HearsNone u mid now) c.arrivals.invariant.terms none);
      terms = c.listen.ensures.terms ∙ c.arrivals.invariant.terms;
      reads = omega (arith, c.in-Ok-None.ensures.reads, c.arrivals.invariant.reads);
      writes = omega (arith, c.in-Ok-None.ensures.writes, c.arrivals.invariant.writes);
    }

pub returns-in-Ok-Some-clause-stops : goal.returns-in-Ok-Some-clause-stops
returns-in-Ok-Some-clause-stops g c =
    let mid = standing_of c.arrivals.session (g.I.Source.seen c.arrivals.source) (g.O.Sink.seen c.arrivals.sink) in
    let now = standing_of c.listen.new.session (g.I.Source.seen c.listen.new.source) (g.O.Sink.seen c.listen.new.sink) in
    let next : HearsNext (terms_of c.arrivals.session) mid now (Ok c.in-Ok-Some.heard) = rw c.in-Ok-Some.field-0-is at c.in-Ok-Some.ensures.next in
    stops-later (terms_of c.args.session.now) (terms_of c.arrivals.session) (standing_of c.args.session.now (g.I.Source.seen c.args.source.now) (g.O.Sink.seen c.args.sink.now)) mid now c.fault_of.result
    c.arrivals.invariant.terms c.arrivals.invariant.yet (stops-by-message (terms_of c.arrivals.session) mid now c.in-Ok-Some.heard c.fault_of.result next c.fault_of.ensures.why)

pub returns-in-Err-clause-stops : goal.returns-in-Err-clause-stops
returns-in-Err-clause-stops g c =
    stops-later (terms_of c.args.session.now) (terms_of c.arrivals.session) (standing_of c.args.session.now (g.I.Source.seen c.args.source.now) (g.O.Sink.seen c.args.sink.now))
    (standing_of c.arrivals.session (g.I.Source.seen c.arrivals.source) (g.O.Sink.seen c.arrivals.sink)) (standing_of c.listen.new.session (g.I.Source.seen c.listen.new.source) (g.O.Sink.seen c.listen.new.sink)) c.in-Err.fault
    c.arrivals.invariant.terms c.arrivals.invariant.yet c.in-Err.ensures.stops

pub returns-in-Ok-Some-clause-gone : goal.returns-in-Ok-Some-clause-gone
returns-in-Ok-Some-clause-gone g c = no-end c.fault_of.result (g.I.Source.seen c.listen.new.source).is_ended c.fault_of.ensures.of_here.end

pub returns-in-Ok-Some-clause-reads : goal.returns-in-Ok-Some-clause-reads
returns-in-Ok-Some-clause-reads g c =
    subst (λ (t : Told). ReadFailuresTold (g.I.Source.seen c.args.source.now) (g.I.Source.seen c.listen.new.source) t) (sym c.fault_of.ensures.of_here.source)
    (omega (arith, c.in-Ok-Some.ensures.reads, c.arrivals.invariant.reads))

pub returns-in-Ok-Some-clause-writes : goal.returns-in-Ok-Some-clause-writes
returns-in-Ok-Some-clause-writes g c =
    subst (λ (t : Told). WriteFailuresTold (g.O.Sink.seen c.args.sink.now) (g.O.Sink.seen c.listen.new.sink) t) (sym c.fault_of.ensures.of_here.sink)
    (omega (arith, c.in-Ok-Some.ensures.writes, c.arrivals.invariant.writes))
