use Rattle.std.proofs.Common.{subst, sym, List}
use Rattle.rawsocket.specs.Frames.{contents}
use Rattle.rawsocket.specs.declared.frame.Frame.{Frame}
use Rattle.rawsocket.proofs.Lemmas.{then_steps}
use Rattle.client_session.specs.Hearing.{Stops, stand, terms}
use Rattle.client_session.proofs.PassingLemmas.{passes_join, passes_one, stops_after, stops_first, unheard_first}
use Rattle.client_session.proofs.hearing.hear_waiting.Goals as goal

pub returns-in-Err-clause-gives : goal.returns-in-Err-clause-gives
returns-in-Err-clause-gives g c =
    let t = terms c.args.broker.serializer c.args.broker.limit in
    let before = stand (contents c.args.waiting.now.items) (g.O.Sink.seen c.args.sink.now).taken in
    let mid = stand (contents c.frames.waiting.items) (g.O.Sink.seen c.frames.sink).taken in
    subst (λ (w : List Frame). Stops t before (stand (contents w) (g.O.Sink.seen c.frames.sink).taken) c.in-Err.fault) (sym c.in-Err.ensures.stays)
    (stops_after t before mid mid c.in-Err.fault c.frames.invariant.passes (unheard_first t (contents c.frames.waiting.items) (g.O.Sink.seen c.frames.sink).taken c.in-Err.fault c.in-Err.ensures.unheard))

pub returns-in-Err-pass_first : goal.returns-in-Err-pass_first
returns-in-Err-pass_first g c =
    let t = terms c.args.broker.serializer c.args.broker.limit in
    let before = stand (contents c.args.waiting.now.items) (g.O.Sink.seen c.args.sink.now).taken in
    let mid = stand (contents c.frames.waiting.items) (g.O.Sink.seen c.frames.sink).taken in
    let now = stand (contents c.pass_first.new.waiting.items) (g.O.Sink.seen c.pass_first.new.sink).taken in
    record {
      gives = stops_after t before mid now c.in-Err-pass_first.fault c.frames.invariant.passes (stops_first t mid now c.in-Err-pass_first.fault c.in-Err-pass_first.ensures.stops);
      writes = then_steps c.frames.invariant.writes c.in-Err-pass_first.ensures.writes;
    }

pub frames-preserved : goal.frames-preserved
frames-preserved g c =
    let before = stand (contents c.args.waiting.now.items) (g.O.Sink.seen c.args.sink.now).taken in
    let mid = stand (contents c.frames.waiting.items) (g.O.Sink.seen c.frames.sink).taken in
    let now = stand (contents c.pass_first.new.waiting.items) (g.O.Sink.seen c.pass_first.new.sink).taken in
    record {
      passes = passes_join c.args.broker.limit before mid now c.frames.invariant.passes (passes_one c.args.broker.limit mid now c.in_default-pass_first.ensures.passes);
      writes = then_steps c.frames.invariant.writes c.in_default-pass_first.ensures.writes;
    }
