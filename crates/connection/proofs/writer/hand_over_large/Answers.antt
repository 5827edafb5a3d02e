use Rattle.std.proofs.Common.{◌++◌, ap, ◌∙◌, append_assoc}
use Rattle.rawsocket.proofs.Lemmas.{grown_further, grown_second, whole_grown}
use Rattle.connection.proofs.writer.hand_over_large.Goals as goal

pub returns-in-Err-write-clause-begun : goal.returns-in-Err-write-clause-begun
returns-in-Err-write-clause-begun g c =
    grown_second (g.S.Sink.seen c.args.sink.now).taken (g.S.Sink.seen c.hand_over.new.sink).taken (g.S.Sink.seen c.write.new.sink).taken c.args.gathered.now.frames.items c.args.end.arguments.now c.args.end.closing.now
    c.in_default.ensures.passed c.in-Err-write.ensures.begun

pub returns-in-Err-write-2-clause-begun : goal.returns-in-Err-write-2-clause-begun
returns-in-Err-write-2-clause-begun g c =
    let handed = (g.S.Sink.seen c.hand_over.new.sink).taken in
    let last = (g.S.Sink.seen c.write-2.new.sink).taken in
    grown_further (g.S.Sink.seen c.args.sink.now).taken handed last c.args.gathered.now.frames.items (c.args.end.arguments.now ++ c.args.end.closing.now) c.in_default.ensures.passed
    (grown_further handed (g.S.Sink.seen c.write.new.sink).taken last c.args.end.arguments.now c.args.end.closing.now c.in_default-write.ensures.passed c.in-Err-write-2.ensures.begun)

pub returns-clause-begun : goal.returns-clause-begun
returns-clause-begun g c =
    let before = (g.S.Sink.seen c.args.sink.now).taken in
    let frames = c.args.gathered.now.frames.items in
    let arguments = c.args.end.arguments.now in
    let closing = c.args.end.closing.now in
    whole_grown before (g.S.Sink.seen c.write-2.new.sink).taken (frames ++ (arguments ++ closing))
    (c.in_default-write-2.ensures.passed ∙ ap (λ o. o ++ closing) (c.in_default-write.ensures.passed ∙ ap (λ o. o ++ arguments) c.in_default.ensures.passed)
    ∙ append_assoc (before ++ frames) arguments closing ∙ append_assoc before frames (arguments ++ closing))
