use Rattle.std.proofs.Common.{◌++◌, Err, Some, ap, ◌∙◌, append-nil, subst, sym}
use Rattle.session.specs.LargeFrames.{octets_in}
use Rattle.connection.specs.body.Writer.{EndsWith, output}
use Rattle.connection.proofs.WatchProgress.{gives_up}
use Rattle.connection.proofs.WriterProgress.{breaks_at, device_breaks}
use Rattle.connection.proofs.writer.add_frame.Goals as goal

pub returns-in-Ok-None-2-clause-ended : goal.returns-in-Ok-None-2-clause-ended
returns-in-Ok-None-2-clause-ended g c =
    let held = c.write_unless_large.new.out.items in
    let made = sym (append-nil held) ∙ ap (λ end. held ++ octets_in end) (sym c.in-Ok-None.field-0-is) ∙ c.in-Ok-None.ensures.ok in
    device_breaks c.args.client c.hand_over.result c.args.item.now (g.S.Sink.seen c.args.sink.now).taken (g.S.Sink.seen c.hand_over.new.sink).taken c.args.gathered.now.frames.items held
    c.hand_over.ensures.which made (c.in-Ok-None.ensures.fits, c.in-Ok-None.ensures.spelled) c.requires.held c.hand_over.ensures.begun

pub returns-in-Ok-Some-clause-ended : goal.returns-in-Ok-Some-clause-ended
returns-in-Ok-Some-clause-ended g c =
    let held = c.write_unless_large.new.out.items in
    let end = c.in-Ok-Some.end in
    let made = ap (λ end. held ++ octets_in end) (sym c.in-Ok-Some.field-0-is) ∙ c.in-Ok-Some.ensures.ok in
    device_breaks c.args.client c.hand_over_large.result c.args.item.now (g.S.Sink.seen c.args.sink.now).taken (g.S.Sink.seen c.hand_over_large.new.sink).taken c.args.gathered.now.frames.items (held ++ octets_in (Some end))
    c.hand_over_large.ensures.which made (c.in-Ok-Some.ensures.fits, c.in-Ok-Some.ensures.spelled) c.requires.held c.hand_over_large.ensures.begun

pub returns-in-Err-clause-ended : goal.returns-in-Err-clause-ended
returns-in-Err-clause-ended g c =
    let before = (g.S.Sink.seen c.args.sink.now).taken in
    let now = (g.S.Sink.seen c.give_up.new.sink).taken in
    breaks_at c.args.client c.in-Err.fault c.give_up.result c.args.item.now before now c.args.gathered.now.frames.items
    c.requires.held (λ long. c.in-Err.ensures.long (ap Err long)) (subst (λ h. EndsWith c.in-Err.fault c.give_up.result (output before h) now) c.in-Err.ensures.err c.give_up.ensures.ended)

pub returns-in-Err-clause-told : goal.returns-in-Err-clause-told
returns-in-Err-clause-told g c =
    gives_up c.in-Err.fault c.give_up.result c.args.item.now (g.W.Watch.told c.args.watch.now) (g.W.Watch.told c.gives_up.new.self)
    (output (g.S.Sink.seen c.args.sink.now).taken c.write_unless_large.new.out.items) (g.S.Sink.seen c.give_up.new.sink).taken c.give_up.ensures.ended c.gives_up.ensures
