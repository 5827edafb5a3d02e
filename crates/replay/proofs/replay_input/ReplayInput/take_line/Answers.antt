use Rattle.std.proofs.Common.{[], ◌∷◌}
use Rattle.replay.proofs.TranscriptSteps.{Goes-hold, Goes-line, Goes-then}
use Rattle.replay.proofs.replay_input.ReplayInput.take_line.Goals as goal

pub returns-clause-told : goal.returns-clause-told
returns-clause-told c =
    let t = c.args.self.now in
    let u = c.keep_octets.new.self in
    let v = c.end_line.new.self in
    Goes-then t u v c.args.octets.now (10 ∷ []) (Goes-hold t u c.args.octets.now c.requires.clean c.in_ok-keep_octets.ensures.held)
    (Goes-line u v c.in_ok-end_line.ensures.told c.in_ok-end_line.ensures.rest c.in_ok-end_line.ensures.count)
