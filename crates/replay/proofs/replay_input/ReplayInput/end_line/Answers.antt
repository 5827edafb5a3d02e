use Rattle.std.proofs.Common.{subst, sym}
use Rattle.replay.specs.Progress.{TellsMore}
use Rattle.replay.proofs.TranscriptSteps.{tells-line}
use Rattle.replay.proofs.replay_input.ReplayInput.end_line.Goals as goal

pub returns-clause-told : goal.returns-clause-told
returns-clause-told c =
    let is_line = rw c.deref.ensures.value at c.in-Some.ensures.value in
    subst (λ s. TellsMore s.replay s.rest c.apply_line.new.self s.out c.apply_line.new.out.items) c.self.view_is
    (tells-line c.self.inside.script c.self.inside.rest.items (record { number = c.in-Some.line.number; text = c.in-Some.line.text.now }) c.in_ok-speech.speech c.apply_line.new.self c.self.inside.out.items c.apply_line.new.out.items
    (sym is_line) c.in_ok-speech.ensures.heard c.in_ok-apply_line.ensures.next c.in_ok-apply_line.ensures.printed)
