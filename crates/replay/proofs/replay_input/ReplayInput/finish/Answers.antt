use Rattle.std.proofs.Common.{◌≡◌, ◌<◌, length, ap, arith}
use Rattle.std.proofs.lemmas.List.{nil_from_length}
use Rattle.std.proofs.lemmas.Bool.Decides.{nat_tests}
use Rattle.replay.proofs.TranscriptSteps.{Completes-empty, Completes-line}
use Rattle.replay.proofs.replay_input.ReplayInput.finish.Goals as goal

pub returns-then-is_empty-clause-all : goal.returns-then-is_empty-clause-all
returns-then-is_empty-clause-all c =
    let t = c.args.self.now in
    let seen : length c.self.inside.rest.items ≡ length t.rest = ap (λ s. length s.rest) c.self.view_is in
    let none : length t.rest ≡ 0 = grind (arith, nat_tests) in
    Completes-empty t (nil_from_length t.rest none)

pub returns-clause-all : goal.returns-clause-all
returns-clause-all c =
    let t = c.args.self.now in
    let seen : length c.self.inside.rest.items ≡ length t.rest = ap (λ s. length s.rest) c.self.view_is in
    let some : 0 < length t.rest = grind (arith, nat_tests) in
    Completes-line t c.end_line.new.self some c.in_ok-end_line.ensures.told
