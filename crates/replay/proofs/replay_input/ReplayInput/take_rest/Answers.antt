use Rattle.std.proofs.Common.{◌≡◌, ◌∙◌, sym, ap, ◌<◌, ◌+◌, length, arith, append-nil, subst, false, []}
use Rattle.replay.specs.Progress.{Stops}
use Rattle.replay.proofs.TranscriptSteps.{Goes-hold, Stops-after, Stops-long}
use Rattle.replay.proofs.replay_input.ReplayInput.take_rest.Goals as goal

pub returns-then-len-gt-LONGEST-clause-bad : goal.returns-then-len-gt-LONGEST-clause-bad
returns-then-len-gt-LONGEST-clause-bad c = λ k is.
    let t = c.args.self.now in
    let u = c.keep_octets.new.self in
    let goes = Goes-hold t u c.args.octets.now c.requires.clean c.in_ok-keep_octets.ensures.held in
    let seen : length c.self.inside.rest.items ≡ length u.rest = ap (λ s. length s.rest) c.self.view_is in
    let long : 1048576 < length u.rest = omega arith in
    let counted : c.self.inside.count + 1 ≡ k = cc in
    let place : k ≡ u.count + 1 = sym counted ∙ ap (λ s. s.count + 1) c.self.view_is in
    subst (λ o. Stops t o false k u) (append-nil c.args.octets.now) (Stops-after t u u c.args.octets.now [] false k goes (Stops-long u k long place))
