use Rattle.std.proofs.Common.{◌≡◌, ◌<◌, false, [], ◌∷◌, ◌++◌, ◌+◌, ◌-◌, ◌∙◌, arith, drop, inl, length, refl, rules, subst, take}
use Rattle.std.proofs.lemmas.Bool.Decides.{nat_tests}
use Rattle.client_commands.specs.Acts.{standing_of, terms_of}
use Rattle.client_commands.specs.Ends.{EndsAtLine}
use Rattle.client_commands.specs.Lines.{has_line_feed}
use Rattle.client_commands.specs.Pacing.{AllAnswered}
use Rattle.client_commands.specs.declared.fault.Fault.TheVariants.{BadLine}
use Rattle.client_commands.proofs.EndsLemmas.{cut-at, ends-at, ends-by-answer, ends-long}
use Rattle.client_commands.proofs.PublishingLemmas.{cut-done, piece-step, published-answers, published-kept, published-rest, published-step, rest-after}
use Rattle.client_commands.proofs.publishing.publish_piece.Goals as goal

pub lines-preserved : goal.lines-preserved
lines-preserved g c =
    let command = c.args.command.now in
    let left = c.lines.left.now in
    let at = c.in-Some.at in
    let done = c.lines.invariant.done in
    let mid = standing_of c.lines.session (g.I.Source.seen c.lines.source) (g.O.Sink.seen c.lines.sink) in
    let now = standing_of c.publish_line.new.session (g.I.Source.seen c.publish_line.new.source) (g.O.Sink.seen c.publish_line.new.sink) in
    record {
      done = done ++ (take at left ++ 10 ∷ []);
      piece = piece-step c.args.piece.now done left (take at left) (drop (at + 1) left) (take (length left - (at + 1)) (drop (at + 1) left)) c.lines.invariant.piece c.in-Some.ensures.at (rest-after left at c.in-Some.ensures.within);
      published = λ before input p.
          published-step command (terms_of c.args.session.now) before (terms_of c.lines.session) mid now input done c.lines.progress.rest.items (take at left) c.extend_from_slice.new.self.items c.publish_line.new.progress.rest.items
          c.lines.progress.count c.publish_line.new.progress.count c.lines.progress.answered c.publish_line.new.progress.answered c.lines.invariant.terms c.in-Some.ensures.clean c.in-Ok.ensures.items
          (c.lines.invariant.published before input p) c.in_default-publish_line.ensures.published c.in_default-publish_line.ensures.rest c.in_default-publish_line.ensures.count;
      terms = c.publish_line.ensures.terms ∙ c.lines.invariant.terms;
      reads = omega (arith, c.in_default-publish_line.ensures.reads, c.lines.invariant.reads);
      writes = omega (arith, c.in_default-publish_line.ensures.writes, c.lines.invariant.writes);
    }

pub returns-in-Err-clause-ends : goal.returns-in-Err-clause-ends
returns-in-Err-clause-ends g c =
    let command = c.args.command.now in
    let t = terms_of c.args.session.now in
    let left = c.lines.left.now in
    let front = take c.in-Some.at left in
    let behind = drop (c.in-Some.at + 1) left in
    let done = c.lines.invariant.done in
    let rest = c.lines.progress.rest.items in
    let count = c.lines.progress.count in
    let answered = c.lines.progress.answered in
    let mid = standing_of c.lines.session (g.I.Source.seen c.lines.source) (g.O.Sink.seen c.lines.sink) in
    let now = standing_of c.publish_line.new.session (g.I.Source.seen c.publish_line.new.source) (g.O.Sink.seen c.publish_line.new.sink) in
    λ is before input p.
    ends-at command t before (terms_of c.lines.session) mid now ((input ++ done) ++ front) (10 ∷ behind) (rest ++ front) (input ++ c.args.piece.now) count answered false c.in-Err.fault
    c.lines.invariant.terms (cut-at input c.args.piece.now done left front (10 ∷ behind) c.lines.invariant.piece c.in-Some.ensures.at) (inl (behind, refl))
    (published-rest command t before mid (input ++ done) rest front count answered c.in-Some.ensures.clean (c.lines.invariant.published before input p))
    (λ b ls counted q. subst (λ xs. EndsAtLine command (terms_of c.lines.session) b now ls xs c.in-Err.fault) c.in-Ok.ensures.items (c.in-Err.ensures.ends is b ls counted q))

pub returns-in-Err-hear_answers-clause-ends : goal.returns-in-Err-hear_answers-clause-ends
returns-in-Err-hear_answers-clause-ends g c =
    let command = c.args.command.now in
    let t = terms_of c.args.session.now in
    let left = c.lines.left.now in
    let done = c.lines.invariant.done in
    let piece = c.args.piece.now in
    let mid = standing_of c.lines.session (g.I.Source.seen c.lines.source) (g.O.Sink.seen c.lines.sink) in
    let now = standing_of c.hear_answers.new.session (g.I.Source.seen c.hear_answers.new.source) (g.O.Sink.seen c.hear_answers.new.sink) in
    λ is before input p.
    ends-by-answer command t before (terms_of c.lines.session) mid now (input ++ done) left c.lines.progress.rest.items (input ++ piece) c.lines.progress.count c.lines.progress.answered false c.in-Err-hear_answers.fault
    c.lines.invariant.terms (cut-done input piece done left c.lines.invariant.piece) (c.lines.invariant.published before input p)
    (c.in-Err-hear_answers.ensures.ends is)

pub returns-then-len-gt-LONGEST-clause-ends : goal.returns-then-len-gt-LONGEST-clause-ends
returns-then-len-gt-LONGEST-clause-ends g c =
    let command = c.args.command.now in
    let t = terms_of c.args.session.now in
    let left = c.lines.left.now in
    let done = c.lines.invariant.done in
    let piece = c.args.piece.now in
    let progress = c.hear_answers.new.progress in
    let kept = c.extend_from_slice-2.new.self.items in
    let mid = standing_of c.lines.session (g.I.Source.seen c.lines.source) (g.O.Sink.seen c.lines.sink) in
    let now = standing_of c.hear_answers.new.session (g.I.Source.seen c.hear_answers.new.source) (g.O.Sink.seen c.hear_answers.new.sink) in
    let clean : has_line_feed left ≡ false = search rules in
    let long : 1048576 < length kept = grind (arith, nat_tests) in
    let all : AllAnswered command.wishes.acknowledge progress.count progress.answered = λ asked. omega (arith, c.in_default-hear_answers.ensures.few asked, progress.due) in
    λ _ before input p.
    ends-long command t before now (input ++ piece) kept progress.count progress.answered (BadLine (progress.count + 1)) refl long all
    (published-kept command t before now input done piece progress.rest.items left kept progress.count progress.answered clean c.in-Ok-extend_from_slice.ensures.items c.lines.invariant.piece
    (published-answers command t before (terms_of c.lines.session) mid now (input ++ done) c.lines.progress.rest.items progress.rest.items c.lines.progress.count progress.count c.lines.progress.answered progress.answered
    c.lines.invariant.terms c.hear_answers.ensures.rest c.hear_answers.ensures.count c.in_default-hear_answers.ensures.published (c.lines.invariant.published before input p)))

pub returns-clause-published : goal.returns-clause-published
returns-clause-published g c =
    let command = c.args.command.now in
    let t = terms_of c.args.session.now in
    let left = c.lines.left.now in
    let done = c.lines.invariant.done in
    let piece = c.args.piece.now in
    let progress = c.hear_answers.new.progress in
    let kept = c.extend_from_slice-2.new.self.items in
    let mid = standing_of c.lines.session (g.I.Source.seen c.lines.source) (g.O.Sink.seen c.lines.sink) in
    let now = standing_of c.hear_answers.new.session (g.I.Source.seen c.hear_answers.new.source) (g.O.Sink.seen c.hear_answers.new.sink) in
    let clean : has_line_feed left ≡ false = search rules in
    λ before input p.
    published-kept command t before now input done piece progress.rest.items left kept progress.count progress.answered clean c.in-Ok-extend_from_slice.ensures.items c.lines.invariant.piece
    (published-answers command t before (terms_of c.lines.session) mid now (input ++ done) c.lines.progress.rest.items progress.rest.items c.lines.progress.count progress.count c.lines.progress.answered progress.answered
    c.lines.invariant.terms c.hear_answers.ensures.rest c.hear_answers.ensures.count c.in_default-hear_answers.ensures.published (c.lines.invariant.published before input p))

pub returns-clause-all : goal.returns-clause-all
returns-clause-all g c = λ asked. omega (arith, c.in_default-hear_answers.ensures.few asked, c.hear_answers.new.progress.due)
