use Rattle.std.proofs.Common.{◌≡◌, ◌<◌, true, [], ◌∷◌, length, arith, refl, sym, subst, inl, inr, append-nil}
use Rattle.std.proofs.lemmas.List.{nil_from_length}
use Rattle.std.proofs.lemmas.Bool.Decides.{nat_tests}
use Rattle.std.proofs.lemmas.Result.{IfErr-weaker}
use Rattle.client_session.specs.Hearing.{Terms}
use Rattle.client_commands.specs.Acts.{standing_of, terms_of}
use Rattle.client_commands.specs.Ends.{IsUnanswered}
use Rattle.client_commands.proofs.EndsLemmas.{both-ok, ends-at, ends-by-last}
use Rattle.client_commands.proofs.PacingLemmas.{counts-one}
use Rattle.client_commands.proofs.PublishingLemmas.{paced-as, published-all, published-last}
use Rattle.client_commands.proofs.publishing.publish_last.Goals as goal

pub returns-then-is_empty-clause-published : goal.returns-then-is_empty-clause-published
returns-then-is_empty-clause-published g c =
    let command = c.args.command.now in
    let rest = c.args.progress.now.rest.items in
    let none : length rest ≡ 0 = grind (arith, nat_tests) in
    let now = standing_of c.args.session.now (g.I.Source.seen c.args.source.now) (g.O.Sink.seen c.args.sink.now) in
    λ given_before given before input p read.
    published-all command (terms_of c.args.session.now) before now given_before given input rest c.args.progress.now.count c.args.progress.now.answered read (nil_from_length rest none) c.requires.all p

pub returns-in-Err-clause-ends : goal.returns-in-Err-clause-ends
returns-in-Err-clause-ends g c =
    let command = c.args.command.now in
    let rest = c.args.progress.now.rest.items in
    let mid = standing_of c.args.session.now (g.I.Source.seen c.args.source.now) (g.O.Sink.seen c.args.sink.now) in
    let now = standing_of c.publish_line.new.session (g.I.Source.seen c.publish_line.new.source) (g.O.Sink.seen c.publish_line.new.sink) in
    let t = terms_of c.args.session.now in
    λ is before input p.
    ends-at command t before t mid now input [] rest input c.args.progress.now.count c.args.progress.now.answered true c.in-Err.fault refl (sym (append-nil input)) (inr (refl, inl refl)) p (c.in-Err.ensures.ends is)

pub returns-clause-published : goal.returns-clause-published
returns-clause-published g c =
    let command = c.args.command.now in
    let rest = c.args.progress.now.rest.items in
    let count = c.args.progress.now.count in
    let some : 0 < length rest = grind (arith, nat_tests) in
    let t = terms_of c.args.session.now in
    let u = terms_of c.publish_line.new.session in
    let start = standing_of c.args.session.now (g.I.Source.seen c.args.source.now) (g.O.Sink.seen c.args.sink.now) in
    let mid = standing_of c.publish_line.new.session (g.I.Source.seen c.publish_line.new.source) (g.O.Sink.seen c.publish_line.new.sink) in
    let now = standing_of c.hear_answers.new.session (g.I.Source.seen c.hear_answers.new.source) (g.O.Sink.seen c.hear_answers.new.sink) in
    let more = c.publish_line.new.progress.count in
    let between = c.publish_line.new.progress.answered in
    let answers = c.hear_answers.new.progress.answered in
    let due = c.hear_answers.new.progress.due in
    both-ok c.hear_answers.result _ _ _
    (λ heard few. λ given_before given before input p read.
    published-last command t before start now given_before given input rest count more c.args.progress.now.answered answers read some c.in_default.ensures.count
    (λ asked. omega (arith, few asked, due, c.hear_answers.ensures.count)) p
    (λ ls counted q. paced-as command t u before now (rest ∷ ls) answers c.publish_line.ensures.terms
    (heard before (rest ∷ ls) (counts-one rest ls count more counted c.in_default.ensures.count) (paced-as command u t before mid (rest ∷ ls) between (sym c.publish_line.ensures.terms) (c.in_default.ensures.published before ls counted q)))))
    c.hear_answers.ensures.published c.hear_answers.ensures.few

pub returns-clause-ends : goal.returns-clause-ends
returns-clause-ends g c =
    let command = c.args.command.now in
    let rest = c.args.progress.now.rest.items in
    let count = c.args.progress.now.count in
    let some : 0 < length rest = grind (arith, nat_tests) in
    let t = terms_of c.args.session.now in
    let u = terms_of c.publish_line.new.session in
    let start = standing_of c.args.session.now (g.I.Source.seen c.args.source.now) (g.O.Sink.seen c.args.sink.now) in
    let mid = standing_of c.publish_line.new.session (g.I.Source.seen c.publish_line.new.source) (g.O.Sink.seen c.publish_line.new.sink) in
    let now = standing_of c.hear_answers.new.session (g.I.Source.seen c.hear_answers.new.source) (g.O.Sink.seen c.hear_answers.new.sink) in
    let more = c.publish_line.new.progress.count in
    let between = c.publish_line.new.progress.answered in
    IfErr-weaker c.hear_answers.result _ _
    (λ fault ends. λ is before input p.
    ends-by-last command t before start now input rest count c.args.progress.now.answered fault some p
    (λ ls counted q. subst (λ (x : Terms). IsUnanswered command x before now (rest ∷ ls) fault) c.publish_line.ensures.terms
    (ends is before (rest ∷ ls) (counts-one rest ls count more counted c.in_default.ensures.count) (paced-as command u t before mid (rest ∷ ls) between (sym c.publish_line.ensures.terms) (c.in_default.ensures.published before ls counted q)))))
    c.hear_answers.ensures.ends
