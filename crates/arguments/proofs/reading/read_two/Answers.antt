use Rattle.std.proofs.Common.{◌≡◌, Some, sym, ap, ◌∙◌}
use Rattle.message_tree.specs.Data as tree
use Rattle.arguments.specs.Reading.{args_of, kwargs_of, with_both}
use Rattle.arguments.specs.body.Parts.{IsSpelledFor, IsWrittenFor}
use Rattle.arguments.proofs.Written.{parts_written, two_spelled}
use Rattle.arguments.proofs.reading.read_two.Goals.{After-drop-out-inside-2}
use Rattle.arguments.proofs.reading.read_two.Goals as goal

wrote : (c : goal.After-from_vec) → (part other : tree.Data) × (args_of c.args.args.now ≡ Some part) × (kwargs_of c.args.kwargs.now ≡ Some other) × IsWrittenFor part (Some other) c.from_vec.result
wrote c =
    parts_written (args_of c.args.args.now) (kwargs_of c.args.kwargs.now) c.in_ok-args_put.args_put c.in_ok-kwargs_put.kwargs_put c.in_ok-out.out.before c.in_ok-out.out.since c.put_args.new.out.since c.put_kwargs.new.out.since
    c.put_kwargs.new.out.before c.from_vec.result c.if-both.ensures c.in_ok-out.ensures.before c.in_ok-out.ensures.since (c.in_ok-kwargs_put.ensures.before ∙ c.in_ok-args_put.ensures.before)
    c.in_ok-args_put.ensures.ok c.in_ok-kwargs_put.ensures.ok (c.from_vec.ensures ∙ c.into_vec.ensures)

pub returns-then-both-clause-ok : goal.returns-then-both-clause-ok
returns-then-both-clause-ok c =
    let w = wrote c in
    ap (λ a. with_both a (kwargs_of c.args.kwargs.now)) w.2 ∙ (ap (with_both (Some w.0)) w.3 ∙ ap Some (sym w.4.same))

pub returns-then-both-clause-given : goal.returns-then-both-clause-given
returns-then-both-clause-given c = (wrote c).4.written

spelled : (c : After-drop-out-inside-2) → (part other : tree.Data) × (args_of c.args.args.now ≡ Some part) × (kwargs_of c.args.kwargs.now ≡ Some other) × IsSpelledFor part (Some other) c.from_vec-2.result
spelled c =
    two_spelled (args_of c.args.args.now) (kwargs_of c.args.kwargs.now) c.in_ok-args_put.args_put c.in_ok-kwargs_put.kwargs_put c.in_ok-out.out.since c.put_args.new.out.since c.put_kwargs.new.out.since
    c.put_spelled_kwargs.new.out.before c.in_ok-out-2.out.since c.put_spelled_args.new.out.since c.put_spelled_kwargs.new.out.since c.in_ok-out-2.out.before c.from_vec-2.result
    (sym c.if-both.ensures) c.in_ok-args_put.ensures.ok c.in_ok-kwargs_put.ensures.ok c.in_ok-put_spelled_args.ensures.ok c.in_ok-put_spelled_kwargs.ensures.ok c.in_ok-out-2.ensures.since
    (c.in_ok-put_spelled_kwargs.ensures.before ∙ c.in_ok-put_spelled_args.ensures.before) c.in_ok-out-2.ensures.before (c.from_vec-2.ensures ∙ c.into_vec-2.ensures)

pub returns-clause-ok : goal.returns-clause-ok
returns-clause-ok c =
    let w = spelled c in
    ap (λ a. with_both a (kwargs_of c.args.kwargs.now)) w.2 ∙ (ap (with_both (Some w.0)) w.3 ∙ ap Some (sym w.4.same))

pub returns-clause-given : goal.returns-clause-given
returns-clause-given c = (spelled c).4.spelled
