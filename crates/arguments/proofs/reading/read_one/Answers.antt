use Rattle.std.proofs.Common.{◌≡◌, None, Some, sym, ap, ◌∙◌, subst}
use Rattle.message_tree.specs.Data as tree
use Rattle.arguments.specs.Reading.{args_of, with_args}
use Rattle.arguments.specs.body.Parts.{IsPartPut, IsSpelledFor, IsWrittenFor}
use Rattle.arguments.proofs.Written.{one_spelled, part_written}
use Rattle.arguments.proofs.reading.read_one.Goals.{After-drop-out-inside-2}
use Rattle.arguments.proofs.reading.read_one.Goals as goal

wrote : (c : goal.After-from_vec) → (part : tree.Data) × (args_of c.args.args.now ≡ Some part) × IsWrittenFor part None c.from_vec.result
wrote c =
    part_written (args_of c.args.args.now) c.in_ok-put_args.field-0 c.in_ok-out.out.before c.in_ok-out.out.since c.put_args.new.out.before c.from_vec.result c.put_args.new.out.since
    c.if-branch.true c.in_ok-out.ensures.before c.in_ok-out.ensures.since c.in_ok-put_args.ensures.before c.in_ok-put_args.ensures.ok (c.from_vec.ensures ∙ c.into_vec.ensures)

pub returns-then-branch-clause-ok : goal.returns-then-branch-clause-ok
returns-then-branch-clause-ok c =
    let w = wrote c in
    ap with_args w.1 ∙ ap Some (sym w.2.same)

pub returns-then-branch-clause-given : goal.returns-then-branch-clause-given
returns-then-branch-clause-given c = (wrote c).2.written

spelled : (c : After-drop-out-inside-2) → (part : tree.Data) × (args_of c.args.args.now ≡ Some part) × IsSpelledFor part None c.from_vec-2.result
spelled c =
    let put = subst (λ b. IsPartPut (args_of c.args.args.now) b c.in_ok-out.out.since c.put_args.new.out.since) c.if-branch.false c.in_ok-put_args.ensures.ok in
    one_spelled (args_of c.args.args.now) c.in_ok-out.out.since c.put_args.new.out.since c.put_spelled_args.new.out.before c.in_ok-out-2.out.since c.put_spelled_args.new.out.since c.in_ok-out-2.out.before c.from_vec-2.result
    put c.in_ok-put_spelled_args.ensures.ok c.in_ok-out-2.ensures.since c.in_ok-put_spelled_args.ensures.before c.in_ok-out-2.ensures.before (c.from_vec-2.ensures ∙ c.into_vec-2.ensures)

pub returns-clause-ok : goal.returns-clause-ok
returns-clause-ok c =
    let w = spelled c in
    ap with_args w.1 ∙ ap Some (sym w.2.same)

pub returns-clause-given : goal.returns-clause-given
returns-clause-given c = (spelled c).2.spelled
