use Rattle.std.proofs.Common.{◌∙◌}
use Rattle.arguments.proofs.Written.{written_for}
use Rattle.arguments.proofs.held.written.Goals as goal

pub returns : goal.returns
returns c =
    written_for c.args.args.now c.args.kwargs.now c.in_ok-out.out.since c.put_tree.new.out.since c.put_tree_if_any.new.out.since c.put_tree_if_any.new.out.before c.from_vec.result
    c.in_ok-out.ensures.since (c.in_ok-put_tree.ensures.ok c.if-not-branch.false) (c.in_ok-put_tree_if_any.ensures.ok c.if-not-branch-2.false)
    (c.in_ok-put_tree_if_any.ensures.before ∙ (c.in_ok-put_tree.ensures.before ∙ c.in_ok-out.ensures.before)) (c.from_vec.ensures ∙ c.into_vec.ensures)
