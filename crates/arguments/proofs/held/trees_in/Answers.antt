use Rattle.std.proofs.Common.{sym, subst}
use Rattle.arguments.specs.body.KeptArguments.{HasFirst}
use Rattle.arguments.proofs.held.trees_in.Goals as goal

pub first_tree-requires : goal.first_tree-requires
first_tree-requires c = c.requires.args

pub first_tree-requires-2 : goal.first_tree-requires-2
first_tree-requires-2 c = subst HasFirst (sym c.in_ok-args.ensures.1) (c.requires.kwargs c.if-not-has_kwargs.false)
