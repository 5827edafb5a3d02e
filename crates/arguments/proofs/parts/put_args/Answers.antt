use Rattle.std.proofs.Common.{◌++◌, sym, ap, ◌∙◌}
use Rattle.message_tree.specs.Data as tree
use Rattle.arguments.specs.Reading.{args_of}
use Rattle.arguments.proofs.Written.{empty_list, short_list}
use Rattle.arguments.proofs.parts.put_args.Goals as goal

pub returns-in_ok-put-in-Null-clause-ok : goal.returns-in_ok-put-in-Null-clause-ok
returns-in_ok-put-in-Null-clause-ok c = record {
  part = tree.list tree.no_items;
  is_read = ap args_of c.in-Null.ensures;
  put = (empty_list, c.in_ok-put-in-Null.ensures.ok ∙ ap (λ o. c.args.out.now.since ++ o) (sym short_list));
}
