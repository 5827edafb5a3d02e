use Rattle.std.proofs.Common.{◌++◌, sym, ap, ◌∙◌}
use Rattle.message_tree.specs.Data as tree
use Rattle.arguments.specs.Reading.{kwargs_of}
use Rattle.arguments.proofs.Written.{empty_dict, short_dict}
use Rattle.arguments.proofs.parts.put_kwargs.Goals as goal

pub returns-in_ok-put-in-Null-clause-ok : goal.returns-in_ok-put-in-Null-clause-ok
returns-in_ok-put-in-Null-clause-ok c = record {
  part = tree.dict tree.no_entries;
  is_read = ap kwargs_of c.in-Null.ensures;
  put = (empty_dict, c.in_ok-put-in-Null.ensures.ok ∙ ap (λ o. c.args.out.now.since ++ o) (sym short_dict));
}
