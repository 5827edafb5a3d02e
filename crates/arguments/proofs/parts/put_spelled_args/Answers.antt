use Rattle.std.proofs.Common.{sym, ap}
use Rattle.message_tree.specs.Data as tree
use Rattle.arguments.specs.Reading.{args_of}
use Rattle.arguments.proofs.Written.{spelled_list}
use Rattle.arguments.proofs.parts.put_spelled_args.Goals as goal

pub returns-in_ok-put-in-Null-clause-ok : goal.returns-in_ok-put-in-Null-clause-ok
returns-in_ok-put-in-Null-clause-ok c = record {
  part = tree.list tree.no_items;
  is_read = ap args_of (sym c.in-Null.ensures);
  front = _;
  spelled = spelled_list;
  behind = c.in_ok-put-in-Null.ensures.ok;
}
