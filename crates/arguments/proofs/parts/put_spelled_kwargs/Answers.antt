use Rattle.std.proofs.Common.{sym, ap}
use Rattle.message_tree.specs.Data as tree
use Rattle.arguments.specs.Reading.{kwargs_of}
use Rattle.arguments.proofs.Written.{spelled_dict}
use Rattle.arguments.proofs.parts.put_spelled_kwargs.Goals as goal

pub returns-in_ok-put-in-Null-clause-ok : goal.returns-in_ok-put-in-Null-clause-ok
returns-in_ok-put-in-Null-clause-ok c = record {
  part = tree.dict tree.no_entries;
  is_read = ap kwargs_of (sym c.in-Null.ensures);
  front = _;
  spelled = spelled_dict;
  behind = c.in_ok-put-in-Null.ensures.ok;
}
