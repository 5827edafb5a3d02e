use Rattle.std.proofs.Common.{◌≡◌, ◌++◌}
use Rattle.wamp_ids.specs.Uri.{components}
use Rattle.subscription_index.specs.body.Pieces.{AreMade, numbers_of}
use Rattle.subscription_index.proofs.WildcardPlaces.{fitting}
use Rattle.subscription_index.proofs.deep.Deeps.add_fitting.Given as goal

abbrev pub invariant-loop-text : goal.invariant-loop-text
invariant-loop-text l = record {
  found : l.numbers.items ++ fitting (numbers_of l.text-iterator) (components l.fn.topic) ≡ l.fn.numbers.items ++ fitting l.self (components l.fn.topic);
  made : AreMade l.text-iterator;
}
