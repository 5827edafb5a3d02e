use Rattle.std.proofs.Common.{sym, ◌∙◌}
use Rattle.std.proofs.lemmas.Bool.{eqb-true}
use Rattle.msgpack_cursor.proofs.Readings.{none-entries, no-entries}
use Rattle.msgpack_cursor.proofs.dictionary.Dictionary.is_empty.Goals as goal

pub returns : goal.returns
returns c = (
  λ is. sym c.self.view_is ∙ none-entries c.self.inside.room c.self.inside.count c.self.inside.octets.now (eqb-true c.self.inside.count 0 is),
  λ none. no-entries c.self.inside.room c.self.inside.count c.self.inside.octets.now c.self.invariant.0 (c.self.view_is ∙ none),
)
