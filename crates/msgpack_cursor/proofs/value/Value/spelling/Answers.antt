use Rattle.std.proofs.Common.{subst}
use Rattle.msgpack_codec.specs.Grammar.{Spells}
use Rattle.msgpack_codec.specs.Written.{IsShortest}
use Rattle.msgpack_cursor.proofs.Readings.{value-spelled}
use Rattle.msgpack_cursor.proofs.value.Value.spelling.Goals as goal

pub returns-clause-spelled : goal.returns-clause-spelled
returns-clause-spelled c = subst (Spells c.self.inside.room c.self.inside.octets.now) c.self.view_is (value-spelled c.self.inside.room c.self.inside.octets.now c.self.invariant.0)

pub returns-clause-shortest : goal.returns-clause-shortest
returns-clause-shortest c = λ is. subst (IsShortest c.self.inside.octets.now) c.self.view_is (c.self.invariant.2 is)
