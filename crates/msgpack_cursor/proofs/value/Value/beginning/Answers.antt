use Rattle.msgpack_canonical.proofs.Tokens.{no-token}
use Rattle.msgpack_cursor.proofs.Beginnings.{begins-as}
use Rattle.msgpack_cursor.proofs.value.Value.beginning.Goals as goal

pub unreachable-requires : goal.unreachable-requires
unreachable-requires c = no-token c.self.inside.room c.self.inside.octets.now c.in_default.ensures.err _ _ c.self.invariant.0

pub returns : goal.returns
returns c =
    begins-as c.self.inside.room c.beginning_of.result c.in-Ok.token c.self.inside.octets.now c.in-Ok._rest.now c.args.self.now c.beginning_of.ensures c.in-Ok.ensures.ok c.self.invariant.0 c.self.view_is
