use Rattle.std.proofs.Common.{◌-◌, sym, ap, ◌∙◌, subst, arith}
use Rattle.message_tree.specs.Data as tree
use Rattle.msgpack_codec.specs.Tokens.{IsToken}
use Rattle.msgpack_canonical.proofs.Tokens.{no-token}
use Rattle.msgpack_cursor.specs.Standing.{value_in, dict_in, items_in, AreThere}
use Rattle.msgpack_cursor.proofs.Readings.{seen-leaf, no-head, list-inside, map-inside, list-there}
use Rattle.msgpack_cursor.proofs.value.Value.seen.Goals as goal

pub unreachable-requires : goal.unreachable-requires
unreachable-requires c = no-token c.self.inside.room c.self.inside.octets.now c.in_default.ensures.err _ _ c.self.invariant.0

pub invariant_of-result : goal.invariant_of-result
invariant_of-result c =
    let octets = c.self.inside.octets.now in
    let head = subst (λ t. IsToken t octets c.in-Ok.rest.now) c.in-List.is c.in-Ok.ensures.ok in
    let inside = list-inside c.self.inside.room c.in-List.left octets c.in-Ok.rest.now head c.self.invariant.0 in (
      subst (λ room. AreThere room c.in-List.left c.in-Ok.rest.now) (sym c.saturating_sub.ensures)
          (list-there (c.self.inside.room - 1) c.in-List.left c.in-Ok.rest.now _ _ inside).0,
      omega (arith, c.saturating_sub.ensures, c.self.invariant.1),
    )

pub map-requires-clause-readable : goal.map-requires-clause-readable
map-requires-clause-readable c =
    let octets = c.self.inside.octets.now in
    let head = subst (λ t. IsToken t octets c.in-Ok.rest.now) c.in-Dict.is c.in-Ok.ensures.ok in
    let inside = map-inside c.self.inside.room c.in-Dict.count octets c.in-Ok.rest.now head c.self.invariant.0 in
    (value_in c.self.inside.room octets, _, ap (λ room. dict_in room c.in-Dict.count c.in-Ok.rest.now) c.saturating_sub-in-Dict.ensures ∙ inside)

pub returns-in_default-token : goal.returns-in_default-token
returns-in_default-token c =
    let octets = c.self.inside.octets.now in
    let leaf = no-head c.in-Ok.token c.in_default-token.not-List c.in_default-token.not-Dict in
    c.leaf.ensures ∙ seen-leaf c.self.inside.room c.in-Ok.token octets c.in-Ok.rest.now _ leaf c.in-Ok.ensures.ok c.self.invariant.0 c.self.view_is

pub returns-in-List : goal.returns-in-List
returns-in-List c =
    let octets = c.self.inside.octets.now in
    let head = subst (λ t. IsToken t octets c.in-Ok.rest.now) c.in-List.is c.in-Ok.ensures.ok in
    let inside = list-inside c.self.inside.room c.in-List.left octets c.in-Ok.rest.now head c.self.invariant.0 in
    ap (λ room. tree.list (items_in room c.in-List.left c.in-Ok.rest.now)) c.saturating_sub.ensures
    ∙ (sym (list-there (c.self.inside.room - 1) c.in-List.left c.in-Ok.rest.now _ _ inside).1 ∙ c.self.view_is)

pub returns-in-Dict : goal.returns-in-Dict
returns-in-Dict c =
    let octets = c.self.inside.octets.now in
    let head = subst (λ t. IsToken t octets c.in-Ok.rest.now) c.in-Dict.is c.in-Ok.ensures.ok in
    let inside = map-inside c.self.inside.room c.in-Dict.count octets c.in-Ok.rest.now head c.self.invariant.0 in
    c.map.ensures _ _ (ap (λ room. dict_in room c.in-Dict.count c.in-Ok.rest.now) c.saturating_sub-in-Dict.ensures ∙ inside) ∙ c.self.view_is
