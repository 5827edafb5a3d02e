use Rattle.std.proofs.Common.{sym, ◌∙◌}
use Rattle.msgpack_cursor.proofs.Readings.{none-there, there-first, there-more}
use Rattle.msgpack_cursor.proofs.elements.Elements.next.Goals as goal

pub returns-then-self-eq0 : goal.returns-then-self-eq0
returns-then-self-eq0 c =
    let none = sym c.self.view_is ∙ none-there c.self.inside.room c.self.inside.left c.self.inside.octets.now c.if-self-eq0.true in
    (none, none)

pub unreachable-requires : goal.unreachable-requires
unreachable-requires c =
    let first = there-first c.self.inside.room c.self.inside.left c.self.inside.octets.now c.if-self-eq0.false c.self.invariant.0 in
    c.in_default.ensures.none _ _ first

pub invariant_of-self : goal.invariant_of-self
invariant_of-self c = ((there-more c.self.inside.room c.self.inside.left c.self.inside.octets.now c.in-Some.value c.in-Some.rest.now c.if-self-eq0.false c.self.invariant.0 c.in-Some.ensures.some).0, c.self.invariant.1)

pub returns : goal.returns
returns c = sym c.self.view_is ∙ (there-more c.self.inside.room c.self.inside.left c.self.inside.octets.now c.in-Some.value c.in-Some.rest.now c.if-self-eq0.false c.self.invariant.0 c.in-Some.ensures.some).1
