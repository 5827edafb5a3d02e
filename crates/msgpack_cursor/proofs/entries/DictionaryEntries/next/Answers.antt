use Rattle.std.proofs.Common.{◌≡◌, true, false, sym, ◌∙◌}
use Rattle.msgpack_cursor.proofs.Pairs.{no-pairs, first-pair, more-pairs}
use Rattle.msgpack_cursor.proofs.entries.DictionaryEntries.next.Goals as goal

pub returns-then-self-eq0 : goal.returns-then-self-eq0
returns-then-self-eq0 c =
    let none = sym c.self.view_is ∙ no-pairs c.self.inside.room c.self.inside.left c.self.inside.octets.now c.if-self-eq0.true in
    (none, none)

pub unreachable-requires : goal.unreachable-requires
unreachable-requires c =
    let pair = first-pair c.self.inside.room c.self.inside.left c.self.inside.octets.now c.if-self-eq0.false c.self.invariant.0 in
    let nay : true ≡ false = c.in_default.ensures.none _ _ _ _ pair.0 pair.1 in
    cc

pub invariant_of-self : goal.invariant_of-self
invariant_of-self c =
    let e = c.in-Some.ensures.some in
    ((more-pairs c.self.inside.room c.self.inside.left c.self.inside.octets.now c.in-Some.entry.key.now c.in-Some.entry.value c.in-Some.entry.rest.now c.if-self-eq0.false c.self.invariant.0 e).0, c.self.invariant.1)

pub returns : goal.returns
returns c =
    let e = c.in-Some.ensures.some in
    sym c.self.view_is ∙ (more-pairs c.self.inside.room c.self.inside.left c.self.inside.octets.now c.in-Some.entry.key.now c.in-Some.entry.value c.in-Some.entry.rest.now c.if-self-eq0.false c.self.invariant.0 e).1
