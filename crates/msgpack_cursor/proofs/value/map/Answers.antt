use Rattle.std.proofs.Common.{sym, subst}
use Rattle.msgpack_cursor.specs.body.Fronts.{IsMap}
use Rattle.msgpack_cursor.proofs.Readings.{dictionary-there}
use Rattle.msgpack_cursor.proofs.value.map.Goals as goal

pub invariant_of-result : goal.invariant_of-result
invariant_of-result c =
    let r = c.requires.readable in
    ((dictionary-there c.args.room c.args.count c.args.octets.now r.0 r.1 r.2 (subst (λ b. IsMap b r.0) c.if-are_keys_texts.true (c.are_keys_texts.ensures r.0 r.1 r.2))).0, c.requires.room)

pub returns-then-are_keys_texts : goal.returns-then-are_keys_texts
returns-then-are_keys_texts c = λ d rest e.
    sym (dictionary-there c.args.room c.args.count c.args.octets.now d rest e (subst (λ b. IsMap b d) c.if-are_keys_texts.true (c.are_keys_texts.ensures d rest e))).1
