use Rattle.std.proofs.Common.{◌≡◌, ◌&&◌, option_map, ◌∙◌}
use Rattle.msgpack_codec.specs.body.Passing.{is_next}
use Rattle.msgpack_codec.proofs.Carriages.{known_text}
use Rattle.msgpack_codec.proofs.passing.with.Goals as goal
use Rattle.msgpack_codec.proofs.passing.with.Goals.{then-known, else-known}

pub returns-after-known : goal.returns-after-known
returns-after-known c = λ found texts k v h t e.
    let known = c.args.known in
    let before : c.if-known.result ≡ (known.ascend && is_next (option_map (λ t. t.now) known.last) c.in-Some.name.now) =
    elim c.if-known.branch [ then-known w ↦ rw w.if-known.true (w.result-is ∙ w.is_behind.ensures) | else-known w ↦ rw w.if-known.false (w.result-is ∙ w.if-known.false) ] in
    rw c.worse.ensures (known_text known.are_texts known.ascend c.if-known.result _ known.carriage c.args.carriage found texts c.in-Some.name.now k v h (rw c.in-Some.is at t) e before)
