use Rattle.std.proofs.Common.{sym, ap, ◌∙◌}
use Rattle.msgpack_cursor.specs.Unread.{Rest}
use Rattle.msgpack_cursor.proofs.Readings.{none-there}
use Rattle.msgpack_cursor.proofs.Walking.{some-item, whole-end}
use Rattle.msgpack_cursor.proofs.unread.Unread.is_end.Goals as goal

pub returns-then-self-eq0-clause-end : goal.returns-then-self-eq0-clause-end
returns-then-self-eq0-clause-end c =
    let u = c.self.inside in
    λ is. (
      ap (λ (r : Rest). r.is_whole) (sym c.self.view_is) ∙ (whole-end 99 u.left u.octets.now c.if-self-eq0.true ∙ (sym c.is_empty.ensures ∙ is)),
      ap (λ (r : Rest). r.items) (sym c.self.view_is) ∙ none-there 99 u.left u.octets.now c.if-self-eq0.true,
    )

pub returns-then-self-eq0-clause-more : goal.returns-then-self-eq0-clause-more
returns-then-self-eq0-clause-more c =
    let u = c.self.inside in
    λ whole none. c.is_empty.ensures ∙ (sym (whole-end 99 u.left u.octets.now c.if-self-eq0.true) ∙ (ap (λ (r : Rest). r.is_whole) c.self.view_is ∙ whole))

pub returns-else-self-eq0-clause-more : goal.returns-else-self-eq0-clause-more
returns-else-self-eq0-clause-more c =
    let u = c.self.inside in
    λ whole none. absurd (some-item 99 u.left u.octets.now c.if-self-eq0.false (ap (λ (r : Rest). r.items) c.self.view_is ∙ none))
