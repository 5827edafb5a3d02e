use Rattle.std.proofs.Common.{sym, ap, ◌∙◌}
use Rattle.msgpack_cursor.specs.Unread.{Rest}
use Rattle.msgpack_cursor.proofs.Readings.{none-there}
use Rattle.msgpack_cursor.proofs.Walking.{none-missing, stands-before, shallow}
use Rattle.msgpack_cursor.proofs.unread.Unread.value.Goals as goal

pub returns-then-self-eq0-clause-none : goal.returns-then-self-eq0-clause-none
returns-then-self-eq0-clause-none c =
    let u = c.self.inside in
    λ whole. ap (λ (r : Rest). r.items) (sym c.self.view_is) ∙ none-there 99 u.left u.octets.now c.if-self-eq0.true

pub returns-in_default-clause-none : goal.returns-in_default-clause-none
returns-in_default-clause-none c =
    let u = c.self.inside in
    λ whole. absurd (none-missing 99 u.left u.octets.now c.in_default.ensures.none c.if-self-eq0.false (ap (λ (r : Rest). r.is_whole) c.self.view_is ∙ whole))

pub returns-clause-some : goal.returns-clause-some
returns-clause-some c =
    let u = c.self.inside in
    let s = stands-before 99 u.left u.octets.now c.in-Some.value c.in-Some.rest.now c.if-self-eq0.false c.in-Some.ensures.some in
    record { items = ap (λ (r : Rest). r.items) (sym c.self.view_is) ∙ s.0; is_whole = s.1 ∙ ap (λ (r : Rest). r.is_whole) c.self.view_is }

pub returns-clause-bounded : goal.returns-clause-bounded
returns-clause-bounded c =
    let u = c.self.inside in
    let d = shallow 99 u.octets.now c.in-Some.value c.in-Some.rest.now c.in-Some.ensures.some in
    d
