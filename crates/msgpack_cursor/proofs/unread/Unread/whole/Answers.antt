use Rattle.std.specs.Int.{w128}
use Rattle.std.proofs.Common.{rules, FitsSigned, sym, ap, ◌∙◌, subst}
use Rattle.std.proofs.lemmas.Int.{to_z-of_z}
use Rattle.message_tree.specs.Data.{whole}
use Rattle.msgpack_cursor.specs.Unread.{HasNone, Rest}
use Rattle.msgpack_cursor.proofs.Walking.{none-of, stands-before}
use Rattle.msgpack_cursor.proofs.unread.Unread.whole.Goals as goal

pub returns-then-self-eq0-clause-none : goal.returns-then-self-eq0-clause-none
returns-then-self-eq0-clause-none c =
    let u = c.self.inside in
    subst (HasNone whole) c.self.view_is (none-of whole 99 u.left u.octets.now (λ x rest some read. some c.if-self-eq0.true))

pub returns-in_default-clause-none : goal.returns-in_default-clause-none
returns-in_default-clause-none c =
    let u = c.self.inside in
    subst (HasNone whole) c.self.view_is (none-of whole 99 u.left u.octets.now (λ x rest some read. c.in_default.ensures.none 99 x rest read))

pub returns-clause-some : goal.returns-clause-some
returns-clause-some c =
    let u = c.self.inside in
    let fits : FitsSigned w128 c.in-Some.number = search rules in
    let s = stands-before 99 u.left u.octets.now (whole c.in-Some.number) c.in-Some.rest.now c.if-self-eq0.false (c.in-Some.ensures.some 99) in
    rw (to_z-of_z w128 c.in-Some.number fits) (record { items = ap (λ (r : Rest). r.items) (sym c.self.view_is) ∙ s.0; is_whole = s.1 ∙ ap (λ (r : Rest). r.is_whole) c.self.view_is })
