use Rattle.std.proofs.Common.{sym, ap, ◌∙◌, subst}
use Rattle.message_tree.specs.Data.{text}
use Rattle.msgpack_cursor.specs.Unread.{HasNone, Rest}
use Rattle.msgpack_cursor.proofs.Walking.{no_text, none-of, stands-before}
use Rattle.msgpack_cursor.proofs.unread.Unread.text.Goals as goal

pub returns-then-self-eq0-clause-none : goal.returns-then-self-eq0-clause-none
returns-then-self-eq0-clause-none c =
    let u = c.self.inside in
    subst (HasNone text) c.self.view_is (none-of text 99 u.left u.octets.now (λ x rest some read. some c.if-self-eq0.true))

pub returns-in_default-clause-none : goal.returns-in_default-clause-none
returns-in_default-clause-none c =
    let u = c.self.inside in
    subst (HasNone text) c.self.view_is (none-of text 99 u.left u.octets.now (λ x rest some read. no_text x (c.in_default.ensures.none 99 (text x) rest read)))

pub returns-clause-some : goal.returns-clause-some
returns-clause-some c =
    let u = c.self.inside in
    let s = stands-before 99 u.left u.octets.now _ c.in-Some.rest.now c.if-self-eq0.false (c.in-Some.ensures.some 99) in
    record { items = ap (λ (r : Rest). r.items) (sym c.self.view_is) ∙ s.0; is_whole = s.1 ∙ ap (λ (r : Rest). r.is_whole) c.self.view_is }
