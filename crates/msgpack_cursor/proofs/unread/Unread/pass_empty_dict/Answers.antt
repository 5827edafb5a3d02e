use Rattle.std.proofs.Common.{◌∷◌, sym, ap, ◌∙◌}
use Rattle.message_tree.specs.Data.{dict, no_entries}
use Rattle.msgpack_cursor.specs.Unread.{Rest}
use Rattle.msgpack_cursor.proofs.Walking.{empty-read, stands-before}
use Rattle.msgpack_cursor.proofs.unread.Unread.pass_empty_dict.Goals as goal

pub returns-clause-passed : goal.returns-clause-passed
returns-clause-passed c = λ is.
    let u = c.self.inside in
    let s = stands-before 99 u.left u.octets.now (dict no_entries) c.in-Some.rest.now c.if-self-eq0.false (empty-read u.octets.now c.in-Some.rest.now (c.in-Some.ensures.cases.0 ∙ ap (λ x. x ∷ c.in-Some.rest.now) c.if-first.false)) in
    record { items = ap (λ (r : Rest). r.items) (sym c.self.view_is) ∙ s.0; is_whole = s.1 ∙ ap (λ (r : Rest). r.is_whole) c.self.view_is }
