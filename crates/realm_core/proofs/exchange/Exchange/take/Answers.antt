use Rattle.std.proofs.Common.{ℕ, [], ◌∷◌, ◌++◌, ap, ◌∙◌}
use Rattle.wamp_messages.specs.declared.item.Item.{Item}
use Rattle.realm_core.specs.body.Exchange.{course_of}
use Rattle.realm_core.specs.body.Outboxes.{outbox_of}
use Rattle.realm_core.proofs.ExchangeLemmas.{seen, seen-last, waits, between-taken, takes-front}
use Rattle.realm_core.proofs.exchange.Exchange.take.Goals as goal

pub invariant_of-self-2 : goal.invariant_of-self-2
invariant_of-self-2 c =
    let i = c.self.inside in
    let pair : ℕ × Item = (c.args.conn, c.in-Some.item) in
    let items = c.push_reserved.ensures.items ∙ ap (λ xs. xs ++ c.of.result ∷ []) c.reserve.ensures.items in
    let next = seen-last i.taken.items c.push_reserved.new.self.items c.of.result pair items c.of.ensures in
    record {
      between = between-taken (seen i.added.items) (seen i.taken.items) (seen c.push_reserved.new.self.items) i.outboxes c.take.new.outboxes pair next c.in-Some.ensures.taken c.self.invariant.between;
      filled = c.in-Some.ensures.filled;
      marked = c.self.invariant.marked;
    }

pub returns-clause-moves : goal.returns-clause-moves
returns-clause-moves c =
    let i = c.self.inside in
    let conn = c.args.conn in
    let pair : ℕ × Item = (conn, c.in-Some.item) in
    let out = c.in-Some.ensures.taken in
    let items = c.push_reserved.ensures.items ∙ ap (λ xs. xs ++ c.of.result ∷ []) c.reserve.ensures.items in
    let next = seen-last i.taken.items c.push_reserved.new.self.items c.of.result pair items c.of.ensures in
    rw (← c.self.view_is) (
      outbox_of c.take.new.outboxes conn,
      waits conn (seen i.added.items) (seen i.taken.items) i.outboxes c.self.invariant.between ∙ takes-front i.outboxes c.take.new.outboxes conn c.in-Some.item out,
      ap (λ t. record (course_of i) { taken = t }) next,
    )
