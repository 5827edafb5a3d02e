use Rattle.std.proofs.Common.{◌≡◌, ℕ, ◌≤◌, ◌<◌, false, [], ◌∷◌, ◌++◌, drop, length, sym, ap, subst, ◌∙◌, inr}
use Rattle.realm_core.specs.body.Exchange.{course_of}
use Rattle.realm_core.specs.body.Outboxes.{outbox_of}
use Rattle.realm_core.specs.Worlds.{is_in, waiting}
use Rattle.realm_core.proofs.OneOutcome.{heads}
use Rattle.realm_core.proofs.ItemLists.{if_for}
use Rattle.realm_core.proofs.ExchangeLemmas.{seen, seen-last, waits, between-pushed}
use Rattle.realm_core.proofs.MarkLemmas.{marks-first, marks-rest}
use Rattle.realm_core.proofs.exchange.Exchange.push.Goals as goal

pub returns-then-count_for-self-clause-moves : goal.returns-then-count_for-self-clause-moves
returns-then-count_for-self-clause-moves c =
    let i = c.self.inside in
    let conn = c.in-Some.conn in
    let first = c.in-Some.ensures in
    let free : is_in conn (seen i.full.items) ≡ false =
    marks-first i.realm i.pushing.items first.rest (conn, first.item) (seen i.full.items) i.marks.items first.is c.self.invariant.marked
    ∙ sym (c.is_in.ensures ∙ ap (is_in conn) c.deref.ensures.value) ∙ c.if-is_in.false in
    let count = c.count_for.ensures ∙ ap length (sym (waits conn (seen i.added.items) (seen i.taken.items) i.outboxes c.self.invariant.between)) in
    let holds : i.outbox_cap ≤ length (waiting (course_of i) conn) = subst (λ n. i.outbox_cap ≤ n) count c.if-count_for-self.true in
    let items = c.push_reserved-then-count_for-self.ensures.items ∙ ap (λ xs. xs ++ c.of.result ∷ []) c.reserve-then-count_for-self.ensures.items in
    let next = seen-last i.full.items c.push_reserved-then-count_for-self.new.self.items c.of.result conn items c.of.ensures in
    rw (← c.self.view_is) (
      conn,
      first.item,
      first.rest,
      first.is,
      inr (
        free,
        holds,
        ap (λ p. record (course_of i) { pushing = p; full = seen c.push_reserved-then-count_for-self.new.self.items }) (c.remove_first-then-count_for-self.ensures ∙ ap (drop 1) first.is)
            ∙ ap (λ f. record (course_of i) { pushing = first.rest; full = f }) next,
      ),
    )

pub invariant_of-self-2 : goal.invariant_of-self-2
invariant_of-self-2 c =
    let i = c.self.inside in
    let first = c.in-Some.ensures in
    let pair = c.in-Some-pop_front.pair in
    let same : c.in-Some.conn ≡ pair.0 = ap (λ x. x.0) (heads (c.in-Some.conn, first.item) pair first.rest c.pop_front.new.self.items (sym first.is ∙ c.in-Some-pop_front.ensures.items)) in
    let items = c.push_reserved-2.ensures.items ∙ ap (λ xs. xs ++ c.of-2.result ∷ []) c.reserve-2.ensures.items in
    let next = seen-last i.added.items c.push_reserved-2.new.self.items c.of-2.result pair items c.of-2.ensures in
    let then : (d : ℕ) → outbox_of c.add.new.outboxes d ≡ outbox_of i.outboxes d ++ if_for d pair.0 pair.1 =
    λ d. c.add.ensures.added d ∙ ap (λ l. l ++ if_for d c.in-Some.conn pair.1) (c.make_room.ensures.items d) ∙ ap (λ n. outbox_of i.outboxes d ++ if_for d n pair.1) same in
    record {
      between = between-pushed (seen i.added.items) (seen c.push_reserved-2.new.self.items) (seen i.taken.items) i.outboxes c.add.new.outboxes pair next then c.self.invariant.between;
      filled = c.add.ensures.filled;
      marked = marks-rest i.realm i.pushing.items c.pop_front.new.self.items pair (seen i.full.items) i.marks.items c.in-Some-pop_front.ensures.items c.self.invariant.marked;
    }

pub returns-clause-moves : goal.returns-clause-moves
returns-clause-moves c =
    let i = c.self.inside in
    let conn = c.in-Some.conn in
    let first = c.in-Some.ensures in
    let pair = c.in-Some-pop_front.pair in
    let same : conn ≡ pair.0 = ap (λ x. x.0) (heads (conn, first.item) pair first.rest c.pop_front.new.self.items (sym first.is ∙ c.in-Some-pop_front.ensures.items)) in
    let free : is_in conn (seen i.full.items) ≡ false =
    marks-first i.realm i.pushing.items first.rest (conn, first.item) (seen i.full.items) i.marks.items first.is c.self.invariant.marked
    ∙ sym (c.is_in.ensures ∙ ap (is_in conn) c.deref.ensures.value) ∙ c.if-is_in.false in
    let count = c.count_for.ensures ∙ ap length (sym (waits conn (seen i.added.items) (seen i.taken.items) i.outboxes c.self.invariant.between)) in
    let room : length (waiting (course_of i) conn) < i.outbox_cap = subst (λ n. n < i.outbox_cap) count c.if-count_for-self.false in
    let items = c.push_reserved-2.ensures.items ∙ ap (λ xs. xs ++ c.of-2.result ∷ []) c.reserve-2.ensures.items in
    let next = seen-last i.added.items c.push_reserved-2.new.self.items c.of-2.result pair items c.of-2.ensures in
    rw (← c.self.view_is) (
      pair.0,
      pair.1,
      c.pop_front.new.self.items,
      c.in-Some-pop_front.ensures.items,
      subst (λ n. is_in n (seen i.full.items) ≡ false) same free,
      subst (λ n. length (waiting (course_of i) n) < i.outbox_cap) same room,
      ap (λ a. record (course_of i) { pushing = c.pop_front.new.self.items; added = a }) next,
    )
