use Rattle.std.proofs.Common.{◌≡◌, ◌<◌, ◌+◌, ℕ, cond, Some, sym, ap, subst, ◌∙◌, rules}
use Rattle.std.proofs.lemmas.Result.{on_err_weaker}
use Rattle.std.specs.BTreeMap.{get}
use Rattle.std.specs.Ordering.{nat_cmp, is_eq}
use Rattle.std.specs.VecDeque.{deque_len, deque_capacity}
use Rattle.realm_core.specs.declared.outboxes.SessionQueue.{SessionQueue}
use Rattle.realm_core.specs.body.Outboxes.{Outboxes, items_in, IsFilled}
use Rattle.realm_core.proofs.SessionQueueLemmas.{put-items, filled-but, filled-all}
use Rattle.realm_core.proofs.outboxes.make_room.Goals as goal

pub returns-in-Some-clause-items : goal.returns-in-Some-clause-items
returns-in-Some-clause-items c =
    let w : SessionQueue = record { items = c.reserve.new.self } in
    put-items c.args.outboxes.now (c.get_mut.follows.lender w) c.args.conn (Some w) ((c.get_mut.follows.holds w).3 (search rules)).0
    (c.reserve.ensures.items ∙ ap items_in c.in-Some.ensures.value)

pub returns-in-Some-clause-others : goal.returns-in-Some-clause-others
returns-in-Some-clause-others c =
    let w : SessionQueue = record { items = c.reserve.new.self } in
    filled-but c.args.outboxes.now (c.get_mut.follows.lender w) c.args.conn (Some w) ((c.get_mut.follows.holds w).3 (search rules)).0 (λ d other. c.requires d)

pub returns-in-Some-clause-filled : goal.returns-in-Some-clause-filled
returns-in-Some-clause-filled c =
    let w : SessionQueue = record { items = c.reserve.new.self } in
    let one : IsFilled (Some w) = λ empty. subst IsFilled (sym c.in-Some.ensures.value) (c.requires c.args.conn) (sym c.reserve.ensures.items ∙ empty) in
    on_err_weaker c.reserve.result (λ (e : deque_capacity c.in-Some.outbox.now.items < deque_len c.in-Some.outbox.now.items + 1).
    filled-all c.args.outboxes.now (c.get_mut.follows.lender w) c.args.conn (Some w) ((c.get_mut.follows.holds w).3 (search rules)).0 one (λ d other. c.requires d)) c.reserve.ensures.full

pub returns-in_ok-insert-in-None-clause-items : goal.returns-in_ok-insert-in-None-clause-items
returns-in_ok-insert-in-None-clause-items c =
    let w : SessionQueue = record { items = c.reserve-in-None.new.self } in
    let puts : (n : ℕ) → get nat_cmp c.insert.new.self n ≡ cond (is_eq (nat_cmp c.args.conn n)) (Some w) (get nat_cmp c.args.outboxes.now n) =
    subst (λ (m : Outboxes). (n : ℕ) → get nat_cmp c.insert.new.self n ≡ cond (is_eq (nat_cmp c.args.conn n)) (Some w) (get nat_cmp m n)) c.get_mut.follows.holds-at-none c.in_ok-insert-in-None.ensures.updates.0 in
    put-items c.args.outboxes.now c.insert.new.self c.args.conn (Some w) puts (c.reserve-in-None.ensures.items ∙ c.new-items.ensures.items ∙ ap items_in c.in-None.ensures.value)

pub returns-in_ok-insert-in-None-clause-others : goal.returns-in_ok-insert-in-None-clause-others
returns-in_ok-insert-in-None-clause-others c =
    let w : SessionQueue = record { items = c.reserve-in-None.new.self } in
    let puts : (n : ℕ) → get nat_cmp c.insert.new.self n ≡ cond (is_eq (nat_cmp c.args.conn n)) (Some w) (get nat_cmp c.args.outboxes.now n) =
    subst (λ (m : Outboxes). (n : ℕ) → get nat_cmp c.insert.new.self n ≡ cond (is_eq (nat_cmp c.args.conn n)) (Some w) (get nat_cmp m n)) c.get_mut.follows.holds-at-none c.in_ok-insert-in-None.ensures.updates.0 in
    filled-but c.args.outboxes.now c.insert.new.self c.args.conn (Some w) puts (λ d other. c.requires d)
