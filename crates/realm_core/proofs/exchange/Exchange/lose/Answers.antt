use Rattle.std.proofs.Common.{◌≡◌, true, false, [], ◌∷◌, ◌++◌, drop, refl, sym, ap, subst, ◌∙◌}
use Rattle.realm.specs.declared.entry.Entry.TheVariants.{Cut}
use Rattle.realm.specs.History.{◌▷◌}
use Rattle.realm.specs.Sessions.{conn_of, live}
use Rattle.realm.specs.Given.{GivesExactly}
use Rattle.realm_core.specs.body.Exchange.{course_of}
use Rattle.realm_core.specs.Worlds.{may_enter, EntersIfLive}
use Rattle.realm_core.proofs.ExchangeLemmas.{seen, seen-last, enters-by-marks}
use Rattle.realm_core.proofs.MarkLemmas.{marks-cut, marked-as}
use Rattle.realm_core.proofs.exchange.Exchange.lose.Goals as goal

pub returns-then-not-is_live-clause-moves : goal.returns-then-not-is_live-clause-moves
returns-then-not-is_live-clause-moves c =
    let i = c.self.inside in
    let e = c.in-Some.entry.now in
    let front : may_enter (course_of i) ≡ e ∷ drop 1 i.inbox.items = sym (enters-by-marks i c.deref.result.now c.self.invariant c.deref.ensures.value) ∙ c.in-Some.ensures in
    let dead : live i.realm (conn_of e) ≡ false = sym (c.is_live.ensures ∙ ap (live i.realm) c.conn-conn.ensures) ∙ c.if-not-is_live.true in
    let lost = seen-last i.lost.items c.push_reserved.new.self.items c.of-seen.result e (c.push_reserved.ensures.items ∙ ap (λ xs. xs ++ c.of-seen.result ∷ []) c.reserve.ensures.items) c.of-seen.ensures in
    let after =
    ap (λ l. record (course_of i) { inbox = c.remove_front.new.inbox.items; lost = l }) lost
    ∙ ap (λ xs. record (course_of i) { inbox = xs; lost = seen i.lost.items ++ e ∷ [] }) c.remove_front.ensures in
    rw (← c.self.view_is) (
      e,
      drop 1 i.inbox.items,
      front,
      subst (λ b. EntersIfLive b (record (course_of i) { inbox = drop 1 i.inbox.items; lost = seen i.lost.items ++ e ∷ [] }) (Cut (conn_of e) c.args.word)
          (record (course_of i) { inbox = c.remove_front.new.inbox.items; lost = seen c.push_reserved.new.self.items })) (sym dead) after,
    )

pub invariant_of-self-2 : goal.invariant_of-self-2
invariant_of-self-2 c =
    let i = c.self.inside in
    let conn = c.conn-conn.result in
    let given = c.in_ok-given.given.items in
    record {
      between = c.self.invariant.between;
      filled = c.self.invariant.filled;
      marked =
          marked-as (i.realm ▷ Cut conn c.args.word) c.apply.new.self given c.from_vec.result.items (seen i.full.items) i.marks.items i.marks.items
          c.in_ok-given.ensures.history c.from_vec.ensures.items refl
          (marks-cut i.realm conn c.args.word i.pushing.items given (seen i.full.items) i.marks.items (sym c.is_live.ensures ∙ c.if-not-is_live.false) c.in_ok-given.ensures.given c.self.invariant.marked);
    }

pub returns-clause-moves : goal.returns-clause-moves
returns-clause-moves c =
    let i = c.self.inside in
    let e = c.in-Some.entry.now in
    let conn = c.conn-conn.ensures in
    let front : may_enter (course_of i) ≡ e ∷ drop 1 i.inbox.items = sym (enters-by-marks i c.deref.result.now c.self.invariant c.deref.ensures.value) ∙ c.in-Some.ensures in
    let is_live : live i.realm (conn_of e) ≡ true = sym (c.is_live.ensures ∙ ap (live i.realm) conn) ∙ c.if-not-is_live.false in
    let lost = seen-last i.lost.items c.push_reserved-2.new.self.items c.of-seen.result e (c.push_reserved-2.ensures.items ∙ ap (λ xs. xs ++ c.of-seen.result ∷ []) c.reserve.ensures.items) c.of-seen.ensures in
    let cut = Cut (conn_of e) c.args.word in
    let given = c.in_ok-given.given.items in
    let after =
    ap (λ h. record (course_of i) { history = h; inbox = c.remove_front-2.new.inbox.items; lost = seen c.push_reserved-2.new.self.items; pushing = c.from_vec.result.items }) (c.in_ok-given.ensures.history ∙ ap (λ n. i.realm ▷ Cut n c.args.word) conn)
    ∙ ap (λ p. record (course_of i) { history = i.realm ▷ cut; inbox = c.remove_front-2.new.inbox.items; lost = seen c.push_reserved-2.new.self.items; pushing = p }) c.from_vec.ensures.items
    ∙ ap (λ l. record (course_of i) { history = i.realm ▷ cut; inbox = c.remove_front-2.new.inbox.items; lost = l; pushing = given }) lost
    ∙ ap (λ xs. record (course_of i) { history = i.realm ▷ cut; inbox = xs; lost = seen i.lost.items ++ e ∷ []; pushing = given }) c.remove_front-2.ensures in
    rw (← c.self.view_is) (
      e,
      drop 1 i.inbox.items,
      front,
      subst (λ b. EntersIfLive b (record (course_of i) { inbox = drop 1 i.inbox.items; lost = seen i.lost.items ++ e ∷ [] }) cut
          (record (course_of i) { history = c.apply.new.self; inbox = c.remove_front-2.new.inbox.items; lost = seen c.push_reserved-2.new.self.items; pushing = c.from_vec.result.items })) (sym is_live)
          (record { given = given; exactly = subst (λ n. GivesExactly i.realm (Cut n c.args.word) given) conn c.in_ok-given.ensures.given; after = after }),
    )
