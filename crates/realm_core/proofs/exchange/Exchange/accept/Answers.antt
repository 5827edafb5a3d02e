use Rattle.std.proofs.Common.{◌≡◌, true, false, [], ◌∷◌, drop, sym, ap, subst, ◌∙◌}
use Rattle.realm.specs.History.{◌▷◌}
use Rattle.realm.specs.Sessions.{may_come}
use Rattle.realm.specs.Given.{GivesExactly}
use Rattle.realm_core.specs.body.Exchange.{course_of}
use Rattle.realm_core.specs.body.Marks.{NoneJoinsAgain}
use Rattle.realm_core.specs.Worlds.{may_enter}
use Rattle.realm_core.proofs.ExchangeLemmas.{seen, enters-by-marks, nobody-marked}
use Rattle.realm_core.proofs.MarkLemmas.{marks-accepted, marked-as}
use Rattle.realm_core.proofs.exchange.Exchange.accept.Goals as goal

pub returns-then-not-may_come-clause-moves : goal.returns-then-not-may_come-clause-moves
returns-then-not-may_come-clause-moves c =
    let i = c.self.inside in
    let e = c.in-Some.entry.now in
    let front : may_enter (course_of i) ≡ e ∷ drop 1 i.inbox.items = sym (enters-by-marks i c.deref.result.now c.self.invariant c.deref.ensures.value) ∙ c.in-Some.ensures in
    let refused : may_come i.realm e ≡ false = sym c.may_come.ensures ∙ c.if-not-may_come.true in
    rw (← c.self.view_is) (e, drop 1 i.inbox.items, front, refused, ap (λ xs. record (course_of i) { inbox = xs }) c.remove_front.ensures)

pub invariant_of-self-2 : goal.invariant_of-self-2
invariant_of-self-2 c =
    let i = c.self.inside in
    let e = c.in-Some.entry.now in
    let front : may_enter (course_of i) ≡ e ∷ drop 1 i.inbox.items = sym (enters-by-marks i c.deref.result.now c.self.invariant c.deref.ensures.value) ∙ c.in-Some.ensures in
    let come : may_come i.realm e ≡ true = sym c.may_come.ensures ∙ c.if-not-may_come.false in
    let given = c.in_ok-given.given.items in
    let again : NoneJoinsAgain i.realm (seen i.full.items) = subst (λ w. NoneJoinsAgain w.history w.full) (sym c.self.view_is) c.requires in
    let gives : GivesExactly i.realm e given = subst (λ x. GivesExactly i.realm x given) c.in_ok-copy.ensures c.in_ok-given.ensures.given in
    record {
      between = c.self.invariant.between;
      filled = c.self.invariant.filled;
      marked =
          marked-as (i.realm ▷ e) c.apply.new.self given c.from_vec.result.items (seen i.full.items) [] c.clear.new.self.items
          (c.in_ok-given.ensures.history ∙ ap (λ x. i.realm ▷ x) c.in_ok-copy.ensures) c.from_vec.ensures.items c.clear.ensures.items
          (marks-accepted i.realm e given (seen i.full.items) (nobody-marked i e (drop 1 i.inbox.items) front) again come gives);
    }

pub returns-clause-moves : goal.returns-clause-moves
returns-clause-moves c =
    let i = c.self.inside in
    let e = c.in-Some.entry.now in
    let front : may_enter (course_of i) ≡ e ∷ drop 1 i.inbox.items = sym (enters-by-marks i c.deref.result.now c.self.invariant c.deref.ensures.value) ∙ c.in-Some.ensures in
    let come : may_come i.realm e ≡ true = sym c.may_come.ensures ∙ c.if-not-may_come.false in
    let given = c.in_ok-given.given.items in
    rw (← c.self.view_is) (
      e,
      drop 1 i.inbox.items,
      front,
      come,
      record {
        given = given;
        exactly = subst (λ x. GivesExactly i.realm x given) c.in_ok-copy.ensures c.in_ok-given.ensures.given;
        after =
            ap (λ h. record (course_of i) { history = h; inbox = c.remove_front-2.new.inbox.items; pushing = c.from_vec.result.items }) (c.in_ok-given.ensures.history ∙ ap (λ x. i.realm ▷ x) c.in_ok-copy.ensures)
            ∙ ap (λ p. record (course_of i) { history = i.realm ▷ e; inbox = c.remove_front-2.new.inbox.items; pushing = p }) c.from_vec.ensures.items
            ∙ ap (λ xs. record (course_of i) { history = i.realm ▷ e; inbox = xs; pushing = given }) c.remove_front-2.ensures;
      },
    )
