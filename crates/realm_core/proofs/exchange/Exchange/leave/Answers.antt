use Rattle.std.proofs.Common.{refl, ap, subst, ◌∙◌}
use Rattle.realm.specs.declared.entry.Entry.TheVariants.{Cut}
use Rattle.realm.specs.History.{◌▷◌}
use Rattle.realm_core.specs.body.Exchange.{course_of}
use Rattle.realm_core.specs.Worlds.{may_leave, IsLeast}
use Rattle.realm_core.proofs.ExchangeLemmas.{seen, least-live, leaves-by-marks}
use Rattle.realm_core.proofs.MarkLemmas.{marks-cut, marked-as}
use Rattle.realm_core.proofs.exchange.Exchange.leave.Goals as goal

pub apply-requires : goal.apply-requires
apply-requires c = least-live c.self.inside.realm c.self.inside.pushing.items c.deref.result.now c.in-Some.conn c.in-Some.ensures

pub invariant_of-self-2 : goal.invariant_of-self-2
invariant_of-self-2 c =
    let i = c.self.inside in
    let conn = c.in-Some.conn in
    let given = c.in_ok-given.given.items in
    record {
      between = c.self.invariant.between;
      filled = c.self.invariant.filled;
      marked =
          marked-as (i.realm ▷ Cut conn c.args.word) c.apply.new.self given c.from_vec.result.items (seen i.full.items) i.marks.items i.marks.items
          c.in_ok-given.ensures.history c.from_vec.ensures.items refl
          (marks-cut i.realm conn c.args.word i.pushing.items given (seen i.full.items) i.marks.items (least-live i.realm i.pushing.items c.deref.result.now conn c.in-Some.ensures) c.in_ok-given.ensures.given c.self.invariant.marked);
    }

pub returns-clause-moves : goal.returns-clause-moves
returns-clause-moves c =
    let i = c.self.inside in
    let least : IsLeast c.in-Some.conn (may_leave (course_of i)) = subst (IsLeast c.in-Some.conn) (leaves-by-marks i c.deref.result.now c.self.invariant c.deref.ensures.value) c.in-Some.ensures in
    let given = c.in_ok-given.given.items in
    let cut = Cut c.in-Some.conn c.args.word in
    rw (← c.self.view_is) (
      c.in-Some.conn,
      least,
      record {
        given = given;
        exactly = c.in_ok-given.ensures.given;
        after =
            ap (λ h. record (course_of i) { history = h; pushing = c.from_vec.result.items }) c.in_ok-given.ensures.history
            ∙ ap (λ p. record (course_of i) { history = i.realm ▷ cut; pushing = p }) c.from_vec.ensures.items;
      },
    )
