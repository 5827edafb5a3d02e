use Rattle.std.proofs.Common.{◌≡◌, ◌<◌, ap, ◌∙◌, subst, sym, true, false}
use Rattle.std.specs.Prelude.{IfSome, is_some}
use Rattle.outbox_queue.specs.Ends.{came_with}
use Rattle.outbox_queue.proofs.ComingOver.{full_for, owed_for, said_so, told_of, unvouched_for}
use Rattle.outbox_queue.proofs.drain.Drain.ending.Goals as goal

pub returns-then-not-is_vouched : goal.returns-then-not-is_vouched
returns-then-not-is_vouched g c =
    let o = g.H.Owed in
    unvouched_for o.owed o.is_over o.was_cut o.is_of c.args.self.now c.requires (ap (λ a. is_some (came_with a.last)) (sym c.self.view_is) ∙ sym c.is_vouched.ensures ∙ c.if-not-is_vouched.true)

pub returns-then-was_full : goal.returns-then-was_full
returns-then-was_full g c =
    let o = g.H.Owed in
    full_for o.owed o.is_over o.was_cut o.is_of c.args.self.now c.requires (ap (λ a. is_some (came_with a.last)) (sym c.self.view_is) ∙ sym c.is_vouched.ensures ∙ c.if-not-is_vouched.false)
    (subst (λ a. IfSome a.last (λ l. 0 < l.full_finds)) c.self.view_is (told_of o.owed o.is_over o.was_cut o.is_of _ _ true (λ l. 0 < l.full_finds) c.was_full.ensures.full c.if-was_full.true))

pub returns-then-is_lost : goal.returns-then-is_lost
returns-then-is_lost g c =
    let o = g.H.Owed in
    owed_for o.owed o.is_over o.was_cut o.is_of c.args.self.now true c.requires (ap (λ a. is_some (came_with a.last)) (sym c.self.view_is) ∙ sym c.is_vouched.ensures ∙ c.if-not-is_vouched.false)
    (subst (λ a. IfSome a.last (λ l. l.full_finds ≡ 0)) c.self.view_is (told_of o.owed o.is_over o.was_cut o.is_of _ _ false (λ l. l.full_finds ≡ 0) c.was_full.ensures.never c.if-was_full.false))
    (subst (λ a. IfSome a.last (λ l. l.is_lost ≡ true)) c.self.view_is (said_so o.owed o.is_over o.was_cut o.is_of _ _ true c.is_lost.ensures c.if-is_lost.true))

pub returns-else-is_lost : goal.returns-else-is_lost
returns-else-is_lost g c =
    let o = g.H.Owed in
    owed_for o.owed o.is_over o.was_cut o.is_of c.args.self.now false c.requires (ap (λ a. is_some (came_with a.last)) (sym c.self.view_is) ∙ sym c.is_vouched.ensures ∙ c.if-not-is_vouched.false)
    (subst (λ a. IfSome a.last (λ l. l.full_finds ≡ 0)) c.self.view_is (told_of o.owed o.is_over o.was_cut o.is_of _ _ false (λ l. l.full_finds ≡ 0) c.was_full.ensures.never c.if-was_full.false))
    (subst (λ a. IfSome a.last (λ l. l.is_lost ≡ false)) c.self.view_is (said_so o.owed o.is_over o.was_cut o.is_of _ _ false c.is_lost.ensures c.if-is_lost.false))
