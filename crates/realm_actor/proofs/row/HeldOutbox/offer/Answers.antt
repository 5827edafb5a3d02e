use Rattle.std.proofs.Common.{Some, sym, ap, ◌∙◌, subst}
use Rattle.outbox_queue.specs.Rule.{Grows}
use Rattle.outbox_queue.specs.Tied.{Kept}
use Rattle.realm.specs.History.{History, Begins}
use Rattle.realm_actor.proofs.OfferLemmas.{recorded, grows_kept, Follows-stamped}
use Rattle.realm_actor.proofs.row.HeldOutbox.offer.Goals as goal

pub add-requires-clause-history : goal.add-requires-clause-history
add-requires-clause-history g c =
    let o = c.args.self.now.outbox in
    subst (λ (k : Kept History). Grows (λ a b. Begins a.history b.history) o.history (Some k)) (sym (ap (λ s. s.history) c.stamp-stamped.ensures.stamped))
    (grows_kept o.history (recorded c.args.chronicle.now.chronicle c.args.realm.now) c.requires.follows.1.seen)

pub add-requires-clause-chronicle : goal.add-requires-clause-chronicle
add-requires-clause-chronicle g c = λ picked is. ap (λ s. s.history.chronicle) c.stamp-stamped.ensures.stamped ∙ c.requires.home picked is

pub returns-clause-follows : goal.returns-clause-follows
returns-clause-follows g c =
    let held = c.args.self.now in
    λ due follows.
    Follows-stamped c.args.chronicle.now.chronicle c.args.realm.now c.args.item due held.outbox c.add.new.self c.stamp-stamped.result c.stamp-stamped.ensures.stamped c.in_default.ensures (held.never c.if-self.false) follows
