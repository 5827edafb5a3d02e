use Rattle.std.proofs.Common.{◌≡◌, length, Some, sym, subst}
use Rattle.std.specs.Prelude.{slice_get}
use Rattle.chronicle.specs.Recorded.{Reaches}
use Rattle.outbox_queue.specs.Tied.{Kept}
use Rattle.realm.specs.History.{History, Begins}
use Rattle.realm.specs.Yield.{owed}
use Rattle.realm_inbox.specs.HistoryBeginnings.{begins_same}
use Rattle.realm_actor.proofs.OfferLemmas.{told_again}
use Rattle.realm_actor.proofs.row.stamp.Goals as goal

pub by-history-requires : goal.by-history-requires
by-history-requires c =
    let h = c.args.realm.now in
    subst (λ m. Reaches Begins c.args.chronicle.now.history (Some m)) (sym c.of.ensures) (subst (λ a. Reaches Begins a (Some h)) (sym c.requires.told) (begins_same h))

pub stamp-requires : goal.stamp-requires
stamp-requires c =
    let o = c.args.outbox.now in
    subst (λ (k : Kept History). slice_get (owed k.history o.conn) (length o.added) ≡ Some c.args.item) (sym c.by-history.ensures.history)
    (subst (λ h. slice_get (owed h o.conn) (length o.added) ≡ Some c.args.item) (sym c.of.ensures) c.requires.next)

pub returns-clause-kept : goal.returns-clause-kept
returns-clause-kept c = told_again c.args.chronicle.now _ c.args.realm.now _ c.by-history.ensures.chronicle c.of.ensures c.requires.told
