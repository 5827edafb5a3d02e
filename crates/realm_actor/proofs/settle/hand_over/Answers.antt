use Rattle.std.proofs.Common.{◌≡◌, ◌∙◌, Some, ap, sym, subst, false}
use Rattle.std.specs.Prelude.{Option}
use Rattle.chronicle.specs.Recorded.{Reaches}
use Rattle.outbox_queue.specs.Ends.{Vouches}
use Rattle.outbox_queue.specs.Tied.{Kept}
use Rattle.realm.specs.History.{History, Begins, same}
use Rattle.realm.specs.Sessions.{live}
use Rattle.realm.specs.Yield.{owed}
use Rattle.realm_inbox.specs.Over.{OwesNoMore, was_cut}
use Rattle.realm_actor.specs.OutboxHistory.{IsHome}
use Rattle.realm_actor.proofs.Parting.{cause_held, follows_held, home_held, vouches}
use Rattle.realm_actor.proofs.settle.hand_over.Goals as goal

pub by-history-requires : goal.by-history-requires
by-history-requires g c =
    let h = c.args.realm.now in
    let itself : Begins h c.of.result = subst (λ m. Begins h m) (sym c.of.ensures) same in
    subst (λ (o : Option History). Reaches Begins o (Some c.of.result)) (sym c.requires.told) itself

pub hand_over-requires-clause-vouches : goal.hand_over-requires-clause-vouches
hand_over-requires-clause-vouches g c =
    let h = c.args.realm.now in let row = c.args.row.now in let x = c.in-Some.held in
    let held : row.held ≡ Some x = sym c.in-Some.ensures.value in
    let dead : live h row.conn ≡ false = sym c.is_live.ensures ∙ c.if-is_live.false in
    let home = c.args.chronicle.now.chronicle in
    let Made : History → Kept History = λ m. record { chronicle = home; history = m } in
    let is : c.by-history.result ≡ Made h = c.by-history.ensures.history ∙ ap Made c.of.ensures in
    let told = vouches h home x.outbox row.conn row.was_lost (follows_held h row x held c.requires.due) (row.of_conn x held) c.requires.joined dead (cause_held h row x held c.requires.accounts) c.requires.accounts.lost in
    subst (λ (k : Kept History). Vouches (λ (l : Kept History) conn. owed l.history conn) (λ (l : Kept History) conn. OwesNoMore l.history conn) (λ (l : Kept History) conn. was_cut l.history conn) k x.outbox.conn x.outbox.added x.outbox.full_finds row.was_lost) (sym is) told

pub hand_over-requires-clause-chronicle : goal.hand_over-requires-clause-chronicle
hand_over-requires-clause-chronicle g c picked is =
    let row = c.args.row.now in let x = c.in-Some.held in
    let home : IsHome c.args.chronicle.now.chronicle x.outbox = home_held c.args.chronicle.now.chronicle row x (sym c.in-Some.ensures.value) c.requires.home in
    ap (λ (k : Kept History). k.chronicle) c.by-history.ensures.history ∙ home picked is
