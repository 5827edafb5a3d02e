use Rattle.std.proofs.Common.{◌≡◌, ap, sym, ◌∙◌, true, subst, ◌∷◌, [], length, ◌+◌, ◌≤◌, arith}
use Rattle.realm.specs.History.{◌▷◌}
use Rattle.realm.specs.declared.entry.Entry.TheVariants.{Join}
use Rattle.std.specs.Prelude.{vec_capacity}
use Rattle.realm_actor.proofs.FoundFull.{not_err}
use Rattle.realm.specs.Sessions.{may_join}
use Rattle.realm_actor.specs.ActorView.{working}
use Rattle.realm_actor.specs.Tables.{standing, Sound}
use Rattle.realm_actor.specs.Cuts.{NoneFull}
use Rattle.realm_actor.proofs.AppliedActs.{loses_early, loses_join, applies_join}
use Rattle.realm_actor.proofs.LastCutLemmas.{insert_length, length_all}
use Rattle.realm_actor.proofs.TableInvariant.{keeps_rest, keeps_on}
use Rattle.realm_actor.specs.Words.{◌⊕◌}
use Rattle.realm_actor.proofs.state.ActorState.join.Goals as goal

pub admit-requires-clause-sound : goal.admit-requires-clause-sound
admit-requires-clause-sound g c =
    let m = c.make_room.ensures in
    subst (λ h. Sound h c.make_room.new.self.table.rows.items) (sym m.realm) (subst (λ l. Sound c.args.self.now.table.realm l) (sym m.rows) c.requires.sound)

pub returns-then-is_err-clause-outcome : goal.returns-then-is_err-clause-outcome
returns-then-is_err-clause-outcome g c =
    let old = working (g.W.IdSource.given c.args.self.now.words) c.args.self.now in
    let new = working (g.W.IdSource.given c.make_room.new.self.words) c.make_room.new.self in
    let m = c.make_room.ensures in
    let may : may_join old.history c.args.conn ≡ true = sym c.may_join.ensures ∙ c.if-not-may_join.false in
    loses_early c.args.conn c.args.joining old new may m.realm m.rows (ap (g.W.IdSource.given) m.words)

pub returns-in-Err-clause-outcome : goal.returns-in-Err-clause-outcome
returns-in-Err-clause-outcome g c =
    let old = working (g.W.IdSource.given c.args.self.now.words) c.args.self.now in
    let admit = c.admit.new.self in
    let m = c.make_room.ensures in
    let may : may_join old.history c.args.conn ≡ true = sym c.may_join.ensures ∙ c.if-not-may_join.false in
    let same = c.in-Err.ensures.err in
    loses_join c.args.conn c.args.joining old (record { history = admit.realm; rows = admit.rows.items; words = g.W.IdSource.given c.next_word-word.new.self }) c.next_word-word.result may
    (ap (λ t. t.realm) same ∙ m.realm) (ap (λ t. t.rows.items) same ∙ m.rows) (c.next_word-word.ensures ∙ ap (λ w. g.W.IdSource.given w ⊕ (c.next_word-word.result ∷ [])) m.words)

pub returns-in-Ok-clause-outcome : goal.returns-in-Ok-clause-outcome
returns-in-Ok-clause-outcome g c =
    let old = working (g.W.IdSource.given c.args.self.now.words) c.args.self.now in
    let cut = c.cut_found.new.self in
    let m = c.make_room.ensures in
    let admitted = c.in-Ok.ensures in
    let cuts = c.cut_found.ensures.cuts in
    applies_join c.args.conn c.args.joining old (record { history = cut.realm; rows = cut.rows.items; words = g.W.IdSource.given c.cut_found.new.words }) c.make_room.new.self.table.rows.items (standing c.admit.new.self)
    c.new-row.result admitted.rows.0 c.next_word-word.result (g.W.IdSource.given c.next_word-word.new.self) cuts.0
    m.rows admitted.rows.1 (admitted.history ∙ ap (λ h. h ▷ Join c.args.conn c.next_word-word.result c.args.joining.authid) m.realm) admitted.sound cuts.1 c.cut_found.ensures.none c.cut_found.ensures.sound (c.next_word-word.ensures ∙ ap (λ w. g.W.IdSource.given w ⊕ (c.next_word-word.result ∷ [])) m.words) cuts.2 c.new-row.ensures.conn c.new-row.ensures.outbox c.new-row.ensures.is_cut c.new-row.ensures.is_lost c.new-row.ensures.was_lost (c.shows.ensures.finds c.args.joining.empty)

pub returns-in-Err-clause-room : goal.returns-in-Err-clause-room
returns-in-Err-clause-room g c = λ before.
    let m = c.make_room.ensures in
    let l = ap (λ t. length t.rows.items) c.in-Err.ensures.err ∙ ap length m.rows in
    let more = m.capacity in
    omega (arith, before, l, more)

pub returns-then-is_err-clause-room : goal.returns-then-is_err-clause-room
returns-then-is_err-clause-room g c = λ before.
    let m = c.make_room.ensures in
    let l = ap length m.rows in
    let more = m.capacity in
    omega (arith, before, l, more)

pub returns-in-Ok-clause-room : goal.returns-in-Ok-clause-room
returns-in-Ok-clause-room g c = λ before.
    let m = c.make_room.ensures in
    let admitted = c.in-Ok.ensures in
    let cuts = c.cut_found.ensures.cuts in
    let one = admitted.rows.1.0 in
    let two = insert_length c.make_room.new.self.table.rows.items admitted.rows.0 c.new-row.result in
    let three = length_all cuts.1 in
    let more = not_err c.make_room.result (length c.make_room.new.self.table.rows.items + 1 ≤ vec_capacity c.make_room.new.self.last_cut) (sym c.if-is_err.ensures.value) m.room in
    omega (arith, before, one, two, three, more)

pub cut_found-requires-clause-none : goal.cut_found-requires-clause-none
cut_found-requires-clause-none g c = λ quiet. c.in-Ok.ensures.none quiet (subst (λ l. NoneFull l) (sym c.make_room.ensures.rows) c.requires.none)

pub returns-then-not-may_join-clause-keeps : goal.returns-then-not-may_join-clause-keeps
returns-then-not-may_join-clause-keeps g c = keeps_rest c.args.self.now

pub returns-in-Err-clause-keeps : goal.returns-in-Err-clause-keeps
returns-in-Err-clause-keeps g c = let kept = c.make_room.ensures.keeps in record { handled = kept.handled; table = keeps_on kept.table c.admit.ensures.keeps }

pub returns-in-Ok-clause-keeps : goal.returns-in-Ok-clause-keeps
returns-in-Ok-clause-keeps g c =
    let kept = c.make_room.ensures.keeps in
    record { handled = kept.handled; table = keeps_on kept.table (keeps_on c.admit.ensures.keeps c.cut_found.ensures.keeps) }
