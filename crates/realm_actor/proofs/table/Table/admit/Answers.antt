use Rattle.std.proofs.Common.{◌≡◌, refl, sym, ap, ◌∙◌, subst, []}
use Rattle.std.specs.List.{insert}
use Rattle.realm.specs.Sessions.{live}
use Rattle.std.specs.Prelude.{Some}
use Rattle.chronicle.specs.Recorded.{Reaches}
use Rattle.realm.specs.History.{Begins, ◌▷◌, same, longer}
use Rattle.realm_actor.specs.Rows.{Ascending, PartsAt, EachDue, EachHome, NoneRose}
use Rattle.realm_actor.proofs.Homes.{home_inserted}
use Rattle.realm_actor.specs.Tables.{EachEnds, EachWent, Ready, Sound}
use Rattle.realm_actor.specs.Cuts.{NoneFull}
use Rattle.realm_actor.proofs.EntryLemmas.{due_all, went_all, sound_after}
use Rattle.realm_actor.proofs.TableInvariant.{still_none, knows_join, knows_same, none_inserted}
use Rattle.realm_actor.proofs.RowInsertion.{ready_join}
use Rattle.realm_actor.proofs.table.Table.admit.Goals as goal

pub place_in-place-requires : goal.place_in-place-requires
place_in-place-requires g c =
    let seen : c.as_slice.result.now ≡ c.args.self.now.rows.items = c.as_slice.ensures.value in
    subst (λ l. Ascending l) (sym seen) c.requires.sound.ascending

pub hand_out-requires-clause-ascending : goal.hand_out-requires-clause-ascending
hand_out-requires-clause-ascending g c =
    let table = c.args.self.now in
    let new = c.requires.new in
    let i = c.place_in-place.result in
    let seen : c.as_slice.result.now ≡ table.rows.items = c.as_slice.ensures.value in
    let parts = subst (λ l. PartsAt l c.args.conn i) seen c.place_in-place.ensures in
    let put : c.put.new.rows.items ≡ insert table.rows.items i c.args.row = c.put.ensures in
    let ready = ready_join table.realm c.args.entry c.args.conn table.rows.items i c.args.row new.outbox c.requires.own c.requires.may c.requires.sound parts new.conn new.box new.of_conn new.empty new.unseen new.fresh new.never new.was_lost c.requires.comes in
    subst (λ l. Ascending l) (sym put) ready.ascending

pub tell-requires : goal.tell-requires
tell-requires g c =
    let table = c.args.self.now in
    subst (λ k. Reaches Begins table.chronicle.history (Some k)) (sym c.in-Ok.ensures.history) (subst (λ a. Reaches Begins a (Some (table.realm ▷ c.args.entry))) (sym table.told) (longer same))

pub hand_out-requires-clause-due : goal.hand_out-requires-clause-due
hand_out-requires-clause-due g c =
    let table = c.args.self.now in
    let new = c.requires.new in
    let i = c.place_in-place.result in
    let seen : c.as_slice.result.now ≡ table.rows.items = c.as_slice.ensures.value in
    let parts = subst (λ l. PartsAt l c.args.conn i) seen c.place_in-place.ensures in
    let put : c.put.new.rows.items ≡ insert table.rows.items i c.args.row = c.put.ensures in
    let ready = ready_join table.realm c.args.entry c.args.conn table.rows.items i c.args.row new.outbox c.requires.own c.requires.may c.requires.sound parts new.conn new.box new.of_conn new.empty new.unseen new.fresh new.never new.was_lost c.requires.comes in
    subst (λ h. EachDue h c.in-Ok.given.items c.put.new.rows.items) (sym (c.in-Ok.ensures.history))
    (due_all table.realm c.args.entry c.put.new.rows.items c.in-Ok.given.items (subst (λ l. Ready c.args.entry table.realm l) (sym put) ready) c.in-Ok.ensures.given)

pub returns-clause-rows : goal.returns-clause-rows
returns-clause-rows g c =
    let table = c.args.self.now in
    let new = c.requires.new in
    let i = c.place_in-place.result in
    let seen : c.as_slice.result.now ≡ table.rows.items = c.as_slice.ensures.value in
    let parts = subst (λ l. PartsAt l c.args.conn i) seen c.place_in-place.ensures in
    let put : c.put.new.rows.items ≡ insert table.rows.items i c.args.row = c.put.ensures in
    let ready = ready_join table.realm c.args.entry c.args.conn table.rows.items i c.args.row new.outbox c.requires.own c.requires.may c.requires.sound parts new.conn new.box new.of_conn new.empty new.unseen new.fresh new.never new.was_lost c.requires.comes in
    let d = c.hand_out.ensures.rows in
    let is = c.in-Ok.ensures.history in (
      i,
      subst (λ l. EachWent l c.hand_out.new.self.rows.items) put
          (went_all table.realm c.args.entry c.args.conn c.put.new.rows.items d.0 c.hand_out.new.self.rows.items c.requires.own c.requires.comes (subst (λ l. Ready c.args.entry table.realm l) (sym put) ready) d.1
          (subst (λ h. EachDue h [] d.0) is d.2)
          (subst (λ b. EachEnds c.args.conn b d.0 c.hand_out.new.self.rows.items) (ap (λ h. live h c.args.conn) is) d.3)),
    )

pub returns-clause-sound : goal.returns-clause-sound
returns-clause-sound g c =
    let table = c.args.self.now in
    let new = c.requires.new in
    let i = c.place_in-place.result in
    let seen : c.as_slice.result.now ≡ table.rows.items = c.as_slice.ensures.value in
    let parts = subst (λ l. PartsAt l c.args.conn i) seen c.place_in-place.ensures in
    let put : c.put.new.rows.items ≡ insert table.rows.items i c.args.row = c.put.ensures in
    let ready = ready_join table.realm c.args.entry c.args.conn table.rows.items i c.args.row new.outbox c.requires.own c.requires.may c.requires.sound parts new.conn new.box new.of_conn new.empty new.unseen new.fresh new.never new.was_lost c.requires.comes in
    let d = c.hand_out.ensures.rows in
    let is = c.in-Ok.ensures.history in
    subst (λ h. Sound h c.hand_out.new.self.rows.items) (sym (c.hand_out.ensures.realm ∙ is))
    (sound_after table.realm c.args.entry c.args.conn c.put.new.rows.items d.0 c.hand_out.new.self.rows.items c.requires.own c.requires.comes (subst (λ l. Ready c.args.entry table.realm l) (sym put) ready) d.1
    (subst (λ h. EachDue h [] d.0) is d.2)
    (subst (λ b. EachEnds c.args.conn b d.0 c.hand_out.new.self.rows.items) (ap (λ h. live h c.args.conn) is) d.3))

pub returns-clause-none : goal.returns-clause-none
returns-clause-none g c = λ quiet none.
    let table = c.args.self.now in
    let new = c.requires.new in
    let i = c.place_in-place.result in
    let seen : c.as_slice.result.now ≡ table.rows.items = c.as_slice.ensures.value in
    let parts = subst (λ l. PartsAt l c.args.conn i) seen c.place_in-place.ensures in
    let put : c.put.new.rows.items ≡ insert table.rows.items i c.args.row = c.put.ensures in
    let ready = ready_join table.realm c.args.entry c.args.conn table.rows.items i c.args.row new.outbox c.requires.own c.requires.may c.requires.sound parts new.conn new.box new.of_conn new.empty new.unseen new.fresh new.never new.was_lost c.requires.comes in
    let d = c.hand_out.ensures.rows in
    let is = c.in-Ok.ensures.history in
    let went = went_all table.realm c.args.entry c.args.conn c.put.new.rows.items d.0 c.hand_out.new.self.rows.items c.requires.own c.requires.comes (subst (λ l. Ready c.args.entry table.realm l) (sym put) ready) d.1
    (subst (λ h. EachDue h [] d.0) is d.2)
    (subst (λ b. EachEnds c.args.conn b d.0 c.hand_out.new.self.rows.items) (ap (λ h. live h c.args.conn) is) d.3) in
    still_none c.put.new.rows.items c.hand_out.new.self.rows.items went (c.hand_out.ensures.none quiet) (subst (λ l. NoneFull l) (sym put) (none_inserted table.rows.items i c.args.row new.outbox new.box new.never none))

pub returns-clause-keeps : goal.returns-clause-keeps
returns-clause-keeps g c =
    let table = c.args.self.now in
    let new = c.requires.new in
    let i = c.place_in-place.result in
    let seen : c.as_slice.result.now ≡ table.rows.items = c.as_slice.ensures.value in
    let parts = subst (λ l. PartsAt l c.args.conn i) seen c.place_in-place.ensures in
    let put : c.put.new.rows.items ≡ insert table.rows.items i c.args.row = c.put.ensures in
    let ready = ready_join table.realm c.args.entry c.args.conn table.rows.items i c.args.row new.outbox c.requires.own c.requires.may c.requires.sound parts new.conn new.box new.of_conn new.empty new.unseen new.fresh new.never new.was_lost c.requires.comes in
    let d = c.hand_out.ensures.rows in
    let is = c.in-Ok.ensures.history in
    let lives = ap (λ h. live h c.args.conn) is in
    let went = went_all table.realm c.args.entry c.args.conn c.put.new.rows.items d.0 c.hand_out.new.self.rows.items c.requires.own c.requires.comes (subst (λ l. Ready c.args.entry table.realm l) (sym put) ready) d.1
    (subst (λ h. EachDue h [] d.0) is d.2)
    (subst (λ b. EachEnds c.args.conn b d.0 c.hand_out.new.self.rows.items) lives d.3) in
    record {
      chronicle = c.hand_out.ensures.chronicle ∙ ap (λ b. b.chronicle) c.tell.ensures;
      knows = knows_join table _ table.realm c.args.entry c.args.conn i c.args.row c.hand_out.result _ c.requires.own (c.hand_out.ensures.realm ∙ is) refl lives new.conn new.is_cut new.is_lost
          (subst (λ l. EachWent l c.hand_out.new.self.rows.items) put went)
          (λ quiet. subst (λ l. NoneRose l c.hand_out.new.self.rows.items) put (c.hand_out.ensures.none quiet)) c.hand_out.ensures.marks c.hand_out.ensures.ended;
    }

pub invariant_of-self-2 : goal.invariant_of-self-2
invariant_of-self-2 g c =
    let table = c.args.self.now in
    let own = table.chronicle.chronicle in
    record {
      told = ap (λ b. b.history) c.tell.ensures;
      home = subst (λ k. EachHome k c.put.new.rows.items) (sym (ap (λ b. b.chronicle) c.tell.ensures))
          (subst (λ l. EachHome own l) (sym c.put.ensures) (home_inserted own table.rows.items c.place_in-place.result c.args.row c.requires.home table.home));
    }

pub returns-in_default-clause-keeps : goal.returns-in_default-clause-keeps
returns-in_default-clause-keeps g c = record { chronicle = refl; knows = knows_same c.args.self.now _ refl c.in_default.ensures.unchanged refl refl }
