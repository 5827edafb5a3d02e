use Rattle.std.proofs.Common.{refl, sym, ap, ◌∙◌, subst, []}
use Rattle.realm.specs.Sessions.{live}
use Rattle.std.specs.Prelude.{Some}
use Rattle.chronicle.specs.Recorded.{Reaches}
use Rattle.realm.specs.History.{Begins, ◌▷◌, same, longer}
use Rattle.realm_actor.specs.Rows.{EachDue, EachHome}
use Rattle.realm_actor.specs.Tables.{EachEnds, Sound}
use Rattle.realm_actor.proofs.EntryLemmas.{due_all, went_all, sound_after}
use Rattle.realm_actor.proofs.TableInvariant.{still_none, knows_entry, knows_same}
use Rattle.realm_actor.proofs.table.Table.enter.Goals as goal

pub tell-requires : goal.tell-requires
tell-requires g c =
    let table = c.args.self.now in
    subst (λ k. Reaches Begins table.chronicle.history (Some k)) (sym c.in_ok-given.ensures.history) (subst (λ a. Reaches Begins a (Some (table.realm ▷ c.args.entry))) (sym table.told) (longer same))

pub hand_out-requires-clause-due : goal.hand_out-requires-clause-due
hand_out-requires-clause-due g c =
    let table = c.args.self.now in
    subst (λ h. EachDue h c.in_ok-given.given.items table.rows.items) (sym (c.in_ok-given.ensures.history))
    (due_all table.realm c.args.entry table.rows.items c.in_ok-given.given.items c.requires.ready c.in_ok-given.ensures.given)

pub returns-clause-rows : goal.returns-clause-rows
returns-clause-rows g c =
    let table = c.args.self.now in
    let d = c.hand_out.ensures.rows in
    let is = c.in_ok-given.ensures.history in
    went_all table.realm c.args.entry c.args.conn table.rows.items d.0 c.hand_out.new.self.rows.items c.requires.own c.requires.comes c.requires.ready d.1
    (subst (λ h. EachDue h [] d.0) is d.2)
    (subst (λ b. EachEnds c.args.conn b d.0 c.hand_out.new.self.rows.items) (ap (λ h. live h c.args.conn) is) d.3)

pub returns-clause-sound : goal.returns-clause-sound
returns-clause-sound g c =
    let table = c.args.self.now in
    let d = c.hand_out.ensures.rows in
    let is = c.in_ok-given.ensures.history in
    subst (λ h. Sound h c.hand_out.new.self.rows.items) (sym (c.hand_out.ensures.realm ∙ is))
    (sound_after table.realm c.args.entry c.args.conn table.rows.items d.0 c.hand_out.new.self.rows.items c.requires.own c.requires.comes c.requires.ready d.1
    (subst (λ h. EachDue h [] d.0) is d.2)
    (subst (λ b. EachEnds c.args.conn b d.0 c.hand_out.new.self.rows.items) (ap (λ h. live h c.args.conn) is) d.3))

pub returns-clause-none : goal.returns-clause-none
returns-clause-none g c = λ quiet none.
    let table = c.args.self.now in
    let d = c.hand_out.ensures.rows in
    let is = c.in_ok-given.ensures.history in
    let went = went_all table.realm c.args.entry c.args.conn table.rows.items d.0 c.hand_out.new.self.rows.items c.requires.own c.requires.comes c.requires.ready d.1
    (subst (λ h. EachDue h [] d.0) is d.2)
    (subst (λ b. EachEnds c.args.conn b d.0 c.hand_out.new.self.rows.items) (ap (λ h. live h c.args.conn) is) d.3) in
    still_none table.rows.items c.hand_out.new.self.rows.items went (c.hand_out.ensures.none quiet) none

pub returns-clause-keeps : goal.returns-clause-keeps
returns-clause-keeps g c =
    let table = c.args.self.now in
    let d = c.hand_out.ensures.rows in
    let is = c.in_ok-given.ensures.history in
    let lives = ap (λ h. live h c.args.conn) is in
    let went = went_all table.realm c.args.entry c.args.conn table.rows.items d.0 c.hand_out.new.self.rows.items c.requires.own c.requires.comes c.requires.ready d.1
    (subst (λ h. EachDue h [] d.0) is d.2)
    (subst (λ b. EachEnds c.args.conn b d.0 c.hand_out.new.self.rows.items) lives d.3) in
    record {
      chronicle = c.hand_out.ensures.chronicle ∙ ap (λ b. b.chronicle) c.tell.ensures;
      knows = knows_entry table _ table.realm c.args.entry c.args.conn c.hand_out.result _ c.requires.own (c.hand_out.ensures.realm ∙ is) refl lives went c.hand_out.ensures.none c.hand_out.ensures.marks c.hand_out.ensures.ended;
    }

pub returns-in_err-given-clause-keeps : goal.returns-in_err-given-clause-keeps
returns-in_err-given-clause-keeps g c = record { chronicle = refl; knows = knows_same c.args.self.now _ refl c.in_err-given.ensures.unchanged refl refl }

pub invariant_of-self-2 : goal.invariant_of-self-2
invariant_of-self-2 g c =
    let table = c.args.self.now in
    record { told = ap (λ b. b.history) c.tell.ensures; home = subst (λ own. EachHome own table.rows.items) (sym (ap (λ b. b.chronicle) c.tell.ensures)) table.home }
