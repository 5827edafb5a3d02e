use Rattle.std.proofs.Common.{sym, ap, ◌∙◌, subst, ◌∷◌, []}
use Rattle.std.specs.Prelude.{None}
use Rattle.realm.specs.declared.entry.Entry.TheVariants.{Cut}
use Rattle.realm.specs.History.{◌▷◌}
use Rattle.realm_actor.specs.Rows.{Ascending}
use Rattle.realm_actor.specs.Tables.{standing, Ready, Sound}
use Rattle.realm_actor.specs.Cuts.{Cuts}
use Rattle.realm_actor.proofs.HandleLemmas.{ready_marked}
use Rattle.realm_actor.proofs.TableInvariant.{keeps_on}
use Rattle.realm_actor.specs.Words.{◌⊕◌}
use Rattle.realm_actor.proofs.WordSteps.{more_on}
use Rattle.realm_actor.proofs.table.Table.lose.Goals as goal

pub cut-requires-clause-ready : goal.cut-requires-clause-ready
cut-requires-clause-ready g c =
    let a = c.args.self.now in
    let b = c.mark_lost.new.self in
    let m = c.mark_lost.ensures in
    subst (λ h. Ready (Cut c.args.conn None) h b.rows.items) (sym m.realm) (ready_marked a.realm c.args.conn None a.rows.items b.rows.items c.requires.live m.rows c.requires.sound)

pub returns-clause-lost : goal.returns-clause-lost
returns-clause-lost g c =
    let a = c.args.self.now in
    let marked = c.mark_lost.new.self in
    let m = c.mark_lost.ensures in
    let entered = c.cut.ensures.history in
    let cuts = c.cut_full.ensures.cuts in
    let word = c.next_word-word.result in
    let news = c.cut_full.new.self in
    let is = entered.2 ∙ ap (λ h. h ▷ entered.0) m.realm in (
      word,
      cuts.0,
      entered.0,
      marked.rows.items,
      entered.1,
      m.rows,
      record {
        mid = c.cut.new.self.rows.items;
        went = c.cut.ensures.rows;
        sound = subst (λ h. Sound h c.cut.new.self.rows.items) is c.cut.ensures.sound;
        cuts = subst (λ h. Cuts (record { history = h; rows = c.cut.new.self.rows.items }) cuts.0 (standing news)) is cuts.1;
        none_full = c.cut_full.ensures.none;
        still_sound = c.cut_full.ensures.sound;
      },
      cuts.2 ∙ ap (λ l. l ⊕ cuts.0) c.next_word-word.ensures ∙ more_on (g.W.IdSource.given c.args.words.now) (word ∷ []) cuts.0,
    )

pub shut_transport-requires : goal.shut_transport-requires
shut_transport-requires g c = subst (λ l. Ascending l) (sym c.as_slice.ensures.value) c.cut.ensures.sound.ascending

pub returns-clause-keeps : goal.returns-clause-keeps
returns-clause-keeps g c = keeps_on c.mark_lost.ensures.keeps (keeps_on c.cut.ensures.keeps c.cut_full.ensures.keeps)
