use Rattle.std.proofs.Common.{refl, sym, ap, ◌∙◌, subst, [], ◌∷◌, length}
use Rattle.std.proofs.lemmas.Option.{slice_get_read}
use Rattle.realm_actor.specs.Tables.{standing, EachMarked}
use Rattle.realm_actor.specs.Cuts.{Accepted}
use Rattle.realm_actor.specs.Stop.{passed, closed, refused}
use Rattle.realm_actor.proofs.FoundFull.{ready_live}
use Rattle.realm_actor.proofs.TableInvariant.{keeps_none, keeps_on}
use Rattle.realm_actor.specs.Words.{◌⊕◌}
use Rattle.realm_actor.proofs.WordSteps.{more_on, none_more}
use Rattle.realm_actor.proofs.table.Table.close_at.Goals as goal

pub returns-then-not-is_live-clause-closes : goal.returns-then-not-is_live-clause-closes
returns-then-not-is_live-clause-closes g c =
    let rows = c.args.self.now.rows.items in
    let r = c.index.result.now in
    let at = slice_get_read rows (length rows) c.args.place r refl c.requires.inside c.index.ensures in
    ([], [], passed r at (sym c.is_live.ensures ∙ c.if-not-is_live.true), sym (none_more (g.W.IdSource.given c.args.words.now)), refl)

pub accept-requires-clause-ready : goal.accept-requires-clause-ready
accept-requires-clause-ready g c = ready_live c.args.self.now.realm _ c.index.result.now.conn c.args.self.now.rows.items refl (sym c.is_live.ensures ∙ c.if-not-is_live.false) c.requires.sound (λ d. refl)

pub returns-in-Ok-clause-closes : goal.returns-in-Ok-clause-closes
returns-in-Ok-clause-closes g c =
    let rows = c.args.self.now.rows.items in
    let r = c.index.result.now in
    let at = slice_get_read rows (length rows) c.args.place r refl c.requires.inside c.index.ensures in
    let word = c.next_word-word.result in
    let t = c.in-Ok.ensures.ok in
    let before = g.W.IdSource.given c.args.words.now in
    (word ∷ t.0, [], closed r word t.0 at (sym c.is_live.ensures ∙ c.if-not-is_live.false) t.1, t.2 ∙ ap (λ l. l ⊕ t.0) c.next_word-word.ensures ∙ more_on before (word ∷ []) t.0, refl)

pub returns-in-Err-clause-closes : goal.returns-in-Err-clause-closes
returns-in-Err-clause-closes g c =
    let rows = c.args.self.now.rows.items in
    let r = c.index.result.now in
    let at = slice_get_read rows (length rows) c.args.place r refl c.requires.inside c.index.ensures in
    let gone = c.next_word-word.result in
    let same = c.in-Err.ensures.err in
    let t = c.lose.ensures.lost in
    let news = c.lose.new.self in
    let before = g.W.IdSource.given c.args.words.now in (
      gone ∷ t.0 ∷ t.1,
      r.conn ∷ [],
      refused r gone t.0 t.1 t.2 t.3 at (sym c.is_live.ensures ∙ c.if-not-is_live.false) t.4
          (subst (λ x. EachMarked r.conn x.rows.items t.3) same t.5)
          (subst (λ x. Accepted (record (standing x) { rows = t.3 }) t.2 t.1 (standing news)) same t.6),
      t.7 ∙ ap (λ w. g.W.IdSource.given w ⊕ (t.0 ∷ t.1)) c.in-Err.ensures.words ∙ ap (λ l. l ⊕ (t.0 ∷ t.1)) c.next_word-word.ensures ∙ more_on before (gone ∷ []) (t.0 ∷ t.1),
      refl,
    )

pub returns-then-not-is_live-clause-keeps : goal.returns-then-not-is_live-clause-keeps
returns-then-not-is_live-clause-keeps g c = keeps_none c.args.self.now

pub returns-in-Err-clause-keeps : goal.returns-in-Err-clause-keeps
returns-in-Err-clause-keeps g c = keeps_on c.accept.ensures.keeps c.lose.ensures.keeps
