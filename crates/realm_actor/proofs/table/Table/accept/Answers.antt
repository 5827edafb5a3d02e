use Rattle.std.proofs.Common.{subst}
use Rattle.realm_actor.specs.Tables.{standing, Sound}
use Rattle.realm_actor.specs.Cuts.{Cuts}
use Rattle.realm_actor.proofs.TableInvariant.{keeps_on}
use Rattle.realm_actor.proofs.table.Table.accept.Goals as goal

pub cut_found-requires-clause-none : goal.cut_found-requires-clause-none
cut_found-requires-clause-none g c = λ quiet. c.in_ok-is_full.ensures.none quiet c.requires.none

pub returns-clause-ok : goal.returns-clause-ok
returns-clause-ok g c =
    let is = c.in_ok-is_full.ensures.history in
    let before = c.enter.new.self in
    let cuts = c.cut_found.ensures.cuts in (
      cuts.0,
      record {
        mid = before.rows.items;
        went = c.in_ok-is_full.ensures.rows;
        sound = subst (λ h. Sound h before.rows.items) is c.in_ok-is_full.ensures.sound;
        cuts = subst (λ h. Cuts (record { history = h; rows = before.rows.items }) cuts.0 (standing c.cut_found.new.self)) is cuts.1;
        none_full = c.cut_found.ensures.none;
        still_sound = c.cut_found.ensures.sound;
      },
      cuts.2,
    )

pub returns-clause-keeps : goal.returns-clause-keeps
returns-clause-keeps g c = keeps_on c.enter.ensures.keeps c.cut_found.ensures.keeps

pub returns-in_err-is_full-clause-keeps : goal.returns-in_err-is_full-clause-keeps
returns-in_err-is_full-clause-keeps g c = c.enter.ensures.keeps
