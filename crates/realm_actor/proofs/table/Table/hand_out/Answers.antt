use Rattle.std.proofs.Common.{◌||◌, not, sym, ap, ◌∙◌, subst}
use Rattle.std.specs.Prelude.{Some}
use Rattle.realm_actor.specs.Rows.{EachHome}
use Rattle.realm_actor.specs.Tables.{EachEnds}
use Rattle.realm_actor.proofs.table.Table.hand_out.Goals as goal

pub returns-clause-rows : goal.returns-clause-rows
returns-clause-rows g c =
    let d = c.deliver-is_full.ensures.rows in
    (d.0, d.1, d.2, subst (λ b. EachEnds c.args.conn b d.0 c.deliver-is_full.new.rows.items) c.is_live-is_live.ensures d.3)

pub returns-clause-ended : goal.returns-clause-ended
returns-clause-ended g c = c.either-self-2.ensures ∙ ap (λ b. c.args.self.now.has_ended || not b) c.is_live-is_live.ensures

pub invariant_of-self : goal.invariant_of-self
invariant_of-self g c =
    let d = c.deliver-is_full.ensures in
    record {
      told = ap (λ b. b.history) d.kept ∙ c.args.self.now.told ∙ ap (λ r. Some r) (sym c.give_back.ensures);
      home = subst (λ own. EachHome own c.deliver-is_full.new.rows.items) (sym (ap (λ b. b.chronicle) d.kept)) d.home;
    }
