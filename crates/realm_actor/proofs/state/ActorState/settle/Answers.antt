use Rattle.std.proofs.Common.{refl}
use Rattle.realm_actor.proofs.Homes.{home_settled}
use Rattle.realm_actor.proofs.TableInvariant.{knows_settled}
use Rattle.realm_actor.proofs.state.ActorState.settle.Goals as goal

pub returns-clause-keeps : goal.returns-clause-keeps
returns-clause-keeps g c = record { handled = refl; table = record { chronicle = refl; knows = knows_settled c.settle_row.result c.args.self.now.table _ c.args.drain.conn c.args.drain (λ rest. rest.items.items) _ c.settle_row.ensures.rows c.settle_row.ensures.err refl refl refl } }

pub invariant_of-self : goal.invariant_of-self
invariant_of-self g c =
    let table = c.args.self.now.table in
    record {
      told = table.told;
      home = home_settled table.chronicle.chronicle c.settle_row.result c.args.drain.conn c.args.drain (λ rest. rest.items.items) table.rows.items _ _ c.settle_row.ensures.rows c.settle_row.ensures.err table.home;
    }
