use Rattle.std.proofs.Common.{refl}
use Rattle.realm_actor.proofs.Homes.{home_marked}
use Rattle.realm_actor.proofs.TableInvariant.{knows_marked}
use Rattle.realm_actor.proofs.table.Table.mark_lost.Goals as goal

pub returns-clause-keeps : goal.returns-clause-keeps
returns-clause-keeps g c = record { chronicle = refl; knows = knows_marked c.args.self.now _ c.args.conn refl c.mark_in.ensures refl refl }

pub invariant_of-self : goal.invariant_of-self
invariant_of-self g c =
    let table = c.args.self.now in
    record { told = table.told; home = home_marked table.chronicle.chronicle c.args.conn table.rows.items _ c.mark_in.ensures table.home }
