use Rattle.std.proofs.Common.{refl, sym, ◌∙◌}
use Rattle.realm_actor.proofs.Homes.{home_unmarked}
use Rattle.realm_actor.proofs.MarkedRows.{unmarked_names, unmarked_same}
use Rattle.realm_actor.proofs.TableInvariant.{keeps_none, knows_unmarked}
use Rattle.realm_actor.proofs.table.Table.name.Goals as goal

pub returns-then-not-self-clause-named : goal.returns-then-not-self-clause-named
returns-then-not-self-clause-named g c = c.requires.empty ∙ sym (unmarked_names c.args.self.now.rows.items (c.requires.knows.marks c.if-not-self.true))

pub returns-then-not-self-clause-rows : goal.returns-then-not-self-clause-rows
returns-then-not-self-clause-rows g c = unmarked_same c.args.self.now.rows.items (c.requires.knows.marks c.if-not-self.true)

pub returns-then-not-self-clause-keeps : goal.returns-then-not-self-clause-keeps
returns-then-not-self-clause-keeps g c = keeps_none c.args.self.now

pub returns-clause-keeps : goal.returns-clause-keeps
returns-clause-keeps g c = record { chronicle = refl; knows = λ knows. knows_unmarked c.args.self.now _ c.name_all.ensures.rows knows refl refl }

pub invariant_of-self : goal.invariant_of-self
invariant_of-self g c =
    let table = c.args.self.now in
    record { told = table.told; home = home_unmarked table.chronicle.chronicle table.rows.items _ c.name_all.ensures.rows table.home }
