use Rattle.std.proofs.Common.{sym, []}
use Rattle.realm_actor.specs.Cuts.{none}
use Rattle.realm_actor.proofs.TableInvariant.{keeps_none}
use Rattle.realm_actor.proofs.WordSteps.{none_more}
use Rattle.realm_actor.proofs.table.Table.cut_found.Goals as goal

pub returns-else-is_full-clause-cuts : goal.returns-else-is_full-clause-cuts
returns-else-is_full-clause-cuts g c = ([], none, sym (none_more (g.W.IdSource.given c.args.words.now)))

pub returns-else-is_full-clause-keeps : goal.returns-else-is_full-clause-keeps
returns-else-is_full-clause-keeps g c = keeps_none c.args.self.now
