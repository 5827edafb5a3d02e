use Rattle.std.proofs.Common.{arith}
use Rattle.threaded_server.proofs.PosterSteps.{relabelled, relabelling_none, relabelling_on}
use Rattle.threaded_server.proofs.poster_table.relabel.Goals as goal

pub loop-realm-init : goal.loop-realm-init
loop-realm-init g c = relabelling_none c.args.conn c.args.posters.now.items c.requires

pub loop-realm-preserved : goal.loop-realm-preserved
loop-realm-preserved g c = relabelling_on c.args.conn c.loop-realm.realm _ _ _ c.loop-realm.invariant c.relabel_at.ensures

pub returns : goal.returns
returns g c = relabelled _ c.loop-realm.realm c.args.posters.now.items _ (omega (arith, c.loop-realm-test.false, c.loop-realm.auto.realm-end, c.len-realm-end.ensures)) c.loop-realm.invariant
