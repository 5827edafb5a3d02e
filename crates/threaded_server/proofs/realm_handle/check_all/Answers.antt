use Rattle.std.proofs.Common.{refl, ◌∙◌, arith}
use Rattle.threaded_server.proofs.RunSteps.{checking_all, checking_none, checking_on}
use Rattle.threaded_server.proofs.realm_handle.check_all.Goals as goal

pub loop-init : goal.loop-init
loop-init g c = (refl, checking_none c.args.chronicle.now c.args.seen.items c.requires)

pub loop-preserved : goal.loop-preserved
loop-preserved g c = (
  c.check_seen.ensures.same ∙ c.loop.invariant.0,
  checking_on c.loop.chronicle c.check_seen.new.chronicle c.args.seen.items c.loop.seen.items c.pop.new.self.items c.in-Some-pop.last c.check_seen.ensures.same c.in-Some-pop.ensures.items c.check_seen.ensures.begins c.loop.invariant.1,
)

pub returns-in-None-pop-clause-begins : goal.returns-in-None-pop-clause-begins
returns-in-None-pop-clause-begins g c = checking_all c.loop.chronicle c.args.chronicle.now c.args.seen.items c.loop.seen.items c.loop.invariant.0 (omega (arith, c.in-None-pop.ensures.cases.0)) c.loop.invariant.1
