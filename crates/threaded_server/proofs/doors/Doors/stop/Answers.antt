use Rattle.threaded_server.proofs.DoorSteps.{all_stay, all_then}
use Rattle.threaded_server.specs.Stopping.{doors_of}
use Rattle.threaded_server.proofs.doors.Doors.stop.Goals as goal

pub loop-realm-init : goal.loop-realm-init
loop-realm-init g c = all_stay (doors_of c.args.self.now)

pub loop-realm-preserved : goal.loop-realm-preserved
loop-realm-preserved g c = all_then (doors_of c.args.self.now) _ _ c.loop-realm.invariant c.stop_at.ensures
