use Rattle.rawsocket.proofs.StepsLemmas.{sent}
use Rattle.rawsocket.proofs.devices.turns.send.Goals as goal

pub returns-in-Ok : goal.returns-in-Ok
returns-in-Ok g c = sent _ _ _ _ _ _ c.flush.result c.in-Ok.ensures c.flush.ensures
