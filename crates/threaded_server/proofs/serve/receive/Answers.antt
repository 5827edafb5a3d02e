use Rattle.threaded_server.proofs.Moving.{admitted, not_taken_apart}
use Rattle.threaded_server.proofs.serve.receive.Goals as goal

pub returns-in-Ok-clause-moves : goal.returns-in-Ok-clause-moves
returns-in-Ok-clause-moves g c = admitted _ _ _ _ _ _ _ c.in-Ok.ensures.lending c.admit-gone.ensures.lent c.admit-gone.ensures.over c.take_back.ensures.lending

pub returns-in-Err-clause-moves : goal.returns-in-Err-clause-moves
returns-in-Err-clause-moves g c = not_taken_apart _ _ _ c.in-Err.ensures.lending
