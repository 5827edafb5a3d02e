use Rattle.rawsocket.proofs.DeframerLemmas.{nothing_read}
use Rattle.rawsocket.proofs.deframer.Deframer.taking.Goals as goal

pub returns-clause-reads : goal.returns-clause-reads
returns-clause-reads c = nothing_read _ _ c.new.ensures.items
