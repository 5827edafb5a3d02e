use Rattle.rawsocket.proofs.Lemmas.{no_whole_steps}
use Rattle.client_commands.proofs.file_input.whole_input.Goals as goal

pub returns-in_default-clause-reads : goal.returns-in_default-clause-reads
returns-in_default-clause-reads g c = no_whole_steps _
