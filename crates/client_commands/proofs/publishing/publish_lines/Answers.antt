use Rattle.rawsocket.proofs.Lemmas.{no_whole_steps}
use Rattle.client_commands.proofs.publishing.publish_lines.Goals as goal

pub returns-in_default-clause-lines : goal.returns-in_default-clause-lines
returns-in_default-clause-lines g c = no_whole_steps _
