use Rattle.command_line.specs.Commands.{purpose_of}
use Rattle.command_line.proofs.command.read_words.Goals as goal

pub returns-in-Err-clause-purpose : goal.returns-in-Err-clause-purpose
returns-in-Err-clause-purpose c = c.read_error.ensures.purpose (purpose_of c.args.words.now)
