use Rattle.command_line.proofs.command.read_matches.Goals as goal

pub returns-in-Some-clause-purpose : goal.returns-in-Some-clause-purpose
returns-in-Some-clause-purpose c = c.read_replay.ensures.purpose c.args.purpose

pub returns-in-Some-subcommand_matches-2-clause-purpose : goal.returns-in-Some-subcommand_matches-2-clause-purpose
returns-in-Some-subcommand_matches-2-clause-purpose c = c.read_publishing.ensures.purpose c.args.purpose
