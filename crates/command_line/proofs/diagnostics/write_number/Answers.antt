use Rattle.command_line.proofs.diagnostics.write_number.Goals as goal

pub returns-in-BadLine-clause-steps : goal.returns-in-BadLine-clause-steps
returns-in-BadLine-clause-steps g c = c.write_all.ensures.steps
