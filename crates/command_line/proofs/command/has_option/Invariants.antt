use Rattle.std.proofs.Common.{◌≡◌, drop}
use Rattle.command_line.specs.Commands.{has_option}
use Rattle.command_line.proofs.command.has_option.Given as goal

abbrev pub invariant-loop-word : goal.invariant-loop-word
invariant-loop-word l = has_option l.option l.words ≡ has_option l.option (drop l.word-index l.words)
