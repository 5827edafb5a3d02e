use Rattle.client_commands.proofs.ControlsLemmas.{clean-shown}
use Rattle.client_commands.proofs.controls.may_have_controls.Goals as goal

pub returns-in-None : goal.returns-in-None
returns-in-None c = λ _. clean-shown c.args.text.now c.in-None.ensures
