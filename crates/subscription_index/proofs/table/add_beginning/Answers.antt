use Rattle.std.proofs.Common.{sym, ◌∙◌}
use Rattle.subscription_index.specs.body.Tables.{number_by_ending}
use Rattle.subscription_index.proofs.FoundLemmas.{adds_number, adds_no_number}
use Rattle.subscription_index.proofs.table.add_beginning.Goals as goal

pub returns-in_ok-push : goal.returns-in_ok-push
returns-in_ok-push c = adds_number (number_by_ending c.args.tables.now) c.args.beginning.now c.in-Some.number c.args.numbers.now.items c.push.new.self.items (sym c.find_by_ending.ensures ∙ c.in-Some.is) c.in_ok-push.ensures.items

pub returns-in_default : goal.returns-in_default
returns-in_default c = adds_no_number (number_by_ending c.args.tables.now) c.args.beginning.now c.args.numbers.now.items (sym c.find_by_ending.ensures ∙ c.in_default.is)
