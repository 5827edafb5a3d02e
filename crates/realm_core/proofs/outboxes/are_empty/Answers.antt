use Rattle.std.proofs.Common.{false, length, ap, subst, rules}
use Rattle.std.specs.Bool.{IsTrue}
use Rattle.std.proofs.lemmas.List.{nil_from_length}
use Rattle.realm_core.proofs.SessionQueueLemmas.{some-waits, none-waits}
use Rattle.realm_core.proofs.outboxes.are_empty.Goals as goal

pub returns-clause-none : goal.returns-clause-none
returns-clause-none c = λ is. none-waits c.args.outboxes.now (nil_from_length c.args.outboxes.now.entries (c.is_empty.ensures.0 (search rules)))

pub returns-clause-some : goal.returns-clause-some
returns-clause-some c = λ is. some-waits c.args.outboxes.now c.requires (λ none. (let here : IsTrue c.is_empty.result = c.is_empty.ensures.1 (ap length none) in let never : IsTrue false = subst IsTrue is here in search rules))
