use Rattle.std.proofs.Common.{sym, ap, ◌∙◌}
use Rattle.session.specs.body.EventHead.{event_front}
use Rattle.session.proofs.wire.event_head.EventHead.put_event.Goals as goal

pub returns-in-Json-clause-put : goal.returns-in-Json-clause-put
returns-in-Json-clause-put c = c.put_event_as_json.ensures.put c.args.count ∙ ap (λ s. event_front s c.args.count c.args.numbers.0 c.args.numbers.1) (sym c.in-Json.is)
