use Rattle.msgpack_laws.proofs.Reading.{front-seen, nothing-seen}
use Rattle.msgpack_laws.proofs.standing.front_is_seen.Goals as goal

pub returns-clause-value : goal.returns-clause-value
returns-clause-value c = front-seen

pub returns-clause-nothing : goal.returns-clause-nothing
returns-clause-nothing c = nothing-seen
