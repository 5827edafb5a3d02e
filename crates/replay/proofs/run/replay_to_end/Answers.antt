use Rattle.std.proofs.Common.{◌≡◌, ℕ, Err, ap, subst, ◌∙◌}
use Rattle.rawsocket.specs.Steps.{Meter, Told, WholeSteps}
use Rattle.rawsocket.proofs.Lemmas.{at_told, then_steps, whole, whole_fine}
use Rattle.replay.specs.Outcome.{read_told, write_told}
use Rattle.replay.proofs.FaultCauses.{no_read_fault}
use Rattle.replay.proofs.ProgressLemmas.{IsReplayed-begun, IsReplayed-written, StopsAt-begun, StopsAt-written}
use Rattle.replay.proofs.run.replay_to_end.Goals as goal

at_whole : {before after : ℕ → Meter} {told other : Told} → told ≡ other → WholeSteps before after told → WholeSteps before after other
at_whole {before} {after} is s = subst (λ t. WholeSteps before after t) is s

pub returns-in_default-clause-told : goal.returns-in_default-clause-told
returns-in_default-clause-told g c = IsReplayed-written _ _ _ _ c.in_default.ensures.written c.in-Ok.ensures.told

pub returns-in-Err-write_rest-clause-begun : goal.returns-in-Err-write_rest-clause-begun
returns-in-Err-write_rest-clause-begun g c = IsReplayed-begun _ _ _ _ _ c.in-Ok.ensures.ended c.write_rest.ensures.begun c.in-Ok.ensures.told

pub returns-in-Err-write_rest-2-clause-begun : goal.returns-in-Err-write_rest-2-clause-begun
returns-in-Err-write_rest-2-clause-begun g c =
    let stops = c.replay_all.ensures.bad c.in-Err-BadLine.line (c.in-Err-BadLine.is ∙ ap Err c.in-Err-BadLine.field-0-is) in
    StopsAt-begun _ _ _ _ _ c.in-Err-BadLine.line c.write_rest-in-Err-BadLine.ensures.begun stops

pub returns-in_default-write_rest-clause-bad : goal.returns-in_default-write_rest-clause-bad
returns-in_default-write_rest-clause-bad g c = λ k is.
    let stops = c.replay_all.ensures.bad k (c.in-Err-BadLine.is ∙ (ap Err c.in-Err-BadLine.field-0-is ∙ is)) in
    StopsAt-written _ _ _ _ _ k c.in_default-write_rest.ensures.written stops

pub returns-in_default-write_rest-clause-begun : goal.returns-in_default-write_rest-clause-begun
returns-in_default-write_rest-clause-begun g c =
    let stops = c.replay_all.ensures.bad c.in-Err-BadLine.line (c.in-Err-BadLine.is ∙ ap Err c.in-Err-BadLine.field-0-is) in
    StopsAt-begun _ _ _ _ _ c.in-Err-BadLine.line c.write_rest-in-Err-BadLine.ensures.begun stops

pub returns-in_default-clause-reads : goal.returns-in_default-clause-reads
returns-in_default-clause-reads g c = c.in-Ok.ensures.reads

pub returns-in_default-clause-writes : goal.returns-in_default-clause-writes
returns-in_default-clause-writes g c = whole _ c.new-writing.ensures (then_steps c.in-Ok.ensures.writes c.in_default.ensures.writes)

pub returns-in-Err-write_rest-clause-reads : goal.returns-in-Err-write_rest-clause-reads
returns-in-Err-write_rest-clause-reads g c = whole_fine (no_read_fault c.in-Err-write_rest.fault _ _ c.in-Err-write_rest.ensures.cause) c.in-Ok.ensures.reads

pub returns-in-Err-write_rest-clause-writes : goal.returns-in-Err-write_rest-clause-writes
returns-in-Err-write_rest-clause-writes g c = whole _ c.new-writing.ensures (then_steps c.in-Ok.ensures.writes c.in-Err-write_rest.ensures.writes)

pub returns-in-Err-write_rest-2-clause-reads : goal.returns-in-Err-write_rest-2-clause-reads
returns-in-Err-write_rest-2-clause-reads g c = whole_fine (no_read_fault c.in-Err-write_rest-2.fault _ _ c.in-Err-write_rest-2.ensures.cause) (at_whole (ap read_told c.in-Err-BadLine.field-0-is) c.in-Err-BadLine.ensures.reads)

pub returns-in-Err-write_rest-2-clause-writes : goal.returns-in-Err-write_rest-2-clause-writes
returns-in-Err-write_rest-2-clause-writes g c = whole _ c.new-writing.ensures (then_steps (at_told (ap write_told c.in-Err-BadLine.field-0-is) c.in-Err-BadLine.ensures.writes) c.in-Err-write_rest-2.ensures.writes)

pub returns-in_default-write_rest-clause-reads : goal.returns-in_default-write_rest-clause-reads
returns-in_default-write_rest-clause-reads g c = at_whole (ap read_told c.in-Err-BadLine.field-0-is) c.in-Err-BadLine.ensures.reads

pub returns-in_default-write_rest-clause-writes : goal.returns-in_default-write_rest-clause-writes
returns-in_default-write_rest-clause-writes g c = whole _ c.new-writing.ensures (then_steps (at_told (ap write_told c.in-Err-BadLine.field-0-is) c.in-Err-BadLine.ensures.writes) c.in_default-write_rest.ensures.writes)

pub returns-in-Err-clause-reads : goal.returns-in-Err-clause-reads
returns-in-Err-clause-reads g c = c.in-Err.ensures.reads

pub returns-in-Err-clause-writes : goal.returns-in-Err-clause-writes
returns-in-Err-clause-writes g c = whole _ c.new-writing.ensures c.in-Err.ensures.writes
