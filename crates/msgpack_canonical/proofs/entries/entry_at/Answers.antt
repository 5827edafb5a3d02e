use Rattle.std.proofs.Common.{sym, ap, ◌∙◌}
use Rattle.msgpack_canonical.specs.body.Entries.{parted}
use Rattle.msgpack_canonical.proofs.Parts.{parted-text, parted-none}
use Rattle.msgpack_canonical.proofs.entries.entry_at.Goals as goal

pub returns-in-Some-clause-key : goal.returns-in-Some-clause-key
returns-in-Some-clause-key c =
    c.as_bytes.ensures.value ∙ ap (λ e. e.0) (sym (parted-text _ c.in-Some.key.now c.in-Some.value.now (c.in-Some.ensures.some 0)) ∙ ap parted c.octets_at.ensures)

pub returns-in-Some-clause-value : goal.returns-in-Some-clause-value
returns-in-Some-clause-value c = ap (λ e. e.1) (sym (parted-text _ c.in-Some.key.now c.in-Some.value.now (c.in-Some.ensures.some 0)) ∙ ap parted c.octets_at.ensures)

pub returns-in-None-clause-key : goal.returns-in-None-clause-key
returns-in-None-clause-key c = ap (λ e. e.0) (sym (parted-none _ (c.in-None.ensures.none 0)) ∙ ap parted c.octets_at.ensures)

pub returns-in-None-clause-value : goal.returns-in-None-clause-value
returns-in-None-clause-value c = ap (λ e. e.1) (sym (parted-none _ (c.in-None.ensures.none 0)) ∙ ap parted c.octets_at.ensures)
