use Rattle.std.proofs.Common.{◌≡◌, sym, ap, ◌∙◌}
use Rattle.realm_inbox.specs.declared.joining.Joining.{Joining}
use Rattle.cases_inbox.specs.declared.wire.Wire.{Wire}
use Rattle.cases_inbox.proofs.paced.join.Goals as goal

pub post-posted-requires-clause-home : goal.post-posted-requires-clause-home
post-posted-requires-clause-home g c = λ joining picked is told.
    let same : c.in_ok-joining.joining ≡ joining = cc is in
    absurd (cc (sym c.in_ok-joining.ensures.home ∙ ap (λ (j : Joining Wire). j.outbox.chronicle) same ∙ told))
