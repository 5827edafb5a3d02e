use Rattle.std.proofs.Common.{List, refl, sym, ap, ◌∙◌, subst}
use Rattle.subscription_index.specs.Receiver.{receivers}
use Rattle.subscription_index.specs.declared.receiver.Receiver.{Receiver}
use Rattle.eligibility.specs.Lists.{admits}
use Rattle.wamp_messages.specs.declared.item.Publication.{Publication}
use Rattle.realm.specs.body.LiveSessions.{AreLive}
use Rattle.realm.proofs.HoldersAreLive.{none-admitted, receivers-live}
use Rattle.realm.proofs.publications.events.Goals as goal

pub events_without_lists-requires-clause-live : goal.events_without_lists-requires-clause-live
events_without_lists-requires-clause-live c =
    let s = c.args.state.now in
    subst (λ (rs : List Receiver). AreLive s.sessions rs) (sym c.in_ok-found.ensures) (receivers-live s.sessions s.index.rows _ c.requires.held)

pub returns-then-admits_nobody : goal.returns-then-admits_nobody
returns-then-admits_nobody c =
    let s = c.args.state.now in
    let p = c.args.made.now in
    let nobody = c.if-admits_nobody.ensures.nobody refl in
    c.requires.empty ∙ sym (none-admitted s.sessions p (receivers s.index.rows p.topic)
    (λ w. ap (λ (q : Publication). admits q.lists w p.publisher) (sym c.value.ensures) ∙ nobody w p.publisher))
