use Rattle.std.proofs.Common.{◌<◌, List, get_or, length, sym, ap, subst, ◌∙◌}
use Rattle.std.proofs.lemmas.List.{length-map}
use Rattle.subscription_index.specs.declared.receiver.Receiver.{Receiver}
use Rattle.subscription_index.specs.body.Receivers.{list_of}
use Rattle.subscription_index.proofs.receivers.Receivers.at.Goals as goal

pub held_at-requires : goal.held_at-requires
held_at-requires c =
    subst (λ n. c.args.place < n) (ap length (sym c.self.view_is ∙ ap list_of c.in-One.is) ∙ length-map c.in-One.conns.now _) c.requires

pub returns-in-One : goal.returns-in-One
returns-in-One c =
    c.held_at.ensures ∙ ap (λ (rs : List Receiver). get_or rs c.args.place c.held_at.result) (sym (ap list_of c.in-One.is) ∙ c.self.view_is)
