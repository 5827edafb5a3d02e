use Rattle.std.proofs.Common.{ℕ, sym, ap, ◌∙◌}
use Rattle.std.proofs.lemmas.List.{get_or-map}
use Rattle.subscription_index.specs.declared.receiver.Receiver.{Receiver}
use Rattle.subscription_index.specs.body.Receivers.{receiver_by}
use Rattle.subscription_index.proofs.receivers.held_at.Goals as goal

pub returns : goal.returns
returns c =
    let of : ℕ → Receiver = λ d. receiver_by (λ n. c.args.names_topic) (d, c.args.number) in
    ap of c.index-conns-place.is ∙ sym (get_or-map of c.args.conns.now c.args.place c.index-conns-place.result _ c.requires)
