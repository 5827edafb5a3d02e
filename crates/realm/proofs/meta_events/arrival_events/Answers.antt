use Rattle.std.proofs.Common.{◌≡◌, length, sym, ap, ◌∙◌}
use Rattle.std.proofs.lemmas.Bool.{eqb-true}
use Rattle.std.proofs.lemmas.Result.{IfOk-weaker}
use Rattle.subscription_index.specs.Receiver.{receivers}
use Rattle.realm.specs.MetaEvents.{announcement, arrival, joined_items}
use Rattle.realm.proofs.MetaEventTopics.{on_join-topic, told-all, told-nobody}
use Rattle.realm.proofs.meta_events.arrival_events.Goals as goal

pub topic_of-requires : goal.topic_of-requires
topic_of-requires c = on_join-topic

pub returns-then-is_empty : goal.returns-then-is_empty
returns-then-is_empty c =
    let s = c.args.state.now in
    let p = arrival c.args.word c.args.who.now in
    let found_are = c.in_ok-found.ensures ∙ ap (receivers s.index.rows) c.in_ok-topic.ensures in
    let empty : length c.in_ok-found.found ≡ 0 = eqb-true (length c.in_ok-found.found) 0 (sym c.if-is_empty.ensures) in
    told-nobody s.sessions s.index.rows p c.in_ok-found.found c.new.result.items c.new.ensures.items empty found_are

pub returns : goal.returns
returns c =
    let s = c.args.state.now in
    let p = arrival c.args.word c.args.who.now in
    let made_is = c.in_ok-made.ensures (joined_items c.args.who.now) c.in_ok-args.ensures
    ∙ ap (λ t. announcement c.args.word c.args.who.now t (joined_items c.args.who.now)) c.in_ok-topic.ensures in
    let found_are = c.in_ok-found.ensures ∙ ap (receivers s.index.rows) c.in_ok-topic.ensures in
    IfOk-weaker c.events_to.result _ _ (λ given is. is ∙ told-all s.sessions s.index.rows p c.in_ok-made.made c.in_ok-found.found made_is found_are) c.events_to.ensures
