use Rattle.std.proofs.Common.{◌<◌, length, ap, ◌∙◌, arith}
use Rattle.wamp_messages.specs.declared.item.Publication.{Publication}
use Rattle.realm.specs.Yield.{admits_who}
use Rattle.realm.specs.body.LiveSessions.{session_of}
use Rattle.realm.proofs.HoldersAreLive.{live-at, admitted-unlisted, events-more}
use Rattle.realm.proofs.events.events_without_lists.Goals as goal

pub loop-place-preserved : goal.loop-place-preserved
loop-place-preserved c =
    let r = c.at-receiver.result in
    let rs = c.args.receivers.now in
    let ws = c.args._sessions.now in
    let p = c.args.made.now in
    let i = c.loop-place.place in
    let end = c.len-place-end.ensures.count in
    let before = c.loop-place-test.true in
    let small : i < length rs = omega arith in
    let live = live-at ws rs i r c.requires.live small c.at-receiver.ensures in
    record {
      items = events-more ws p rs i r _ _ _ small c.at-receiver.ensures c.loop-place.invariant.items c.in_ok-add_event.ensures.items
          (admitted-unlisted ws c.value-publication.result.now r.conn _ c.admits_without_lists-admitted.ensures live
          ∙ ap (λ (q : Publication). admits_who q (session_of ws r.conn)) c.value-publication.ensures);
      count = omega arith;
      room = omega arith;
    }
