use Rattle.std.proofs.Common.{refl, sym, ap, ◌∙◌, subst}
use mathlib.Core.List.{IsPrefix}
use Rattle.realm_inbox.specs.Behind.{told_by}
use Rattle.realm_inbox.specs.EndViews.{inbox_of, received}
use Rattle.threaded_server.proofs.DoorSteps.{twice_told}
use Rattle.threaded_server.proofs.RunSteps.{acts_with, gave_back}
use Rattle.threaded_server.proofs.realm_handle.RealmHandle.join.Goals as goal

pub compare_stops-requires : goal.compare_stops-requires
compare_stops-requires g c =
    let self = c.args.self in
    record { inbox = c.join-acted.ensures.inbox ∙ ap (λ w. inbox_of w.inbox) self.same ∙ c.requires.inbox ∙ sym c.stop.ensures.same ∙ sym c.stop-2.ensures.same }

pub returns-clause-back : goal.returns-clause-back
returns-clause-back g c =
    let self = c.args.self in
    let work = self.actor.promise.0.value in
    let compared = c.compare_stops.ensures.same in
    let acts = acts_with work c.join-acted.result c.compare_stops.new.self c.join-acted.ensures compared.1 compared.0 in
    gave_back self work (record c.join-acted.result { inbox = c.compare_stops.new.self }) c.check_all.new.chronicle _ self.same acts c.check_all.ensures.same refl c.check_all.ensures.begins

pub returns-clause-told : goal.returns-clause-told
returns-clause-told g c =
    twice_told c.stop.result c.stop-2.result c.args.door c.stop.new.self c.stop-2.new.self (told_by (received c.compare_stops.new.self)) c.stop.ensures.told c.stop.ensures.shown c.stop-2.ensures.told (subst (λ l. IsPrefix (told_by (received c.compare_stops.new.self)) l) c.compare_stops.ensures.door.1 c.compare_stops.ensures.begins)
