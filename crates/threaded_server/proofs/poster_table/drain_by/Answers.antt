use Rattle.std.proofs.Common.{Some, [], append-nil, sym, ap, ◌∙◌}
use Rattle.std.proofs.lemmas.Option.{none-some, same_Some}
use Rattle.std.specs.Option.{option_flatten}
use Rattle.realm_inbox.specs.EndViews.{received}
use Rattle.threaded_server.proofs.DrainSteps.{put_back_traced, received_by, same_trace}
use Rattle.threaded_server.specs.Posters.{trace, traces}
use Rattle.threaded_server.proofs.poster_table.drain_by.Goals as goal

pub drain_beside-requires : goal.drain_beside-requires
drain_beside-requires g c = record { inbox = c.requires.here c.in-Some.poster c.in-Some.ensures.there }

pub returns-in-Some-clause-traces : goal.returns-in-Some-clause-traces
returns-in-Some-clause-traces g c =
    put_back_traced c.args.posters.now.items c.take_poster.new.posters.items c.put_poster.new.posters.items c.args.realm c.in-Some.poster c.drain_beside.new.poster c.in-Some.ensures.taken.0 c.in-Some.ensures.taken.1 c.put_poster.ensures
    (same_trace c.in-Some.poster c.drain_beside.new.poster c.drain_beside.ensures.poster)

pub returns-in-Some-clause-received : goal.returns-in-Some-clause-received
returns-in-Some-clause-received g c p e =
    let poster = c.in-Some.poster in
    let now = c.drain_beside.new.poster in
    let is = same_Some poster p (sym c.in-Some.ensures.there ∙ e) in
    received_by now p (received c.drain_beside.new.self) (same_trace poster now c.drain_beside.ensures.poster ∙ ap trace is) c.drain_beside.ensures.all

pub returns-in-Some-clause-more : goal.returns-in-Some-clause-more
returns-in-Some-clause-more g c = c.drain_beside.ensures.more

pub returns-in-Some-clause-same : goal.returns-in-Some-clause-same
returns-in-Some-clause-same g c = c.drain_beside.ensures.same.0

pub returns-in_default-clause-traces : goal.returns-in_default-clause-traces
returns-in_default-clause-traces g c = ap traces c.in_default.ensures.taken

pub returns-in_default-clause-received : goal.returns-in_default-clause-received
returns-in_default-clause-received g c p e = absurd (none-some p (sym c.in_default.ensures.there ∙ e))

pub returns-in_default-clause-more : goal.returns-in_default-clause-more
returns-in_default-clause-more g c = ([], append-nil (received c.args.inbox.now))
