use Rattle.std.proofs.Common.{◌+◌, sym, ap, ◌∙◌, subst}
use mathlib.Core.List.{IsPrefix}
use Rattle.std.proofs.lemmas.Option.{none-some, same_Some}
use Rattle.realm_inbox.specs.EndViews.{posted, received}
use Rattle.realm_inbox.specs.Seats.{at_seat}
use Rattle.wamp_ids.specs.Numbers.{seat_of}
use Rattle.threaded_server.proofs.poster_table.PosterTable.compare_at.Goals as goal

pub returns-in-Some-clause-others : goal.returns-in-Some-clause-others
returns-in-Some-clause-others g c = c.in-Some.ensures.others

pub returns-in-Some-clause-received : goal.returns-in-Some-clause-received
returns-in-Some-clause-received g c p e =
    let poster = c.in-Some.poster in
    let now = c.compare.new.poster in
    let number = c.args.place + 1 in
    let there = c.in-Some.ensures.there in
    let seat = ap seat_of c.compare.ensures.poster.0 ∙ (c.requires.here poster there).seat in
    subst (λ q. IsPrefix (at_seat number (received c.args.inbox.now)) (posted q)) (same_Some poster p (sym there ∙ e))
    (subst (λ l. IsPrefix (at_seat number (received c.args.inbox.now)) l) c.compare.ensures.poster.1
    (subst (λ r. IsPrefix (at_seat number r) (posted now)) c.compare.ensures.same.0 (subst (λ n. IsPrefix (at_seat n (received c.compare.new.self)) (posted now)) seat c.compare.ensures.begins)))

pub returns-in_default-clause-others : goal.returns-in_default-clause-others
returns-in_default-clause-others g c = c.in_default.ensures.others

pub returns-in_default-clause-received : goal.returns-in_default-clause-received
returns-in_default-clause-received g c p e = absurd (none-some p (sym c.in_default.ensures.there ∙ e))
