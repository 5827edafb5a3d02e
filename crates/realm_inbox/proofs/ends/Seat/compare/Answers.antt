use Rattle.std.proofs.Common.{sym, subst}
use mathlib.Core.List.{IsPrefix}
use Rattle.crossbeam_channel.specs.Claims.{view}
use Rattle.realm_inbox.specs.Seats.{at_seat}
use Rattle.realm_inbox.specs.Ends.{posted_in, received_in}
use Rattle.realm_inbox.proofs.StepEffects.{posts_some, number_is}
use Rattle.realm_inbox.proofs.LentSteps.{posts_lend, seat_compared}
use Rattle.realm_inbox.proofs.ends.Seat.compare.Goals as goal

pub compare_passes-requires-clause-posting : goal.compare_passes-requires-clause-posting
compare_passes-requires-clause-posting g c = let s = c.args.self.now in (s.at, posts_lend _ (posts_some s.number _ s.sits))

pub returns-clause-begins : goal.returns-clause-begins
returns-clause-begins g c =
    let s = c.args.self.now in
    let begins = seat_compared (view c.args.reading.now) (view s.pass) c.requires.reads.1 (posts_some s.number _ s.sits) c.compare_passes.ensures.agree in
    subst (λ v. IsPrefix (at_seat s.number (received_in (view c.args.reading.now))) (posted_in v)) (sym c.compare_passes.ensures.posting.1)
    (subst (λ k. IsPrefix (at_seat k (received_in (view c.args.reading.now))) (posted_in (view s.pass))) (number_is s.number (view s.pass) s.sits) begins)
