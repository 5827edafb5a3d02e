use Rattle.std.proofs.Common.{sym, subst}
use mathlib.Core.List.{IsPrefix}
use Rattle.crossbeam_channel.specs.Claims.{view}
use Rattle.realm_inbox.specs.Behind.{told_by}
use Rattle.realm_inbox.specs.Ends.{received_in, told_in}
use Rattle.realm_inbox.proofs.LentSteps.{door_lends, door_compared}
use Rattle.realm_inbox.proofs.door.Door.compare.Goals as goal

pub compare_passes-requires-clause-posting : goal.compare_passes-requires-clause-posting
compare_passes-requires-clause-posting g c = let d = c.args.self.now in (d.at, door_lends _ d.sits)

pub returns-clause-begins : goal.returns-clause-begins
returns-clause-begins g c =
    let d = c.args.self.now in
    let begins = door_compared (view c.args.reading.now) (view d.pass) c.requires.reads.1 d.sits c.compare_passes.ensures.agree in
    subst (λ v. IsPrefix (told_by (received_in (view c.args.reading.now))) (told_in v)) (sym c.compare_passes.ensures.posting.1) begins
