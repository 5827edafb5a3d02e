use Rattle.std.proofs.Common.{drop, sym, ◌∙◌}
use Rattle.std.specs.List.{filter}
use Rattle.std.specs.Option.{option_copied}
use Rattle.realm.specs.Sessions.{live}
use Rattle.realm_core.proofs.FirstAndLeast.{least-none, front-unless}
use Rattle.realm_core.proofs.queues.next_post.Goals as goal

pub returns-in-None-least_live : goal.returns-in-None-least_live
returns-in-None-least_live c =
    let marked = filter (live c.args.realm.now) c.args.marks.now in
    front-unless c.args.pushing.now.items marked (option_copied c.front.result) c.args.inbox.now.items (drop 1 c.args.inbox.now.items)
    c.in-None.ensures (least-none marked (sym c.least_live.ensures ∙ c.in-None-least_live.is)) c.front.ensures
