use Rattle.std.proofs.Common.{sym, ap, ◌∙◌}
use Rattle.realm_inbox.specs.Ends.{Place}
use Rattle.realm_inbox.specs.EndViews.{received, home_of}
use Rattle.realm_actor.proofs.Homes.{homed_at}
use Rattle.realm_actor.proofs.Lemmas.{same_grown}
use Rattle.case_posts.specs.declared.wire.Wire.{Wire}
use Rattle.cases_actor.proofs.desk.handle_one.Goals as goal

pub handle-requires-clause-home : goal.handle-requires-clause-home
handle-requires-clause-home g c =
    homed_at c.args.actor.now.chronicle (home_of c.args.inbox.now) c.in_ok-post.post (λ picked is. absurd (cc (sym c.requires.home ∙ is))) c.in_ok-post.ensures.home

pub returns-clause-same : goal.returns-clause-same
returns-clause-same g c = same_grown c.args.actor.now.handled c.handle.new.self.handled (received c.args.inbox.now) (received c.receive.new.self) c.in_ok-post.post c.requires.same c.handle.ensures.handles.handled c.in_ok-post.ensures.given

pub returns-clause-home : goal.returns-clause-home
returns-clause-home g c = ap (λ (p : Place Wire). p.2) c.receive.ensures.same.0 ∙ c.requires.home
