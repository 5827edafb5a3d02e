use Rattle.std.proofs.Common.{true≢false, refl, sym, ap, ◌∙◌, subst}
use Rattle.realm_inbox.specs.EndViews.{received, home_of}
use Rattle.realm_inbox.specs.Seats.{IsHomed}
use Rattle.realm.specs.Sessions.{live}
use Rattle.realm_actor.specs.Run.{IsAt}
use Rattle.realm_actor.proofs.Homes.{homed_at}
use Rattle.realm_actor.proofs.RunLemmas.{Progress, progress_none, progress_on, ends_left, ends_stopped, none_behind_stop}
use Rattle.realm_actor.proofs.RunHistory.{ran_begins}
use Rattle.realm_actor.proofs.LiveThroughRun.{ran_holds}
use Rattle.realm_actor.proofs.MadeHistory.{run_order, run_same}
use Rattle.realm_actor.proofs.actor.Actor.run_on.Goals as goal

pub loop-init : goal.loop-init
loop-init g c = record { progress = progress_none c.args.self (received c.args.inbox.now) c.requires.in_turn; same = refl; chronicle = refl }

pub take_shown-requires : goal.take_shown-requires
take_shown-requires g c =
    let i = c.loop.invariant in
    let h = c.in-Some-next_post in
    let home = home_of c.args.inbox.now in
    let at = subst (λ own. IsAt own home) (sym (c.sweep.ensures.chronicle ∙ i.chronicle)) c.requires.home in
    record { home = homed_at c.sweep.new.self.chronicle home h.post at (subst (λ k. IsHomed k h.post) (ap (λ p. p.2) i.same) h.ensures.home) }

pub next_post-requires : goal.next_post-requires
next_post-requires g c = record { swept = λ d dead. c.sweep.ensures.sweeps.others d (ap (λ h. live h d) (sym c.sweep.ensures.sweeps.history) ∙ dead) }

pub returns-in_default : goal.returns-in_default
returns-in_default g c =
    let leaves = c.in_default.ensures.stays refl in
    let e = ends_left c.args.self c.loop.self c.sweep.new.self (received c.args.inbox.now) (received c.loop.inbox) (received c.next_post.new.inbox) c.loop.invariant.progress c.sweep.ensures.sweeps c.in_default.ensures.given in
    record {
      ran = (e.0, e.1, e.2, e.3, λ stays. absurd (true≢false (sym leaves ∙ stays)));
      ended = λ stays. absurd (true≢false (sym leaves ∙ stays));
      begins = ran_begins e.3;
      in_turn = run_same c.args.self c.sweep.new.self (received c.args.inbox.now) (received c.next_post.new.inbox) c.requires.in_turn e;
      order = run_order c.args.self c.sweep.new.self e.0 c.shows.ensures.made e.3;
      held = ran_holds e.3;
      chronicle = c.sweep.ensures.chronicle ∙ c.loop.invariant.chronicle;
      same = c.in_default.ensures.same ∙ c.loop.invariant.same;
    }

pub loop-preserved : goal.loop-preserved
loop-preserved g c =
    let i = c.loop.invariant in
    let told = c.note_time.ensures.none in
    record {
      progress = subst (λ r. Progress c.args.self c.take_shown.new.self (received c.args.inbox.now) r) (sym told)
          (progress_on c.args.self c.loop.self c.sweep.new.self c.take_shown.new.self (received c.args.inbox.now) (received c.loop.inbox) (received c.next_post.new.inbox) c.take_shown.result c.in-Some-next_post.post
          (sym c.is_stop-ends.ensures ∙ c.if-ends.false) c.loop.invariant.progress c.sweep.ensures.sweeps c.in-Some-next_post.ensures.given c.in-Some-next_post.ensures.in_turn c.take_shown.ensures.handles);
      same = c.note_time.ensures.same ∙ c.in-Some-next_post.ensures.same ∙ i.same;
      chronicle = c.take_shown.ensures.chronicle ∙ c.sweep.ensures.chronicle ∙ i.chronicle;
    }

pub returns-then-ends : goal.returns-then-ends
returns-then-ends g c =
    let told = c.note_time.ensures.none in
    let s = ends_stopped c.args.self c.loop.self c.sweep.new.self c.take_shown.new.self (received c.args.inbox.now) (received c.loop.inbox) (received c.note_time.new.inbox) c.take_shown.result c.in-Some-next_post.post
    (sym c.is_stop-ends.ensures ∙ c.if-ends.true) c.loop.invariant.progress c.sweep.ensures.sweeps (told ∙ c.in-Some-next_post.ensures.given) c.in-Some-next_post.ensures.in_turn c.in-Some-next_post.ensures.behind c.take_shown.ensures.handles in
    let e = s.0 in
    record {
      ran = (e.0, e.1, e.2, e.3, λ _. s.1);
      ended = λ _. none_behind_stop c.sweep.new.self c.take_shown.new.self c.take_shown.result c.in-Some-next_post.post (sym c.is_stop-ends.ensures ∙ c.if-ends.true) c.take_shown.ensures.handles;
      begins = ran_begins e.3;
      in_turn = run_same c.args.self c.take_shown.new.self (received c.args.inbox.now) (received c.note_time.new.inbox) c.requires.in_turn e;
      order = run_order c.args.self c.take_shown.new.self e.0 c.shows.ensures.made e.3;
      held = ran_holds e.3;
      chronicle = c.take_shown.ensures.chronicle ∙ c.sweep.ensures.chronicle ∙ c.loop.invariant.chronicle;
      same = c.note_time.ensures.same ∙ c.in-Some-next_post.ensures.same ∙ c.loop.invariant.same;
    }
