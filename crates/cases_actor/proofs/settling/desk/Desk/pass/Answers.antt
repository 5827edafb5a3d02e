use Rattle.std.proofs.Common.{◌≡◌, true, sym, ap, ◌∙◌, subst}
use Rattle.std.specs.Prelude.{Some}
use Rattle.realm_inbox.specs.EndViews.{received, posted, poster_conn}
use Rattle.realm_actor.specs.LastCut.{outbox_of}
use Rattle.realm_actor.specs.OutboxHistory.{Box}
use Rattle.cases_actor.specs.Posts.{is_of}
use Rattle.cases_actor.proofs.SideLemmas.{own_back, goes_handled, homed_here, joined_by}
use Rattle.cases_actor.proofs.settling.desk.Desk.pass.Goals as goal

pub returns-then-is_own-clause-goes_on : goal.returns-then-is_own-clause-goes_on
returns-then-is_own-clause-goes_on g c =
    goes_handled _ _ c.handle-outcome.result c.in_ok-post.post c.handle-outcome.ensures.handles (c.compare.ensures.same.0 ∙ c.in_ok-post.ensures.given) (c.compare.ensures.same.1 ∙ c.receive.ensures.same.0)

pub returns-clause-goes_on : goal.returns-clause-goes_on
returns-clause-goes_on g c =
    goes_handled _ _ c.handle-outcome.result c.in_ok-post.post c.handle-outcome.ensures.handles (c.compare.ensures.same.0 ∙ c.in_ok-post.ensures.given) (c.compare.ensures.same.1 ∙ c.receive.ensures.same.0)

pub returns-then-is_own-clause-poster : goal.returns-then-is_own-clause-poster
returns-then-is_own-clause-poster g c =
    let same = c.compare.ensures.poster.0 ∙ c.post.ensures.same.0 in
    let w = own_back (poster_conn c.args.poster) (poster_conn c.compare.new.poster) (received c.args.self.now.inbox) (received c.compare.new.self) c.in_ok-post.post c.args.act
    (posted c.args.poster) (posted c.compare.new.poster) same (c.compare.ensures.same.0 ∙ c.in_ok-post.ensures.given) c.requires.came.all
    (c.compare.ensures.poster.1 ∙ c.in-Ok.ensures.posted) c.compare.ensures.begins
    (ap (λ k. is_of k c.in_ok-post.post) (sym c.conn.ensures) ∙ sym c.is_of-is_own.ensures ∙ c.if-is_own.true) in
    (same, record { place = c.compare.ensures.poster.2 ∙ c.post.ensures.same.1 ∙ c.requires.came.place ∙ sym (c.compare.ensures.same.1 ∙ c.receive.ensures.same.0); all = w.4 })

pub returns-then-is_own-clause-joined : goal.returns-then-is_own-clause-joined
returns-then-is_own-clause-joined g c = λ joining joins applied.
    let same = c.compare.ensures.poster.0 ∙ c.post.ensures.same.0 in
    let w = own_back (poster_conn c.args.poster) (poster_conn c.compare.new.poster) (received c.args.self.now.inbox) (received c.compare.new.self) c.in_ok-post.post c.args.act
    (posted c.args.poster) (posted c.compare.new.poster) same (c.compare.ensures.same.0 ∙ c.in_ok-post.ensures.given) c.requires.came.all
    (c.compare.ensures.poster.1 ∙ c.in-Ok.ensures.posted) c.compare.ensures.begins
    (ap (λ k. is_of k c.in_ok-post.post) (sym c.conn.ensures) ∙ sym c.is_of-is_own.ensures ∙ c.if-is_own.true) in
    subst (λ k. (p : Box) × (outbox_of c.handle-outcome.new.self.rows k ≡ Some p) × (p.queue ≡ joining.outbox.queue)) w.2
    (joined_by c.handle-outcome.result c.in_ok-post.post w.0 c.args.self.now.actor c.handle-outcome.new.self joining w.1 c.handle-outcome.ensures.handles (w.3 ∙ joins) applied)

pub post-requires-clause-home : goal.post-requires-clause-home
post-requires-clause-home g c = λ joining picked is told. absurd (cc (sym (c.requires.home joining is) ∙ told))

pub handle-outcome-requires-clause-home : goal.handle-outcome-requires-clause-home
handle-outcome-requires-clause-home g c = homed_here c.args.self.now c.in_ok-post.post c.requires.same.1 c.in_ok-post.ensures.home
