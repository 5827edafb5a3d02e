use Rattle.std.proofs.Common.{◌<◌, ◌∙◌, ap, length, subst, sym}
use Rattle.subscription_index.specs.Index.{Held, without_all}
use Rattle.subscription_index.proofs.Matching.{all_the_same, fewer}
use Rattle.subscription_index.proofs.index.Index.drop_all.Goals as goal

pub loop-number-preserved : goal.loop-number-preserved
loop-number-preserved c =
    let held = c.in-Some.ensures.some in
    let gone = c.release.ensures.released (c.release.ensures.held ∙ held) in (
      ap (λ (v : Held). without_all v.rows c.args.conn) gone ∙ all_the_same c.loop-number.self.rows c.args.conn c.in-Some.number ∙ c.loop-number.invariant.0,
      ap (λ (v : Held). v.opened) gone ∙ c.loop-number.invariant.1,
    )

pub loop-number-smaller : goal.loop-number-smaller
loop-number-smaller c =
    let held = c.in-Some.ensures.some in
    let gone = c.release.ensures.released (c.release.ensures.held ∙ held) in
    subst (λ (v : Held). length v.rows < length c.loop-number.self.rows) (sym gone) (fewer c.loop-number.self.rows c.args.conn c.in-Some.number held)
