use Rattle.std.proofs.Common.{◌≡◌, ◌+◌, ◌-◌, sym, ◌∙◌, arith}
use Rattle.retained.proofs.Insertion.{exact-at, exact-none}
use Rattle.retained.proofs.store.candidates.Goals as goal

pub returns-in-Ok : goal.returns-in-Ok
returns-in-Ok c =
    let at = rw c.text.ensures.same at c.in-Ok.ensures in
    let one : c.in-Ok.place + 1 - c.in-Ok.place ≡ 1 = omega arith in
    rw one (exact-at c.args.pattern.now c.args.publications.now c.in-Ok.place (sym c.policy.ensures ∙ c.in-Exact.is) c.requires at)

pub returns-in-Err : goal.returns-in-Err
returns-in-Err c =
    let goes = rw c.text.ensures.same at c.in-Err.ensures in
    exact-none c.args.pattern.now c.args.publications.now c.in-Err.field-0 (sym c.policy.ensures ∙ c.in-Exact.is) c.requires goes
