use Rattle.std.proofs.Common.{◌≢◌, refl, sym, ap, ◌∙◌, subst, set}
use Rattle.std.proofs.lemmas.Result.{IfOk-weaker, IfErr-weaker}
use Rattle.realm_actor.specs.Rows.{Ascending, Each, StandsAt}
use Rattle.realm_actor.specs.Settle.{IsOther}
use Rattle.realm_actor.proofs.RowRemoval.{at_place, holds_at, set_same}
use Rattle.realm_actor.proofs.settle.settle_row.Goals as goal
use Rattle.realm_actor.proofs.LastCutLemmas.{holds_nowhere}

pub find_number-requires : goal.find_number-requires
find_number-requires g c = subst (λ l. Ascending l) (sym c.as_slice.ensures.value) c.requires.ascending

pub unreachable-requires : goal.unreachable-requires
unreachable-requires g c =
    let rows = c.args.rows.now.items in
    let n = c.args.drain.conn in
    subst (λ o. IsOther c.args.drain o) (holds_nowhere rows n (subst (λ l. Each (λ r. r.conn ≢ n) l) c.as_slice.ensures.value (subst (λ m. Each (λ r. r.conn ≢ m) c.as_slice.result.now) c.conn.ensures c.in_default.ensures))) c.requires.pair

pub settle-requires : goal.settle-requires
settle-requires g c =
    let rows = c.args.rows.now.items in
    let r = c.index_mut-row.result.now in
    let a = at_place rows c.as_slice.result.now c.args.drain.conn c.in-Some.place r c.as_slice.ensures.value (subst (λ m. StandsAt c.as_slice.result.now m c.in-Some.place) c.conn.ensures c.in-Some.ensures) c.index_mut-row.ensures.value in
    subst (λ o. IsOther c.args.drain o) (holds_at rows c.args.drain.conn c.in-Some.place r c.requires.ascending a.0 a.1) c.requires.pair

pub returns-clause-rows : goal.returns-clause-rows
returns-clause-rows g c =
    let rows = c.args.rows.now.items in
    let r = c.index_mut-row.result.now in
    let a = at_place rows c.as_slice.result.now c.args.drain.conn c.in-Some.place r c.as_slice.ensures.value (subst (λ m. StandsAt c.as_slice.result.now m c.in-Some.place) c.conn.ensures c.in-Some.ensures) c.index_mut-row.ensures.value in
    IfOk-weaker c.settle.result _ _ (λ rest e. record { place = c.in-Some.place; old = r; new = c.settle.new.self; stands = a.0; own = a.1; emptied = e; after = refl }) c.settle.ensures.ok

pub returns-clause-err : goal.returns-clause-err
returns-clause-err g c =
    let rows = c.args.rows.now.items in
    let r = c.index_mut-row.result.now in
    IfErr-weaker c.settle.result _ _ (λ back e. (ap (set rows c.in-Some.place) e.0 ∙ set_same rows c.in-Some.place r c.index_mut-row.ensures.value, e.1)) c.settle.ensures.err
