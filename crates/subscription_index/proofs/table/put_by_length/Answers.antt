use Rattle.std.proofs.Common.{◌≡◌, ℕ, List, Some, length, sym, rules}
use Rattle.std.proofs.lemmas.Result.{on_err_weaker}
use Rattle.std.specs.BTreeMap.{get}
use Rattle.std.specs.Ordering.{nat_cmp}
use Rattle.subscription_index.specs.body.Tables.{number_by_ending}
use Rattle.subscription_index.proofs.Texts.{by_length-kept}
use Rattle.subscription_index.proofs.table.put_by_length.Goals as goal

pub returns-in-Some-clause-err : goal.returns-in-Some-clause-err
returns-in-Some-clause-err c =
    let w = c.put_by_ending.new.tables in
    let at : get nat_cmp c.args.lengths.now (length c.args.text.now) ≡ Some c.in-Some.tables.now = sym c.in-Some.ensures.value in
    on_err_weaker c.put_by_ending.result (λ (same : (q : List ℕ) → number_by_ending w q ≡ number_by_ending c.in-Some.tables.now q).
    by_length-kept c.args.lengths.now (c.get_mut.follows.lender w) c.args.text.now c.in-Some.tables.now w at ((c.get_mut.follows.holds w).3 (search rules)).0 same) c.put_by_ending.ensures.err
