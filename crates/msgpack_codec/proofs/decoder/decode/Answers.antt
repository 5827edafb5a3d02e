use Rattle.std.proofs.Common.{sym, subst}
use Rattle.std.proofs.lemmas.Result.{err_from_is_err_and}
use Rattle.message_tree.specs.View.{view}
use Rattle.msgpack_codec.specs.Grammar.{Spells}
use Rattle.msgpack_codec.proofs.Messages.{spelled, read_deep, read_nothing}
use Rattle.msgpack_codec.proofs.Refusals.{read_carried}
use Rattle.msgpack_codec.proofs.decoder.decode.Goals as goal

pub returns-in_err-tree-clause-too_deep : goal.returns-in_err-tree-clause-too_deep
returns-in_err-tree-clause-too_deep c =
    let p = err_from_is_err_and c.from_residual.result c.from_residual.ensures.1 in
    rw (p.1, p.2) (read_deep c.in_err-tree.field-0.0 c.args.octets.now c.in_err-tree.ensures.err)

pub returns-in_err-tree-clause-malformed : goal.returns-in_err-tree-clause-malformed
returns-in_err-tree-clause-malformed c =
    let p = err_from_is_err_and c.from_residual.result c.from_residual.ensures.1 in
    rw (p.1, p.2) (read_nothing c.in_err-tree.field-0.0 c.args.octets.now c.in_err-tree.ensures.err)

pub returns-clause-ok : goal.returns-clause-ok
returns-clause-ok c =
    let o = c.args.octets.now in
    subst (λ d. Spells 100 o d) (sym c.in-Ok.ensures.ok) (spelled o (view c.in_ok-tree.tree) c.in_ok-tree.ensures.ok)

pub returns-in_err-tree-clause-carried : goal.returns-in_err-tree-clause-carried
returns-in_err-tree-clause-carried c =
    let p = err_from_is_err_and c.from_residual.result c.from_residual.ensures.1 in
    rw (p.1, p.2) (read_carried c.in_err-tree.field-0.0 c.args.octets.now c.in_err-tree.ensures.err)
