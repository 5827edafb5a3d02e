use Rattle.std.proofs.Common.{◌≡◌, ◌≤◌, length, subst, sym, Ok, Err}
use Rattle.std.specs.Prelude.{IfOk}
use Rattle.command_line.specs.Reasons.{shown_line}
use Rattle.command_line.proofs.PrintableLemmas.{shown_line-bounded}
use Rattle.command_line.proofs.printable.shown_line.Goals as goal

pub returns-clause-bounded : goal.returns-clause-bounded
returns-clause-bounded c =
    elim c.line_of.result as (λ r. IfOk r (λ line. line.items ≡ shown_line c.as_bytes.result.now) → IfOk r (λ line. length line.items ≤ 4003)) [
      | Ok line ↦ λ is. subst (λ octets. length octets ≤ 4003) (sym is) (shown_line-bounded c.as_bytes.result.now)
      | Err fault ↦ λ none. none
    ] c.line_of.ensures.line
