use Rattle.std.proofs.Common.{◌≡◌, cond, sym, ap, ◌∙◌, None, Some, arith}
use Rattle.std.proofs.lemmas.Str.Pattern.{split_parts}
use Rattle.command_line.specs.Grants.{pair_of}
use Rattle.command_line.proofs.GrantsLemmas.{pair-at, pair-none}
use Rattle.command_line.proofs.grants.pair_in.Goals.{in_default-via-in-Some+else-is_pair, in_default-via-in_default}
use Rattle.command_line.proofs.grants.pair_in.Goals as goal

pub returns-in-Some : goal.returns-in-Some
returns-in-Some c =
    let parts = split_parts 58 c.args.text.now c.split_once.result c.split_once.ensures.cases (omega arith) in
    let at = rw c.in-Some.is at parts in
    sym
    (pair-at c.args.text.now c.in-Some.authid.now c.in-Some.role.now at.0 at.1
    ∙ c.is_pair.ensures
    ∙ ap (λ b. cond b (Some (c.in-Some.authid.now, c.in-Some.role.now)) None) c.if-is_pair.true)

pub returns-in_default : goal.returns-in_default
returns-in_default c =
    let parts = split_parts 58 c.args.text.now c.split_once.result c.split_once.ensures.cases (omega arith) in
    elim c.in_default.branch as (λ _. None ≡ pair_of c.args.text.now) [
      | in_default-via-in-Some+else-is_pair w ↦
          let at = rw w.in-Some.is at parts in
          sym
          (pair-at c.args.text.now w.in-Some.authid.now w.in-Some.role.now at.0 at.1
          ∙ w.is_pair.ensures
          ∙ ap (λ b. cond b (Some (w.in-Some.authid.now, w.in-Some.role.now)) None) w.if-is_pair.false)
      | in_default-via-in_default w ↦ sym (pair-none c.args.text.now (rw w.in_default.is at parts))
    ]
