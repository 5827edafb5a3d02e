use Rattle.std.proofs.Common.{ℕ, List, ◌+◌, ◌-◌, ◌<◌, ◌≤◌, ◌++◌, length, drop, replicate, ap, ◌∙◌, arith}
use Rattle.std.proofs.lemmas.List.{length-drop}
use Rattle.json_codec.proofs.ShortTexts.{short_quoted}
use Rattle.json_codec.proofs.quoting.put_short.Goals as goal

pub returns-clause-written : goal.returns-clause-written
returns-clause-written c _ =
    let s = c.args.octets.now in
    let short : length s ≤ 64 = omega (arith, c.if-octets-gt-SHORT.false) in
    let blanks : List ℕ = replicate 65 32 in
    let rest = drop (length s + 1 - 1) blanks in
    let room : 0 < length rest = omega (arith, length-drop (length s + 1 - 1) blanks, short) in
    let quoted = short_quoted s c.copy_from_slice.new.self rest 65 c.copy_from_slice.ensures.after (omega (arith, short)) room c.if-not-is_plain.ensures in
    c.in_ok-put_all.ensures.ok ∙ ap (λ l. c.args.out.now.since ++ l) quoted
