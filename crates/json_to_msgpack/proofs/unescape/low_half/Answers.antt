use Rattle.std.proofs.Common.{◌≡◌, ◌+◌, ap, arith, drop}
use Rattle.json.specs.Text.{surrogate_pair, after_high}
use Rattle.json.specs.Lex.{in_string}
use Rattle.json_to_msgpack.proofs.Octets.{two_at}
use Rattle.json_to_msgpack.proofs.Strings.{low_read, escape_as, low_half}
use Rattle.json_to_msgpack.proofs.unescape.low_half.Goals as goal

pub returns-clause-read : goal.returns-clause-read
returns-clause-read c =
    let d = c.args.octets.now in
    let i = c.args.at in
    let low = c.in_ok-low.low in
    let old = drop (i + 2) d in
    let new = drop (i + 2 + 4) d in
    let begins = two_at d i 92 117 (omega arith) (omega arith) (omega arith) in
    let same : c.in_ok-c.c ≡ surrogate_pair c.args.high low = grind arith in
    let six : i + 6 ≡ i + 2 + 4 = omega arith in
    escape_as (after_high c.args.high) in_string (drop i d) _ c.in_ok-c.c (surrogate_pair c.args.high low) (drop (i + 6) d) new begins same (ap (λ n. drop n d) six)
    (low_read old new c.args.high low c.in_ok-low.ensures.spelled (low_half low (omega arith) (omega arith)))
