use Rattle.std.proofs.Common.{◌≡◌, ◌+◌, refl, arith, drop}
use Rattle.json.specs.Text.{after_u}
use Rattle.json.specs.Lex.{in_string}
use Rattle.json_to_msgpack.proofs.Found.{some_weaker}
use Rattle.json_to_msgpack.proofs.Strings.{unit_read, pair_read, escape_as, no_halves, high_half}
use Rattle.json_to_msgpack.proofs.unescape.unicode.Goals as goal

pub returns-then-unit-lt56320-clause-read : goal.returns-then-unit-lt56320-clause-read
returns-then-unit-lt56320-clause-read c =
    let d = c.args.octets.now in
    let i = c.args.at in
    let unit = c.in_ok-unit.unit in
    some_weaker c.low_half.result _ _
    (λ r h. pair_read (drop i d) (drop (i + 4) d) (drop r.1 d) unit r.0 c.in_ok-unit.ensures.spelled (high_half unit (omega arith) (omega arith)) h) c.low_half.ensures.read

pub returns-clause-read : goal.returns-clause-read
returns-clause-read c =
    let d = c.args.octets.now in
    let i = c.args.at in
    let unit = c.in_ok-unit.unit in
    let same : c.in_ok-c.c ≡ unit = grind arith in
    let halves = no_halves unit c.in_ok-c.ensures.cases in
    escape_as after_u in_string (drop i d) (drop i d) c.in_ok-c.c unit (drop (i + 4) d) (drop (i + 4) d) refl same refl (unit_read (drop i d) (drop (i + 4) d) unit c.in_ok-unit.ensures.spelled halves.0 halves.1)
