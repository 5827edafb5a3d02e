use Rattle.std.proofs.Common.{◌≡◌, ◌-◌, ◌<◌, ◌≤◌, length, drop, true}
use Rattle.json.specs.Word.{ends_word}
use Rattle.json.specs.Lex.{between, lex}
use Rattle.json_to_msgpack.proofs.scan.spaces_end.Given as goal

abbrev pub invariant-spaces : goal.invariant-spaces
invariant-spaces l = record {
  same : lex between (drop l.at l.octets) ≡ lex between (drop l.from l.octets);
  ends : l.from < l.at → ends_word (drop l.from l.octets) ≡ true;
  forward : l.from ≤ l.at;
  within : l.at ≤ length l.octets;
}

abbrev pub decreases-spaces : goal.decreases-spaces
decreases-spaces l = length l.octets - l.at
