use Rattle.std.proofs.Common.{◌-◌, ◌≤◌, length, drop}
use Rattle.std.specs.Str.{IsUtf8}
use Rattle.std.specs.String.{string_bytes}
use Rattle.json_to_msgpack.specs.body.Lexing.{IsRead}
use Rattle.json_to_msgpack.proofs.unescape.unescape.Given as goal

abbrev pub invariant-pieces : goal.invariant-pieces
invariant-pieces l = record {
  so_far : IsRead (drop l.from l.text) (drop l.at l.text) (string_bytes l.unescaped);
  utf8 : IsUtf8 (drop l.at l.text);
  within : l.at ≤ length l.text;
}

abbrev pub decreases-pieces : goal.decreases-pieces
decreases-pieces l = length l.text - l.at
