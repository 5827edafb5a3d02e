use Rattle.std.proofs.Common.{◌≡◌, ◌+◌, ◌-◌, ◌<◌, ◌≤◌, length, take, drop}
use Rattle.std.specs.List.{prefix_len}
use Rattle.std.specs.Char.{is_ascii_digit}
use Rattle.std.specs.Str.Parse.{digits_value, AllDigits}
use Rattle.json_to_msgpack.proofs.literals.natural_at.Given as goal

abbrev pub invariant-digits : goal.invariant-digits
invariant-digits l = record {
  forward : l.from < l.at;
  within : l.at ≤ length l.octets;
  digits : l.at + prefix_len is_ascii_digit (drop l.at l.octets) ≡ l.from + prefix_len is_ascii_digit (drop l.from l.octets);
  value : l.value ≡ digits_value 10 (take (l.at - l.from) (drop l.from l.octets));
  all : AllDigits 10 (take (l.at - l.from) (drop l.from l.octets));
}

abbrev pub decreases-digits : goal.decreases-digits
decreases-digits l = length l.octets - l.at
