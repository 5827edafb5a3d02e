use Rattle.std.proofs.Common.{◌≡◌, take}
use Rattle.std.specs.Str.Parse.{digits_value, AllDigits}
use Rattle.json_to_msgpack.proofs.leaves.few_digits.Given as goal

abbrev pub invariant-digits : goal.invariant-digits
invariant-digits l = record {
  value : l.value ≡ digits_value 10 (take l.octet-index l.number);
  all : AllDigits 10 (take l.octet-index l.number);
}
