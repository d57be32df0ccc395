use Rattle.std.proofs.Common.{◌≡◌, ◌<◌, ◌^◌, take, true}
use Rattle.std.specs.List.{list_all}
use Rattle.cs_types.specs.Calendar.{is_digit, digits_value}
use Rattle.cs_types.proofs.date.digits.Given as goal

abbrev pub invariant-loop-byte : goal.invariant-loop-byte
invariant-loop-byte l = record {
  digits : list_all is_digit (take l.byte-index l.text) ≡ true;
  value : l.value ≡ digits_value (take l.byte-index l.text);
  bound : l.value < 10 ^ l.byte-index;
}
