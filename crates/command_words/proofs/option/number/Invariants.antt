use Rattle.std.proofs.Common.{◌≡◌, ◌<◌, ◌^◌, take, true}
use Rattle.std.specs.List.{list_all}
use Rattle.cs_types.specs.Calendar.{is_digit, digits_value}
use Rattle.command_words.proofs.option.number.Given as goal

abbrev pub invariant-loop-byte : goal.invariant-loop-byte
invariant-loop-byte l = record {
  digits : list_all is_digit (take l.byte-index l.text) ≡ true;
  value : l.number ≡ digits_value (take l.byte-index l.text);
  bound : l.number < 10 ^ l.byte-index;
}
