use Rattle.std.proofs.Common.{◌≡◌, ◌<◌, ◌^◌, drop, true}
use Rattle.std.specs.List.{list_all}
use Rattle.std.specs.Str.Parse.{digits_value, digits_value_after}
use Rattle.spelling.specs.Spelling.{is_digit}
use Rattle.spelling.proofs.word.read_number.Given as goal

-- the digits that are left go on with the number so far
abbrev pub invariant-loop-digit : goal.invariant-loop-digit
invariant-loop-digit l = record {
  digits : list_all is_digit (drop l.digit-index l.word) ≡ true;
  fits : l.number < 2 ^ 64;
  value : digits_value_after 10 l.number (drop l.digit-index l.word) ≡ digits_value 10 l.word;
}
