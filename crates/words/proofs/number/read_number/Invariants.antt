-- The digits so far have this value, and what is left is read after them.
use Rattle.std.proofs.Common.{◌≡◌, ◌<◌, ◌^◌, drop}
use Rattle.std.specs.List.{list_all}
use Rattle.metric.specs.Digits.{is_digit, value_from}
use Rattle.words.proofs.number.read_number.Given as goal

abbrev pub invariant-digits : goal.invariant-digits
invariant-digits l = record {
  few : l.value < 10 ^ l.digit-index;
  digits : list_all is_digit l.word ≡ list_all is_digit (drop l.digit-index l.word);
  value : value_from 0 l.word ≡ value_from l.value (drop l.digit-index l.word);
}
