-- The bytes so far are digits, and this is their value.
use Rattle.std.proofs.Common.{◌≡◌, ◌-◌, ◌^◌, ◌<◌, ◌≤◌, true, length, take}
use Rattle.std.specs.List.{list_all}
use Rattle.metric.specs.Digits.{is_digit, value_from}
use Rattle.words.proofs.front.front_digits.Given as goal

abbrev pub invariant-digits : goal.invariant-digits
invariant-digits l = record {
  few : l.count ≤ 9;
  within : l.count ≤ length l.bytes;
  digits : list_all is_digit (take l.count l.bytes) ≡ true;
  value : l.value ≡ value_from 0 (take l.count l.bytes);
  small : l.value < 10 ^ l.count;
}

abbrev pub decreases-digits : goal.decreases-digits
decreases-digits l = 9 - l.count
