use Rattle.std.proofs.Common.{◌≡◌, ◌<◌, ◌^◌, drop}
use Rattle.std.specs.List.{list_all}
use Rattle.irig_lines.specs.Numbers.{is_digit}
use Rattle.irig_moment.specs.Written.{digits_after}
use Rattle.irig_lines.proofs.numbers.number.Given as goal

abbrev pub invariant-loop-digit : goal.invariant-loop-digit
invariant-loop-digit l = record {
  small : l.number < 10 ^ l.digit-index;
  digits : list_all is_digit l.word ≡ list_all is_digit (drop l.digit-index l.word);
  value : digits_after 0 l.word ≡ digits_after l.number (drop l.digit-index l.word);
}
