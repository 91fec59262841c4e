use Rattle.std.proofs.Common.{◌≡◌, ◌<◌, ◌^◌, drop}
use Rattle.std.specs.List.{list_all}
use Rattle.irig_lines.specs.Numbers.{is_hex_digit, hex_after}
use Rattle.irig_lines.proofs.numbers.control.Given as goal

abbrev pub invariant-loop-byte : goal.invariant-loop-byte
invariant-loop-byte l = record {
  small : l.number < 16 ^ l.byte-index;
  digits : list_all is_hex_digit l.word ≡ list_all is_hex_digit (drop l.byte-index l.word);
  value : hex_after 0 l.word ≡ hex_after l.number (drop l.byte-index l.word);
}
