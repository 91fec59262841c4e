use Rattle.std.proofs.Common.{◌≡◌, ◌≤◌, drop}
use Rattle.irig_words.specs.Windows.{spelt}
use Rattle.irig_words.proofs.windows.spelt.Given as goal

abbrev pub invariant-loop-digit : goal.invariant-loop-digit
invariant-loop-digit l = record {
  low : l.number ≤ 18446744073709551616;
  rest : spelt l.number (drop l.digit-index l.digits) ≡ spelt 0 l.digits;
}
