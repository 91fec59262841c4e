use Rattle.std.proofs.Common.{◌≡◌, ◌+◌, ◌-◌, ◌*◌, ◌^◌, ◌≤◌, take, drop}
use Rattle.irig_moment.specs.Written.{digits_after, number_at}
use Rattle.irig_moment.proofs.written.number.Given as goal

abbrev pub invariant-loop-digit : goal.invariant-loop-digit
invariant-loop-digit l = record {
  so_far : number_at l.text l.place l.count ≡ digits_after l.value (take (l.place + l.count - l.digit) (drop l.digit l.text));
  small : l.value + 29 ≤ 29 * 10 ^ (l.digit - l.place);
}
