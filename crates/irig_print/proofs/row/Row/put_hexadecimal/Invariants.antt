use Rattle.std.proofs.Common.{◌+◌, ◌≡◌, ◌<◌, ◌≤◌, ◌^◌, false, length}
use Rattle.std.specs.Fmt.{digits}
use Rattle.irig_print.proofs.RowLemmas.{written}
use Rattle.irig_print.proofs.row.Row.put_hexadecimal.Given as goal

abbrev pub invariant-loop-rest : goal.invariant-loop-rest
invariant-loop-rest l = (l.at ≤ 15) × (length l.digits ≡ 16) × (l.rest < 16 ^ (l.at + 1)) × (digits 16 false l.number ≡ written l.at l.rest l.digits)

abbrev pub decreases-loop-rest : goal.decreases-loop-rest
decreases-loop-rest l = l.at
