use Rattle.std.proofs.Common.{◌≡◌, ◌<◌, ◌^◌, sym, ◌∙◌, arith}
use Rattle.irig_saved.proofs.Decimals.{same_number}
use Rattle.irig_saved.proofs.words.expression.Goals as goal

pub returns-else-value-le7 : goal.returns-else-value-le7
returns-else-value-le7 c = λ x small e.
    let read = c.in_ok-value.ensures in
    let wide : x < 2 ^ 64 = omega (arith, small) in
    let same : c.in_ok-value.value ≡ x = same_number c.in_ok-value.value x read.0 wide (sym read.1 ∙ e) in
    omega (arith, same, small, c.if-value-le7.false)
