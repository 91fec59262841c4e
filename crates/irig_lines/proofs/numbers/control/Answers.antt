use Rattle.std.proofs.Common.{arith, ◌<◌}
use Rattle.irig_lines.proofs.NumberLemmas.{small_control}
use Rattle.irig_lines.proofs.numbers.control.Goals as goal

pub overflow_mul-number : goal.overflow_mul-number
overflow_mul-number c =
    let small : c.loop-byte.number < 17592186044416 = small_control c.loop-byte.byte-index c.loop-byte.number (omega arith) c.loop-byte.invariant.small in
    omega arith

pub overflow_add-number : goal.overflow_add-number
overflow_add-number c =
    let small : c.loop-byte.number < 17592186044416 = small_control c.loop-byte.byte-index c.loop-byte.number (omega arith) c.loop-byte.invariant.small in
    omega arith
