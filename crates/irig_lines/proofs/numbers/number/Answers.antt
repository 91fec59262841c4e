use Rattle.std.proofs.Common.{arith, ◌<◌, get_or, sym, ◌∙◌}
use Rattle.irig_lines.proofs.NumberLemmas.{small_number, digit_most, within_limit}
use Rattle.irig_lines.proofs.numbers.number.Goals as goal

pub overflow_mul-number : goal.overflow_mul-number
overflow_mul-number c =
    let small : c.loop-digit.number < 100000000000000000 = small_number c.loop-digit.digit-index c.loop-digit.number (omega arith)
    c.loop-digit.invariant.small in
    omega arith

pub overflow_add-number : goal.overflow_add-number
overflow_add-number c =
    let small : c.loop-digit.number < 100000000000000000 = small_number c.loop-digit.digit-index c.loop-digit.number (omega arith)
    c.loop-digit.invariant.small in
    let digit = digit_most (get_or c.args.word.now c.loop-digit.digit-index 0) (sym c.is_digit.ensures ∙ c.if-not-is_digit.false) in
    omega (arith, digit, c.from.ensures)

pub returns-clause-small : goal.returns-clause-small
returns-clause-small c = within_limit c.loop-digit.digit-index c.loop-digit.number (omega arith) c.loop-digit.invariant.small
