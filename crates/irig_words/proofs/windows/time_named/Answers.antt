use Rattle.std.proofs.Common.{◌∙◌, sym}
use Rattle.irig_words.proofs.Times.{is_late, is_no_number, is_nothing, is_time}
use Rattle.irig_words.proofs.windows.time_named.Goals as goal

pub returns-then-is_empty : goal.returns-then-is_empty
returns-then-is_empty c = is_nothing c.args.text.now (sym c.is_empty.ensures ∙ c.if-is_empty.true)

pub returns-in_default : goal.returns-in_default
returns-in_default c = is_no_number c.args.text.now c.in_default.ensures

pub returns-then-number-lt-NUMBER_LIMIT : goal.returns-then-number-lt-NUMBER_LIMIT
returns-then-number-lt-NUMBER_LIMIT c =
    is_time c.args.text.now c.in-Some.number (sym c.is_empty.ensures ∙ c.if-is_empty.false) c.in-Some.ensures c.if-number-lt-NUMBER_LIMIT.true

pub returns-else-number-lt-NUMBER_LIMIT : goal.returns-else-number-lt-NUMBER_LIMIT
returns-else-number-lt-NUMBER_LIMIT c = is_late c.args.text.now c.in-Some.number c.in-Some.ensures c.if-number-lt-NUMBER_LIMIT.false
