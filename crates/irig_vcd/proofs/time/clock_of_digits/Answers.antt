use Rattle.std.proofs.Common.{◌∙◌, ◌-◌, sym, ap, length}
use Rattle.std.proofs.lemmas.{Bool.eqb-false, List.take_rest}
use Rattle.irig_vcd.specs.Code.Decimal.{capped_from}
use Rattle.irig_vcd.proofs.TimeLemmas.{no_number_above, no_number_below, shows}
use Rattle.irig_vcd.proofs.time.clock_of_digits.Goals as goal

pub returns-in_default-clause-refused : goal.returns-in_default-clause-refused
returns-in_default-clause-refused c = no_number_above c.saturating_sub-cut.result c.args.digits.now (sym c.in_default.is ∙ c.number.ensures)

pub returns-in_default-number-clause-refused : goal.returns-in_default-number-clause-refused
returns-in_default-number-clause-refused c =
    no_number_below c.saturating_sub-cut.result c.args.digits.now
    (sym c.in_default-number.is ∙ (c.number-2.ensures ∙ ap (capped_from 0) (take_rest c.args.digits.now c.saturating_sub-cut.result)))

pub returns-clause-shown : goal.returns-clause-shown
returns-clause-shown c =
    shows c.args.unit c.saturating_sub-cut.result c.in-Some.whole c.in-Some-number.rest c.args.digits.now
    (c.saturating_sub-cut.ensures ∙ ap (λ n. length c.args.digits.now - n) c.digits_below-below.ensures.value)
    (eqb-false (length c.args.digits.now) 0 (sym c.is_empty.ensures ∙ c.if-is_empty.false))
    (sym c.in-Some.is ∙ c.number.ensures)
    (sym c.in-Some-number.is ∙ (c.number-2.ensures ∙ ap (capped_from 0) (take_rest c.args.digits.now c.saturating_sub-cut.result)))
