use Rattle.irig_vcd.proofs.TimeLemmas.{rest_low, shown_cut}
use Rattle.irig_vcd.proofs.time.clock_of_number.Goals as goal

pub returns-clause-shown : goal.returns-clause-shown
returns-clause-shown c = λ digits number spelt.
    shown_cut c.args.unit c.args.value _ _ _ _ digits c.digits_below.ensures.value c.cut-whole.ensures.whole c.cut-whole.ensures.rest c.min.ensures number spelt

pub returns-clause-rest : goal.returns-clause-rest
returns-clause-rest c = rest_low c.args.unit c.args.value _ _ c.digits_below.ensures.value c.cut-whole.ensures.rest
