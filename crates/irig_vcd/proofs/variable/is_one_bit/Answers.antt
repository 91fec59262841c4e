use Rattle.std.proofs.Common.{refl, sym, ◌∙◌}
use Rattle.irig_vcd.proofs.Digits.{capped, is_one-capped, uncapped}
use Rattle.irig_vcd.specs.Digits.{number_from}
use Rattle.irig_vcd.proofs.variable.is_one_bit.Goals as goal

pub returns-in-None : goal.returns-in-None
returns-in-None c = rw (uncapped c.args.digits.now (sym c.in-None.is ∙ c.number.ensures)) refl

pub returns-in-Some : goal.returns-in-Some
returns-in-Some c =
    let read = capped c.args.digits.now c.in-Some.value (sym c.in-Some.is ∙ c.number.ensures) in
    rw (read.0, read.1, is_one-capped (number_from 0 c.args.digits.now)) refl
