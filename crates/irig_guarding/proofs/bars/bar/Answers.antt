use Rattle.std.proofs.Common.{List, Option, arith, subst, sym}
use Rattle.irig_agreement.specs.declared.fault.Fault.{Fault}
use Rattle.irig_guarding.specs.Bars.{AreBars}
use Rattle.irig_guarding.proofs.BarLemmas.{bars_more, bars_same, bars_then}
use Rattle.irig_guarding.proofs.bars.bar.Goals as goal

pub returns-then-line-len : goal.returns-then-line-len
returns-then-line-len c = λ recorded f lines repair is led are.
    let here = bars_same recorded f lines c.args.bars.now.items c.lengthen.new.bars.items c.in_ok-lengthen.ensures.same are in
    bars_more recorded f lines repair c.lengthen.new.bars.items c.args.line c.args.fault
    (omega (arith, c.if-line-len.true, c.len.ensures, c.lengthen.new.bars.ok.0)) is led here

pub returns : goal.returns
returns c = λ recorded f lines repair is led are.
    let here = bars_same recorded f lines c.args.bars.now.items c.lengthen.new.bars.items c.in_ok-lengthen.ensures.same are in
    subst (λ (l : List (Option Fault)). AreBars recorded f lines l) (sym c.in_ok-push.ensures.items)
    (bars_then recorded f lines repair c.lengthen.new.bars.items c.args.line c.args.fault
    (omega (arith, c.if-line-len.false, c.len.ensures, c.in_ok-lengthen.ensures.long, c.lengthen.new.bars.ok.0)) is led here)
