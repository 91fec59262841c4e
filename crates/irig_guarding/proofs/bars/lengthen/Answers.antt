use Rattle.std.proofs.Common.{[], ◌∷◌, List, None, Option, get_or, length, length-append, arith, ap, ◌∙◌}
use Rattle.irig_agreement.specs.declared.fault.Fault.{Fault}
use Rattle.irig_guarding.proofs.BarLemmas.{none_more}
use Rattle.irig_guarding.proofs.bars.lengthen.Goals as goal

pub loop-place-preserved : goal.loop-place-preserved
loop-place-preserved c =
    let old = c.loop-place.bars.items in
    let pushed = c.in_ok-push.ensures.items in
    let before = c.loop-place.invariant in
    let none : List (Option Fault) = None ∷ [] in
    let longer = ap (λ (l : List (Option Fault)). length l) pushed ∙ length-append old none in
    record {
      long = omega (arith, longer, before.long);
      same = λ at. ap (λ (l : List (Option Fault)). get_or l at None) pushed ∙ (none_more old at ∙ before.same at);
    }
