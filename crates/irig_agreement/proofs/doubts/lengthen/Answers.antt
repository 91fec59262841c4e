use Rattle.std.proofs.Common.{Bool, false, List, get_or, arith, ap, ◌∙◌}
use Rattle.irig_law.proofs.Each.{one-longer}
use Rattle.irig_agreement.proofs.DoubtLists.{false-more}
use Rattle.irig_agreement.proofs.doubts.lengthen.Goals as goal

pub loop-place-preserved : goal.loop-place-preserved
loop-place-preserved c =
    let old = c.loop-place.list.items in
    let pushed = c.in_ok-push.ensures.items in
    let before = c.loop-place.invariant in
    let longer = one-longer Bool old c.push.new.self.items false pushed in
    record {
      long = omega (arith, longer, before.long);
      same = λ k. ap (λ (l : List Bool). get_or l k false) pushed ∙ (false-more old k ∙ before.same k);
    }
