use Rattle.std.proofs.Common.{ℕ, List, get_or, arith, ap, ◌∙◌}
use Rattle.irig_law.proofs.{Doubted.zero-more, Each.one-longer}
use Rattle.irig_law.proofs.doubts.lengthen.Goals as goal

pub loop-place-preserved : goal.loop-place-preserved
loop-place-preserved c =
    let old = c.loop-place.list.items in
    let pushed = c.in_ok-push.ensures.items in
    let before = c.loop-place.invariant in
    let longer = one-longer ℕ old c.push.new.self.items 0 pushed in
    record {
      low = omega (arith, longer, before.low);
      same = λ q. ap (λ (l : List ℕ). get_or l q 0) pushed ∙ (zero-more old q ∙ before.same q);
    }
