use Rattle.std.proofs.Common.{◌+◌, ◌∷◌, ◌∙◌, ◌++◌, [], arith, drop, sym, refl}
use Rattle.irig_track.proofs.Items.{slice_get-drop, take-item}
use Rattle.irig_difference.proofs.edges_left.count_common.Goals as goal

pub loop-count-preserved : goal.loop-count-preserved
loop-count-preserved c =
    let n = c.loop-count.count in let ps = drop c.args.past c.args.before.now.items in let qs = drop c.args.other c.args.after.now.items in
    let p = c.get_left.result in let q = c.get_left-in-loop-count.result in record {
      within = omega (arith, c.loop-count-test.true);
      same = take-item ps n p (slice_get-drop c.args.past c.args.before.now.items n (c.args.past + n) refl ∙ c.get_left.ensures)
          ∙ (λ t. c.loop-count.invariant.same t ++ c.is_same.ensures c.if-is_same.true t ∷ [])
          ∙ sym (take-item qs n q (slice_get-drop c.args.other c.args.after.now.items n (c.args.other + n) refl ∙ c.get_left-in-loop-count.ensures));
    }
