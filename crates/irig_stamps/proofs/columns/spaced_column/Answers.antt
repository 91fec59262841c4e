use Rattle.std.proofs.Common.{◌≡◌, suc, ◌+◌, ◌-◌, ap, sym, ◌∙◌, arith}
use Rattle.irig_stamps.specs.{Columns.onward, Columns.word_at, declared.cutting.Until.TheVariants.Blank}
use Rattle.irig_stamps.proofs.columns.spaced_column.Goals as goal

pub loop-passed-preserved : goal.loop-passed-preserved
loop-passed-preserved c =
    let n = c.args.k - (c.loop-passed.passed + 1) in
    let one : c.args.k - c.loop-passed.passed ≡ suc n = omega (arith, c.loop-passed-test.true) in
    c.loop-passed.invariant
    ∙ (ap (λ k. word_at k c.loop-passed.left.now) one
    ∙ ap (word_at n) (sym (c.cut-in-loop-passed.ensures.onward ∙ ap (onward Blank) c.cut.ensures.onward)))
