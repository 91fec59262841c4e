use Rattle.std.proofs.Common.{◌≡◌, suc, ◌+◌, ◌-◌, ap, sym, ◌∙◌, arith}
use Rattle.irig_stamps.specs.Columns.{part_at, rest_of}
use Rattle.irig_stamps.proofs.columns.parted_column.Goals as goal

pub loop-passed-preserved : goal.loop-passed-preserved
loop-passed-preserved c =
    let n = c.args.k - (c.loop-passed.passed + 1) in
    let one : c.args.k - c.loop-passed.passed ≡ suc n = omega (arith, c.loop-passed-test.true) in
    c.loop-passed.invariant
    ∙ (ap (λ k. part_at c.args.comma k c.loop-passed.left.now) one
    ∙ ap (part_at c.args.comma n) (sym (c.skip_byte-left.ensures ∙ ap rest_of c.cut.ensures.onward)))
