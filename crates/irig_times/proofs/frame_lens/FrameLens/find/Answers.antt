use Rattle.std.proofs.Common.{◌+◌, ◌-◌, ◌/◌, slice_get, ap, sym, ◌∙◌, arith}
use Rattle.irig_times.proofs.{FrameLookLemmas.narrowed_half, Records.after_here, Records.up_to_here}
use Rattle.irig_times.proofs.frame_lens.FrameLens.find.Goals as goal

pub loop-low-preserved-then-record-number : goal.loop-low-preserved-then-record-number
loop-low-preserved-then-record-number c =
    let before = c.loop-low.invariant in
    let middle = c.loop-low.low + (c.loop-low.high - c.loop-low.low) / 2 in
    let here = ap (λ rs. slice_get rs middle) (sym before.records) ∙ c.record.ensures.value in
    record {
      before = up_to_here c.args.self.now.records c.args.number middle c.record.result c.requires here (omega (arith, c.if-record-number.true));
      after = before.after;
      order = omega arith;
      within = before.within;
      records = ap (λ v. v.records) c.record.ensures.counted ∙ before.records;
      looked = λ digits small. narrowed_half (c.loop-low.high - c.loop-low.low) _ digits _ _ _ (omega arith) (omega arith) (before.looked digits small)
          c.record.ensures.counted;
    }

pub loop-low-preserved : goal.loop-low-preserved
loop-low-preserved c =
    let before = c.loop-low.invariant in
    let middle = c.loop-low.low + (c.loop-low.high - c.loop-low.low) / 2 in
    let here = ap (λ rs. slice_get rs middle) (sym before.records) ∙ c.record.ensures.value in
    record {
      before = before.before;
      after = after_here c.args.self.now.records c.args.number middle c.record.result c.requires here (omega (arith, c.if-record-number.false));
      order = omega arith;
      within = omega (arith, before.within);
      records = ap (λ v. v.records) c.record.ensures.counted ∙ before.records;
      looked = λ digits small. narrowed_half (c.loop-low.high - c.loop-low.low) _ digits _ _ _ (omega arith) (omega arith) (before.looked digits small)
          c.record.ensures.counted;
    }
