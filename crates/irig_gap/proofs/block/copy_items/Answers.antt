use Rattle.std.proofs.Common.{arith, ◌∙◌}
use Rattle.irig_gap.proofs.Copies.{copied_more}
use Rattle.irig_gap.proofs.block.copy_items.Goals as goal

pub loop-index-preserved : goal.loop-index-preserved
loop-index-preserved g c =
    let more = copied_more _ c.args.cells.now.slots _ c.args.at c.args.to c.loop-index.index _ c.get-item.ensures
    (omega (arith, c.requires.room, c.loop-index-test.true)) c.loop-index.invariant.0 in
    (c.write.ensures.slots ∙ more, c.write.ensures.start ∙ c.loop-index.invariant.1)
