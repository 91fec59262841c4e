use Rattle.std.proofs.Common.{◌+◌, ◌-◌, ◌/◌, arith}
use Rattle.std.proofs.lemmas.Option.{slice_get-get_or}
use Rattle.irig_timed.proofs.StretchPairs.{frames_from_here, frames_to_here, none-frame}
use Rattle.irig_timed.proofs.stretch.frames_up_to.Goals as goal

pub loop-low-preserved-then-frames-middle : goal.loop-low-preserved-then-frames-middle
loop-low-preserved-then-frames-middle c =
    let middle = c.loop-low.low + (c.loop-low.high - c.loop-low.low) / 2 in
    let here = slice_get-get_or c.args.frames.now middle none-frame (omega (arith, c.loop-low-test.true, c.loop-low.invariant.within)) in
    record {
      before = frames_to_here c.requires.frames.pulses c.args.frames.now c.requires.frames.are c.args.number middle _ here c.if-frames-middle.true;
      after = c.loop-low.invariant.after;
      order = omega (arith, c.loop-low-test.true);
      within = c.loop-low.invariant.within;
    }

pub loop-low-preserved : goal.loop-low-preserved
loop-low-preserved c =
    let middle = c.loop-low.low + (c.loop-low.high - c.loop-low.low) / 2 in
    let here = slice_get-get_or c.args.frames.now middle none-frame (omega (arith, c.loop-low-test.true, c.loop-low.invariant.within)) in
    record {
      before = c.loop-low.invariant.before;
      after = frames_from_here c.requires.frames.pulses c.args.frames.now c.requires.frames.are c.args.number middle _ here c.if-frames-middle.false;
      order = omega arith;
      within = omega (arith, c.loop-low-test.true, c.loop-low.invariant.within);
    }
