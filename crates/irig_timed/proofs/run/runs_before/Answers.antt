use Rattle.std.proofs.Common.{◌+◌, ◌-◌, ◌/◌, arith}
use Rattle.std.proofs.lemmas.Option.{slice_get-get_or}
use Rattle.irig_timed.proofs.RunPlaces.{none-run, runs_from_here, runs_to_here}
use Rattle.irig_timed.proofs.run.runs_before.Goals as goal

pub loop-low-preserved-then-runs-middle : goal.loop-low-preserved-then-runs-middle
loop-low-preserved-then-runs-middle c =
    let middle = c.loop-low.low + (c.loop-low.high - c.loop-low.low) / 2 in
    let here = slice_get-get_or c.args.runs.now middle none-run (omega (arith, c.loop-low-test.true, c.loop-low.invariant.within)) in
    record {
      before = runs_to_here c.requires.0 c.requires.1 c.requires.2 c.args.runs.now c.requires.3 c.args.number middle _ here c.if-runs-middle.true;
      after = c.loop-low.invariant.after;
      order = omega (arith, c.loop-low-test.true);
      within = c.loop-low.invariant.within;
    }

pub loop-low-preserved : goal.loop-low-preserved
loop-low-preserved c =
    let middle = c.loop-low.low + (c.loop-low.high - c.loop-low.low) / 2 in
    let here = slice_get-get_or c.args.runs.now middle none-run (omega (arith, c.loop-low-test.true, c.loop-low.invariant.within)) in
    record {
      before = c.loop-low.invariant.before;
      after = runs_from_here c.requires.0 c.requires.1 c.requires.2 c.args.runs.now c.requires.3 c.args.number middle _ here c.if-runs-middle.false;
      order = omega arith;
      within = omega (arith, c.loop-low-test.true, c.loop-low.invariant.within);
    }
